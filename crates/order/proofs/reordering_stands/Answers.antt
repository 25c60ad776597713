use Rattle.order.proofs.Reordering.{reordering}
use Rattle.order.proofs.reordering_stands.Goals as goal

pub returns : goal.returns
returns g c calls w = reordering calls g.Call.Recast.recast g.Outcome.Same.same w
