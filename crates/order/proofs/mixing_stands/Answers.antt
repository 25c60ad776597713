use Rattle.order.proofs.Mixing.{mixing}
use Rattle.order.proofs.mixing_stands.Goals as goal

pub returns : goal.returns
returns g c calls = mixing calls g.Call.Recast.recast
