use Rattle.order.proofs.Last.{lasts}
use Rattle.order.proofs.last_stands.Goals as goal

pub returns : goal.returns
returns g c = lasts _ _
