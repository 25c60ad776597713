use Rattle.order.proofs.Runs.{runs}
use Rattle.order.proofs.runs_stand.Goals as goal

pub returns : goal.returns
returns g c = runs
