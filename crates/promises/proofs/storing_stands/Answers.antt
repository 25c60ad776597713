use Rattle.promises.proofs.Storing.{answered_in_store}
use Rattle.promises.proofs.storing_stands.Goals as goal

pub returns : goal.returns
returns c = answered_in_store
