use Rattle.promises.proofs.Running.{promises}
use Rattle.promises.proofs.promises_stand.Goals as goal

pub returns : goal.returns
returns c = promises
