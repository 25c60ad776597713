use Rattle.chain_laws.proofs.Locks.{locks_lie_over}
use Rattle.chain_laws.proofs.locks_stand.Goals as goal

pub returns : goal.returns
returns c = locks_lie_over
