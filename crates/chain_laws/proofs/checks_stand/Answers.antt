use Rattle.chain_laws.proofs.Checks.{checks_stand}
use Rattle.chain_laws.proofs.checks_stand.Goals as goal

pub returns : goal.returns
returns c = checks_stand
