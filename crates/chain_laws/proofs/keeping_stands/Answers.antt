use Rattle.chain_laws.proofs.Keeping.{last_counts}
use Rattle.chain_laws.proofs.keeping_stands.Goals as goal

pub returns : goal.returns
returns c = last_counts
