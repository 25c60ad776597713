use Rattle.chain_laws.proofs.Rows.{rows_found_stand}
use Rattle.chain_laws.proofs.rows_stand.Goals as goal

pub returns : goal.returns
returns c = rows_found_stand
