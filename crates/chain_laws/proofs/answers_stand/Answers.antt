use Rattle.chain_laws.proofs.Answers.{answers_lie_over}
use Rattle.chain_laws.proofs.answers_stand.Goals as goal

pub returns : goal.returns
returns c = answers_lie_over
