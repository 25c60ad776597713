use Rattle.chain_laws.proofs.AnswerBytes.{answers_are_bytes}
use Rattle.chain_laws.proofs.answer_bytes_stand.Goals as goal

pub returns : goal.returns
returns c = answers_are_bytes
