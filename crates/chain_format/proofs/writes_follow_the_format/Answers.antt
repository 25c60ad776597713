use Rattle.chain_format.proofs.Writing.{writes_taken_apart, writes_laid_down}
use Rattle.chain_format.proofs.writes_follow_the_format.Goals as goal

pub returns : goal.returns
returns c = record { apart = writes_taken_apart; only = writes_laid_down }
