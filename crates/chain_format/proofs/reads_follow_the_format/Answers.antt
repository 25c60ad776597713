use Rattle.chain_format.proofs.Reading.{reads_taken_apart, reads_laid_down}
use Rattle.chain_format.proofs.Answering.{reads_answered}
use Rattle.chain_format.proofs.reads_follow_the_format.Goals as goal

pub returns : goal.returns
returns c = record { apart = reads_taken_apart; only = reads_laid_down; answered = reads_answered }
