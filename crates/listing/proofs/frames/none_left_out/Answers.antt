use Rattle.listing.proofs.Found.{none_left_out}
use Rattle.listing.proofs.frames.none_left_out.Goals as goal

pub returns : goal.returns
returns c = none_left_out
