use Rattle.listing.proofs.Written.{written-found}
use Rattle.listing.proofs.frames.written_found.Goals as goal

pub returns : goal.returns
returns c = written-found
