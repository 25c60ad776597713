use Rattle.chain_laws.proofs.Answers.{places_lie_inside}
use Rattle.chain_laws.proofs.places_stand.Goals as goal

pub returns : goal.returns
returns c = places_lie_inside
