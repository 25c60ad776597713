use Rattle.promises.proofs.Showing.{exchanges, show_ruled}
use Rattle.promises.proofs.exchanges_stand.Goals as goal

pub returns : goal.returns
returns c = record { exchanges = exchanges; table = show_ruled }
