-- The secured check on the rows that a write finds.
use Rattle.std.specs.Prelude.{Bool, cond, ◌&&◌, List, [], ◌∷◌, Some, None, Option}
use Rattle.table.specs.Rows.{PlainRow}
use Rattle.table.specs.Draws.{row_at}
use Rattle.chain.specs.declared.fault.RackFault.{RackFault}
use Rattle.chain.specs.declared.fault.RackFault.TheVariants.{Secured}
use Rattle.chain.specs.Walks.{Found}

-- the first row found that is secured, where its item gets as far as its value
abbrev pub first_secured : List PlainRow → List Found → Option RackFault
first_secured rows [] = None
first_secured rows (f ∷ fs) = cond (f.reached && (row_at rows f.row).secured) (Some (Secured f.place)) (first_secured rows fs)

-- what the secured check refuses, given whether row 0 was 64 before the message
abbrev pub lock_of : Bool → List PlainRow → List Found → Option RackFault
lock_of unlocked rows fs = cond unlocked None (first_secured rows fs)
