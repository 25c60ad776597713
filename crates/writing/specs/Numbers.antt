-- The numbers that the rows count in a draw, row i's at place i, with the items of a write laid over them.
use Rattle.std.specs.Prelude.{ℕ, List, [], ◌∷◌, Option, slice_index, slice_set}
use Rattle.table.specs.Draws.{number_of, within}
use Rattle.chain.specs.declared.fault.RackFault.{RackFault}
use Rattle.chain.specs.Items.{PlainItem, write, read}
use Rattle.promises.specs.Requests.{Setup}
use Rattle.promises.specs.Replies.{first_on, feed_refusal}

-- an item sets the number of its row to that of its value, whatever was there
abbrev pub lay_number : PlainItem → List ℕ → List ℕ
lay_number (write row place value) numbers = slice_set numbers row (number_of value)
lay_number (read query) numbers = numbers

abbrev pub lay_numbers : List PlainItem → List ℕ → List ℕ
lay_numbers [] numbers = numbers
lay_numbers (item ∷ items) numbers = lay_numbers items (lay_number item numbers)

-- the feed has an item in the message, and would pass its limit at these numbers
abbrev pub over_at : Setup → List ℕ → List PlainItem → ℕ → Option RackFault
over_at s numbers items feed =
    feed_refusal (within feed s.rows s.limits (λ k. slice_index numbers k)) (first_on s.rows feed items)
