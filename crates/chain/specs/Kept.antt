-- The values that a write keeps.
use Rattle.std.specs.Prelude.{ℕ, cond, List, [], ◌∷◌, Some, None, Option, ◌==◌}
use Rattle.std.specs.Option.{unwrap_or}
use Rattle.order.specs.Last.{last}
use Rattle.chain.specs.Items.{PlainItem, write, read}
use Rattle.chain.specs.Answers.{Values}

-- the value that an item gives a row
abbrev pub value_for : ℕ → PlainItem → Option (List ℕ)
value_for r (write row place value) = cond (r == row) (Some value) None
value_for r (read query) = None

-- the last value for a row among items
abbrev pub last_value : List PlainItem → ℕ → Option (List ℕ)
last_value items r = last (value_for r) items

-- the values with those of a message laid over them: each row of the message once, at its last value
abbrev pub laid_over : List PlainItem → Values → Values
laid_over items h r = unwrap_or (last_value items r) (h r)

-- the values with one item's kept
abbrev pub keep_item : PlainItem → Values → Values
keep_item item h r = unwrap_or (value_for r item) (h r)

-- the values with those of the items kept one after the other
abbrev pub keep_all : List PlainItem → Values → Values
keep_all [] h = h
keep_all (item ∷ items) h = keep_all items (keep_item item h)
