-- What a store holds when the defaults of a table are kept in it.
use Rattle.std.specs.Prelude.{◌≡◌, ℕ, cond, List, ◌++◌, map, length, drop, nat_lt}
use Rattle.table.specs.Rows.{PlainRow}
use Rattle.table.specs.Draws.{default_bytes, defaults}
use Rattle.chain.specs.Answers.{Values}

-- the defaults of the rows, and behind them what was held there
abbrev pub new_held : List PlainRow → List (List ℕ) → List (List ℕ)
new_held rows held = map default_bytes rows ++ drop (length rows) held

-- each row of the table has its default, and every other value is as it was
abbrev pub DefaultsKept : List PlainRow → Values → Values → Type 0
DefaultsKept rows before after = (r : ℕ) → after r ≡ cond (nat_lt r (length rows)) (defaults rows r) (before r)
