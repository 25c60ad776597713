-- What the rows draw on the feeds.
use Rattle.std.specs.Prelude.{◌≡◌, ℕ, suc, ◌+◌, ◌*◌, ◌<◌, Bool, cond, List, [], ◌∷◌, length, ◌==◌, nat_le, slice_index, slice_index_or}
use Rattle.std.specs.Option.{unwrap_or}
use Rattle.number.specs.Numbers.{integer}
use Rattle.table.specs.Rows.{PlainRow, reset_row, default_of}

-- the row with the number i (past the end the reset row, so that it is always one)
abbrev pub row_at : List PlainRow → ℕ → PlainRow
row_at rows i = slice_index_or rows i reset_row

-- what a row adds to the draw of the feed f at the value v
abbrev pub amount : ℕ → PlainRow → ℕ → ℕ
amount f r v = cond (r.feed == f) (v * r.flow) 0

-- the draw of the feed f where row i has the value (values i): over the rows on the feed, value × full flow
abbrev pub draw : ℕ → List PlainRow → (ℕ → ℕ) → ℕ
draw f [] values = 0
draw f (r ∷ rs) values = amount f r (values 0) + draw f rs (λ k. values (suc k))

-- the values with row i at v
abbrev pub with_value : (ℕ → ℕ) → ℕ → ℕ → ℕ → ℕ
with_value values i v k = cond (k == i) v (values k)

-- Each row counts once: at the value 0 everywhere nothing is drawn, and a new value of one row
-- changes the draw of its feed by just that row's amounts, and the draw of no other feed.
pub record CountsEachOnce (rows : List PlainRow) : Type 0 where
  pub none : (f : ℕ) → draw f rows (λ _. 0) ≡ 0
  pub one : (f : ℕ) (values : ℕ → ℕ) (i v : ℕ) → i < length rows →
      draw f rows (with_value values i v) + amount f (row_at rows i) (values i) ≡ draw f rows values + amount f (row_at rows i) v

-- the number that the bytes of a row count in a draw: only integers count
abbrev pub number_of : List ℕ → ℕ
number_of bs = unwrap_or (integer.reads bs) 0

-- the default of a row as bytes; a row that keeps the rules always has one
abbrev pub default_bytes : PlainRow → List ℕ
default_bytes r = unwrap_or (default_of r) []

-- the default of row i, as bytes and as a number
abbrev pub defaults : List PlainRow → ℕ → List ℕ
defaults rows i = default_bytes (row_at rows i)

abbrev pub default_numbers : List PlainRow → ℕ → ℕ
default_numbers rows i = number_of (defaults rows i)

-- the limit of the feed f in ml/min, 0 for a feed outside 1 to 8
abbrev pub limit_of : List ℕ → ℕ → ℕ
limit_of limits f = slice_index (0 ∷ limits) f

-- the draw is within the limit: 32000 stands for the full flow
abbrev pub within : ℕ → List PlainRow → List ℕ → (ℕ → ℕ) → Bool
within f rows limits values = nat_le (draw f rows values) (limit_of limits f * 32000)
