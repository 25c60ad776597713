-- Looking up rows, and the rules of a table.
use Rattle.std.specs.Prelude.{◌≡◌, ℕ, ◌+◌, ◌<◌, ◌≤◌, Bool, true, false, cond, not, ◌&&◌, ◌||◌, List, [], ◌∷◌, length, Some, None, Option, ◌==◌, ◌≢◌, nat_lt}
use Rattle.value.specs.Values.{Bytes}
use Rattle.table.specs.Rows.{PlainRow, keeps_rules, has_pair, reset_row}
use Rattle.table.specs.Draws.{row_at, limit_of, defaults, default_numbers, within}

-- the row with the number i, if it stands
abbrev pub row_in : List PlainRow → ℕ → Option PlainRow
row_in rows i = cond (nat_lt i (length rows)) (Some (row_at rows i)) None

-- the number of the first row with the process p and the parameter q, counted from i
abbrev pub place_from : ℕ → ℕ → ℕ → List PlainRow → Option ℕ
place_from i p q [] = None
place_from i p q (r ∷ rs) = cond (has_pair p q r) (Some i) (place_from (i + 1) p q rs)

-- the number of the row with the process p and the parameter q
abbrev pub place : ℕ → ℕ → List PlainRow → Option ℕ
place p q rows = place_from 0 p q rows

-- the row i has the process p and the parameter q
abbrev pub StandsAt : ℕ → ℕ → List PlainRow → ℕ → Type 0
StandsAt p q rows i = (i < length rows) × ((row_at rows i).process ≡ p) × ((row_at rows i).parameter ≡ q)

-- the place is that of the one row with the pair; there is none where no row has it
abbrev pub OnlyPlace : ℕ → ℕ → List PlainRow → Option ℕ → Type 0
OnlyPlace p q rows None = (k : ℕ) → StandsAt p q rows k → ⊥
OnlyPlace p q rows (Some i) = StandsAt p q rows i × ((k : ℕ) → StandsAt p q rows k → k ≡ i)

-- some row has the process p
abbrev pub has_process : ℕ → List PlainRow → Bool
has_process p [] = false
has_process p (r ∷ rs) = r.process == p || has_process p rs

-- true where some row has the process, false where none has
abbrev pub TellsProcess : ℕ → List PlainRow → Bool → Type 0
TellsProcess p rows true = (k : ℕ) × (k < length rows) × ((row_at rows k).process ≡ p)
TellsProcess p rows false = (k : ℕ) → k < length rows → (row_at rows k).process ≢ p

-- every row keeps the rules that speak of it alone
abbrev pub all_keep_rules : List PlainRow → Bool
all_keep_rules [] = true
all_keep_rules (r ∷ rs) = keeps_rules r && all_keep_rules rs

-- some row has the process and the parameter
abbrev pub pair_taken : ℕ → ℕ → List PlainRow → Bool
pair_taken p q [] = false
pair_taken p q (r ∷ rs) = has_pair p q r || pair_taken p q rs

-- no two rows have the same process and parameter
abbrev pub apart : List PlainRow → Bool
apart [] = true
apart (r ∷ rs) = not (pair_taken r.process r.parameter rs) && apart rs

-- every limit is at most 1,000,000 ml/min
abbrev pub Capped : List ℕ → Type 0
Capped limits = (f : ℕ) → limit_of limits f ≤ 1000000

-- the defaults keep every feed within its limit
abbrev pub Supplied : List PlainRow → List ℕ → Type 0
Supplied rows limits = (f : ℕ) → 1 ≤ f → f ≤ 8 → within f rows limits (default_numbers rows) ≡ true

-- the rules of a table, all together
pub record Ruled (rows : List PlainRow) (limits : List ℕ) : Type 0 where
  pub some : 1 ≤ length rows
  pub few : length rows ≤ 128
  -- row 0 is the reset row
  pub first : row_at rows 0 ≡ reset_row
  pub lawful : all_keep_rules rows ≡ true
  pub distinct : apart rows ≡ true
  pub eight : length limits ≡ 8
  pub capped : Capped limits
  pub supplied : Supplied rows limits
  -- defaults are bytes: each of their numbers is below 256
  pub octets : (i : ℕ) → Bytes (defaults rows i)
