-- What holds of every table.
use Rattle.std.proofs.Common.{◌≡◌, ℕ, zero, suc, Bool, true, false, cond, List, [], ◌∷◌, map, Some, None, unwrap_or, refl, arith}
use Rattle.std.proofs.lemmas.Bool.{and_parts}
use lib.Ieee as Ieee
use Rattle.value.specs.Values.{Bytes}
use Rattle.value.proofs.Facts.{value_bytes}
use Rattle.number.specs.Numbers.{four}
use Rattle.table.specs.declared.Kind.{Kind}
use Rattle.table.specs.declared.Kind.TheVariants.{Char, Integer, Long, Float, Text, OpenText}
use Rattle.table.specs.declared.Row.{Row}
use Rattle.table.specs.declared.Table.{Table}
use Rattle.table.specs.Rows.{PlainRow, plain, kind_default, keeps_rules}
use Rattle.table.specs.Draws.{row_at, defaults}
use Rattle.table.specs.Tables.{all_keep_rules, Ruled}
use Rattle.table.specs.Held.{rows_of, limits_of}

-- every row keeps the rules; so does the one that `row_at` gives past the end
pub row_ruled : (rows : List PlainRow) → all_keep_rules rows ≡ true → (i : ℕ) → keeps_rules (row_at rows i) ≡ true
row_ruled [] e i = refl
row_ruled (r ∷ rs) e zero = (and_parts (keeps_rules r) (all_keep_rules rs) e).0
row_ruled (r ∷ rs) e (suc i) = row_ruled rs (and_parts (keeps_rules r) (all_keep_rules rs) e).1 i

-- the bytes of a default
four_bytes : (n : ℕ) → Bytes (four n)
four_bytes n = (omega arith, (omega arith, (omega arith, (omega arith, tt))))

default_bytes_lem : (k : Kind) (text : List ℕ) → Bytes text → Bytes (unwrap_or (kind_default k text) [])
default_bytes_lem (Char r) text b = (omega arith, tt)
default_bytes_lem (Integer r) text b = (omega arith, (omega arith, tt))
default_bytes_lem (Long r) text b = four_bytes r.«default»
default_bytes_lem (Float r) text b = by (Ieee.is_nan r.«default»)
  where
    by : (t : Bool) → Bytes (unwrap_or (cond t None (Some (four (Ieee.to_bits Ieee.binary32 r.«default»)))) [])
    by true = tt
    by false = four_bytes (Ieee.to_bits Ieee.binary32 r.«default»)
default_bytes_lem (Text n) text b = b
default_bytes_lem OpenText text b = b

pub all_bytes : (rows : List Row) (i : ℕ) → Bytes (defaults (map plain rows) i)
all_bytes [] i = (omega arith, tt)
all_bytes (r ∷ rs) zero = default_bytes_lem r.kind _ (value_bytes r.text)
all_bytes (r ∷ rs) (suc i) = all_bytes rs i

pub table_ruled : (t : Table) → Ruled (rows_of t) (limits_of t)
table_ruled t = t.ruled
