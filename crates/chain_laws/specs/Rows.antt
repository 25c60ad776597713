-- The rows that the reading of a chain finds, and what its items carry.
use Rattle.std.specs.Prelude.{◌≡◌, ℕ, ◌<◌, ◌≤◌, true, false, List, [], ◌∷◌, length, None}
use Rattle.std.specs.List.{AllByRecursion}
use Rattle.value.specs.Values.{Bytes}
use Rattle.table.specs.Rows.{PlainRow, admitted}
use Rattle.table.specs.Draws.{row_at}
use Rattle.table.specs.Tables.{Ruled}
use Rattle.chain.specs.declared.access.Access.{Access}
use Rattle.chain.specs.declared.access.Access.TheVariants.{Write, Read}
use Rattle.chain.specs.Items.{PlainItem, write, read, row_of, place_of, repeated}
use Rattle.chain.specs.Walks.{Found, Walked}
use Rattle.chain.specs.Chains.{chain_by}

-- each item is for a row found, in their order
abbrev pub ForFound : List PlainItem → List Found → Type 0
ForFound [] fs = Unit {0}
ForFound (x ∷ xs) [] = ⊥
ForFound (x ∷ xs) (f ∷ fs) = (row_of x ≡ f.row) × (place_of x ≡ f.place) × ForFound xs fs

-- The row grants what the item asks. A write: the row is writable, not secured unless it is unlocked, and admits the value. A read:
-- the row is readable. A chain of writes has no reads, and a chain of reads no writes.
abbrev pub Granted : Access → List PlainRow → PlainItem → Type 0
Granted (Write unlocked) rows (write r i v) =
    ((row_at rows r).writable ≡ true) × (unlocked ≡ false → (row_at rows r).secured ≡ false) × (admitted (row_at rows r).kind v ≡ true)
Granted (Write unlocked) rows (read q) = ⊥
Granted Read rows (write r i v) = ⊥
Granted Read rows (read q) = (row_at rows q.row).readable ≡ true

-- the bytes that an item carries on: a write's value, or what a query's answer repeats
abbrev pub carried : PlainItem → List ℕ
carried (write r i v) = v
carried (read q) = repeated q

-- `w` is what the reading of `bs` gives
pub record Standing (access : Access) (rows : List PlainRow) (bs : List ℕ) (w : Walked) : Type 0 where
  -- every row found is a row of the table
  pub rows_stand : AllByRecursion (λ f. f.row < length rows) w.found
  -- the items are for rows found, and where nothing refuses, every row found has its item
  pub for_found : ForFound w.items w.found
  pub all_taken : w.refusal ≡ None → length w.items ≡ length w.found
  -- so every item's row is a row of the table; and the row grants the item
  pub items_stand : AllByRecursion (λ x. row_of x < length rows) w.items
  pub granted : AllByRecursion (Granted access rows) w.items
  -- in a table that keeps the rules, no item carries more than the 24 bytes of a value
  pub short : (limits : List ℕ) → Ruled rows limits → AllByRecursion (λ x. length (carried x) ≤ 24) w.items
  -- of bytes, the items carry bytes
  pub octets : Bytes bs → AllByRecursion (λ x. Bytes (carried x)) w.items

abbrev pub RowsFoundStand : Type 0
RowsFoundStand = (access : Access) (rows : List PlainRow) (bs : List ℕ) → Standing access rows bs (chain_by access rows bs)
