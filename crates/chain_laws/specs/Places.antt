-- The places that the reading of a chain tells: they lie in the data.
use Rattle.std.specs.Prelude.{◌≡◌, ℕ, ◌+◌, ◌<◌, ◌≤◌, true, List, [], ◌∷◌, length, Some}
use Rattle.table.specs.Rows.{PlainRow}
use Rattle.chain.specs.declared.access.Access.{Access}
use Rattle.chain.specs.declared.fault.RackFault.{RackFault}
use Rattle.chain.specs.Faults.{rack_place}
use Rattle.chain.specs.Items.{PlainItem, place_of}
use Rattle.chain.specs.Walks.{Found, Walked}
use Rattle.chain.specs.Chains.{chain_by, read_reading}
use Rattle.chain.specs.Answers.{Values, read_answer}

-- the places of rows found, and of items
abbrev pub found_places : List Found → List ℕ
found_places [] = []
found_places (f ∷ fs) = f.place ∷ found_places fs

abbrev pub item_places : List PlainItem → List ℕ
item_places [] = []
item_places (x ∷ xs) = place_of x ∷ item_places xs

-- each place comes behind the one before it, the first not before `from`, and all before `end`
abbrev pub Ascend : ℕ → ℕ → List ℕ → Type 0
Ascend from end [] = Unit {0}
Ascend from end (p ∷ ps) = (from ≤ p) × (p < end) × Ascend (p + 1) end ps

-- every row found stands at the place `stop` or before it, and before it where its item gets as far as its value or length
abbrev pub UpTo : ℕ → List Found → Type 0
UpTo stop [] = Unit {0}
UpTo stop (f ∷ fs) = (f.place ≤ stop) × (f.reached ≡ true → f.place < stop) × UpTo stop fs

-- the reading of the bytes from the index `from` up to `end` gives `w`
pub record Placed (from end : ℕ) (w : Walked) : Type 0 where
  -- the rows found and the items stand there, one behind the other
  pub found : Ascend from end (found_places w.found)
  pub items : Ascend from end (item_places w.items)
  -- what refuses the rest stands there too, or at the end, where a byte is missing
  pub refusal : (g : RackFault) → w.refusal ≡ Some g → (from ≤ rack_place g) × (rack_place g ≤ end)
  -- and behind every item, and no row found stands behind it
  pub items_before : (g : RackFault) → w.refusal ≡ Some g → Ascend from (rack_place g) (item_places w.items)
  pub found_before : (g : RackFault) → w.refusal ≡ Some g → UpTo (rack_place g) w.found

-- A chain's data is the command, at 0, and the bytes behind it. What refuses an answer lies there too.
abbrev pub PlacesLieInside : Type 0
PlacesLieInside = (rows : List PlainRow) (bs : List ℕ) →
    ((access : Access) → Placed 1 (1 + length bs) (chain_by access rows bs)) ×
    ((h : Values) (g : RackFault) → (read_answer rows h (read_reading rows bs)).refusal ≡ Some g → (1 ≤ rack_place g) × (rack_place g ≤ 1 + length bs))
