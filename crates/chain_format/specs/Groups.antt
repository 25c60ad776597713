-- Groups of entries, the bytes in which a chain has them, and the items that they are.
use Rattle.std.specs.Prelude.{ℕ, ◌+◌, ◌≤◌, Bool, true, false, List, [], ◌∷◌, ◌++◌, map, length, None}
use Rattle.chain.specs.Items.{PlainItem, row_of, place_of}
use Rattle.chain.specs.Walks.{Found, Walked}

-- the bytes of an entry: the low seven bits of its first byte, and the bytes behind that
pub record Shape (Entry : Type 0) : Type 0 where
  pub low : Entry → ℕ
  pub behind : Entry → List ℕ

-- one or more entries under a process byte, of which `low` has the low seven bits
pub record Group (Entry : Type 0) : Type 0 where
  pub low : ℕ
  pub first : Entry
  pub others : List Entry

-- one or more parts one after the other: the top bit is set on all but the last
abbrev pub linked : {Part : Type 0} → (ℕ → Part → List ℕ) → Part → List Part → List ℕ
linked bytes x [] = bytes 0 x
linked bytes x (y ∷ ys) = bytes 0x80 x ++ linked bytes y ys

-- what holds of every part
abbrev pub All : {Part : Type 0} → (Part → Type 0) → List Part → Type 0
All holds [] = Unit {0}
All holds (x ∷ xs) = holds x × All holds xs

module _ {Entry : Type 0} (shape : Shape Entry) where
  -- the bytes of an entry and of a group, by the top bit of the first of them
  abbrev pub entry_bytes : ℕ → Entry → List ℕ
  entry_bytes top x = (top + shape.low x) ∷ shape.behind x

  abbrev pub group_bytes : ℕ → Group Entry → List ℕ
  group_bytes top g = (top + g.low) ∷ linked entry_bytes g.first g.others

  -- a chain of one or more groups
  abbrev pub laid_down : Group Entry → List (Group Entry) → List ℕ
  laid_down g gs = linked group_bytes g gs

-- Entries: their bytes; the item that an entry is, at the index i, in the group of the byte g, first in it or not, with the first
-- byte b; and whether it may stand in a group with these low seven bits.
pub record Entries (Entry : Type 0) : Type 1 where
  pub shape : Shape Entry
  pub item : (i g : ℕ) (first : Bool) (b : ℕ) → Entry → PlainItem
  pub Fit : ℕ → Entry → Type 0

module _ {Entry : Type 0} (entries : Entries Entry) where
  -- the items of a group with the byte g, from the index i on
  abbrev pub items_in : (i g : ℕ) → Bool → Entry → List Entry → List PlainItem
  items_in i g first x [] = entries.item i g first (0 + entries.shape.low x) x ∷ []
  items_in i g first x (y ∷ ys) =
      entries.item i g first (0x80 + entries.shape.low x) x ∷ items_in (i + length (entry_bytes entries.shape 0x80 x)) g false y ys

  -- the items of a chain whose first byte has the index i
  abbrev pub items_of : ℕ → Group Entry → List (Group Entry) → List PlainItem
  items_of i g [] = items_in (i + 1) (0 + g.low) true g.first g.others
  items_of i g (h ∷ hs) = items_in (i + 1) (0x80 + g.low) true g.first g.others ++ items_of (i + length (group_bytes entries.shape 0x80 g)) h hs

  -- every group has seven low bits, and all its entries are fit for it
  abbrev pub FitGroup : Group Entry → Type 0
  FitGroup g = (g.low ≤ 127) × All (entries.Fit g.low) (g.first ∷ g.others)

  abbrev pub FitGroups : Group Entry → List (Group Entry) → Type 0
  FitGroups g gs = All FitGroup (g ∷ gs)

-- a row found for an item that goes as far as its value or length
abbrev pub found_for : PlainItem → Found
found_for x = record { row = row_of x; place = place_of x; reached = true }

-- all of these items are taken, and nothing is refused
abbrev pub all_taken : List PlainItem → Walked
all_taken items = record { found = map found_for items; items = items; refusal = None }
