-- A list of changes, oldest first: which of its entries count, and what it means.
use Rattle.std.specs.Prelude.{◌≡◌, ℕ, ◌+◌, ◌≤◌, Bool, true, false, cond, ◌⊎◌, List, [], ◌∷◌, ◌++◌, length, ◌==◌, ◌≢◌, nat_lt, slice_set}
use Rattle.store.specs.Held.{accepts}

-- an entry of the list: a row, and the value that was kept for it
pub record Entry : Type 0 where
  pub row : ℕ
  pub value : List ℕ

-- the values after each entry in turn gives its row its value
abbrev pub replay : List Entry → List (List ℕ) → List (List ℕ)
replay [] held = held
replay (e ∷ es) held = replay es (slice_set held e.row e.value)

-- whether an entry is for the row
abbrev pub names : ℕ → List Entry → Bool
names row [] = false
names row (e ∷ es) = cond (e.row == row) true (names row es)

-- the list without its outlived entries, those with a newer one for the same row; the rest in their order
abbrev pub newest : List Entry → List Entry
newest [] = []
newest (e ∷ es) = cond (names e.row es) (newest es) (e ∷ newest es)

-- the list when a place is wanted: as it is below 192 entries, and without the outlived ones when it is full
abbrev pub with_room : List Entry → List Entry
with_room es = cond (nat_lt (length es) 192) es (newest es)

-- the list after a value was kept for a row
abbrev pub list_after : List Entry → ℕ → List ℕ → List Entry
list_after es row v = cond (accepts row v) (with_room es ++ (record { row = row; value = v } ∷ [])) es

-- keeping in a full list leaves at most 129 of its 192 places taken, so that the next 63 keeps find a free one
abbrev pub LeavesRoom : List Entry → List Entry → Type 0
LeavesRoom before after = 192 ≤ length before → length after ≤ 129

-- no entry is for the row
abbrev pub Unnamed : ℕ → List Entry → Type 0
Unnamed row [] = Unit {0}
Unnamed row (e ∷ es) = (e.row ≢ row) × Unnamed row es

-- an entry for the row has this value, and no newer one is for the row
pub record NewestEntry (row : ℕ) (v : List ℕ) (es : List Entry) : Type 0 where
  pub older : List Entry
  pub entry : Entry
  pub newer : List Entry
  pub listed : es ≡ older ++ (entry ∷ newer)
  pub names_row : entry.row ≡ row
  pub has_value : entry.value ≡ v
  pub unnamed : Unnamed row newer

-- a row's value by the list: that of its newest entry, or 0 bytes without one
abbrev pub NewestCounts : ℕ → List ℕ → List Entry → Type 0
NewestCounts row v es = (Unnamed row es × (v ≡ [])) ⊎ NewestEntry row v es

-- by row, the place of its newest entry, where the list's first entry is at place i and a row without one keeps what stood there
abbrev pub places_from : ℕ → List Entry → List ℕ → List ℕ
places_from i [] places = places
places_from i (e ∷ es) places = places_from (i + 1) es (slice_set places e.row i)
