-- The last element of a list that gives a value: of a list of items, say, the last one for a row.
use Rattle.std.specs.Prelude.{◌≡◌, ℕ, ◌<◌, List, [], ◌∷◌, ◌++◌, length, Some, None, Option, slice_index_or}

-- a value if there is one, else another
abbrev pub else : {Value : Type 0} → Option Value → Option Value → Option Value
else (Some v) o = Some v
else None o = o

-- the value that the last element gives of those that give one
abbrev pub last : {Element Value : Type 0} → (Element → Option Value) → List Element → Option Value
last given [] = None
last given (x ∷ l) = else (last given l) (given x)

-- which value that is: none where no element gives one; else the one that the element at some place gives, where no later element
-- gives any
abbrev pub Last : {Element Value : Type 0} → (Element → Option Value) → List Element → Option Value → Type 0
Last {Element} given l None = (x : Element) (i : ℕ) → i < length l → given (slice_index_or l i x) ≡ None
Last {Element} given l (Some v) =
    (k : ℕ) × (k < length l) × ((x : Element) → given (slice_index_or l k x) ≡ Some v) ×
    ((x : Element) (i : ℕ) → k < i → i < length l → given (slice_index_or l i x) ≡ None)

-- `last` gives that value; of two lists joined, the second counts before the first
pub record Lasts (Element Value : Type 0) : Type 0 where
  pub found : (given : Element → Option Value) (l : List Element) → Last given l (last given l)
  pub joined : (given : Element → Option Value) (k l : List Element) → last given (k ++ l) ≡ else (last given l) (last given k)
