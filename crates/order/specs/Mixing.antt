-- Two lists of calls that mix, as two fades do whose frames come over one line.
use Rattle.std.specs.Prelude.{ℕ, ◌<◌, List, [], ◌∷◌, ◌++◌, length, slice_index_or}
use Rattle.order.specs.Calls.{Calls, Meet}
use Rattle.order.specs.Reordering.{Rearranged}

-- n is the calls of k and of l, each recast, mixed: those of each list in their own order
pub data Mixed {Call : Type 0} (Recast : Call → Call → Type 0) : List Call → List Call → List Call → Type 0 where
  none : Mixed Recast [] [] []
  from_first : {c d : Call} {k l n : List Call} → Recast c d → Mixed Recast k l n → Mixed Recast (c ∷ k) l (d ∷ n)
  from_second : {c d : Call} {k l n : List Call} → Recast c d → Mixed Recast k l n → Mixed Recast k (c ∷ l) (d ∷ n)

module _ {Call Outcome Value State : Type 0} (calls : Calls Call Outcome Value State) where
  -- no call of k meets one of l
  abbrev pub Apart : List Call → List Call → Type 0
  Apart k l = (x : Call) (i j : ℕ) → i < length k → j < length l → Meet calls (slice_index_or k i x) (slice_index_or l j x) → ⊥

  -- lists that are apart may mix in any way: what comes of it is the first list and then the second, rearranged
  abbrev pub Mixing : (Call → Call → Type 0) → Type 0
  Mixing Recast = (k l n : List Call) → Mixed Recast k l n → Apart k l → Rearranged calls Recast (k ++ l) n
