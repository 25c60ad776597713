-- The theorem on order: calls that do not meet may change places.
use Rattle.std.specs.Prelude.{◌≡◌, ℕ, ◌<◌, List, length, slice_index_or}
use Rattle.order.specs.Calls.{Calls, Agree, Premises, Meet, outcomes, final}

module _ {Call Outcome Value State : Type 0} (calls : Calls Call Outcome Value State) where
  -- l' is l rearranged: the places of the two lists are mapped one to one, the call at place i of l stands recast at place `to i`
  -- of l', and any two calls that meet stand in the same order in both. (`slice_index_or l i x` is the call at place i; x is never read,
  -- since i is a place of the list.)
  pub record Rearranged (Recast : Call → Call → Type 0) (l l' : List Call) : Type 0 where
    pub to : ℕ → ℕ
    pub from : ℕ → ℕ
    pub to_below : (i : ℕ) → i < length l → to i < length l'
    pub from_below : (j : ℕ) → j < length l' → from j < length l
    pub from_to : (i : ℕ) → i < length l → from (to i) ≡ i
    pub to_from : (j : ℕ) → j < length l' → to (from j) ≡ j
    pub each : (x : Call) (i : ℕ) → i < length l → Recast (slice_index_or l i x) (slice_index_or l' (to i) x)
    pub keeps : (x : Call) (i j : ℕ) → i < j → j < length l → Meet calls (slice_index_or l i x) (slice_index_or l j x) → to i < to j

  -- the run of l from s and that of l' from s' are the same: each call of l has the same outcome as the call at its new place
  -- in l', and the states at the end agree
  pub record SameRun (Same : Outcome → Outcome → Type 0) (l l' : List Call) (to : ℕ → ℕ) (s s' : State) : Type 0 where
    pub outcome : (x : Outcome) (i : ℕ) → i < length l → Same (slice_index_or (outcomes calls l s) i x) (slice_index_or (outcomes calls l' s') (to i) x)
    pub agree : Agree calls (final calls l s) (final calls l' s')

  -- any list may be rearranged: from states that agree, the two runs are the same
  abbrev pub Reorderable : (Call → Call → Type 0) → (Outcome → Outcome → Type 0) → Type 0
  Reorderable Recast Same =
      (l l' : List Call) (p : Rearranged Recast l l') (s s' : State) → Agree calls s s' → SameRun Same l l' p.to s s'

-- the theorem: any calls that satisfy the premises are reorderable
abbrev pub Reordering : {Call Outcome : Type 0} (Value State : Type 0) → (Call → Call → Type 0) → (Outcome → Outcome → Type 0) → Type 0
Reordering {Call} {Outcome} Value State Recast Same =
    (calls : Calls Call Outcome Value State) → Premises calls Recast Same → Reorderable calls Recast Same
