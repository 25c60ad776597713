-- What a run gives, place by place, and what the run of one list joined to another gives.
use Rattle.std.specs.Prelude.{◌≡◌, ℕ, ◌<◌, List, ◌++◌, length, take, slice_index_or}
use Rattle.order.specs.Calls.{Calls, outcomes, final}

-- There are as many outcomes as calls. The outcome at a place is that of the call there, in the state that the calls before it
-- leave. Of two lists joined, the second runs from the state that the first leaves.
pub record Runs {Call Outcome Value State : Type 0} (calls : Calls Call Outcome Value State) : Type 0 where
  pub as_many : (l : List Call) (s : State) → length (outcomes calls l s) ≡ length l
  pub place : (x : Call) (y : Outcome) (l : List Call) (s : State) (i : ℕ) → i < length l →
      slice_index_or (outcomes calls l s) i y ≡ calls.outcome (slice_index_or l i x) (final calls (take i l) s)
  pub joined_outcomes : (k l : List Call) (s : State) → outcomes calls (k ++ l) s ≡ outcomes calls k s ++ outcomes calls l (final calls k s)
  pub joined_final : (k l : List Call) (s : State) → final calls (k ++ l) s ≡ final calls l (final calls k s)
