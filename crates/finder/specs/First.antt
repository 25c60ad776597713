-- The first frame in received bytes, by what stands before it.
use Rattle.std.specs.Prelude.{◌≡◌, ℕ, ◌+◌, ◌<◌, List, [], ◌++◌, length, drop}
use Rattle.finder.specs.declared.Outcome.{Outcome}
use Rattle.finder.specs.declared.Outcome.TheVariants.{Frame, More, None}
use Rattle.finder.specs.Shapes.{Whole, Unfinished, InnerStart, NoStart}

-- The outcome, the place and the frame.
abbrev pub Answer : Type 0
Answer = Outcome × ℕ × List ℕ

-- The bytes before a place are passed over: one byte where nothing starts, and all before an inner start.
pub data Passed (bs : List ℕ) : ℕ → Type 0 where
  at_first : Passed bs 0
  over_one : {i : ℕ} → Passed bs i → i < length bs → NoStart (drop i bs) → Passed bs (i + 1)
  to_inner : {i k : ℕ} → Passed bs i → InnerStart k (drop i bs) → Passed bs (i + k)

-- Everything before the place is passed over, and there stands a whole frame, or an unfinished attempt, or no more byte.
pub data First (bs : List ℕ) : Answer → Type 0 where
  first_frame : {p : ℕ} {frame : List ℕ} → Passed bs p → Whole frame → (rest : List ℕ) → drop p bs ≡ frame ++ rest → First bs (Frame, p, frame)
  first_more : {p : ℕ} → Passed bs p → Unfinished (drop p bs) → First bs (More, p, [])
  first_none : Passed bs (length bs) → First bs (None, length bs, [])
