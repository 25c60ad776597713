use Rattle.std.proofs.Common.{◌≡◌, ℕ, ◌<◌, get_or}
use Rattle.promises.specs.Replies.{numbers}
use Rattle.promises.specs.Stored.{values_in}
use Rattle.writing.proofs.held.held_numbers.Given as goal

abbrev pub invariant-loop-row : goal.invariant-loop-row
invariant-loop-row g l = (k : ℕ) → k < l.row → get_or l.number-items k 0 ≡ numbers (values_in (g.S.Store.held l.store)) k
