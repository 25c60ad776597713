use Rattle.std.proofs.Common.{◌≡◌, ◌-◌, length, drop}
use Rattle.finder.specs.declared.Attempt.{Attempt}
use Rattle.finder.specs.Search.{binary}
use Rattle.finder.proofs.try_binary.Given as goal

abbrev pub invariant-loop-n : goal.invariant-loop-n
invariant-loop-n g l = (o : Attempt) → binary 2 0 l.window o ≡ binary 0 l.n (drop l.n l.window) o

abbrev pub decreases-loop-n : goal.decreases-loop-n
decreases-loop-n g l = length l.window - l.n
