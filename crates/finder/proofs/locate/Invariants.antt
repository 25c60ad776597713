use Rattle.std.proofs.Common.{◌-◌, length}
use Rattle.finder.proofs.Turns.{From}
use Rattle.finder.proofs.locate.Given as goal

abbrev pub invariant-loop-place : goal.invariant-loop-place
invariant-loop-place l = From l.received l.place

abbrev pub decreases-loop-place : goal.decreases-loop-place
decreases-loop-place l = length l.received - l.place
