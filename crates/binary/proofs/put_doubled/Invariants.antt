use Rattle.std.proofs.Common.{◌≡◌, ◌+◌, ◌*◌, ◌≤◌, length, take}
use Rattle.line.specs.Calls.{overlaid}
use Rattle.binary.specs.Doubling.{doubled}
use Rattle.binary.proofs.put_doubled.Given as goal

abbrev pub invariant-loop-b : goal.invariant-loop-b
invariant-loop-b l =
    (l.end ≤ l.start + 2 * l.b-index) × (l.end ≡ l.start + length (doubled (take l.b-index l.bytes)))
    × (l.frame ≡ overlaid l.initial.frame l.start (doubled (take l.b-index l.bytes)))
