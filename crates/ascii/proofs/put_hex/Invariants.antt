use Rattle.std.proofs.Common.{◌≡◌, ◌+◌, ◌*◌, take}
use Rattle.line.specs.Calls.{overlaid}
use Rattle.ascii.specs.Hex.{hexes}
use Rattle.ascii.proofs.put_hex.Given as goal

abbrev pub invariant-loop-b : goal.invariant-loop-b
invariant-loop-b l = (l.end ≡ l.start + 2 * l.b-index) × (l.frame ≡ overlaid l.initial.frame l.start (hexes (take l.b-index l.bytes)))
