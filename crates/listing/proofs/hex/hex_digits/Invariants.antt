use Rattle.std.proofs.Common.{◌≡◌, ◌*◌, length, take}
use Rattle.ascii.specs.Hex.{hexes}
use Rattle.listing.proofs.hex.hex_digits.Given as goal

abbrev pub invariant-loop-i : goal.invariant-loop-i
invariant-loop-i l = (length l.digits ≡ 128) × (take (2 * l.i) l.digits ≡ hexes (take l.i l.bytes))
