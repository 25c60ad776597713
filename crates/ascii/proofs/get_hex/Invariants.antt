use Rattle.std.proofs.Common.{◌≡◌, ◌*◌, take, drop}
use Rattle.ascii.specs.Hex.{spelled}
use Rattle.ascii.proofs.Spelling.{behind}
use Rattle.ascii.proofs.get_hex.Given as goal

abbrev pub invariant-loop-n : goal.invariant-loop-n
invariant-loop-n l = spelled l.digits ≡ behind (take l.n l.bytes) (spelled (drop (2 * l.n) l.digits))
