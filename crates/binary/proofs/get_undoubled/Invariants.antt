use Rattle.std.proofs.Common.{◌≡◌, ◌+◌, ◌≤◌, length}
use Rattle.binary.specs.Doubling.{undoubled}
use Rattle.binary.proofs.Undoubling.{behind}
use Rattle.binary.proofs.get_undoubled.Given as goal

abbrev pub invariant-loop-rest : goal.invariant-loop-rest
invariant-loop-rest l = record {
  long : length l.bytes.items + length l.rest ≤ length l.text;
  undoes : undoubled l.text ≡ behind l.bytes.items (undoubled l.rest);
}

abbrev pub decreases-loop-rest : goal.decreases-loop-rest
decreases-loop-rest l = length l.rest
