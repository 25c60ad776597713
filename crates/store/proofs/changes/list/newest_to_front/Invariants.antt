use Rattle.std.proofs.Common.{◌≡◌, ◌≤◌, length}
use Rattle.store.specs.ChangeList.{newest}
use Rattle.store.specs.ChangesHeld.{entries_of}
use Rattle.store.proofs.Compacted.{Split}
use Rattle.store.proofs.changes.list.newest_to_front.Given as goal

abbrev pub invariant-loop-i : goal.invariant-loop-i
invariant-loop-i l =
    Split l.changes l.places l.i l.count (newest (entries_of l.initial.changes))
    × (l.count ≤ l.i)
    × (length l.changes ≡ length l.initial.changes)
