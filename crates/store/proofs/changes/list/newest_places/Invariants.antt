use Rattle.std.proofs.Common.{◌≡◌, length, take, replicate}
use Rattle.store.specs.ChangeList.{places_from}
use Rattle.store.specs.ChangesHeld.{entries_of}
use Rattle.store.proofs.changes.list.newest_places.Given as goal

abbrev pub invariant-loop-i : goal.invariant-loop-i
invariant-loop-i l =
    (l.places ≡ places_from 0 (entries_of (take l.i l.changes)) (replicate 128 0))
    × (length l.places ≡ 128)
