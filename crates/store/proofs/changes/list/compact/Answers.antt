use Rattle.std.proofs.Common.{length, ap, arith}
use Rattle.std.proofs.lemmas.List.{length-map}
use Rattle.store.specs.ChangesHeld.{entry_of}
use Rattle.store.proofs.Compacted.{cut}
use Rattle.store.proofs.Pigeonhole.{newest_128}
use Rattle.store.proofs.changes.list.compact.Goals as goal

pub returns : goal.returns
returns c =
    let before = c.args.changes.now in
    let after = c.truncate.new.self in
    let list = cut before after _ _ _ c.as_mut_slice.ensures.value c.newest_to_front-count.auto.changes c.newest_to_front-count.ensures.front c.truncate.ensures.items in
    record { list = list; few = omega (arith, newest_128 before.items, ap length list, length-map after.items entry_of) }
