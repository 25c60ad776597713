use Rattle.std.proofs.Common.{replicate, ap, ◌∙◌, arith, rules, length-set}
use Rattle.std.proofs.lemmas.List.{take_all}
use Rattle.store.specs.ChangeList.{places_from}
use Rattle.store.specs.ChangesHeld.{entries_of}
use Rattle.store.proofs.Compacted.{placed}
use Rattle.store.proofs.changes.list.newest_places.Goals as goal

pub loop-i-preserved : goal.loop-i-preserved
loop-i-preserved c =
    let places = c.loop-i.places in
    (placed c.args.changes.now c.loop-i.i _ _ c.index-changes-i.result places c.loop-i-test.true (search rules) (omega arith) c.loop-i.invariant.0, length-set places _ _ ∙ c.loop-i.invariant.1)

pub returns : goal.returns
returns c = c.loop-i.invariant.0 ∙ ap (λ xs. places_from 0 (entries_of xs) (replicate 128 0)) (take_all c.loop-i.i c.args.changes.now c.loop-i-test.false)
