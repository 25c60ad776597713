use Rattle.std.proofs.Common.{ℕ, ◌+◌, ◌<◌, List, length, get_or, ap, ◌++◌, take, set, replicate, sym, refl, ◌∙◌, subst, append-nil, arith, lit≤}
use Rattle.std.proofs.lemmas.List.{at_drop_all, get_or_default}
use Rattle.store.specs.declared.changes.change.Change.{Change}
use Rattle.store.specs.ChangeList.{newest}
use Rattle.store.specs.ChangesHeld.{entries_of}
use Rattle.store.proofs.Pigeonhole.{entries_below}
use Rattle.store.proofs.Places.{Told, places_told}
use Rattle.store.proofs.Compacted.{moved, outlived, split_same}
use Rattle.store.proofs.changes.list.newest_to_front.Goals as goal
use Rattle.store.proofs.changes.list.newest_to_front.Goals.{then-places-from, else-places-from}

pub loop-i-init : goal.loop-i-init
loop-i-init c =
    let es = entries_of c.args.changes.now in
    let P : List ℕ → Type 0 = λ places. Told 0 es places in
    ((refl, subst P (sym c.newest_places-places.ensures) (places_told es 0 (replicate 128 0) (entries_below c.args.changes.now) refl)), lit≤ tt, refl)

pub loop-i-preserved : goal.loop-i-preserved
loop-i-preserved c =
    let xs = c.loop-i.changes in
    let places = c.newest_places-places.result in
    let i = c.loop-i.i in
    let k = c.loop-i.count in
    let x = c.index-changes-i.result in
    let h : i < length xs = omega (arith, c.loop-i.invariant.2) in
    let place = ap (λ row. get_or places row 0) (c.from.ensures ∙ sym (ap (λ (y : Change). y.row) c.index-changes-i.is)) in
    let all = newest (entries_of c.args.changes.now) in
    let n = c.if-places-from.count in
    let ys = c.if-places-from.changes in (
      elim c.if-places-from.branch [
        | then-places-from w ↦
            let y = w.index-changes-i-then-places-from.result in
            let e = w.index-changes-i-then-places-from.is ∙ get_or_default xs i y x h ∙ sym c.index-changes-i.is in
            split_same (set xs k x) ys all places (i + 1) (k + 1) n (w.changes-is ∙ ap (set xs k) e) w.count-is (moved xs all places i k x h c.loop-i.invariant.1 c.index-changes-i.is (sym place ∙ w.if-places-from.true) c.loop-i.invariant.0)
        | else-places-from w ↦ split_same xs ys all places (i + 1) k n w.changes-is w.count-is (outlived xs all places i k x h c.index-changes-i.is (λ q. w.if-places-from.false (place ∙ q)) c.loop-i.invariant.0)
      ],
      elim c.if-places-from.branch [ then-places-from w ↦ omega (arith, w.count-is, c.loop-i.invariant.1) | else-places-from w ↦ omega (arith, w.count-is, c.loop-i.invariant.1) ],
      c.if-places-from.auto.changes ∙ c.loop-i.invariant.2,
    )

pub returns : goal.returns
returns c =
    let front = entries_of (take c.loop-i.count c.loop-i.changes) in
    record {
      within = omega (arith, c.loop-i.invariant.1, c.loop-i.invariant.2);
      front = sym (append-nil front) ∙ sym (at_drop_all (λ (xs : List Change). front ++ newest (entries_of xs)) c.loop-i.changes c.loop-i.i (omega (arith, c.loop-i.invariant.2))) ∙ c.loop-i.invariant.0.0;
    }
