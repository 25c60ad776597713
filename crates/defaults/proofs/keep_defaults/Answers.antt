use Rattle.std.proofs.Common.{length, ◌∙◌, arith, lt-ltb}
use Rattle.table.proofs.Facts.{table_ruled}
use Rattle.table.specs.Draws.{defaults}
use Rattle.table.specs.Held.{rows_of}
use Rattle.defaults.proofs.Laying.{default_taken, keep_one, laid_all, new_kept}
use Rattle.defaults.proofs.keep_defaults.Goals as goal

pub loop-number-preserved : goal.loop-number-preserved
loop-number-preserved g c =
    let held = g.S.Store.held in
    let rows = rows_of c.args.table.now in
    let i = c.loop-number.number in
    let l = lt-ltb i (length rows) (omega arith) in
    let d = default_taken _ (defaults rows i) c.default_value.result c.unwrap-value.result l c.default_value.ensures.value c.unwrap-value.ensures in
    keep_one rows (held c.args.store.now) (held c.loop-number.store) (held c.keep.new.self) i c.as_slice.result.now (omega arith) (table_ruled c.args.table.now).few (g.met.S.Store.sound c.args.store.now).rows
    (c.as_slice.ensures.value ∙ d) c.as_slice.ensures.bound c.loop-number.invariant c.keep.ensures.after

pub returns : goal.returns
returns g c =
    let held = g.S.Store.held in
    let rows = rows_of c.args.table.now in
    let all = c.loop-number.invariant ∙ laid_all rows (held c.args.store.now) c.loop-number.number (omega arith) in
    record { held = all; fresh = new_kept rows (held c.args.store.now) (held c.loop-number.store) all }
