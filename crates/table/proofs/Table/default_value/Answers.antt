use Rattle.std.proofs.Common.{ltb, length}
use Rattle.table.specs.Rows.{plain}
use Rattle.table.specs.Draws.{row_at}
use Rattle.table.specs.Held.{rows_of}
use Rattle.table.proofs.Defaults.{default_given}
use Rattle.table.proofs.Facts.{row_ruled}
use Rattle.table.proofs.Table.default_value.Goals as goal

pub returns : goal.returns
returns c =
    let t = c.args.self.now in
    let rows = rows_of t in
    let n = c.args.number in
    let h = default_given (row_at rows n) c.default_value.result (ltb n (length rows)) (plain c.in_ok-row.field-0.now) (row_ruled rows t.ruled.lawful n) c.in_ok-row.ensures c.default_value.ensures.value c.default_value.ensures.back in
    record { value = h.0; fits = h.1 }
