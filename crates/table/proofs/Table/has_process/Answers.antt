use Rattle.std.proofs.Common.{◌≡◌, eqb, sym, ap, ◌∙◌}
use Rattle.std.specs.List.{list_any}
use Rattle.table.specs.Held.{rows_of}
use Rattle.table.specs.Tables.{has_process}
use Rattle.table.proofs.Places.{any_has, tells}
use Rattle.table.proofs.Table.has_process.Goals as goal

pub returns : goal.returns
returns c =
    let p = c.args.process in
    let t = c.args.self.now in
    let e : c.has_process_in.result ≡ has_process p (rows_of t) = c.has_process_in.ensures ∙ ap (list_any (λ r. eqb r.process p)) c.deref.ensures.0 ∙ any_has p t.rows.items in
    record { value = e; tells = tells p (rows_of t) _ (sym e) }
