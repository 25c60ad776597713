use Rattle.std.proofs.Common.{◌≡◌, sym, ap, ◌∙◌, subst}
use Rattle.std.specs.List.{position}
use Rattle.table.specs.Rows.{plain, has_pair}
use Rattle.table.specs.Held.{rows_of}
use Rattle.table.specs.Tables.{place, OnlyPlace}
use Rattle.table.proofs.Places.{searched, only_place}
use Rattle.table.proofs.Table.find.Goals as goal

pub returns : goal.returns
returns c =
    let p = c.args.process in
    let q = c.args.parameter in
    let t = c.args.self.now in
    let e : c.find_in.result ≡ place p q (rows_of t) = c.find_in.ensures ∙ ap (position (λ r. has_pair p q (plain r))) c.deref.ensures.0 ∙ searched p q t.rows.items in
    record { value = e; only = subst (OnlyPlace p q (rows_of t)) (sym e) (only_place p q (rows_of t) t.ruled.distinct); ruled = t.ruled }
