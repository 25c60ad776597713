use Rattle.std.proofs.Common.{List, map, sym, ap, ◌∙◌, subst, arith}
use Rattle.std.proofs.lemmas.List.{map_push}
use Rattle.table.specs.declared.Row.{Row}
use Rattle.table.specs.Rows.{plain}
use Rattle.table.specs.Refusals.{added, add_refusal}
use Rattle.table.specs.Tables.{Ruled}
use Rattle.table.specs.Held.{rows_of, limits_of}
use Rattle.table.proofs.Adding.{place_free, ruled_more, not_refused, stays, changes}
use Rattle.table.proofs.Table.add.Goals as goal

pub returns-in_err-check-clause-rows : goal.returns-in_err-check-clause-rows
returns-in_err-check-clause-rows c = let t = c.args.self.now in stays (add_refusal (rows_of t) (limits_of t) (plain c.args.row)) (added (rows_of t) (plain c.args.row)) (rows_of t) c.in_err-check.ensures

pub push-requires : goal.push-requires
push-requires c = let t = c.args.self.now in (omega arith, place_free t.rows.items t.limits c.args.row t.ruled (not_refused _ c.in_ok-check.ensures))

pub invariant_of-self : goal.invariant_of-self
invariant_of-self c =
    let t = c.args.self.now in
    record { ruled = subst (λ (rows : List Row). Ruled (map plain rows) t.limits) (sym c.push.ensures.items) (ruled_more t.rows.items t.limits c.args.row t.ruled (not_refused _ c.in_ok-check.ensures)) }

pub returns-clause-rows : goal.returns-clause-rows
returns-clause-rows c =
    let t = c.args.self.now in
    ap (map plain) c.push.ensures.items ∙ map_push plain t.rows.items c.args.row ∙ changes (add_refusal (rows_of t) (limits_of t) (plain c.args.row)) (added (rows_of t) (plain c.args.row)) (rows_of t) (not_refused _ c.in_ok-check.ensures)
