use Rattle.std.proofs.Common.{ℕ, ◌*◌, ◌≤◌, set, sym, ◌∙◌, subst}
use Rattle.std.proofs.lemmas.Bool.{leb-true}
use Rattle.table.specs.Tables.{Ruled}
use Rattle.table.specs.Held.{rows_of}
use Rattle.table.proofs.Limits.{placed, ruled_limited}
use Rattle.table.proofs.Table.set_limit.Goals as goal

pub invariant_of-self : goal.invariant_of-self
invariant_of-self c =
    let t = c.args.self.now in
    let feed = placed c.args.feed c.in_ok-place.place (sym c.feed_place.ensures ∙ c.in_ok-place.ensures.ok_part) in
    let draw = subst (λ (n : ℕ). n ≤ c.args.limit * 32000) c.default_draw.ensures.value (leb-true _ _ (sym c.if-not-within_limit.ensures)) in
    record { ruled = subst (λ (p : ℕ). Ruled (rows_of t) (set t.limits p c.args.limit)) feed.2 (ruled_limited (rows_of t) t.limits c.args.feed c.args.limit t.ruled feed.0 feed.1 c.if-limit-gt-MAX_FLOW.false draw) }
