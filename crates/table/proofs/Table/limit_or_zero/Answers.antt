use Rattle.std.proofs.Common.{ℕ, Option, unwrap_or, ap, ◌∙◌}
use Rattle.table.proofs.Limits.{limit_or}
use Rattle.table.proofs.Table.limit_or_zero.Goals as goal

pub returns : goal.returns
returns c =
    let t = c.args.self.now in
    c.unwrap_or.ensures ∙ ap (λ (o : Option ℕ). unwrap_or o 0) c.limit.ensures ∙ limit_or t.limits c.args.feed t.ruled.eight
