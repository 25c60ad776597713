use Rattle.std.proofs.Common.{rules}
use Rattle.number.proofs.Ranges.{as_checked}
use Rattle.number.proofs.Range.admits.Goals as goal

pub returns : goal.returns
returns g c =
    as_checked g.N.Number.kind g.met.N.Number.lawful c.args.self.now c.args.bytes.now _ c.is_some_and.result _ (λ e. search (rules, e)) (λ n h. search rules)
    _ c.read.ensures c.is_some_and.ensures
