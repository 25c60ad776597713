use Rattle.std.proofs.Common.{is_some, ap, ◌∙◌}
use Rattle.table.specs.Held.{rows_of}
use Rattle.table.proofs.Places.{place-taken}
use Rattle.table.proofs.Table.takes_pair.Goals as goal

pub returns : goal.returns
returns c = c.is_some.ensures ∙ ap is_some c.find.ensures.value ∙ place-taken c.args.process c.args.parameter (rows_of c.args.self.now)
