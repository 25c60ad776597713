use Rattle.std.proofs.Common.{List, map, get_or, ap, ◌∙◌}
use Rattle.table.specs.declared.Row.{Row}
use Rattle.table.specs.Rows.{plain}
use Rattle.table.specs.Draws.{draw}
use Rattle.table.specs.Held.{rows_of}
use Rattle.table.proofs.Sums.{counts_each_once}
use Rattle.table.proofs.Table.draw.Goals as goal

pub returns : goal.returns
returns c = record {
  value = c.draw_of.ensures.value ∙ ap (λ (rows : List Row). draw c.args.feed (map plain rows) (λ k. get_or c.args.values.now k 0)) c.deref.ensures.0;
  once = counts_each_once (rows_of c.args.self.now);
}
