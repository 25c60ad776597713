use Rattle.std.proofs.Common.{ap, ◌∙◌}
use Rattle.table.specs.Draws.{draw, default_numbers}
use Rattle.table.proofs.Sums.{draw-defaults}
use Rattle.table.proofs.Table.default_draw.Goals as goal

pub returns : goal.returns
returns c = record {
  value =
      c.draw_of.ensures.value
      ∙ draw-defaults c.args.feed c.rows-rows.result.now c.default_numbers.result c.default_numbers.ensures
      ∙ ap (λ rows. draw c.args.feed rows (default_numbers rows)) c.rows-rows.ensures;
  bound = c.draw_of.ensures.bound;
}
