use Rattle.std.proofs.Common.{map, ◌∙◌, arith, length-set}
use Rattle.table.specs.Rows.{plain}
use Rattle.table.specs.Draws.{default_numbers}
use Rattle.table.proofs.Sums.{default_at, numbers_more}
use Rattle.table.proofs.draws.default_numbers.Goals as goal

pub loop-i-preserved : goal.loop-i-preserved
loop-i-preserved c =
    let rows = c.args.rows.now in (
      simp length-set c.loop-i.invariant.0,
      numbers_more c.loop-i.numbers (default_numbers (map plain rows)) c.loop-i.i c.default_number.result (omega arith) (c.default_number.ensures ∙ default_at rows c.loop-i.i c.index-rows-i.result c.index-rows-i.is c.loop-i-test.true) c.loop-i.invariant.1,
    )
