use Rattle.std.proofs.Common.{map, get_or, arith}
use Rattle.table.specs.Rows.{plain}
use Rattle.table.proofs.Sums.{none-counted, row_counted, all_counted}
use Rattle.table.proofs.draws.draw_of.Goals as goal

pub loop-i-init : goal.loop-i-init
loop-i-init c = (none-counted c.args.feed (map plain c.args.rows.now) (λ k. get_or c.args.values.now k 0), omega arith)

pub loop-i-preserved : goal.loop-i-preserved
loop-i-preserved c =
    row_counted c.args.feed c.args.rows.now (λ k. get_or c.args.values.now k 0) c.loop-i.i c.loop-i.sum c.loop-i.invariant
    c.index-rows-i.result c.amount-sum.result c.index-rows-i.is c.loop-i-test.true c.amount-sum.ensures.value c.amount-sum.ensures.bound

pub returns : goal.returns
returns c = record {
  value = all_counted c.args.feed c.args.rows.now (λ k. get_or c.args.values.now k 0) _ _ c.loop-i.invariant c.loop-i-test.false;
  bound = omega arith;
}
