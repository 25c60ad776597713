use Rattle.std.proofs.Common.{◌≡◌, ◌<◌, List, ap, ◌∙◌, sym, subst}
use Rattle.std.specs.List.{AllByRecursion}
use Rattle.chain.specs.Items.{PlainItem, row_of}
use Rattle.writing.specs.Items.{items_left, items_of}
use Rattle.writing.specs.Numbers.{lay_numbers}
use Rattle.writing.proofs.Giving.{rows_fit}
use Rattle.writing.proofs.items.WriteChain.lay_over.Goals as goal

pub loop-item-init : goal.loop-item-init
loop-item-init c =
    let all : items_left c.into_iter-item-iterator.result ≡ items_of c.args.self.now = ap items_left c.into_iter-item-iterator.ensures.into_iter_gives ∙ c.items-item-items.ensures in (
      ap (λ (xs : List PlainItem). lay_numbers xs c.args.numbers.now) all,
      subst (AllByRecursion (λ x. row_of x < 128)) (sym all) (rows_fit c.args.self.now),
    )
