use Rattle.std.proofs.Common.{List, ap, ◌∙◌}
use Rattle.chain.specs.Items.{PlainItem}
use Rattle.promises.specs.Stored.{kept_in_store}
use Rattle.writing.specs.Items.{items_left}
use Rattle.writing.proofs.items.WriteChain.keep_in.Goals as goal

pub loop-item-init : goal.loop-item-init
loop-item-init g c =
    ap (λ (xs : List PlainItem). kept_in_store xs (g.S.Store.held c.args.store.now)) (ap items_left c.into_iter-item-iterator.ensures.into_iter_gives ∙ c.items-item-items.ensures)
