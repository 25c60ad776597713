use Rattle.std.proofs.Common.{◌≡◌}
use Rattle.promises.specs.Stored.{kept_in_store}
use Rattle.writing.specs.Items.{items_left, items_of}
use Rattle.writing.proofs.items.WriteChain.keep_in.Given as goal

-- keeping the items that are still to come gives what keeping all of them does
abbrev pub invariant-loop-item : goal.invariant-loop-item
invariant-loop-item g l =
    kept_in_store (items_left l.item-iterator) (g.S.Store.held l.store) ≡ kept_in_store (items_of l.self) (g.S.Store.held l.fn.store)
