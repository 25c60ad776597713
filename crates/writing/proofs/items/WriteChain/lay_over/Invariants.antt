use Rattle.std.proofs.Common.{◌≡◌, ◌<◌}
use Rattle.std.specs.List.{AllByRecursion}
use Rattle.chain.specs.Items.{row_of}
use Rattle.writing.specs.Items.{items_left, items_of}
use Rattle.writing.specs.Numbers.{lay_numbers}
use Rattle.writing.proofs.items.WriteChain.lay_over.Given as goal

-- laying over the items that are still to come gives what all of them give, and each has a place for its row
abbrev pub invariant-loop-item : goal.invariant-loop-item
invariant-loop-item l =
    (lay_numbers (items_left l.item-iterator) l.numbers ≡ lay_numbers (items_of l.self) l.fn.numbers)
    × AllByRecursion (λ x. row_of x < 128) (items_left l.item-iterator)
