-- The values that a write keeps, one item after the other.
use Rattle.std.specs.Prelude.{◌≡◌, ℕ, List}
use Rattle.chain.specs.Items.{PlainItem}
use Rattle.chain.specs.Answers.{Values}
use Rattle.chain.specs.Kept.{keep_all, laid_over}

-- keeping the items one after the other leaves each row at its last value
abbrev pub LastCounts : Type 0
LastCounts = (items : List PlainItem) (h : Values) (r : ℕ) → keep_all items h r ≡ laid_over items h r
