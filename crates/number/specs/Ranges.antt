-- What a range of numbers admits.
use Rattle.std.specs.Prelude.{ℕ, Bool, false, ◌&&◌, List, length, Some, None, Option, ◌==◌}
use Rattle.number.specs.declared.Range.{Range}
use Rattle.number.specs.Numbers.{NumberKind}

-- a number from lo to hi
abbrev pub between : {N : Type 0} → NumberKind N → N → N → Option N → Bool
between k lo hi None = false
between k lo hi (Some n) = k.at_most lo n && k.at_most n hi

-- the bytes have the kind's width, are a number, and lie from the least to the greatest
abbrev pub in_range : {N : Type 0} → NumberKind N → Range N → List ℕ → Bool
in_range k r bs = length bs == k.width && between k r.least r.greatest (k.reads bs)

-- least ≤ default ≤ greatest
abbrev pub in_order : {N : Type 0} → NumberKind N → Range N → Bool
in_order k r = between k r.least r.greatest (Some r.«default»)
