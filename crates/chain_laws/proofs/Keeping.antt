-- Keeping items one after the other.
use Rattle.std.proofs.Common.{◌≡◌, ℕ, List, [], ◌∷◌, Some, None, Option, unwrap_or, refl, ◌∙◌}
use Rattle.order.specs.Last.{else}
use Rattle.chain.specs.Kept.{value_for, last_value, keep_item}
use Rattle.chain_laws.specs.Kept.{LastCounts}

-- a value over another over a third
over_two : (o p : Option (List ℕ)) (v : List ℕ) → unwrap_or o (unwrap_or p v) ≡ unwrap_or (else o p) v
over_two (Some x) p v = refl
over_two None p v = refl

pub last_counts : LastCounts
last_counts [] h r = refl
last_counts (x ∷ items) h r = last_counts items (keep_item x h) r ∙ over_two (last_value items r) (value_for r x) (h r)
