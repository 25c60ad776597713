-- One turn of a loop over a chain.
use Rattle.std.proofs.Common.{◌≡◌, List, [], ◌∷◌, Some, None, Ok, Err, Option, refl}
use Rattle.chain.specs.declared.fault.RackFault.{RackFault}
use Rattle.chain.specs.Items.{PlainItem}
use Rattle.chain.specs.Walks.{Walked}
use Rattle.chain.specs.Reader.{next_of, given, behind, left}

behind_refusal : (items : List PlainItem) (w : Walked) → (behind items w).refusal ≡ w.refusal
behind_refusal [] w = refl
behind_refusal (x ∷ items) w = refl

-- what refuses the rest stays
pub left_refusal : (w : Walked) → (left w).refusal ≡ w.refusal
left_refusal w = behind_refusal w.items w

-- where an item is given, the items are that one and those left
some_items : (items : List PlainItem) (w : Walked) (f : Option RackFault) (x : PlainItem) → w.items ≡ items → Ok (Some x) ≡ next_of items f → items ≡ x ∷ (behind items w).items
some_items [] w None x s e = cc
some_items [] w (Some g) x s e = cc
some_items (y ∷ items) w f x s e = cc

pub item_given : (w : Walked) (x : PlainItem) → Ok (Some x) ≡ given w → w.items ≡ x ∷ (left w).items
item_given w x e = some_items w.items w w.refusal x refl e

none_items : (items : List PlainItem) (f : Option RackFault) → Ok None ≡ next_of items f → (items ≡ []) × (f ≡ None)
none_items [] None e = (refl, refl)
none_items [] (Some g) e = cc
none_items (y ∷ items) f e = cc

-- where the end is told, nothing is left and nothing refused
pub end-given : (w : Walked) → Ok None ≡ given w → (w.items ≡ []) × (w.refusal ≡ None)
end-given w e = none_items w.items w.refusal e

refused_items : (items : List PlainItem) (f : Option RackFault) (g : RackFault) → Err g ≡ next_of items f → (items ≡ []) × (f ≡ Some g)
refused_items [] None g e = cc
refused_items [] (Some h) g e = (refl, (cc))
refused_items (y ∷ items) f g e = cc

-- where a refusal is told, no item is left before it
pub refusal_given : (w : Walked) (g : RackFault) → Err g ≡ given w → (w.items ≡ []) × (w.refusal ≡ Some g)
refusal_given w g e = refused_items w.items w.refusal g e
