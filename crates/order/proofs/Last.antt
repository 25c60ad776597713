-- The last element that gives a value.
use Rattle.std.proofs.Common.{◌≡◌, ℕ, zero, suc, ◌<◌, List, [], ◌∷◌, ◌++◌, length, get_or, Some, None, Option, sym, refl, ap, ◌∙◌, arith}
use Rattle.order.specs.Last.{else, last, Last, Lasts}

module _ {Element Value : Type 0} (given : Element → Option Value) where
  -- the last of a list with one more element in front: what the list gives, or else what that element gives
  none_before : (x : Element) (l : List Element) → given x ≡ None → Last given l None → (y : Element) (i : ℕ) → i < length (x ∷ l) → given (get_or (x ∷ l) i y) ≡ None
  none_before x l e h y zero b = e
  none_before x l e h y (suc i) b = h y i (omega arith)

  none_after : (x : Element) (l : List Element) (k : ℕ) → ((y : Element) (i : ℕ) → k < i → i < length l → given (get_or l i y) ≡ None) →
      (y : Element) (i : ℕ) → suc k < i → i < length (x ∷ l) → given (get_or (x ∷ l) i y) ≡ None
  none_after x l k h y zero a b = absurd (omega arith)
  none_after x l k h y (suc i) a b = h y i (omega arith) (omega arith)

  front : (x : Element) (l : List Element) (o p : Option Value) → given x ≡ p → Last given l o → Last given (x ∷ l) (else o p)
  front x l (Some v) p e h = (suc h.0, omega (arith, h.1), h.2, none_after x l h.0 h.3)
  front x l None None e h = none_before x l e h
  front x l None (Some v) e h = (0, omega arith, λ y. e, first)
    where
      first : (y : Element) (i : ℕ) → 0 < i → i < length (x ∷ l) → given (get_or (x ∷ l) i y) ≡ None
      first y zero a b = absurd (omega arith)
      first y (suc i) a b = h y i (omega arith)

  pub last_found : (l : List Element) → Last given l (last given l)
  last_found [] = λ x i h. absurd (omega arith)
  last_found (x ∷ l) = front x l (last given l) (given x) refl (last_found l)

  else_assoc : (o p q : Option Value) → else (else o p) q ≡ else o (else p q)
  else_assoc (Some v) p q = refl
  else_assoc None p q = refl

  else-none : (o : Option Value) → else o None ≡ o
  else-none (Some v) = refl
  else-none None = refl

  pub last-append : (k l : List Element) → last given (k ++ l) ≡ else (last given l) (last given k)
  last-append [] l = sym (else-none (last given l))
  last-append (x ∷ k) l = ap (λ o. else o (given x)) (last-append k l) ∙ else_assoc (last given l) (last given k) (given x)

pub lasts : (Element Value : Type 0) → Lasts Element Value
lasts Element Value = record { found = last_found; joined = last-append }
