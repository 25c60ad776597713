-- Lists that are apart may mix in any way.
use Rattle.std.proofs.Common.{◌≡◌, ℕ, zero, suc, ◌+◌, ◌<◌, ◌⊎◌, List, [], ◌∷◌, ◌++◌, length, get_or, sym, refl, ap, ◌∙◌, subst₂, inl, inr, ⊎_elim, arith, length-append}
use Rattle.std.proofs.lemmas.List.{get_or_at, get_or_append_left}
use Rattle.order.specs.Calls.{Calls, Meet}
use Rattle.order.specs.Reordering.{Rearranged}
use Rattle.order.specs.Mixing.{Mixed, none, from_first, from_second, Apart, Mixing}
use Rattle.order.proofs.Places.{skip, back, moved, skip_is, back_is, moved_is, skip_other, back_skip, skip_back, get_or_gap}

-- where c, which stands after b and before t in the first list, meets none of b, it may stand recast at the front of the second
module _ {Call Outcome Value State : Type 0} (calls : Calls Call Outcome Value State) (Recast : Call → Call → Type 0)
    (c d : Call) (b t n : List Call) (recast : Recast c d) (p : Rearranged calls Recast (b ++ t) n)
    (apart : (x : Call) (i : ℕ) → i < length b → Meet calls (get_or b i x) c → ⊥) where
  to_front : ℕ → ℕ
  to_front i = moved (length b) p.to i

  from_front : ℕ → ℕ
  from_front zero = length b
  from_front (suc j) = skip (length b) (p.from j)

  sizes : (length (b ++ c ∷ t) ≡ suc (length b + length t)) × (length (b ++ t) ≡ length b + length t)
  sizes = let g = length-append b (c ∷ t) in (omega arith, length-append b t)

  -- the place of c, and the other places of the first list
  front : to_front (length b) ≡ zero
  unfolding to_front
  front = ⊎_elim (λ h. h.1) (λ h. absurd (h.0 refl)) (moved_is (length b) p.to (length b))

  Other : ℕ → Type 0
  Other i = (i ≡ length b → ⊥) × (to_front i ≡ suc (p.to (back (length b) i)))

  place : (i : ℕ) → (i ≡ length b) ⊎ Other i
  unfolding Other to_front
  place i = ⊎_elim (λ h. inl h.0) inr (moved_is (length b) p.to i)

  back_below : (i : ℕ) → i < length (b ++ c ∷ t) → (i ≡ length b → ⊥) → back (length b) i < length (b ++ t)
  back_below i h o = let f = back_is (length b) i o in let g = sizes in omega arith

  at_here : (x : Call) → get_or (b ++ c ∷ t) (length b) x ≡ c
  at_here x = get_or_at b c t x (length b) refl

  at_other : (x : Call) (i : ℕ) → (i ≡ length b → ⊥) → get_or (b ++ c ∷ t) i x ≡ get_or (b ++ t) (back (length b) i) x
  at_other x i o = get_or_gap b t c x i o

  from_below : (j : ℕ) → j < length (d ∷ n) → from_front j < length (b ++ c ∷ t)
  unfolding from_front
  from_below zero h = let g = sizes in omega arith
  from_below (suc j) h =
      let f = skip_is (length b) (p.from j) in let g = p.from_below j (omega arith) in let u = sizes in omega arith

  to_from : (j : ℕ) → j < length (d ∷ n) → to_front (from_front j) ≡ j
  unfolding Other to_front from_front
  to_from zero h = front
  to_from (suc j) h =
      ⊎_elim (λ e. absurd (skip_other (length b) (p.from j) e))
      (λ (o : Other (skip (length b) (p.from j))).
      o.1 ∙ ap (λ k. suc (p.to k)) (back_skip (length b) (p.from j)) ∙ ap suc (p.to_from j (omega arith)))
      (place (skip (length b) (p.from j)))

  put_first : Rearranged calls Recast (b ++ c ∷ t) (d ∷ n)
  unfolding Other to_front from_front
  put_first = record {
    to = to_front;
    from = from_front;
    to_below = λ i h.
        ⊎_elim (λ (e : i ≡ length b). let f = front in let g = ap to_front e in omega arith)
        (λ (o : Other i). let f = p.to_below (back (length b) i) (back_below i h o.0) in let g = o.1 in omega arith)
        (place i);
    from_below = from_below;
    from_to = λ i h.
        ⊎_elim (λ (e : i ≡ length b). ap from_front (ap to_front e ∙ front) ∙ sym e)
        (λ (o : Other i).
        ap from_front o.1 ∙ ap (skip (length b)) (p.from_to (back (length b) i) (back_below i h o.0)) ∙
        skip_back (length b) i o.0)
        (place i);
    to_from = to_from;
    each = λ x i h.
        ⊎_elim
        (λ (e : i ≡ length b).
        subst₂ (λ (u v : Call). Recast u v) (sym (ap (λ (k : ℕ). get_or (b ++ c ∷ t) k x) e ∙ at_here x))
        (sym (ap (λ (k : ℕ). get_or (d ∷ n) k x) (ap to_front e ∙ front))) recast)
        (λ (o : Other i).
        subst₂ (λ (u v : Call). Recast u v) (sym (at_other x i o.0)) (sym (ap (λ (k : ℕ). get_or (d ∷ n) k x) o.1))
        (p.each x (back (length b) i) (back_below i h o.0)))
        (place i);
    keeps = λ x i j h k q.
        ⊎_elim
        (λ (e : j ≡ length b).
        let g : i < length b = omega arith in
        absurd
        (apart x i g
        (subst₂ (λ (u v : Call). Meet calls u v) (get_or_append_left b (c ∷ t) x i g)
        (ap (λ (m : ℕ). get_or (b ++ c ∷ t) m x) e ∙ at_here x) q)))
        (λ (o : Other j).
        ⊎_elim (λ (e : i ≡ length b). let f = ap to_front e in let g = front in let u = o.1 in omega arith)
        (λ (o' : Other i).
        let f = back_is (length b) i o'.0 in
        let g = back_is (length b) j o.0 in
        let u : p.to (back (length b) i) < p.to (back (length b) j) =
        p.keeps x (back (length b) i) (back (length b) j) (omega arith) (back_below j k o.0)
        (subst₂ (λ (u v : Call). Meet calls u v) (at_other x i o'.0) (at_other x j o.0) q) in
        let v = o.1 in let v' = o'.1 in omega arith)
        (place i))
        (place j);
  }

module _ {Call Outcome Value State : Type 0} (calls : Calls Call Outcome Value State) (Recast : Call → Call → Type 0) where
  empty : Rearranged calls Recast [] []
  empty = record {
    to = λ i. i;
    from = λ j. j;
    to_below = λ i h. h;
    from_below = λ j h. h;
    from_to = λ i h. refl;
    to_from = λ j h. refl;
    each = λ x i h. absurd (omega arith);
    keeps = λ x i j h k q. h;
  }

  mixed : {k l n : List Call} → Mixed Recast k l n → Apart calls k l → Rearranged calls Recast (k ++ l) n
  mixed none a = empty
  mixed (from_first {c = c} {d = d} {k = k} {l = l} {n = n} r m) a =
      put_first calls Recast c d [] (k ++ l) n r (mixed m (λ x i j h g q. a x (suc i) j (omega arith) g q))
      (λ x i h q. absurd (omega arith))
  mixed (from_second {c = c} {d = d} {k = k} {l = l} {n = n} r m) a =
      put_first calls Recast c d k l n r (mixed m (λ x i j h g q. a x i (suc j) h (omega arith) q))
      (λ x i h q. a x i 0 h (omega arith) q)

  pub mixing : Mixing calls Recast
  mixing k l n m a = mixed m a
