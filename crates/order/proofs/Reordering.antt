-- The theorem on order, by induction on the first list. Its first call stands at some place of the other list and meets none of
-- the calls before that place, so it may be made first there too; without it, the two lists are again one rearranged into the other.
use Rattle.std.proofs.Common.{◌≡◌, ℕ, zero, suc, ◌+◌, ◌-◌, ◌<◌, List, [], ◌∷◌, ◌++◌, length, get_or, take, drop, sym, ap, ◌∙◌, subst, arith, length-append}
use lib.Seq.{split_at}
use Rattle.std.proofs.lemmas.List.{get_or_at, get_or_append_left, length-take-le}
use Rattle.order.specs.Calls.{Calls, Agree, Premises, Meet, outcomes, final}
use Rattle.order.specs.Reordering.{Rearranged, SameRun, Reorderable}
use Rattle.order.proofs.Places.{skip, back, skip_is, back_is, skip_other, back_skip, skip_back, get_or_gap}
use Rattle.order.proofs.Runs.{length-outcomes, outcomes-append, meet_alike, outcome_agree, after_agree, outcomes_first, final_first}

-- c is the first call of the first list, and d is that call, recast, in the second: after b and before t
module _ {Call Outcome Value State : Type 0} (calls : Calls Call Outcome Value State) (Recast : Call → Call → Type 0)
    (c : Call) (l l' b t : List Call) (d : Call) (p : Rearranged calls Recast (c ∷ l) l')
    (e : l' ≡ b ++ d ∷ t) (z : p.to 0 ≡ length b) where
  sizes : (length l' ≡ suc (length b + length t)) × (length (b ++ t) ≡ length b + length t)
  sizes = let f = ap length e in let g = length-append b (d ∷ t) in (omega arith, length-append b t)

  -- no other call of the first list stands there
  other : (i : ℕ) → i < length l → p.to (suc i) ≡ length b → ⊥
  other i h q =
      let f : p.from (p.to (suc i)) ≡ suc i = p.from_to (suc i) (omega arith) in
      let g : p.from (p.to 0) ≡ 0 = p.from_to 0 (omega arith) in
      let k : p.from (p.to (suc i)) ≡ p.from (p.to 0) = ap p.from (q ∙ sym z) in omega arith

  later : (j : ℕ) → j < length l' → (j ≡ length b → ⊥) → p.from j ≡ 0 → ⊥
  later j h n q =
      let f : p.to (p.from j) ≡ j = p.to_from j h in
      let k : p.to (p.from j) ≡ p.to 0 = ap p.to q in n (omega arith)

  first : Recast c d
  first =
      subst (λ (y : Call). Recast c y)
      (ap (λ (q : List Call). get_or q (p.to 0) d) e ∙ get_or_at b d t d (p.to 0) (sym z))
      (p.each d 0 (omega arith))

  before : (j : ℕ) → j < length b → Recast (get_or (c ∷ l) (p.from j) d) (get_or b j d)
  before j h =
      let g = sizes in
      subst (λ (y : Call). Recast (get_or (c ∷ l) (p.from j) d) y)
      (ap (λ (i : ℕ). get_or l' i d) (p.to_from j (omega arith)) ∙ ap (λ (q : List Call). get_or q j d) e ∙
      get_or_append_left b (d ∷ t) d j h)
      (p.each d (p.from j) (p.from_below j (omega arith)))

  -- the places without those two calls
  to_rest : ℕ → ℕ
  to_rest i = back (length b) (p.to (suc i))

  from_rest : ℕ → ℕ
  from_rest j = p.from (skip (length b) j) - 1

  skip_below : (j : ℕ) → j < length (b ++ t) → skip (length b) j < length l'
  skip_below j h = let f = skip_is (length b) j in let g = sizes in omega arith

  suc_from_rest : (j : ℕ) → j < length (b ++ t) → suc (from_rest j) ≡ p.from (skip (length b) j)
  unfolding from_rest
  suc_from_rest j h = let f = later (skip (length b) j) (skip_below j h) (skip_other (length b) j) in omega arith

  rest : Rearranged calls Recast l (b ++ t)
  unfolding to_rest from_rest
  rest = record {
    to = to_rest;
    from = from_rest;
    to_below = λ i h.
        let f = back_is (length b) (p.to (suc i)) (other i h) in
        let g = p.to_below (suc i) (omega arith) in
        let u = sizes in omega arith;
    from_below = λ j h.
        let f = p.from_below (skip (length b) j) (skip_below j h) in
        let g = suc_from_rest j h in omega arith;
    from_to = λ i h.
        let f : p.from (skip (length b) (back (length b) (p.to (suc i)))) ≡ p.from (p.to (suc i)) =
        ap p.from (skip_back (length b) (p.to (suc i)) (other i h)) in
        let g : p.from (p.to (suc i)) ≡ suc i = p.from_to (suc i) (omega arith) in omega arith;
    to_from = λ j h.
        ap (λ (i : ℕ). back (length b) (p.to i)) (suc_from_rest j h) ∙
        ap (back (length b)) (p.to_from (skip (length b) j) (skip_below j h)) ∙ back_skip (length b) j;
    each = λ x i h.
        subst (λ (y : Call). Recast (get_or l i x) y)
        (ap (λ (q : List Call). get_or q (p.to (suc i)) x) e ∙ get_or_gap b t d x (p.to (suc i)) (other i h))
        (p.each x (suc i) (omega arith));
    keeps = λ x i j h k q.
        let o : i < length l = omega arith in
        let f = back_is (length b) (p.to (suc i)) (other i o) in
        let g = back_is (length b) (p.to (suc j)) (other j k) in
        let u : p.to (suc i) < p.to (suc j) = p.keeps x (suc i) (suc j) (omega arith) (omega arith) q in omega arith;
  }

  module _ (Same : Outcome → Outcome → Type 0) (w : Premises calls Recast Same) where
    -- d meets none of the calls before it: the one that it met would stand after c in the first list
    none_meet : (j : ℕ) → j < length b → Meet calls d (get_or b j d) → ⊥
    none_meet j h q =
        let g = sizes in
        let f : p.from j ≡ 0 → ⊥ = later j (omega arith) (omega arith) in
        let k : p.to 0 < p.to (p.from j) =
        p.keeps d 0 (p.from j) (omega arith) (p.from_below j (omega arith))
        (meet_alike calls Same c d (get_or (c ∷ l) (p.from j) d) (get_or b j d)
        (w.recast c d first) (w.recast (get_or (c ∷ l) (p.from j) d) (get_or b j d) (before j h)) q) in
        let u : p.to (p.from j) ≡ j = p.to_from j (omega arith) in omega arith

    module _ (s s' : State) (a : Agree calls s s') where
      after_first : Agree calls (calls.after c s) (calls.after d s')
      after_first r = after_agree calls w.local c s s' a r ∙ (w.recast c d first).after s' r

      -- the outcomes of the second list, with d made first
      made_first : outcomes calls l' s' ≡
          outcomes calls b (calls.after d s') ++ calls.outcome d s' ∷ outcomes calls t (final calls b (calls.after d s'))
      made_first = ap (λ (q : List Call). outcomes calls q s') e ∙ outcomes_first calls w.local d b t s' none_meet

      outcome_at : (x : Outcome) (i : ℕ) → i < length (c ∷ l) →
          ((j : ℕ) → j < length l → Same (get_or (outcomes calls l (calls.after c s)) j x) (get_or (outcomes calls (b ++ t) (calls.after d s')) (to_rest j) x)) →
          Same (get_or (outcomes calls (c ∷ l) s) i x) (get_or (outcomes calls l' s') (p.to i) x)
      unfolding to_rest
      outcome_at x zero h f =
          let u : calls.outcome c s' ≡ calls.outcome c s = sym (outcome_agree calls w.local c s s' a) in
          let v : calls.outcome d s' ≡ get_or (outcomes calls l' s') (p.to 0) x =
          sym
          (ap (λ (q : List Outcome). get_or q (p.to 0) x) made_first ∙
          get_or_at (outcomes calls b (calls.after d s')) (calls.outcome d s') (outcomes calls t (final calls b (calls.after d s'))) x (p.to 0)
          (length-outcomes calls b (calls.after d s') ∙ sym z)) in
          subst (λ (o : Outcome). Same o (get_or (outcomes calls l' s') (p.to 0) x)) u
          (subst (λ (o : Outcome). Same (calls.outcome c s') o) v ((w.recast c d first).outcome s'))
      outcome_at x (suc i) h f =
          let k : length (outcomes calls b (calls.after d s')) ≡ length b = length-outcomes calls b (calls.after d s') in
          subst (λ (o : Outcome). Same (get_or (outcomes calls l (calls.after c s)) i x) o)
          (ap (λ (q : List Outcome). get_or q (back (length b) (p.to (suc i))) x) (outcomes-append calls b t (calls.after d s')) ∙
          ap (λ (n : ℕ). get_or (outcomes calls b (calls.after d s') ++ outcomes calls t (final calls b (calls.after d s'))) (back n (p.to (suc i))) x) (sym k) ∙
          sym
          (ap (λ (q : List Outcome). get_or q (p.to (suc i)) x) made_first ∙
          get_or_gap (outcomes calls b (calls.after d s')) (outcomes calls t (final calls b (calls.after d s'))) (calls.outcome d s') x (p.to (suc i))
          (λ q. other i (omega arith) (q ∙ k))))
          (f i (omega arith))

      step : SameRun calls Same l (b ++ t) to_rest (calls.after c s) (calls.after d s') → SameRun calls Same (c ∷ l) l' p.to s s'
      step f = record {
        outcome = λ x i h. outcome_at x i h (f.outcome x);
        agree = λ r.
            f.agree r ∙ sym (final_first calls w.local d b t s' none_meet r) ∙
            sym (ap (λ (q : List Call). calls.row (final calls q s') r) e);
      }

pub reordering : {Call Outcome Value State : Type 0} (calls : Calls Call Outcome Value State)
    (Recast : Call → Call → Type 0) (Same : Outcome → Outcome → Type 0) → Premises calls Recast Same → Reorderable calls Recast Same
unfolding to_rest rest
reordering calls Recast Same w [] [] p s s' a = record { outcome = λ x i h. absurd (omega arith); agree = a }
reordering calls Recast Same w [] (d ∷ l') p s s' a = let h = p.from_below 0 (omega arith) in absurd (omega arith)
reordering calls Recast Same w (c ∷ l) l' p s s' a =
    let k : ℕ = p.to 0 in
    let h : k < length l' = p.to_below 0 (omega arith) in
    let b : List _ = take k l' in
    let t : List _ = drop (suc k) l' in
    let d = get_or l' k c in
    let e : l' ≡ b ++ d ∷ t = split_at l' k c h in
    let z : k ≡ length b = sym (length-take-le k l' (omega arith)) in
    step calls Recast c l l' b t d p e z Same w s s' a
    (reordering calls Recast Same w l (b ++ t) (rest calls Recast c l l' b t d p e z)
    (calls.after c s) (calls.after d s') (after_first calls Recast c l l' b t d p e z Same w s s' a))
