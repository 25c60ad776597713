-- Runs of local calls: a run goes by what the rows hold, and a call that meets none of those before it may be made first.
use Rattle.std.proofs.Common.{◌≡◌, ℕ, zero, suc, ◌<◌, true, false, List, [], ◌∷◌, ◌++◌, length, get_or, take, sym, refl, ap, ◌∙◌, inl, inr, ⊎_elim, arith}
use Rattle.std.proofs.lemmas.Bool.{cases_Bool}
use Rattle.order.specs.Calls.{Calls, Local, Agree, AgreeFor, Alike, Meet, outcomes, final}
use Rattle.order.specs.Runs.{Runs}

module _ {Call Outcome Value State : Type 0} (calls : Calls Call Outcome Value State) where
  pub length-outcomes : (l : List Call) (s : State) → length (outcomes calls l s) ≡ length l
  length-outcomes [] s = refl
  length-outcomes (c ∷ l) s = ap suc (length-outcomes l (calls.after c s))

  pub outcomes-append : (b t : List Call) (s : State) → outcomes calls (b ++ t) s ≡ outcomes calls b s ++ outcomes calls t (final calls b s)
  outcomes-append [] t s = refl
  outcomes-append (c ∷ b) t s = ap (λ q. calls.outcome c s ∷ q) (outcomes-append b t (calls.after c s))

  pub final-append : (b t : List Call) (s : State) → final calls (b ++ t) s ≡ final calls t (final calls b s)
  final-append [] t s = refl
  final-append (c ∷ b) t s = final-append b t (calls.after c s)

  outcome_at : (x : Call) (y : Outcome) (l : List Call) (s : State) (i : ℕ) → i < length l →
      get_or (outcomes calls l s) i y ≡ calls.outcome (get_or l i x) (final calls (take i l) s)
  outcome_at x y [] s i h = absurd (omega arith)
  outcome_at x y (c ∷ l) s zero h = refl
  outcome_at x y (c ∷ l) s (suc i) h = outcome_at x y l (calls.after c s) i (omega arith)

  pub runs : Runs calls
  runs = record { as_many = length-outcomes; place = outcome_at; joined_outcomes = outcomes-append; joined_final = final-append }

  meet_sym : (c d : Call) → Meet calls c d → Meet calls d c
  meet_sym c d (r, inl h) = (r, inr h)
  meet_sym c d (r, inr h) = (r, inl h)

  -- calls that are alike meet the same calls
  pub meet_alike : (Same : Outcome → Outcome → Type 0) (c d e f : Call) → Alike calls Same c d → Alike calls Same e f → Meet calls d f → Meet calls c e
  meet_alike Same c d e f a b (r, inl k) = (r, inl (a.writes r ∙ k.0, b.concerns r ∙ k.1))
  meet_alike Same c d e f a b (r, inr k) = (r, inr (b.writes r ∙ k.0, a.concerns r ∙ k.1))

module _ {Call Outcome Value State : Type 0} (calls : Calls Call Outcome Value State) (w : Local calls) where
  -- from states that agree, a call and a run have equal outcomes and leave states that agree
  pub outcome_agree : (c : Call) (s s' : State) → Agree calls s s' → calls.outcome c s ≡ calls.outcome c s'
  outcome_agree c s s' h = w.outcome_by c s s' (λ q _. h q)

  pub after_agree : (c : Call) (s s' : State) → Agree calls s s' → Agree calls (calls.after c s) (calls.after c s')
  after_agree c s s' h r =
      ⊎_elim (λ e. w.written_by c s s' (λ q _. h q) r e)
      (λ e. w.others_stay c s r e ∙ h r ∙ sym (w.others_stay c s' r e)) (cases_Bool (calls.writes c r))

  outcomes_agree : (l : List Call) (s s' : State) → Agree calls s s' → outcomes calls l s ≡ outcomes calls l s'
  outcomes_agree [] s s' h = refl
  outcomes_agree (c ∷ l) s s' h =
      let e = outcome_agree c s s' h in
      let f = outcomes_agree l (calls.after c s) (calls.after c s') (after_agree c s s' h) in cc

  final_agree : (l : List Call) (s s' : State) → Agree calls s s' → Agree calls (final calls l s) (final calls l s')
  final_agree [] s s' h = h
  final_agree (c ∷ l) s s' h = final_agree l (calls.after c s) (calls.after c s') (after_agree c s s' h)

  -- a call leaves alone the rows of a call that it does not meet
  unwritten : (d e : Call) → (Meet calls d e → ⊥) → (r : ℕ) → calls.concerns e r ≡ true → calls.writes d r ≡ false
  unwritten d e n r h = ⊎_elim (λ k. absurd (n (r, inl (k, h)))) (λ k. k) (cases_Bool (calls.writes d r))

  untouched : (d e : Call) (s : State) → (Meet calls d e → ⊥) → AgreeFor calls e (calls.after d s) s
  untouched d e s n r h = w.others_stay d s r (unwritten d e n r h)

  -- two calls that do not meet leave the same in either order
  commute : (d e : Call) (s : State) → (Meet calls d e → ⊥) → Agree calls (calls.after d (calls.after e s)) (calls.after e (calls.after d s))
  commute d e s n r =
      let n' : Meet calls e d → ⊥ = λ h. n (meet_sym calls e d h) in
      ⊎_elim
      (λ (k : calls.writes d r ≡ true).
      w.written_by d (calls.after e s) s (untouched e d s n') r k ∙
      sym (w.others_stay e (calls.after d s) r (unwritten e d n' r (w.written_concerns d r k))))
      (λ (k : calls.writes d r ≡ false).
      w.others_stay d (calls.after e s) r k ∙
      ⊎_elim (λ (q : calls.writes e r ≡ true). sym (w.written_by e (calls.after d s) s (untouched d e s n) r q))
      (λ (q : calls.writes e r ≡ false).
      w.others_stay e s r q ∙ sym (w.others_stay d s r k) ∙ sym (w.others_stay e (calls.after d s) r q))
      (cases_Bool (calls.writes e r)))
      (cases_Bool (calls.writes d r))

  -- the call d, which meets none of b, is made first
  pub outcomes_first : (d : Call) (b t : List Call) (s : State) → ((j : ℕ) → j < length b → Meet calls d (get_or b j d) → ⊥) →
      outcomes calls (b ++ d ∷ t) s ≡
      outcomes calls b (calls.after d s) ++ calls.outcome d s ∷ outcomes calls t (final calls b (calls.after d s))
  outcomes_first d [] t s n = refl
  outcomes_first d (e ∷ b) t s n =
      let n₀ : Meet calls d e → ⊥ = n 0 (omega arith) in
      let a = commute d e s n₀ in
      let e₀ = outcomes_first d b t (calls.after e s) (λ j h. n (suc j) (omega arith)) in
      let e₁ = w.outcome_by e (calls.after d s) s (untouched d e s n₀) in
      let e₂ = outcomes_agree b (calls.after d (calls.after e s)) (calls.after e (calls.after d s)) a in
      let e₃ = w.outcome_by d (calls.after e s) s (untouched e d s (λ h. n₀ (meet_sym calls e d h))) in
      let e₄ =
      outcomes_agree t (final calls b (calls.after d (calls.after e s))) (final calls b (calls.after e (calls.after d s)))
      (final_agree b (calls.after d (calls.after e s)) (calls.after e (calls.after d s)) a) in
      cc

  pub final_first : (d : Call) (b t : List Call) (s : State) → ((j : ℕ) → j < length b → Meet calls d (get_or b j d) → ⊥) →
      Agree calls (final calls (b ++ d ∷ t) s) (final calls (b ++ t) (calls.after d s))
  final_first d [] t s n r = refl
  final_first d (e ∷ b) t s n r =
      final_first d b t (calls.after e s) (λ j h. n (suc j) (omega arith)) r ∙
      final_agree (b ++ t) (calls.after d (calls.after e s)) (calls.after e (calls.after d s)) (commute d e s (n 0 (omega arith))) r
