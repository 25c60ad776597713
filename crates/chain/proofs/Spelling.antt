-- Values by the bytes that they are made of.
use Rattle.std.proofs.Common.{◌≡◌, ℕ, ◌+◌, ◌<◌, ◌≤◌, true, false, cond, eqb, ltb, List, [], ◌∷◌, length, take, Some, None, Ok, Err, Option, Result, sym, refl, ap, ◌∙◌, ⊎_elim, arith}
use Rattle.std.specs.List.{position, position_or_len}
use Rattle.std.specs.Option.{unwrap_or}
use Rattle.std.proofs.lemmas.List.{take-take}
use Rattle.std.proofs.lemmas.List.Recursion.{is_position_or_len}
use Rattle.std.proofs.lemmas.List.Sums.{prefix_len-le-length}
use Rattle.std.proofs.lemmas.Bool.{cases_Bool, cond-true, cond-false, eq-eqb, le-ltb, lt-ltb, ltb-false}
use Rattle.chain.specs.declared.fault.RackFault.{RackFault}
use Rattle.chain.specs.declared.fault.RackFault.TheVariants.{BadValue}
use Rattle.chain.specs.Faults.{missing}
use Rattle.chain.specs.Values.{before_zero, open_at}

one_more : (b : ℕ) (bs : List ℕ) → length (before_zero (b ∷ bs)) ≡ cond (eqb b 0) 0 (1 + length (before_zero bs))
one_more b bs =
    elim (eqb b 0) as (λ v. length (cond v [] (b ∷ before_zero bs)) ≡ cond v 0 (1 + length (before_zero bs))) [ true ↦ refl | false ↦ omega arith ]

front_length : (bs : List ℕ) → length (before_zero bs) ≡ position_or_len (λ b. eqb b 0) bs
front_length bs = is_position_or_len (λ xs. length (before_zero xs)) (λ b. eqb b 0) refl one_more bs

-- the place of the first 00, or the length where there is none, tells how many bytes stand before it
pub zero_found : (bs : List ℕ) → unwrap_or (position (λ b. eqb b 0) bs) (length bs) ≡ length (before_zero bs)
zero_found bs =
    let n : ℕ = position_or_len (λ b. eqb b 0) bs in
    ⊎_elim
    (λ (k : ltb n (length bs) ≡ true). ap (λ (o : Option ℕ). unwrap_or o (length bs)) (cond-true (ltb n (length bs)) (Some n) None k) ∙ sym (front_length bs))
    (λ (k : ltb n (length bs) ≡ false).
    let m = ltb-false n (length bs) k in
    let l : n ≤ length bs = prefix_len-le-length _ bs in
    let q : length bs ≡ n = omega arith in
    ap (λ (o : Option ℕ). unwrap_or o (length bs)) (cond-false (ltb n (length bs)) (Some n) None k) ∙ q ∙ sym (front_length bs))
    (cases_Bool (ltb n (length bs)))

-- the bytes before the first 00 are the front of that length
pub before_front : (bs : List ℕ) → take (length (before_zero bs)) bs ≡ before_zero bs
before_front [] = refl
before_front (b ∷ bs) =
    ⊎_elim
    (λ (k : eqb b 0 ≡ true). let c = cond-true (eqb b 0) [] (b ∷ before_zero bs) k in ap (λ (x : List ℕ). take (length x) (b ∷ bs)) c ∙ sym c)
    (λ (k : eqb b 0 ≡ false).
    let c = cond-false (eqb b 0) [] (b ∷ before_zero bs) k in
    ap (λ (x : List ℕ). take (length x) (b ∷ bs)) c ∙ ap (λ (x : List ℕ). b ∷ x) (before_front bs) ∙ sym c)
    (cases_Bool (eqb b 0))

module _ (xs bs : List ℕ) (n size i : ℕ) (e : xs ≡ n ∷ bs) (f : n ≡ 0) (s : size ≡ length (before_zero bs)) where
  pub open_long : 24 < size → ◌≡◌ {A = Result (List ℕ × ℕ) RackFault} (Err (BadValue i)) (open_at i xs)
  open_long h = let p = eq-eqb n 0 f in let q : 24 < length (before_zero bs) = omega arith in let r = lt-ltb 24 (length (before_zero bs)) q in simp (e, p, r)

  pub open_unended : size ≤ 24 → length bs ≤ size → ◌≡◌ {A = Result (List ℕ × ℕ) RackFault} (Err (missing (i + 1 + length bs))) (open_at i xs)
  open_unended h k =
      let p = eq-eqb n 0 f in
      let q : length (before_zero bs) ≤ 24 = omega arith in
      let r = le-ltb 24 (length (before_zero bs)) q in
      let t : length bs ≤ length (before_zero bs) = omega arith in
      let u = le-ltb (length (before_zero bs)) (length bs) t in
      simp (e, p, r, u)

  -- the bytes taken are the text and the 00 behind it
  pub open_taken : (ended : List ℕ) (used : ℕ) → size ≤ 24 → size + 1 ≤ length bs → ended ≡ take (size + 1) bs → used ≡ size + 2 →
      ◌≡◌ {A = Result (List ℕ × ℕ) RackFault} (Ok (take size ended, used)) (open_at i xs)
  open_taken ended used h k g w =
      let p = eq-eqb n 0 f in
      let q : length (before_zero bs) ≤ 24 = omega arith in
      let r = le-ltb 24 (length (before_zero bs)) q in
      let t : length (before_zero bs) < length bs = omega arith in
      let u = lt-ltb (length (before_zero bs)) (length bs) t in
      let v : take size ended ≡ before_zero bs =
      ap (take size) g ∙ take-take size (size + 1) bs (omega arith) ∙ ap (λ (k : ℕ). take k bs) s ∙ before_front bs in
      let z : used ≡ length (before_zero bs) + 2 = omega arith in
      simp (e, p, r, u, v, z)
