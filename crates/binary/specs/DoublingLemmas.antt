-- The doubling and its inverse.
use Rattle.std.specs.Prelude.{◌≡◌, ℕ, suc, ◌*◌, ◌≤◌, Bool, true, false, cond, List, [], ◌∷◌, ◌++◌, length, Some, None, Option, ◌==◌, refl}
use Rattle.std.proofs.Common.{sym, ◌∙◌, ap, inl, inr, arith}
use Rattle.std.proofs.lemmas.Bool.{eqb-true, cond-true, cond-false, cases_Bool}
use Rattle.std.specs.Option.{option_map}
use Rattle.binary.specs.Doubling.{doubled, undoubled, Inverse}

cond-append : (b : Bool) (xs ys : List ℕ) → cond b (16 ∷ (xs ++ ys)) (xs ++ ys) ≡ cond b (16 ∷ xs) xs ++ ys
cond-append true xs ys = refl
cond-append false xs ys = refl

pub doubled-append : (xs ys : List ℕ) → doubled (xs ++ ys) ≡ doubled xs ++ doubled ys
doubled-append [] ys = refl
doubled-append (x ∷ xs) ys =
    ap (λ (z : List ℕ). x ∷ cond (x == 16) (16 ∷ z) z) (doubled-append xs ys)
    ∙ ap (λ (z : List ℕ). x ∷ z) (cond-append (x == 16) (doubled xs) (doubled ys))

length-cond : (b : Bool) (xs : List ℕ) → length (cond b (16 ∷ xs) xs) ≤ suc (length xs)
length-cond true xs = omega arith
length-cond false xs = omega arith

pub length-doubled : (xs : List ℕ) → length (doubled xs) ≤ 2 * length xs
length-doubled [] = omega arith
length-doubled (x ∷ xs) = omega (arith, length-doubled xs, length-cond (x == 16) (doubled xs))

-- a byte other than 10 stands for itself
pub undoubled-plain : (x : ℕ) (r : List ℕ) → (x == 16) ≡ false → undoubled (x ∷ r) ≡ option_map (λ p. x ∷ p) (undoubled r)
undoubled-plain x [] n = cond-false _ _ _ n
undoubled-plain x (b ∷ r) n = cond-false _ _ _ n

undoubled-doubled : (p : List ℕ) → undoubled (doubled p) ≡ Some p
undoubled-doubled [] = refl
undoubled-doubled (x ∷ p) =
    let rest = ap (option_map (λ q. x ∷ q)) (undoubled-doubled p) in
    elim (cases_Bool (x == 16)) [
      | inl t ↦
          ap (λ (z : List ℕ). undoubled (x ∷ z)) (cond-true (x == 16) (16 ∷ doubled p) (doubled p) t) ∙ cond-true _ _ _ t ∙ rest
      | inr t ↦
          ap (λ (z : List ℕ). undoubled (x ∷ z)) (cond-false (x == 16) (16 ∷ doubled p) (doubled p) t)
          ∙ undoubled-plain x (doubled p) t ∙ rest
    ]

never : {A : Type 0} (x : A) → ◌≡◌ {A = Option A} None (Some x) → ⊥
never x e = cc

mapped_of : (a : ℕ) (o : Option (List ℕ)) (p : List ℕ) → option_map (λ q. a ∷ q) o ≡ Some p → (q : List ℕ) × (o ≡ Some q) × (p ≡ a ∷ q)
mapped_of a None p e = absurd (never p e)
mapped_of a (Some q) p e = (q, refl, cc)

doubled-undoubled : (r p : List ℕ) → undoubled r ≡ Some p → doubled p ≡ r
doubled-undoubled [] p e = let w : [] ≡ p = cc in ap doubled (sym w)
doubled-undoubled (a ∷ []) p e =
    elim (cases_Bool (a == 16)) [
      | inl t ↦ absurd (never p (sym (cond-true (a == 16) None (Some (a ∷ [])) t) ∙ e))
      | inr t ↦
          let f : ◌≡◌ {A = Option (List ℕ)} (Some (a ∷ [])) (Some p) = sym (cond-false (a == 16) None (Some (a ∷ [])) t) ∙ e in
          let w : p ≡ a ∷ [] = cc in
          ap doubled w ∙ ap (λ (z : List ℕ). a ∷ z) (cond-false (a == 16) (16 ∷ []) [] t)
    ]
doubled-undoubled (a ∷ b ∷ r) p e =
    elim (cases_Bool (a == 16)) [
      | inl t ↦
          let e1 = sym (cond-true (a == 16) _ _ t) ∙ e in
          elim (cases_Bool (b == 16)) [
            | inl u ↦
                let f = mapped_of a (undoubled r) p (sym (cond-true (b == 16) _ _ u) ∙ e1) in
                ap doubled f.2 ∙ ap (λ (z : List ℕ). a ∷ z) (cond-true (a == 16) (16 ∷ doubled f.0) (doubled f.0) t)
                ∙ ap (λ (z : List ℕ). a ∷ 16 ∷ z) (doubled-undoubled r f.0 f.1) ∙ ap (λ (z : ℕ). a ∷ z ∷ r) (sym (eqb-true b 16 u))
            | inr u ↦ absurd (never p (sym (cond-false (b == 16) _ _ u) ∙ e1))
          ]
      | inr t ↦
          let f = mapped_of a (undoubled (b ∷ r)) p (sym (cond-false (a == 16) _ _ t) ∙ e) in
          ap doubled f.2 ∙ ap (λ (z : List ℕ). a ∷ z) (cond-false (a == 16) (16 ∷ doubled f.0) (doubled f.0) t)
          ∙ ap (λ (z : List ℕ). a ∷ z) (doubled-undoubled (b ∷ r) f.0 f.1)
    ]

pub inverse : Inverse
inverse = record { undoes = undoubled-doubled; doubles = doubled-undoubled }
