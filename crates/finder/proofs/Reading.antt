-- One turn of the loop that reads a binary frame pair by pair.
use Rattle.std.proofs.Common.{◌≡◌, ℕ, ◌+◌, ◌-◌, List, [], ◌∷◌, length, take, drop, sym, refl, ap, ◌∙◌, arith}
use Rattle.std.proofs.lemmas.List.{drop-drop, take_rest}
use Rattle.finder.specs.declared.Attempt.{Attempt}
use Rattle.finder.specs.declared.Inside.{Inside}
use Rattle.finder.specs.declared.Inside.TheVariants.{Byte, Ten}
use Rattle.finder.specs.Search.{inside, judged, binary}

pub byte : (n : ℕ) (o : Attempt) (bs : List ℕ) → inside bs ≡ Byte → binary 0 n bs o ≡ binary 0 (n + 1) (drop 1 bs) o
byte n o [] e = refl
byte n o (b ∷ bs) e = ap (λ (x : Inside). judged x n (λ k. binary (k - 1) (n + 1) bs o)) e

ten : (n : ℕ) (o : Attempt) (bs : List ℕ) → inside bs ≡ Ten → binary 0 n bs o ≡ binary 0 (n + 2) (drop 2 bs) o
ten n o [] e = refl
ten n o (b ∷ []) e = ap (λ (x : Inside). judged x n (λ k. binary (k - 1) (n + 1) [] o)) e
ten n o (b ∷ c ∷ bs) e =
    let two : n + 1 + 1 ≡ n + 2 = omega arith in
    ap (λ (x : Inside). judged x n (λ k. binary (k - 1) (n + 1) (c ∷ bs) o)) e ∙ ap (λ (m : ℕ). binary 0 m bs o) two

pub two_read : (window : List ℕ) (o : Attempt) → binary 2 0 window o ≡ binary 0 2 (drop 2 window) o
two_read [] o = refl
two_read (b ∷ []) o = refl
two_read (b ∷ c ∷ bs) o = refl

module _ (window : List ℕ) (n : ℕ) (o whole : Attempt) (inv : whole ≡ binary 0 n (drop n window) o) where
  pub byte_read : Byte ≡ inside (take (length window - n) (drop n window)) → whole ≡ binary 0 (n + 1) (drop (n + 1) window) o
  byte_read e = inv ∙ byte n o (drop n window) (sym (e ∙ ap inside (take_rest window n))) ∙ ap (λ (x : List ℕ). binary 0 (n + 1) x o) (drop-drop 1 n window)

  pub ten_read : Ten ≡ inside (take (length window - n) (drop n window)) → whole ≡ binary 0 (n + 2) (drop (n + 2) window) o
  ten_read e = inv ∙ ten n o (drop n window) (sym (e ∙ ap inside (take_rest window n))) ∙ ap (λ (x : List ℕ). binary 0 (n + 2) x o) (drop-drop 2 n window)
