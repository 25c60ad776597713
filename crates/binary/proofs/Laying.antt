-- Bytes with every 10 doubled, written one after the other.
use Rattle.std.proofs.Common.{◌≡◌, ℕ, ◌+◌, ◌<◌, ◌≤◌, cond, eqb, List, [], ◌∷◌, ◌++◌, length, get_or, take, set, sym, refl, ap, ◌∙◌, append_assoc, arith, length-append}
use Rattle.std.proofs.lemmas.List.{take_more}
use Rattle.std.proofs.lemmas.Bool.{eq-eqb, ne_eqb, cond-true, cond-false}
use Rattle.line.specs.Calls.{overlaid, starting_with}
use Rattle.line.proofs.Laying.{overlaid_more, overlaid_start, set_first, set_more}
use Rattle.binary.specs.Doubling.{doubled}
use Rattle.binary.specs.Frames.{framed}
use Rattle.binary.specs.DoublingLemmas.{doubled-append, length-doubled}

-- one more of `bytes`, behind the first `i` that stand from `a` to `k` already
module _ (e bytes s : List ℕ) (a i k : ℕ) (end : k ≡ a + length (doubled (take i bytes)))
    (laid : s ≡ overlaid e a (doubled (take i bytes))) (h : i < length bytes) (room : k + 2 ≤ length e) where
  next : doubled (take (i + 1) bytes) ≡ doubled (take i bytes) ++ (get_or bytes i 0 ∷ cond (eqb (get_or bytes i 0) 16) (16 ∷ []) [])
  next = ap doubled (take_more bytes i 0 h) ∙ doubled-append (take i bytes) (get_or bytes i 0 ∷ [])

  one : set s k (get_or bytes i 0) ≡ overlaid e a (doubled (take i bytes) ++ get_or bytes i 0 ∷ [])
  one = set_more e s (doubled (take i bytes)) a k (get_or bytes i 0) laid end (omega arith)

  longer : length (doubled (take i bytes) ++ get_or bytes i 0 ∷ []) ≡ length (doubled (take i bytes)) + 1
  longer = length-append (doubled (take i bytes)) (get_or bytes i 0 ∷ [])

  pub once : (get_or bytes i 0 ≡ 16 → ⊥)
      → (k + 1 ≡ a + length (doubled (take (i + 1) bytes))) × (set s k (get_or bytes i 0) ≡ overlaid e a (doubled (take (i + 1) bytes)))
  once n =
      let t : doubled (take (i + 1) bytes) ≡ doubled (take i bytes) ++ get_or bytes i 0 ∷ [] =
      next ∙ ap (λ (z : List ℕ). doubled (take i bytes) ++ get_or bytes i 0 ∷ z) (cond-false _ _ _ (ne_eqb _ 16 n)) in
      (omega (arith, ap length t, longer), one ∙ ap (overlaid e a) (sym t))

  pub twice : get_or bytes i 0 ≡ 16
      → (k + 2 ≡ a + length (doubled (take (i + 1) bytes)))
      × (set (set s k (get_or bytes i 0)) (k + 1) 16 ≡ overlaid e a (doubled (take (i + 1) bytes)))
  twice n =
      let p : List ℕ = doubled (take i bytes) ++ get_or bytes i 0 ∷ [] in
      let t : doubled (take (i + 1) bytes) ≡ p ++ 16 ∷ [] =
      next ∙ ap (λ (z : List ℕ). doubled (take i bytes) ++ get_or bytes i 0 ∷ z) (cond-true _ _ _ (eq-eqb _ 16 n))
      ∙ sym (append_assoc (doubled (take i bytes)) (get_or bytes i 0 ∷ []) (16 ∷ [])) in (
        omega (arith, ap length t, longer, length-append p (16 ∷ [])),
        set_more e (set s k (get_or bytes i 0)) p a (k + 1) 16 one (omega (arith, longer)) (omega arith) ∙ ap (overlaid e a) (sym t),
      )

-- a whole frame, part by part
pub frame_laid : (e f g head rest : List ℕ) (s k : ℕ) → length head ≡ 3 → length rest ≤ 64 → 138 ≤ length e
    → f ≡ overlaid (set (set e 0 16) 1 2) 2 (doubled head) → s ≡ 2 + length (doubled head)
    → g ≡ overlaid f s (doubled rest) → k ≡ s + length (doubled rest)
    → set (set g k 16) (k + 1) 3 ≡ starting_with (framed (head ++ rest)) e
frame_laid e f g head rest s k three short room is-f is-s is-g is-k =
    let h1 : List ℕ = doubled head in
    let h2 : List ℕ = doubled rest in
    let l1 = length-doubled head in
    let l2 = length-doubled rest in
    let l3 = length-append h1 h2 in
    let e0 : set e 0 16 ≡ overlaid e 0 (16 ∷ []) = set_first e 16 (omega arith) in
    let e1 : set (set e 0 16) 1 2 ≡ overlaid e 0 (16 ∷ 2 ∷ []) = set_more e (set e 0 16) (16 ∷ []) 0 1 2 e0 refl (omega arith) in
    let f1 : f ≡ overlaid e 0 (16 ∷ 2 ∷ h1) = is-f ∙ overlaid_more e (set (set e 0 16) 1 2) (16 ∷ 2 ∷ []) h1 0 2 e1 refl (omega arith) in
    let g1 : g ≡ overlaid e 0 (16 ∷ 2 ∷ (h1 ++ h2)) = is-g ∙ overlaid_more e f (16 ∷ 2 ∷ h1) h2 0 s f1 (omega arith) (omega arith) in
    let a = set_more e g (16 ∷ 2 ∷ (h1 ++ h2)) 0 k 16 g1 (omega arith) (omega arith) in
    let b = set_more e (set g k 16) ((16 ∷ 2 ∷ (h1 ++ h2)) ++ 16 ∷ []) 0 (k + 1) 3 a (omega (arith, length-append (16 ∷ 2 ∷ (h1 ++ h2)) (16 ∷ []))) (omega arith) in
    let r : ((16 ∷ 2 ∷ (h1 ++ h2)) ++ 16 ∷ []) ++ 3 ∷ [] ≡ framed (head ++ rest) =
    append_assoc (16 ∷ 2 ∷ (h1 ++ h2)) (16 ∷ []) (3 ∷ [])
    ∙ ap (λ (z : List ℕ). 16 ∷ 2 ∷ (z ++ 16 ∷ 3 ∷ [])) (sym (doubled-append head rest)) in
    b ∙ ap (overlaid e 0) r ∙ overlaid_start e (framed (head ++ rest))

pub frame_end : (head rest : List ℕ) (s k : ℕ) → s ≡ 2 + length (doubled head) → k ≡ s + length (doubled rest)
    → k + 2 ≡ length (framed (head ++ rest))
frame_end head rest s k is-s is-k =
    omega
    (arith, length-append (doubled (head ++ rest)) (16 ∷ 3 ∷ []), ap length (doubled-append head rest), length-append (doubled head) (doubled rest))
