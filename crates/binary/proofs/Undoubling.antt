-- Undoing the doubling, byte by byte.
use Rattle.std.proofs.Common.{◌≡◌, ℕ, suc, ◌-◌, ◌≤◌, true, ◌&&◌, eqb, List, [], ◌∷◌, ◌++◌, length, get_or, take, drop, nat_eq, Some, None, Option, sym, refl, ap, ◌∙◌, append_assoc, length-take, length-drop, arith}
use Rattle.std.proofs.lemmas.List.{take_all}
use Rattle.std.proofs.lemmas.Bool.{eq-eqb, ne_eqb, cond-true, and_parts}
use Rattle.std.specs.Cmp.Lexicographic.{pointwise}
use Rattle.std.specs.Option.{option_map}
use Rattle.binary.specs.Doubling.{undoubled}
use Rattle.binary.specs.DoublingLemmas.{undoubled-plain}

-- what is undone, behind bytes that are there already
abbrev pub behind : List ℕ → Option (List ℕ) → Option (List ℕ)
behind bytes more = option_map (λ p. bytes ++ p) more

behind_more : (bytes : List ℕ) (b : ℕ) (o : Option (List ℕ)) → behind bytes (option_map (λ p. b ∷ p) o) ≡ behind (bytes ++ b ∷ []) o
behind_more bytes b None = refl
behind_more bytes b (Some p) = ap (λ (z : List ℕ). Some z) (sym (append_assoc bytes (b ∷ []) p))

pub behind_nothing : (bytes : List ℕ) (o : Option (List ℕ)) → bytes ≡ [] → o ≡ behind bytes o
behind_nothing bytes None e = refl
behind_nothing bytes (Some p) e = rw e refl

-- what stands behind the first byte, as code cuts it
abbrev pub others : List ℕ → List ℕ
others r = take (length r - 1) (drop 1 r)

pub length-others : (r : List ℕ) → length (others r) ≡ length r - 1
length-others r = simp (length-take, length-drop) (omega arith)

undoubled_plain : (r next : List ℕ) → 1 ≤ length r → (get_or r 0 0 ≡ 16 → ⊥) → next ≡ others r
    → undoubled r ≡ option_map (λ p. get_or r 0 0 ∷ p) (undoubled next)
undoubled_plain [] next some n is = absurd (omega arith)
undoubled_plain (b ∷ r) next some n is =
    let all : next ≡ r = is ∙ take_all (suc (length r) - 1) r (omega arith) in
    simp all (undoubled-plain b r (ne_eqb b 16 n))

undoubled_twice : (r next : List ℕ) → get_or r 0 0 ≡ 16 → pointwise nat_eq (take 1 (others r)) (16 ∷ []) ≡ true → next ≡ drop 1 (others r)
    → undoubled r ≡ option_map (λ p. get_or r 0 0 ∷ p) (undoubled next)
undoubled_twice [] next h second is = absurd (omega arith)
undoubled_twice (a ∷ []) next h second is = cc
undoubled_twice (a ∷ b ∷ r) next h second is =
    let all : take (suc (suc (length r)) - 1) (b ∷ r) ≡ b ∷ r = take_all _ _ (omega arith) in
    let left : next ≡ r = is ∙ ap (drop 1) all in
    let both : eqb b 16 && true ≡ true = rw all at second in
    simp left (cond-true (eqb a 16) _ _ (eq-eqb a 16 h) ∙ cond-true (eqb b 16) _ _ (and_parts (eqb b 16) true both).0)

-- one byte more, of what is left to undo
module _ (text bytes r next : List ℕ) (inv : undoubled text ≡ behind bytes (undoubled r)) where
  pub plain : 1 ≤ length r → (get_or r 0 0 ≡ 16 → ⊥) → next ≡ others r → undoubled text ≡ behind (bytes ++ get_or r 0 0 ∷ []) (undoubled next)
  plain some n is = inv ∙ ap (behind bytes) (undoubled_plain r next some n is) ∙ behind_more bytes (get_or r 0 0) (undoubled next)

  pub twice : get_or r 0 0 ≡ 16 → pointwise nat_eq (take 1 (others r)) (16 ∷ []) ≡ true → next ≡ drop 1 (others r)
      → undoubled text ≡ behind (bytes ++ get_or r 0 0 ∷ []) (undoubled next)
  twice h second is = inv ∙ ap (behind bytes) (undoubled_twice r next h second is) ∙ behind_more bytes (get_or r 0 0) (undoubled next)
