-- Open texts.
use Rattle.std.proofs.Common.{◌≡◌, ℕ, zero, suc, ◌<◌, ◌≤◌, Bool, true, false, not, ◌&&◌, eqb, List, [], ◌∷◌, length, get_or, Decides, sym, refl, ap, ◌∙◌, arith}
use Rattle.std.proofs.lemmas.List.Elements.{at_read, contains_decides}
use Rattle.std.proofs.lemmas.Bool.{eq-eqb, ne_eqb, le-leb, and_right, both_ways}
use Rattle.std.specs.List.{HoldsAt, IsAnyAnswer}
use Rattle.table.specs.Rows.{no_zero, is_open_text}
use Rattle.std.proofs.lemmas.Bool.Decides.{Decides-eqb}

some-zero : (bs : List ℕ) (k : ℕ) → k < length bs → get_or bs k 0 ≡ 0 → no_zero bs ≡ false
some-zero [] k l e = absurd (omega arith)
some-zero (b ∷ bs) zero l e = ap (λ (t : Bool). not t && no_zero bs) (eq-eqb b 0 e)
some-zero (b ∷ bs) (suc k) l e = and_right (not (eqb b 0)) (no_zero bs) (some-zero bs k (omega arith) e)

no_zero_lem : (bs : List ℕ) → ((k : ℕ) → k < length bs → get_or bs k 0 ≡ 0 → ⊥) → no_zero bs ≡ true
no_zero_lem [] h = refl
no_zero_lem (b ∷ bs) h = ap (λ (t : Bool). not t && no_zero bs) (ne_eqb b 0 (h 0 (omega arith))) ∙ no_zero_lem bs (λ k l. h (suc k) (omega arith))

-- the bytes have no 00 just where the search for one fails
none_found : (bs : List ℕ) (r : Bool) → Decides r ((k : ℕ) × (k < length bs) × HoldsAt (λ y. y ≡ 0) bs k) → not r ≡ no_zero bs
none_found bs true d = let h = d.0 refl in sym (some-zero bs h.0 h.1 (h.2 0))
none_found bs false d = sym (no_zero_lem bs (λ k l e. both_ways false refl (d.1 (k, l, at_read bs (λ y. y ≡ 0) k 0 l (sym e) refl))))

pub is_open : (bs : List ℕ) (r : Bool) → IsAnyAnswer (λ y t. eqb y 0 ≡ t) bs r → length bs ≤ 24 → not r ≡ is_open_text bs
is_open bs r s l = none_found bs r (contains_decides eqb Decides-eqb bs 0 r s) ∙ sym (ap (λ (t : Bool). t && no_zero bs) (le-leb (length bs) 24 l))
