-- The calls on registers satisfy the premises of the theorem on order.
use Rattle.std.proofs.Common.{◌≡◌, ℕ, zero, suc, true, false, eqb, List, [], ◌∷◌, set, Some, None, Option, option_map, sym, refl, ap, ◌∙◌}
use Rattle.std.proofs.lemmas.Bool.{eq-eqb, eqb-true, eqb-false, or_left, or_right}
use Rattle.std.specs.List.{slice_get}
use Rattle.order.specs.Calls.{Premises}
use Rattle.order.specs.Registers.{read_of, write_of, stored, answered, left, written, concerned, register_calls, Retagged, SameAnswer}
use Rattle.order.specs.declared.registers.Ask.{Ask}
use Rattle.order.specs.declared.registers.Ask.TheVariants.{Read, Write, Copy}

-- a register that is set has the new value, if it is there
nth_set_same : (s : List ℕ) (r v : ℕ) → slice_get (set s r v) r ≡ option_map (λ _. v) (slice_get s r)
nth_set_same [] r v = refl
nth_set_same (w ∷ s) zero v = refl
nth_set_same (w ∷ s) (suc r) v = nth_set_same s r v

nth_set_other : (s : List ℕ) (r v k : ℕ) → (k ≡ r → ⊥) → slice_get (set s r v) k ≡ slice_get s k
nth_set_other [] r v k n = refl
nth_set_other (w ∷ s) zero v zero n = absurd (n refl)
nth_set_other (w ∷ s) zero v (suc k) n = refl
nth_set_other (w ∷ s) (suc r) v zero n = refl
nth_set_other (w ∷ s) (suc r) v (suc k) n = nth_set_other s r v k (λ e. n (ap suc e))

stored_same : (o : Option ℕ) (s s' : List ℕ) (r : ℕ) → slice_get s r ≡ slice_get s' r → slice_get (stored o s r) r ≡ slice_get (stored o s' r) r
stored_same (Some v) s s' r e = nth_set_same s r v ∙ ap (option_map (λ _. v)) e ∙ sym (nth_set_same s' r v)
stored_same None s s' r e = e

stored_other : (o : Option ℕ) (s : List ℕ) (r k : ℕ) → (k ≡ r → ⊥) → slice_get (stored o s r) k ≡ slice_get s k
stored_other (Some v) s r k n = nth_set_other s r v k n
stored_other None s r k n = refl

here : (r : ℕ) → eqb r r ≡ true
here r = eq-eqb r r refl

-- what the theorem asks, of what is asked
pub written-concerned : (a : Ask) (k : ℕ) → written a k ≡ true → concerned a k ≡ true
written-concerned (Read r) k h = cc
written-concerned (Write r v) k h = h
written-concerned (Copy q r) k h = or_right (eqb k q) (eqb k r) h

others_stay : (a : Ask) (s : List ℕ) (k : ℕ) → written a k ≡ false → slice_get (left a s) k ≡ slice_get s k
others_stay (Read r) s k h = refl
others_stay (Write r v) s k h = nth_set_other s r v k (eqb-false k r h)
others_stay (Copy q r) s k h = stored_other (slice_get s q) s r k (eqb-false k r h)

abbrev Agreed : Ask → List ℕ → List ℕ → Type 0
Agreed a s s' = (k : ℕ) → concerned a k ≡ true → slice_get s k ≡ slice_get s' k

answered-by : (a : Ask) (s s' : List ℕ) → Agreed a s s' → answered a s ≡ answered a s'
answered-by (Read r) s s' h = ap read_of (h r (here r))
answered-by (Write r v) s s' h = ap write_of (h r (here r))
answered-by (Copy q r) s s' h =
    let e = h q (or_left (eqb q q) (eqb q r) (here q)) in let f = h r (or_right (eqb r q) (eqb r r) (here r)) in cc

written_by : (a : Ask) (s s' : List ℕ) → Agreed a s s' → (k : ℕ) → written a k ≡ true → slice_get (left a s) k ≡ slice_get (left a s') k
written_by (Read r) s s' h k w = cc
written_by (Write r v) s s' h k w = rw (eqb-true k r w) (stored_same (Some v) s s' r (h r (here r)))
written_by (Copy q r) s s' h k w =
    rw (eqb-true k r w)
    (stored_same (slice_get s q) s s' r (h r (or_right (eqb r q) (eqb r r) (here r))) ∙
    ap (λ (o : Option ℕ). slice_get (stored o s' r) r) (h q (or_left (eqb q q) (eqb q r) (here q))))

pub premises : Premises register_calls Retagged SameAnswer
premises = record {
  local = record {
    written_concerns = λ c. written-concerned c.ask;
    others_stay = λ c. others_stay c.ask;
    outcome_by = λ c s s' h. ap (λ a. record { tag = c.tag; answer = a }) (answered-by c.ask s s' h);
    written_by = λ c. written_by c.ask;
  };
  recast = λ c d e. record {
    outcome = λ s. ap (λ a. answered a s) e;
    after = λ s r. ap (λ a. slice_get (left a s) r) e;
    writes = λ r. ap (λ a. written a r) e;
    concerns = λ r. ap (λ a. concerned a r) e;
  };
}
