-- The range check by the laws of a kind.
use Rattle.std.specs.Prelude.{◌==◌}
use Rattle.std.proofs.Common.{◌≡◌, ℕ, Bool, true, false, ◌&&◌, List, length, is_some, Some, None, Option, refl, sym, ap, ◌∙◌, arith, eq-eqb}
use Rattle.std.proofs.lemmas.Bool.{and_parts, and_right}
use Rattle.std.specs.Option.{MatchOption}
use Rattle.number.specs.declared.Range.{Range}
use Rattle.number.specs.Numbers.{NumberKind, Laws, ReadBack}
use Rattle.number.specs.Ranges.{in_range, between, in_order}

module _ {N : Type 0} (k : NumberKind N) (l : Laws k) (r : Range N) where
  -- bytes that are a number have the kind's width, so only the order is left to test
  pub as_read : (bs : List ℕ) (n : N) → k.reads bs ≡ Some n → in_range k r bs ≡ between k r.least r.greatest (Some n)
  as_read bs n e = ap (λ (b : Bool). b && between k r.least r.greatest (k.reads bs)) (eq-eqb _ _ (l.sized bs n e)) ∙ ap (between k r.least r.greatest) e

  -- what the check answers, by the number that is read, if there is one, and by whether that is held to lie in the range
  pub as_checked : (bs : List ℕ) (answer held : Bool) (Held : N → Type 0) → (held ≡ false → answer ≡ false)
      → ((n : N) → Held n → answer ≡ between k r.least r.greatest (Some n)) → (o : Option N) → o ≡ k.reads bs → MatchOption o (held ≡ false) Held → answer ≡ in_range k r bs
  as_checked bs answer held Held none some None e m = none m ∙ sym (and_right (length bs == k.width) _ (ap (between k r.least r.greatest) (sym e)))
  as_checked bs answer held Held none some (Some n) e m = some n m ∙ sym (as_read bs n (sym e))

  written : (o : Option (List ℕ)) → k.writes r.«default» ≡ o → is_some o ≡ true → ReadBack k r.«default» → in_order k r ≡ true →
      (bs : List ℕ) × (k.writes r.«default» ≡ Some bs) × (in_range k r bs ≡ true)
  written None e s b h = let z : ◌≡◌ {A = ℕ} 0 1 = cc in absurd (omega arith)
  written (Some bs) e s b h = (bs, e, as_read bs r.«default» (b bs e) ∙ h)

  -- a range in order has a default with bytes, and admits them
  pub default_admitted : ReadBack k r.«default» → in_order k r ≡ true → (bs : List ℕ) × (k.writes r.«default» ≡ Some bs) × (in_range k r bs ≡ true)
  default_admitted b h =
      let o = and_parts (k.at_most r.least r.«default») (k.at_most r.«default» r.greatest) h in
      written (k.writes r.«default») refl (l.numbers _ _ o.0).1 b h
