-- A row that keeps the rules admits its default.
use Rattle.std.proofs.Common.{◌≡◌, ℕ, Bool, true, false, cond, ◌&&◌, ◌||◌, eqb, leb, List, [], length, IfSome, Some, None, Option, unwrap_or, sym, refl, ap, ◌∙◌, subst, arith}
use Rattle.std.proofs.lemmas.Bool.{and_parts}
use Rattle.std.specs.Option.{option_map}
use Rattle.value.specs.declared.Value.{Value}
use Rattle.value.specs.Values.{bytes_of}
use Rattle.number.specs.declared.Range.{Range}
use Rattle.number.specs.Numbers.{NumberKind, Laws, ReadBack, char, integer, long, float}
use Rattle.number.specs.Ranges.{in_range, in_order}
use Rattle.number.specs.KindLaws.{char_laws, integer_laws, long_laws, float_laws}
use Rattle.number.proofs.Ranges.{default_admitted}
use Rattle.table.specs.declared.Kind.{Kind}
use Rattle.table.specs.declared.Kind.TheVariants.{Char, Integer, Long, Float, Text, OpenText}
use Rattle.table.specs.Rows.{PlainRow, admitted, kind_ruled, kind_default, feed_ruled, keeps_rules, default_of, ReadsDefault}
use Rattle.table.specs.Draws.{default_bytes}

-- a kind that keeps the rules has a default, and admits it
abbrev Fits : Kind → List ℕ → Type 0
Fits k text = (bs : List ℕ) × (kind_default k text ≡ Some bs) × (admitted k bs ≡ true)

number_fits : {N : Type 0} (k : NumberKind N) → Laws k → (r : Range N) (text : List ℕ) → ReadBack k r.«default» → (in_order k r && eqb (length text) 0) ≡ true →
    (bs : List ℕ) × (k.writes r.«default» ≡ Some bs) × (in_range k r bs ≡ true)
number_fits k l r text b e = default_admitted k l r b (and_parts (in_order k r) (eqb (length text) 0) e).0

fits : (k : Kind) (text : List ℕ) → ReadsDefault k → kind_ruled k text ≡ true → Fits k text
fits (Char r) text b e = number_fits char char_laws r text b e
fits (Integer r) text b e = number_fits integer integer_laws r text b e
fits (Long r) text b e = number_fits long long_laws r text b e
fits (Float r) text b e = number_fits float float_laws r text b e
fits (Text n) text b e =
    let h = and_parts (leb 1 n) (leb n 24 && eqb (length text) n) e in (text, refl, (and_parts (leb n 24) (eqb (length text) n) h.1).1)
fits OpenText text b e = (text, refl, e)

pub ruled_kind : (r : PlainRow) → keeps_rules r ≡ true → (kind_ruled r.kind r.text ≡ true) × (feed_ruled r.kind r.feed r.flow ≡ true)
ruled_kind r e =
    let a = and_parts (leb r.process 127) _ e in
    let b = and_parts (leb r.parameter 31) _ a.1 in
    let c = and_parts (r.readable || r.writable) _ b.1 in
    and_parts (kind_ruled r.kind r.text) (feed_ruled r.kind r.feed r.flow) c.1

-- the default of a table's row as the code gives it
module _ (r : PlainRow) (o : Option Value) where
  given_with : (bs : List ℕ) → default_of r ≡ Some bs → admitted r.kind bs ≡ true → (o : Option Value) → option_map bytes_of o ≡ default_of r →
      (option_map bytes_of o ≡ Some (default_bytes r)) × IfSome o (λ v. admitted r.kind (bytes_of v) ≡ true)
  given_with bs w a None d = let z : ◌≡◌ {A = ℕ} 0 1 = cc in absurd (omega arith)
  given_with bs w a (Some v) d = let q : bytes_of v ≡ bs = cc in (d ∙ w ∙ ap Some (sym (ap (λ (x : Option (List ℕ)). unwrap_or x []) w)), ap (admitted r.kind) q ∙ a)

  pub default_given : (b : Bool) (x : PlainRow) → keeps_rules r ≡ true → Some x ≡ cond b (Some r) None → option_map bytes_of o ≡ default_of x → ReadsDefault x.kind →
      (option_map bytes_of o ≡ cond b (Some (default_bytes r)) None) × IfSome o (λ v. admitted r.kind (bytes_of v) ≡ true)
  default_given false x k e d f = let z : ◌≡◌ {A = ℕ} 0 1 = cc in absurd (omega arith)
  default_given true x k e d f =
      let y : x ≡ r = cc in
      let h = fits r.kind r.text (subst (λ (q : PlainRow). ReadsDefault q.kind) y f) (ruled_kind r k).0 in
      given_with h.0 h.1 h.2 o (d ∙ ap default_of y)
