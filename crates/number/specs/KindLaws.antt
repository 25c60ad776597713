-- The laws of the four kinds.
use Rattle.std.specs.Prelude.{◌≡◌, ℕ, ◌<◌, Bool, true, false, cond, not, ◌||◌, T, nat_le, List, length, is_some, Some, None, Option, from_bits, is_nan, to_bits, refl, Float}
use Rattle.std.proofs.Common.{Less, Equal, Greater, sym, ap, subst, ◌∙◌, arith, rules}
use Rattle.std.proofs.lemmas.Bool.Decides.{nat_tests}
use Rattle.std.specs.Float.Ieee as Ieee
use Rattle.std.specs.Ordering.{nat_cmp, float_partial_cmp, partial_le, is_some_and, is_le}
use Rattle.std.specs.Float.{binary32}
use Rattle.std.specs.Float.Ieee.Bits.{is_false, to_bits-lt, to_bits-of_bits, of_bits-to_bits}
use Rattle.value.specs.Values.{Bytes}
use Rattle.number.specs.Numbers.{Laws, ReadBack, of_four, four, of_pattern, char, integer, long, float}

false_is_true : {X : Type 0} → false ≡ true → X
false_is_true e = let z : ◌≡◌ {A = ℕ} 0 1 = cc in absurd (omega arith)

nothing_is_some : {A X : Type 0} {a : A} → None ≡ Some a → X
nothing_is_some e = let z : ◌≡◌ {A = ℕ} 0 1 = cc in absurd (omega arith)

pub char_laws : Laws char
char_laws = search rules

pub integer_laws : Laws integer
integer_laws = search rules

pub long_laws : Laws long
long_laws = search rules

four_again : (bs : List ℕ) (n : ℕ) → Bytes bs → of_four bs ≡ Some n → (n < 4294967296) × (four n ≡ bs)
four_again bs n b e = search rules

four_back : (n : ℕ) → n < 4294967296 → of_four (four n) ≡ Some n
four_back n h = search rules

four_sized : (bs : List ℕ) (n : ℕ) → of_four bs ≡ Some n → length bs ≡ 4
four_sized bs n e = search rules

-- a pattern that is no number reads as nothing
float_sized : (bs : List ℕ) (o : Option ℕ) (x : Float) → of_four bs ≡ o → of_pattern o ≡ Some x → length bs ≡ 4
float_sized bs None x p e = nothing_is_some e
float_sized bs (Some n) x p e = four_sized bs n p

pattern_again : (b : Bool) (n : ℕ) (x : Float) → is_nan (from_bits binary32 n) ≡ b → n < 4294967296 → cond b None (Some (from_bits binary32 n)) ≡ Some x →
    (is_nan x ≡ false) × (to_bits binary32 x ≡ n)
pattern_again true n x q h e = nothing_is_some e
pattern_again false n x q h e =
    let y : from_bits binary32 n ≡ x = cc in
    let k : T (not (is_nan (from_bits binary32 n))) = subst (λ (v : Bool). T (not v)) (sym q) tt in
    (sym (ap is_nan y) ∙ q, sym (ap (to_bits binary32) y) ∙ to_bits-of_bits binary32 n h k)

float_again : (bs : List ℕ) (o : Option ℕ) (x : Float) → of_four bs ≡ o → Bytes bs → of_pattern o ≡ Some x → float.writes x ≡ Some bs
float_again bs None x p b e = nothing_is_some e
float_again bs (Some n) x p b e =
    let f = four_again bs n b p in
    let g = pattern_again (is_nan (from_bits binary32 n)) n x refl f.0 e in
    ap (λ (k : Bool). cond k None (Some (four (to_bits binary32 x)))) g.0 ∙ ap Some (ap four g.1 ∙ f.1)

writes_number : (x : Float) → T (not (is_nan x)) → is_some (float.writes x) ≡ true
writes_number x h = ap (λ (k : Bool). is_some (cond k None (Some (four (to_bits binary32 x))))) (is_false (is_nan x) h)

-- the orders of the kinds are those of `<=`
pub nat_ordered : (m n : ℕ) → partial_le (λ x y. Some (nat_cmp x y)) m n ≡ nat_le m n
nat_ordered m n = grind (arith, nat_tests)

pub float_ordered : (x y : Float) → partial_le float_partial_cmp x y ≡ Ieee.le x y
unfolding Ieee.le
float_ordered x y = by (Ieee.lt x y) (Ieee.eq x y) (Ieee.lt y x)
  where
    by : (less equal more : Bool) → is_some_and is_le (cond less (Some Less) (cond equal (Some Equal) (cond more (Some Greater) None))) ≡ (less || equal)
    by true equal more = refl
    by false true more = refl
    by false false true = refl
    by false false false = refl

-- what is not a number is neither below nor above anything
le_numbers : (x y : Float) → Ieee.le x y ≡ true → T (not (is_nan x)) × T (not (is_nan y))
unfolding Ieee.le Ieee.lt Ieee.eq Ieee.is_nan
le_numbers Ieee.nan Ieee.nan e = false_is_true e
le_numbers Ieee.nan (Ieee.inf s) e = false_is_true e
le_numbers Ieee.nan (Ieee.fin s m k) e = false_is_true e
le_numbers (Ieee.inf s) Ieee.nan e = false_is_true e
le_numbers (Ieee.fin s m k) Ieee.nan e = false_is_true e
le_numbers (Ieee.inf s) (Ieee.inf t) e = (tt, tt)
le_numbers (Ieee.inf s) (Ieee.fin t m k) e = (tt, tt)
le_numbers (Ieee.fin s m k) (Ieee.inf t) e = (tt, tt)
le_numbers (Ieee.fin s m k) (Ieee.fin t n j) e = (tt, tt)

pub float_laws : Laws float
float_laws = record {
  sized = λ bs x e. float_sized bs (of_four bs) x refl e;
  again = λ bs x b e. float_again bs (of_four bs) x refl b e;
  numbers = λ x y e. let h = le_numbers x y e in (writes_number x h.0, writes_number y h.1);
}

back_by : (b : Bool) (x : Float) → is_nan x ≡ b → T (Ieee.fits binary32 x) → (bs : List ℕ) → cond b None (Some (four (to_bits binary32 x))) ≡ Some bs → float.reads bs ≡ Some x
back_by true x q f bs e = nothing_is_some e
back_by false x q f bs e =
    let n = to_bits binary32 x in
    let y : bs ≡ four n = cc in
    let r : from_bits binary32 n ≡ x = of_bits-to_bits binary32 x f in
    ap float.reads y
    ∙ ap of_pattern (four_back n (to_bits-lt binary32 x f))
    ∙ ap (λ (k : Bool). cond k None (Some (from_bits binary32 n))) (ap is_nan r ∙ q)
    ∙ ap Some r

-- a float of 32 bits is read as itself from its bytes
pub float_back : (x : Float) → T (Ieee.fits binary32 x) → ReadBack float x
float_back x f = back_by (is_nan x) x refl f
