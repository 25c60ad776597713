-- Values and length bytes in a chain: what is laid down is read, and what is read was laid down.
use Rattle.std.proofs.Common.{◌≡◌, ℕ, suc, ◌+◌, ◌<◌, ◌≤◌, Bool, true, false, cond, not, eqb, ltb, leb, List, [], ◌∷◌, ◌++◌, length, take, drop, Ok, Result, sym, refl, ap, ◌∙◌, subst, add-one, arith, length-append, take-append-drop}
use Rattle.std.proofs.lemmas.List.{take_at, length-take-le}
use Rattle.std.proofs.lemmas.Bool.{eq-eqb, eqb-true, le-ltb, lt-ltb, ltb-true, ltb-false, le-leb, leb-true, and_parts, and_from, not-true, not_from_false}
use Rattle.number.specs.declared.Range.{Range}
use Rattle.number.specs.Numbers.{NumberKind, char, integer, long, float}
use Rattle.number.specs.Ranges.{between, in_range}
use Rattle.table.specs.declared.Kind.{Kind}
use Rattle.table.specs.declared.Kind.TheVariants.{Char, Integer, Long, Float, Text, OpenText}
use Rattle.table.specs.Rows.{admitted, no_zero, is_open_text}
use Rattle.chain.specs.declared.fault.RackFault.{RackFault}
use Rattle.chain.specs.Faults.{missing}
use Rattle.chain.specs.Values.{in_chain, before_zero, number_at, text_at, open_at, value_at, length_byte_at, length_at}
use Rattle.chain_format.specs.Entries.{length_byte}
use Rattle.chain_format.proofs.Refuted.{first_is, second_is, err-ok, same_ok}

-- a number in a range has the kind's width
in_width : {N : Type 0} (k : NumberKind N) (r : Range N) (v : List ℕ) → in_range k r v ≡ true → length v ≡ k.width
in_width k r v e = eqb-true _ _ (and_parts (eqb (length v) k.width) (between k r.least r.greatest (k.reads v)) e).0

number_taken : (kind : Kind) (width i : ℕ) (v rest : List ℕ) → admitted kind v ≡ true → length v ≡ width → number_at kind width i (v ++ rest) ≡ Ok (v, length v)
number_taken kind width i v rest a l =
    let s : ltb (length (v ++ rest)) width ≡ false = le-ltb _ _ (omega (arith, length-append v rest)) in
    let t : take width (v ++ rest) ≡ v = take_at v rest width l in
    rw (s, t, a, l)

text_taken : (size i : ℕ) (v rest : List ℕ) → length v ≡ size → text_at size i (size ∷ (v ++ rest)) ≡ Ok (v, suc (length v))
text_taken size i v rest l =
    let o : eqb size size ≡ true = eq-eqb _ _ refl in
    let s : ltb (length (v ++ rest)) size ≡ false = le-ltb _ _ (omega (arith, length-append v rest)) in
    let t : take size (v ++ rest) ≡ v = take_at v rest size l in
    let n : size + 1 ≡ suc (length v) = omega arith in
    rw (o, s, t, n)

before : (v rest : List ℕ) → no_zero v ≡ true → before_zero ((v ++ 0 ∷ []) ++ rest) ≡ v
before [] rest e = refl
before (b ∷ v) rest e =
    let p = and_parts (not (eqb b 0)) (no_zero v) e in
    let z : eqb b 0 ≡ false = not-true (eqb b 0) p.0 in
    let t : before_zero ((v ++ 0 ∷ []) ++ rest) ≡ v = before v rest p.1 in
    rw (z, t)

open_taken : (i : ℕ) (v rest : List ℕ) → is_open_text v ≡ true → open_at i (0 ∷ ((v ++ 0 ∷ []) ++ rest)) ≡ Ok (v, suc (length (v ++ 0 ∷ [])))
open_taken i v rest e =
    let p = and_parts (leb (length v) 24) (no_zero v) e in
    let m : length v ≤ 24 = leb-true (length v) 24 p.0 in
    let n = length-append v (0 ∷ []) in
    let n' = length-append (v ++ 0 ∷ []) rest in
    let t : before_zero ((v ++ 0 ∷ []) ++ rest) ≡ v = before v rest p.1 in
    let s : ltb 24 (length v) ≡ false = le-ltb _ _ m in
    let u : ltb (length v) (length ((v ++ 0 ∷ []) ++ rest)) ≡ true = lt-ltb _ _ (omega arith) in
    let k : length v + 2 ≡ suc (length (v ++ 0 ∷ [])) = omega arith in
    rw (t, s, u, k)

-- an admitted value is read, with all its bytes
pub value_taken_lem : (kind : Kind) (i : ℕ) (v rest : List ℕ) → admitted kind v ≡ true → value_at kind i (in_chain kind v ++ rest) ≡ Ok (v, length (in_chain kind v))
value_taken_lem (Char r) i v rest a = number_taken (Char r) 1 i v rest a (in_width char r v a)
value_taken_lem (Integer r) i v rest a = number_taken (Integer r) 2 i v rest a (in_width integer r v a)
value_taken_lem (Long r) i v rest a = number_taken (Long r) 4 i v rest a (in_width long r v a)
value_taken_lem (Float r) i v rest a = number_taken (Float r) 4 i v rest a (in_width float r v a)
value_taken_lem (Text n) i v rest a = text_taken n i v rest (eqb-true (length v) n a)
value_taken_lem OpenText i v rest a = open_taken i v rest a

-- the value stands in front, as it is laid down
abbrev InFront : Kind → List ℕ → List ℕ × ℕ → Type 0
InFront kind bs p = (in_chain kind p.0 ++ drop p.1 bs ≡ bs) × (admitted kind p.0 ≡ true)

-- the same of a number, whose bytes stand for themselves
number_front : (kind : Kind) (width i : ℕ) (bs : List ℕ) (p : List ℕ × ℕ) → number_at kind width i bs ≡ Ok p → (p.0 ++ drop p.1 bs ≡ bs) × (admitted kind p.0 ≡ true)
number_front kind width i bs p e =
    let u = second_is _ _ _ _ (err-ok _ p) e in
    let w = first_is _ _ _ _ (err-ok _ p) u.1 in
    let s : ◌≡◌ {A = List ℕ × ℕ} (take width bs, width) p = same_ok _ _ w.1 in
    subst (λ (p : List ℕ × ℕ). (p.0 ++ drop p.1 bs ≡ bs) × (admitted kind p.0 ≡ true)) s (take-append-drop width bs, w.0)

text_front : (size i : ℕ) (bs : List ℕ) (p : List ℕ × ℕ) → text_at size i bs ≡ Ok p → InFront (Text size) bs p
text_front size i [] p e = absurd (err-ok (missing i) p e)
text_front size i (n ∷ bs) p e =
    let o = first_is _ _ _ _ (err-ok _ p) e in
    let u = second_is _ _ _ _ (err-ok _ p) o.1 in
    let s : ◌≡◌ {A = List ℕ × ℕ} (take size bs, size + 1) p = same_ok _ _ u.1 in
    let h : n ≡ size = eqb-true n size o.0 in
    let l : length (take size bs) ≡ size = length-take-le size bs (ltb-false (length bs) size u.0) in
    let d : size ∷ (take size bs ++ drop (size + 1) (n ∷ bs)) ≡ n ∷ bs = rw (add-one, take-append-drop size bs, h) in
    subst (InFront (Text size) (n ∷ bs)) s (d, eq-eqb (length (take size bs)) size l)

before_split : (bs : List ℕ) → length (before_zero bs) < length bs → (before_zero bs ++ 0 ∷ []) ++ drop (suc (length (before_zero bs))) bs ≡ bs
before_split [] l = absurd (omega arith)
before_split (b ∷ bs) l = by (eqb b 0) refl (before_split bs) l
  where
    by : (t : Bool) → eqb b 0 ≡ t → (length (before_zero bs) < length bs → (before_zero bs ++ 0 ∷ []) ++ drop (suc (length (before_zero bs))) bs ≡ bs) →
        length (cond t [] (b ∷ before_zero bs)) < suc (length bs) →
        (cond t [] (b ∷ before_zero bs) ++ 0 ∷ []) ++ drop (suc (length (cond t [] (b ∷ before_zero bs)))) (b ∷ bs) ≡ b ∷ bs
    by true h later l = ap (λ (x : ℕ). x ∷ bs) (sym (eqb-true b 0 h))
    by false h later l = ap (λ (x : List ℕ). b ∷ x) (later (omega arith))

before_plain : (bs : List ℕ) → no_zero (before_zero bs) ≡ true
before_plain [] = refl
before_plain (b ∷ bs) = by (eqb b 0) refl (before_plain bs)
  where
    by : (t : Bool) → eqb b 0 ≡ t → no_zero (before_zero bs) ≡ true → no_zero (cond t [] (b ∷ before_zero bs)) ≡ true
    by true h later = refl
    by false h later = and_from (not (eqb b 0)) (no_zero (before_zero bs)) (not_from_false (eqb b 0) h) later

open_front : (i : ℕ) (bs : List ℕ) (p : List ℕ × ℕ) → open_at i bs ≡ Ok p → InFront OpenText bs p
open_front i [] p e = absurd (err-ok (missing i) p e)
open_front i (n ∷ bs) p e =
    let k : length (before_zero bs) + 2 ≡ suc (suc (length (before_zero bs))) = omega arith in
    let o = first_is _ _ _ _ (err-ok _ p) e in
    let u = second_is _ _ _ _ (err-ok _ p) o.1 in
    let w = first_is _ _ _ _ (err-ok _ p) u.1 in
    let v : List ℕ = before_zero bs in
    let s : ◌≡◌ {A = List ℕ × ℕ} (v, length v + 2) p = same_ok _ _ w.1 in
    let h : n ≡ 0 = eqb-true n 0 o.0 in
    let m : length (before_zero bs) ≤ 24 = ltb-false 24 (length v) u.0 in
    let c : (v ++ 0 ∷ []) ++ drop (suc (length v)) bs ≡ bs = before_split bs (ltb-true (length v) (length bs) w.0) in
    let d : 0 ∷ ((v ++ 0 ∷ []) ++ drop (length v + 2) (n ∷ bs)) ≡ n ∷ bs = rw (k, c, h) in
    subst (InFront OpenText (n ∷ bs)) s (d, and_from (leb (length v) 24) (no_zero v) (le-leb (length v) 24 m) (before_plain bs))

-- what is read was laid down, and is admitted
pub value_front : (kind : Kind) (i : ℕ) (bs : List ℕ) (p : List ℕ × ℕ) → value_at kind i bs ≡ Ok p → InFront kind bs p
value_front (Char r) i bs p e = number_front (Char r) 1 i bs p e
value_front (Integer r) i bs p e = number_front (Integer r) 2 i bs p e
value_front (Long r) i bs p e = number_front (Long r) 4 i bs p e
value_front (Float r) i bs p e = number_front (Float r) 4 i bs p e
value_front (Text n) i bs p e = text_front n i bs p e
value_front OpenText i bs p e = open_front i bs p e

-- the length byte of a read
pub length_taken_lem : (kind : Kind) (i : ℕ) (rest : List ℕ) → length_at kind i (length_byte kind ++ rest) ≡ Ok (length (length_byte kind))
length_taken_lem (Char r) i rest = refl
length_taken_lem (Integer r) i rest = refl
length_taken_lem (Long r) i rest = refl
length_taken_lem (Float r) i rest = refl
length_taken_lem (Text n) i rest = let o : eqb n n ≡ true = eq-eqb n n refl in rw o
length_taken_lem OpenText i rest = refl

no_length : (bs : List ℕ) (k : ℕ) → ◌≡◌ {A = Result ℕ RackFault} (Ok 0) (Ok k) → drop k bs ≡ bs
no_length bs k e = let z : 0 ≡ k = same_ok 0 k e in ap (λ (x : ℕ). drop x bs) (sym z)

length_byte_front : (size i : ℕ) (bs : List ℕ) (k : ℕ) → length_byte_at size i bs ≡ Ok k → size ∷ drop k bs ≡ bs
length_byte_front size i [] k e = absurd (err-ok (missing i) k e)
length_byte_front size i (n ∷ bs) k e =
    let o = first_is _ _ _ _ (err-ok _ k) e in
    let h : n ≡ size = eqb-true n size o.0 in
    let z : 1 ≡ k = same_ok _ _ o.1 in
    ap (λ (x : ℕ). size ∷ drop x (n ∷ bs)) (sym z) ∙ ap (λ (x : ℕ). x ∷ bs) (sym h)

pub length_front : (kind : Kind) (i : ℕ) (bs : List ℕ) (k : ℕ) → length_at kind i bs ≡ Ok k → length_byte kind ++ drop k bs ≡ bs
length_front (Char r) i bs k e = no_length bs k e
length_front (Integer r) i bs k e = no_length bs k e
length_front (Long r) i bs k e = no_length bs k e
length_front (Float r) i bs k e = no_length bs k e
length_front (Text n) i bs k e = length_byte_front n i bs k e
length_front OpenText i bs k e = length_byte_front 0 i bs k e
