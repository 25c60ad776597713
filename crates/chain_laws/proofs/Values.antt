-- The values and lengths that stand in a chain: what is taken is right, and what is refused lies where they stand.
use Rattle.std.proofs.Common.{◌≡◌, ℕ, zero, suc, ◌+◌, ◌≤◌, Bool, true, false, cond, not, eqb, ltb, leb, List, [], ◌∷◌, length, take, Ok, Err, Result, refl, arith}
use Rattle.std.proofs.lemmas.List.{length-take-le}
use Rattle.std.proofs.lemmas.Bool.{cond_both, and_from, not_from_false, eq-eqb, le-leb, ltb-false}
use Rattle.value.specs.Values.{Bytes}
use Rattle.table.specs.declared.Kind.{Kind}
use Rattle.table.specs.declared.Kind.TheVariants.{Char, Integer, Long, Float, Text, OpenText}
use Rattle.table.specs.Rows.{no_zero, admitted}
use Rattle.chain.specs.declared.fault.RackFault.{RackFault}
use Rattle.chain.specs.declared.fault.RackFault.TheVariants.{Chain, NoProcess, NoParameter, WrongType, NotWritable, Secured, NotReadable, BadValue, BadLength, OverLimit}
use Rattle.chain.specs.Faults.{rack_place, missing}
use Rattle.chain.specs.Values.{before_zero, number_at, text_at, open_at, value_at, length_byte_at, length_at}

-- the fault of a locked row
abbrev pub is_secured : RackFault → Bool
is_secured (Chain f) = false
is_secured (NoProcess i) = false
is_secured (NoParameter i) = false
is_secured (WrongType i) = false
is_secured (NotWritable i) = false
is_secured (Secured i) = true
is_secured (NotReadable i) = false
is_secured (BadValue i) = false
is_secured (BadLength i) = false
is_secured (OverLimit i) = false

-- a fault at `from`, at `end` or between them, and not that of a locked row
abbrev pub Within : ℕ → ℕ → RackFault → Type 0
Within from end f = (from ≤ rack_place f) × (rack_place f ≤ end) × (is_secured f ≡ false)

-- the value of a kind at i: the kind admits it, and of bytes it is bytes
abbrev pub ValueRight : Kind → ℕ → List ℕ → Result (List ℕ × ℕ) RackFault → Type 0
ValueRight kind i bs (Ok p) = (admitted kind p.0 ≡ true) × (Bytes bs → Bytes p.0)
ValueRight kind i bs (Err f) = Within i (i + length bs) f

take_bytes : (n : ℕ) (bs : List ℕ) → Bytes bs → Bytes (take n bs)
take_bytes zero bs h = tt
take_bytes (suc n) [] h = tt
take_bytes (suc n) (b ∷ bs) h = (h.0, take_bytes n bs h.1)

number_right : (kind : Kind) (width i : ℕ) (bs : List ℕ) → ValueRight kind i bs (number_at kind width i bs)
number_right kind width i bs =
    cond_both (ltb (length bs) width) (Err (missing (i + length bs))) (cond (admitted kind (take width bs)) (Ok (take width bs, width)) (Err (BadValue i)))
    (ValueRight kind i bs) (λ _. (omega arith, omega arith, refl))
    (λ _. cond_both (admitted kind (take width bs)) (Ok (take width bs, width)) (Err (BadValue i)) (ValueRight kind i bs) (λ e. (e, take_bytes width bs)) (λ _. (omega arith, omega arith, refl)))

text_right : (size i : ℕ) (bs : List ℕ) → ValueRight (Text size) i bs (text_at size i bs)
text_right size i [] = (omega arith, omega arith, refl)
text_right size i (n ∷ bs) =
    cond_both (eqb n size) (cond (ltb (length bs) size) (Err (missing (i + 1 + length bs))) (Ok (take size bs, size + 1))) (Err (BadValue i))
    (ValueRight (Text size) i (n ∷ bs))
    (λ _. cond_both (ltb (length bs) size) (Err (missing (i + 1 + length bs))) (Ok (take size bs, size + 1)) (ValueRight (Text size) i (n ∷ bs)) (λ _. (omega arith, omega arith, refl))
    (λ e. (eq-eqb (length (take size bs)) size (length-take-le size bs (ltb-false (length bs) size e)), λ h. take_bytes size bs h.1)))
    (λ _. (omega arith, omega arith, refl))

before_bytes : (bs : List ℕ) → Bytes bs → Bytes (before_zero bs)
before_bytes [] h = tt
before_bytes (b ∷ bs) h = cond_both (eqb b 0) [] (b ∷ before_zero bs) Bytes (λ _. tt) (λ _. (h.0, before_bytes bs h.1))

no_zero_before : (bs : List ℕ) → no_zero (before_zero bs) ≡ true
no_zero_before [] = refl
no_zero_before (b ∷ bs) =
    cond_both (eqb b 0) [] (b ∷ before_zero bs) (λ (l : List ℕ). no_zero l ≡ true) (λ _. refl)
    (λ e. and_from (not (eqb b 0)) (no_zero (before_zero bs)) (not_from_false (eqb b 0) e) (no_zero_before bs))

open_right : (i : ℕ) (bs : List ℕ) → ValueRight OpenText i bs (open_at i bs)
open_right i [] = (omega arith, omega arith, refl)
open_right i (n ∷ bs) =
    let ends : Result (List ℕ × ℕ) RackFault =
    cond (ltb (length (before_zero bs)) (length bs)) (Ok (before_zero bs, length (before_zero bs) + 2)) (Err (missing (i + 1 + length bs))) in
    cond_both (eqb n 0) (cond (ltb 24 (length (before_zero bs))) (Err (BadValue i)) ends) (Err (BadValue i)) (ValueRight OpenText i (n ∷ bs))
    (λ _. cond_both (ltb 24 (length (before_zero bs))) (Err (BadValue i)) ends (ValueRight OpenText i (n ∷ bs)) (λ _. (omega arith, omega arith, refl))
    (λ s. cond_both (ltb (length (before_zero bs)) (length bs)) (Ok (before_zero bs, length (before_zero bs) + 2)) (Err (missing (i + 1 + length bs))) (ValueRight OpenText i (n ∷ bs))
    (λ _. (and_from (leb (length (before_zero bs)) 24) (no_zero (before_zero bs)) (le-leb (length (before_zero bs)) 24 (ltb-false 24 (length (before_zero bs)) s)) (no_zero_before bs), λ h. before_bytes bs h.1))
    (λ _. (omega arith, omega arith, refl))))
    (λ _. (omega arith, omega arith, refl))

pub value_right : (kind : Kind) (i : ℕ) (bs : List ℕ) → ValueRight kind i bs (value_at kind i bs)
value_right (Char r) i bs = number_right (Char r) 1 i bs
value_right (Integer r) i bs = number_right (Integer r) 2 i bs
value_right (Long r) i bs = number_right (Long r) 4 i bs
value_right (Float r) i bs = number_right (Float r) 4 i bs
value_right (Text n) i bs = text_right n i bs
value_right OpenText i bs = open_right i bs

-- the length of a read at i
abbrev pub LengthRight : ℕ → List ℕ → Result ℕ RackFault → Type 0
LengthRight i bs (Ok k) = Unit {0}
LengthRight i bs (Err f) = Within i (i + length bs) f

length_byte_right : (size i : ℕ) (bs : List ℕ) → LengthRight i bs (length_byte_at size i bs)
length_byte_right size i [] = (omega arith, omega arith, refl)
length_byte_right size i (n ∷ bs) = cond_both (eqb n size) (Ok 1) (Err (BadLength i)) (LengthRight i (n ∷ bs)) (λ _. tt) (λ _. (omega arith, omega arith, refl))

pub length_right : (kind : Kind) (i : ℕ) (bs : List ℕ) → LengthRight i bs (length_at kind i bs)
length_right (Char r) i bs = tt
length_right (Integer r) i bs = tt
length_right (Long r) i bs = tt
length_right (Float r) i bs = tt
length_right (Text n) i bs = length_byte_right n i bs
length_right OpenText i bs = length_byte_right 0 i bs
