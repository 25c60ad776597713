-- What holds of every value, and of one that was made.
use Rattle.std.proofs.Common.{◌≡◌, ℕ, suc, ◌<◌, ◌≤◌, true, false, leb, List, [], ◌∷◌, length, get_or, Some, ⊎_elim, arith, length-take, leb-true}
use Rattle.std.proofs.lemmas.Bool.{cases_Bool}
use Rattle.std.specs.Coded.{×_prop, Unit-prop, le_prop}
use Rattle.value.specs.declared.Value.{Value}
use Rattle.value.specs.Values.{Bytes, bytes_of, value_of}

pub value_short : (v : Value) → length (bytes_of v) ≤ 24
value_short v = simp length-take (omega arith)

pub bytes_from_places : (bs : List ℕ) → ((k : ℕ) → get_or bs k 0 < 256) → Bytes bs
bytes_from_places [] h = tt
bytes_from_places (b ∷ bs) h = (h 0, bytes_from_places bs (λ k. h (suc k)))

-- that some numbers are bytes has one proof
pub Bytes-prop : (bs : List ℕ) → IsProp (Bytes bs)
Bytes-prop [] = Unit-prop
Bytes-prop (b ∷ bs) = ×_prop le_prop (Bytes-prop bs)

pub value_bytes : (v : Value) → Bytes (bytes_of v)
value_bytes v = bytes_from_places (bytes_of v) v.octets

-- a value that was made holds the bytes that it was made of, at most 24
pub value_made : (v : Value) (bs : List ℕ) → Some (bytes_of v) ≡ value_of bs → (bytes_of v ≡ bs) × (length bs ≤ 24)
value_made v bs e =
    ⊎_elim
    (λ (l : leb (length bs) 24 ≡ true). ((cc), leb-true (length bs) 24 l))
    (λ (l : leb (length bs) 24 ≡ false). let z : ◌≡◌ {A = ℕ} 0 1 = cc in absurd (omega arith))
    (cases_Bool (leb (length bs) 24))
