-- Values and lengths as they stand in a chain: for each, the value's own bytes and how many bytes of the chain it takes, or why it is
-- refused. `i` is the index of the first byte of `bs`.
use Rattle.std.specs.Prelude.{ℕ, ◌+◌, cond, List, [], ◌∷◌, ◌++◌, length, take, Ok, Err, Result, ◌==◌, nat_lt}
use Rattle.table.specs.declared.Kind.{Kind}
use Rattle.table.specs.declared.Kind.TheVariants.{Char, Integer, Long, Float, Text, OpenText}
use Rattle.table.specs.Rows.{admitted}
use Rattle.chain.specs.declared.fault.RackFault.{RackFault}
use Rattle.chain.specs.declared.fault.RackFault.TheVariants.{BadValue, BadLength}
use Rattle.chain.specs.Faults.{missing}

-- the type bits of a kind
abbrev pub type_bits : Kind → ℕ
type_bits (Char r) = 0x00
type_bits (Integer r) = 0x20
type_bits (Long r) = 0x40
type_bits (Float r) = 0x40
type_bits (Text n) = 0x60
type_bits OpenText = 0x60

-- a value as it stands in a chain: a fixed text behind its length, an open text between 00 and 00
abbrev pub in_chain : Kind → List ℕ → List ℕ
in_chain (Char r) v = v
in_chain (Integer r) v = v
in_chain (Long r) v = v
in_chain (Float r) v = v
in_chain (Text n) v = n ∷ v
in_chain OpenText v = 0 ∷ (v ++ 0 ∷ [])

-- the bytes before the first 00, or all where there is none
abbrev pub before_zero : List ℕ → List ℕ
before_zero [] = []
before_zero (b ∷ bs) = cond (b == 0) [] (b ∷ before_zero bs)

-- a number of so many bytes
abbrev pub number_at : Kind → ℕ → ℕ → List ℕ → Result (List ℕ × ℕ) RackFault
number_at kind width i bs =
    cond (nat_lt (length bs) width) (Err (missing (i + length bs)))
    (cond (admitted kind (take width bs)) (Ok (take width bs, width)) (Err (BadValue i)))

-- a fixed text: its length, then its bytes
abbrev pub text_at : ℕ → ℕ → List ℕ → Result (List ℕ × ℕ) RackFault
text_at size i [] = Err (missing i)
text_at size i (n ∷ bs) =
    cond (n == size)
    (cond (nat_lt (length bs) size) (Err (missing (i + 1 + length bs))) (Ok (take size bs, size + 1)))
    (Err (BadValue i))

-- an open text: 00, its bytes up to the first 00, and that 00; 25 bytes without one are a wrong length
abbrev pub open_at : ℕ → List ℕ → Result (List ℕ × ℕ) RackFault
open_at i [] = Err (missing i)
open_at i (n ∷ bs) =
    cond (n == 0)
    (cond (nat_lt 24 (length (before_zero bs))) (Err (BadValue i))
    (cond (nat_lt (length (before_zero bs)) (length bs)) (Ok (before_zero bs, length (before_zero bs) + 2)) (Err (missing (i + 1 + length bs)))))
    (Err (BadValue i))

-- the value of a write
abbrev pub value_at : Kind → ℕ → List ℕ → Result (List ℕ × ℕ) RackFault
value_at (Char r) i bs = number_at (Char r) 1 i bs
value_at (Integer r) i bs = number_at (Integer r) 2 i bs
value_at (Long r) i bs = number_at (Long r) 4 i bs
value_at (Float r) i bs = number_at (Float r) 4 i bs
value_at (Text n) i bs = text_at n i bs
value_at OpenText i bs = open_at i bs

-- the length byte of a read: how many bytes it takes
abbrev pub length_byte_at : ℕ → ℕ → List ℕ → Result ℕ RackFault
length_byte_at size i [] = Err (missing i)
length_byte_at size i (n ∷ bs) = cond (n == size) (Ok 1) (Err (BadLength i))

-- the length of a read: none for a number, the length for a fixed text, 00 for an open text
abbrev pub length_at : Kind → ℕ → List ℕ → Result ℕ RackFault
length_at (Char r) i bs = Ok 0
length_at (Integer r) i bs = Ok 0
length_at (Long r) i bs = Ok 0
length_at (Float r) i bs = Ok 0
length_at (Text n) i bs = length_byte_at n i bs
length_at OpenText i bs = length_byte_at 0 i bs
