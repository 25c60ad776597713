-- What a value holds, and which bytes make one.
use Rattle.std.specs.Prelude.{ℕ, ◌<◌, cond, List, [], ◌∷◌, length, take, Some, None, Option, nat_le}
use Rattle.value.specs.declared.Value.{Value}

-- the bytes of a value
abbrev pub bytes_of : Value → List ℕ
bytes_of v = take v.len v.bytes

-- the bytes of the value that is made of some bytes: the same, or nothing if they are more than 24
abbrev pub value_of : List ℕ → Option (List ℕ)
value_of bs = cond (nat_le (length bs) 24) (Some bs) None

-- every number of a list is a byte
abbrev pub Bytes : List ℕ → Type 0
Bytes [] = Unit {0}
Bytes (b ∷ bs) = (b < 256) × Bytes bs
