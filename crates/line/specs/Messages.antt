-- Messages on the line.
use Rattle.std.specs.Prelude.{ℕ, ◌<◌, ◌≤◌, List, [], ◌∷◌, length}

-- A data message, of a node and its data bytes, or an error message, of a code.
pub data Msg : Type 0 where
  data_msg : (node : ℕ) → (bytes : List ℕ) → Msg
  error_msg : (code : ℕ) → Msg

-- A data message has 1 to 64 data bytes.
abbrev pub Framable : Msg → Type 0
Framable (data_msg node bytes) = (0 < length bytes) × (length bytes ≤ 64)
Framable (error_msg code) = Unit {0}

-- Each of these numbers is a byte.
abbrev pub Bytes : List ℕ → Type 0
Bytes [] = Unit {0}
Bytes (b ∷ bs) = (b < 256) × Bytes bs

-- A message that is made of bytes.
abbrev pub OfBytes : Msg → Type 0
OfBytes (data_msg node bytes) = (node < 256) × Bytes bytes
OfBytes (error_msg code) = code < 256
