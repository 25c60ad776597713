-- The ASCII framing: 3A, the length and what it counts in hex digits, 0D 0A.
use Rattle.std.specs.Prelude.{ℕ, ◌-◌, Bool, cond, ◌&&◌, List, [], ◌∷◌, ◌++◌, length, take, drop, Some, None, Ok, Err, Option, Result, ◌==◌, nat_le, nat_lt, slice_index}
use Rattle.line.specs.declared.refusal.Flaw.{Flaw}
use Rattle.line.specs.declared.refusal.Flaw.TheVariants.{NotAFrame}
use Rattle.line.specs.Messages.{Msg, data_msg, error_msg}
use Rattle.line.specs.Framings.{Rule}
use Rattle.ascii.specs.Hex.{hexes, spelled}

-- What the length counts: the node and the data, or the code.
abbrev pub counted : Msg → List ℕ
counted (data_msg node bytes) = node ∷ bytes
counted (error_msg code) = code ∷ []

-- The frame of what the length counts.
abbrev pub framed : List ℕ → List ℕ
framed p = 58 ∷ (hexes (length p ∷ p) ++ 13 ∷ 10 ∷ [])

abbrev pub encode : Msg → List ℕ
encode s = framed (counted s)

-- The message of what the length counts: one byte is an error's code, 2 to 65 are a node and its data.
abbrev pub message : List ℕ → Result (Unit {0} × Msg) Flaw
message [] = Err NotAFrame
message (x ∷ []) = Ok (tt, error_msg x)
message (x ∷ y ∷ r) = cond (nat_lt 64 (length (y ∷ r))) (Err NotAFrame) (Ok (tt, data_msg x (y ∷ r)))

-- The message of the bytes that the digits spell: the first has to be the number of the others.
abbrev pub opened : Option (List ℕ) → Result (Unit {0} × Msg) Flaw
opened None = Err NotAFrame
opened (Some []) = Err NotAFrame
opened (Some (l ∷ p)) = cond (l == length p) (message p) (Err NotAFrame)

-- Whether the first byte is 3A and the last two are 0D 0A.
abbrev pub delimited : List ℕ → Bool
delimited frame =
    nat_le 3 (length frame) && slice_index frame 0 == 58 && slice_index frame (length frame - 2) == 13 && slice_index frame (length frame - 1) == 10

-- What stands between 3A and 0D 0A.
abbrev pub inner : List ℕ → Option (List ℕ)
inner frame = cond (delimited frame) (Some (take (length frame - 3) (drop 1 frame))) None

abbrev pub digits_opened : Option (List ℕ) → Result (Unit {0} × Msg) Flaw
digits_opened None = Err NotAFrame
digits_opened (Some digits) = opened (spelled digits)

abbrev pub decode : List ℕ → Result (Unit {0} × Msg) Flaw
decode frame = digits_opened (inner frame)

abbrev pub ascii : Rule (Unit {0})
ascii =
    record
    { reads = decode; writes = λ _ s. encode s; kept_mark = λ m _. m; error_mark = λ m _. m; unreadable_mark = Some tt }
