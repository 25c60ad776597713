-- What is listed of a frame.
use Rattle.std.specs.Prelude.{ℕ, List, [], ◌∷◌, ◌++◌, take, Some, None, Ok, Err, codes, decimal, Option, Result}
use Rattle.line.specs.declared.refusal.Flaw.{Flaw}
use Rattle.line.specs.Messages.{Msg, data_msg, error_msg}
use Rattle.ascii.specs.Hex.{hexes}
use Rattle.listing.specs.declared.heard.Counts.{Counts}

-- The message that was read, whatever its mark, or none.
abbrev pub message_read : {Mark : Type 0} → Result (Mark × Msg) Flaw → Option Msg
message_read (Ok p) = Some p.1
message_read (Err flaw) = None

-- A data message by its node, its command (the first data byte) and all its data, an error message by its code, in hex.
abbrev pub words : Option Msg → List ℕ
words None = codes "no frame"
words (Some (error_msg code)) = codes "error " ++ hexes (code ∷ [])
words (Some (data_msg node bytes)) =
    codes "data, node " ++ (hexes (node ∷ []) ++ (codes ", command " ++ (hexes (take 1 bytes) ++ (codes ", data " ++ hexes bytes))))

-- A frame's line: its number, the place of its first byte, and what it says.
abbrev pub entry_line : ℕ → ℕ → Option Msg → List ℕ
entry_line number place said = decimal number ++ (codes " at " ++ (decimal place ++ (codes ": " ++ (words said ++ codes "\n"))))

abbrev pub counts_words : Counts → List ℕ
counts_words c =
    decimal c.messages ++ (codes " data, " ++ (decimal c.errors ++ (codes " error, " ++ (decimal c.unreadable ++ codes " unreadable"))))
