-- The show rack, and the exchanges with it.
use Rattle.std.specs.Prelude.{◌≡◌, ℕ, true, false, List, [], ◌∷◌, ◌++◌, codes}
use Rattle.std.specs.Float.Ieee as Ieee
use Rattle.ascii.specs.Frames.{ascii}
use Rattle.binary.specs.Frames.{binary}
use Rattle.table.specs.declared.Kind.TheVariants.{Integer, Float, OpenText}
use Rattle.table.specs.Rows.{PlainRow, reset_row}
use Rattle.table.specs.Draws.{defaults}
use Rattle.chain.specs.Answers.{Values}
use Rattle.promises.specs.Wires.{Call, wire_of}
use Rattle.promises.specs.Requests.{Setup, request_of}
use Rattle.promises.specs.Replies.{values_after}
use Rattle.promises.specs.Runs.{outcome}

-- the float with this bit pattern
abbrev pub float_of : ℕ → Ieee.Float
float_of pattern = Ieee.of_bits Ieee.binary32 pattern

abbrev pub show_rows : List PlainRow
show_rows =
    reset_row ∷
    record { process = 1; parameter = 1; kind = Integer (record { least = 0; greatest = 32000; «default» = 0 }); readable = true; writable = true; secured = false; feed = 1; flow = 30000; text = [] } ∷
    record { process = 2; parameter = 1; kind = Integer (record { least = 0; greatest = 32000; «default» = 0 }); readable = true; writable = true; secured = false; feed = 1; flow = 40000; text = [] } ∷
    record { process = 1; parameter = 0; kind = Integer (record { least = 0; greatest = 41942; «default» = 0 }); readable = true; writable = false; secured = false; feed = 0; flow = 0; text = [] } ∷
    record { process = 113; parameter = 6; kind = OpenText; readable = true; writable = true; secured = true; feed = 0; flow = 0; text = codes "HALL" } ∷
    -- 0 to 1000, default 500
    record { process = 104; parameter = 3; kind = Float (record { least = float_of 0; greatest = float_of 0x447a0000; «default» = float_of 0x43fa0000 }); readable = true; writable = true; secured = false; feed = 0; flow = 0; text = [] } ∷ []

-- feed 1 has a limit of 50,000 ml/min, and the node is 3
abbrev pub show_rack : Setup
show_rack = record { rows = show_rows; limits = 50000 ∷ 0 ∷ 0 ∷ 0 ∷ 0 ∷ 0 ∷ 0 ∷ 0 ∷ []; node = 3 }

-- a frame with the 0D 0A that ends it
abbrev pub ended : List ℕ → List ℕ
ended text = text ++ 13 ∷ 10 ∷ []

-- a call in the ASCII framing, and one in the binary framing
abbrev pub asks : List ℕ → Call
asks text = record { wire = wire_of ascii; frame = ended text; room = 138 }

abbrev pub asks_binary : List ℕ → Call
asks_binary frame = record { wire = wire_of binary; frame = frame; room = 138 }

-- the answers to calls, one after the other
abbrev pub answers_from : Values → List Call → List (List ℕ)
answers_from h [] = []
answers_from h (c ∷ calls) = (outcome show_rack c h).answer ∷ answers_from (values_after show_rack h (request_of show_rack c)) calls

-- those of a new show rack
abbrev pub answers : List Call → List (List ℕ)
answers calls = answers_from (defaults show_rows) calls

-- 16000 for row 1 and 28000 for row 2: 480,000,000 and 1,120,000,000, just the limit of 1,600,000,000
abbrev pub cue : Call
cue = asks (codes ":0A800181213E8002216D60")

-- 64 for row 0
abbrev pub unlock : Call
unlock = asks (codes ":058001000A40")

-- BAR for row 4
abbrev pub rename : Call
rename = asks (codes ":09800171660042415200")

-- the exchanges, each from a new rack
abbrev pub Exchanges : Type 0
Exchanges =
    (
    answers (cue ∷ [])
    ∷ answers (asks (codes ":0A800181213E8002216D61") ∷ [])
    ∷ answers (cue ∷ asks (codes ":09800101A13E80213E80") ∷ [])
    ∷ answers (asks (codes ":06800401210121") ∷ [])
    ∷ answers (cue ∷ asks (codes ":06800401210121") ∷ [])
    ∷ answers (rename ∷ [])
    ∷ answers (unlock ∷ rename ∷ [])
    ∷ answers (asks (codes ":0C8001800A4071660042415200") ∷ [])
    ∷ answers (asks (codes ":06040401210121") ∷ [])
    ∷ answers (asks (codes ":06800405210521") ∷ [])
    ∷ answers (asks (codes ":06800401010101") ∷ [])
    ∷ answers (asks (codes ":06800101217D01") ∷ [])
    ∷ answers (asks (codes ":05800101217D") ∷ [])
    ∷ answers (cue ∷ asks_binary (0x10 ∷ 0x02 ∷ 0x10 ∷ 0x10 ∷ 0x80 ∷ 0x05 ∷ 0x04 ∷ 0x01 ∷ 0x21 ∷ 0x01 ∷ 0x21 ∷ 0x10 ∷ 0x03 ∷ []) ∷ [])
    ∷ []
    ) ≡
    (
    (ended (codes ":0480000009") ∷ [])
    ∷ (ended (codes ":0480000602") ∷ [])
    ∷ (ended (codes ":0480000009") ∷ ended (codes ":0480000008") ∷ [])
    ∷ (ended (codes ":06800201210000") ∷ [])
    ∷ (ended (codes ":0480000009") ∷ ended (codes ":06800201213E80") ∷ [])
    ∷ (ended (codes ":0480000D02") ∷ [])
    ∷ (ended (codes ":0480000004") ∷ ended (codes ":0480000008") ∷ [])
    ∷ (ended (codes ":0480000D05") ∷ [])
    ∷ (ended (codes ":0105") ∷ [])
    ∷ (ended (codes ":0480000303") ∷ [])
    ∷ (ended (codes ":0480000504") ∷ [])
    ∷ (ended (codes ":0480000603") ∷ [])
    ∷ (ended (codes ":0480002204") ∷ [])
    ∷ (ended (codes ":0480000009") ∷ (0x10 ∷ 0x02 ∷ 0x10 ∷ 0x10 ∷ 0x80 ∷ 0x05 ∷ 0x02 ∷ 0x01 ∷ 0x21 ∷ 0x3e ∷ 0x80 ∷ 0x10 ∷ 0x03 ∷ []) ∷ [])
    ∷ []
    )
