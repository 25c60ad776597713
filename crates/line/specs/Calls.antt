-- What reading and writing a frame answer and leave in the lent buffer, by a framing's rule.
use Rattle.std.specs.Prelude.{ℕ, ◌+◌, Bool, false, cond, ◌||◌, List, [], ◌++◌, length, take, drop, Ok, Err, Result, ◌==◌, nat_lt}
use Rattle.line.specs.declared.message.Message.{Message}
use Rattle.line.specs.declared.message.Message.TheVariants as message
use Rattle.line.specs.declared.message.Unpacked.{Unpacked}
use Rattle.line.specs.declared.message.Unpacked.TheVariants as unpacked
use Rattle.line.specs.declared.refusal.Flaw.{Flaw}
use Rattle.line.specs.declared.refusal.ReadRefusal.{ReadRefusal}
use Rattle.line.specs.declared.refusal.ReadRefusal.TheVariants as read
use Rattle.line.specs.declared.refusal.WriteRefusal.{WriteRefusal}
use Rattle.line.specs.declared.refusal.WriteRefusal.TheVariants as write
use Rattle.line.specs.Messages.{Msg, data_msg, error_msg}
use Rattle.line.specs.Framings.{Rule}

-- The message that is handed in.
abbrev pub said : Message → Msg
said (message.Data node bytes) = data_msg node bytes.now
said (message.Error code) = error_msg code

-- What is told of a message whose data bytes are put into a buffer.
abbrev pub told : Msg → Unpacked
told (data_msg node bytes) = unpacked.Data node (length bytes)
told (error_msg code) = unpacked.Error code

-- The message that is told of, with its data bytes at the start of a buffer.
abbrev pub placed : Unpacked → List ℕ → Msg
placed (unpacked.Data node len) buffer = data_msg node (take len buffer)
placed (unpacked.Error code) buffer = error_msg code

abbrev pub data_bytes : Msg → List ℕ
data_bytes (data_msg node bytes) = bytes
data_bytes (error_msg code) = []

-- A buffer with `xs` written at its start: the bytes past them stay.
abbrev pub starting_with : List ℕ → List ℕ → List ℕ
starting_with xs buffer = xs ++ drop (length xs) buffer

-- A buffer with `xs` written at a place.
abbrev pub overlaid : List ℕ → ℕ → List ℕ → List ℕ
overlaid buffer place xs = take place buffer ++ (xs ++ drop (place + length xs) buffer)

-- A data message of 0 or over 64 bytes can not be framed.
abbrev pub wrong_length : Msg → Bool
wrong_length (data_msg node bytes) = length bytes == 0 || nat_lt 64 (length bytes)
wrong_length (error_msg code) = false

module _ {Mark : Type 0} where
  -- What is told of what a frame reads as.
  abbrev pub told_of : Result (Mark × Msg) Flaw → Result (Mark × Unpacked) Flaw
  told_of (Ok p) = Ok (p.0, told p.1)
  told_of (Err flaw) = Err flaw

  abbrev pub answer_of : Result (Mark × Msg) Flaw → Result (Mark × Unpacked) ReadRefusal
  answer_of (Ok p) = Ok (p.0, told p.1)
  answer_of (Err flaw) = Err (read.Unreadable flaw)

  abbrev pub buffer_of : Result (Mark × Msg) Flaw → List ℕ → List ℕ
  buffer_of (Ok p) buffer = starting_with (data_bytes p.1) buffer
  buffer_of (Err flaw) buffer = buffer

  abbrev pub read_answer : Rule Mark → List ℕ → List ℕ → Result (Mark × Unpacked) ReadRefusal
  read_answer R frame buffer = cond (nat_lt (length buffer) 64) (Err read.ShortBuffer) (answer_of (R.reads frame))

  abbrev pub read_buffer : Rule Mark → List ℕ → List ℕ → List ℕ
  read_buffer R frame buffer = cond (nat_lt (length buffer) 64) buffer (buffer_of (R.reads frame) buffer)

  abbrev pub write_answer : Rule Mark → Mark → Msg → List ℕ → Result ℕ WriteRefusal
  write_answer R m s buffer =
      cond (nat_lt (length buffer) 138) (Err write.ShortBuffer)
      (cond (wrong_length s) (Err write.DataLength) (Ok (length (R.writes m s))))

  abbrev pub write_buffer : Rule Mark → Mark → Msg → List ℕ → List ℕ
  write_buffer R m s buffer =
      cond (nat_lt (length buffer) 138) buffer (cond (wrong_length s) buffer (starting_with (R.writes m s) buffer))
