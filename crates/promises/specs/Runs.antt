-- What one answering call gives and leaves, and runs of such calls.
use Rattle.std.specs.Prelude.{◌≡◌, ℕ, ◌<◌, ◌⊎◌, List, [], ◌∷◌, length, Some, None, Ok, Option}
use Rattle.line.specs.Messages.{Msg}
use Rattle.table.specs.Draws.{defaults}
use Rattle.chain.specs.Answers.{Values}
use Rattle.promises.specs.Outcomes.{Outcome}
use Rattle.promises.specs.Wires.{Call}
use Rattle.promises.specs.Requests.{Setup, request_of}
use Rattle.promises.specs.Replies.{Reply, reply_to, values_after}

-- the bytes of an answer: the message in the call's own framing, or none
abbrev pub answer_bytes : Call → Option Msg → List ℕ
answer_bytes c None = []
answer_bytes c (Some message) = c.wire.replies c.frame message

-- a reply as the call gives it
abbrev pub given : Call → Reply → Outcome
given c reply = record { refusal = reply.refusal; answer = answer_bytes c reply.message; fault = reply.fault }

-- what a call gives while the rows hold these values
abbrev pub outcome : Setup → Call → Values → Outcome
outcome s c h = given c (reply_to s h (request_of s c))

-- One answering call, from the values before it to those after it.
pub record CallAnswered (s : Setup) (c : Call) (before : Values) (o : Outcome) (after : Values) : Type 0 where
  pub gives : o ≡ outcome s c before
  pub leaves : (r : ℕ) → after r ≡ values_after s before (request_of s c) r

-- A run: the calls of a list are answered one after the other, each from the values that the one before it left.
abbrev pub Run : Setup → List Call → Values → List Outcome → Values → Type 0
Run s [] before [] after = (r : ℕ) → after r ≡ before r
Run s [] before (o ∷ os) after = ⊥
Run s (c ∷ calls) before [] after = ⊥
Run s (c ∷ calls) before (o ∷ os) after = (between : Values) × CallAnswered s c before o between × Run s calls between os after

-- a new rack, over any store: each row of the table has its default
abbrev pub New : Setup → Values → Type 0
New s h = (r : ℕ) → r < length s.rows → h r ≡ defaults s.rows r

-- a call recast: the same, or with a frame that its own framing reads as the same message in place of a frame that can be read
abbrev pub Recast : Call → Call → Type 0
Recast c d = (c ≡ d) ⊎ ((m : Msg) × (c.wire.reads c.frame ≡ Ok m) × (d.wire.reads d.frame ≡ Ok m) × (c.room ≡ d.room))
