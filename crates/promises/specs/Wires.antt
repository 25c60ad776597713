-- What a framing means to a rack: its rule, without the marks. And the calls that come in over it.
use Rattle.std.specs.Prelude.{◌≡◌, ℕ, Bool, true, List, [], length, is_some, Some, None, Ok, Err, Option, Result, ◌≢◌}
use Rattle.std.specs.Result.{result_ok, result_map_both}
use Rattle.line.specs.declared.refusal.Flaw.{Flaw}
use Rattle.line.specs.Messages.{Msg, data_msg, error_msg, Framable, Bytes, OfBytes}
use Rattle.line.specs.Framings.{Rule}

-- a framing without its marks
pub record Wire : Type 0 where
  -- the message of a frame, or what is wrong with it
  pub reads : List ℕ → Result Msg Flaw
  -- the frame that answers a frame with a message
  pub replies : List ℕ → Msg → List ℕ
  -- whether a frame that cannot be read is answered
  pub answers_unreadable : Bool

-- the message that a framing reads from some bytes, if it reads one
abbrev pub message_in : Wire → List ℕ → Option Msg
message_in w frame = result_ok (w.reads frame)

-- what a framing that keeps its meaning shows
pub record Lawful (w : Wire) : Type 0 where
  -- what it reads from bytes could be sent: 1 to 64 data bytes or an error's code, and all of it bytes
  pub reads_framable : (frame : List ℕ) (request : Msg) → Bytes frame → w.reads frame ≡ Ok request → Framable request × OfBytes request
  -- an answer to a frame reads as the message that was sent
  pub reads_answer : (frame : List ℕ) (request answer : Msg) → w.reads frame ≡ Ok request → Framable answer → OfBytes answer →
      w.reads (w.replies frame answer) ≡ Ok answer
  -- so does an answer to a frame that cannot be read, where such a frame is answered
  pub reads_error : (frame : List ℕ) (flaw : Flaw) (answer : Msg) → w.reads frame ≡ Err flaw → w.answers_unreadable ≡ true →
      Framable answer → OfBytes answer → w.reads (w.replies frame answer) ≡ Ok answer
  -- no bytes are no frame
  pub empty_unread : (request : Msg) → w.reads [] ≢ Ok request

-- an answering call: a frame, the framing that it came in, and the length of the buffer lent for the answer
pub record Call : Type 0 where
  pub wire : Wire
  pub frame : List ℕ
  pub room : ℕ

-- its framing keeps its meaning, and its frame is made of bytes
abbrev pub LawfulCall : Call → Type 0
LawfulCall c = Lawful c.wire × Bytes c.frame

-- the node that a message names; an error message names none
abbrev pub node_of : Msg → ℕ
node_of (data_msg node bytes) = node
node_of (error_msg code) = 0

module _ {Mark : Type 0} (R : Rule Mark) where
  -- an answer has the request's mark; an error's mark is told from that and the request's node
  abbrev pub answer_mark : Mark → Msg → Msg → Mark
  answer_mark mark request (data_msg node bytes) = mark
  answer_mark mark request (error_msg code) = R.error_mark mark (node_of request)

  -- the answer to a frame that cannot be read
  abbrev pub unreadable_frame : Option Mark → Msg → List ℕ
  unreadable_frame None answer = []
  unreadable_frame (Some mark) answer = R.writes mark answer

  -- the answer to a frame, by what is read from it
  abbrev pub answer_frame : Result (Mark × Msg) Flaw → Msg → List ℕ
  answer_frame (Ok p) answer = R.writes (answer_mark p.0 p.1 answer) answer
  answer_frame (Err flaw) answer = unreadable_frame R.unreadable_mark answer

  -- a framing's rule without its marks
  abbrev pub wire_of : Wire
  wire_of = record {
    reads = λ frame. result_map_both (λ p. p.1) (λ flaw. flaw) (R.reads frame);
    replies = λ frame answer. answer_frame (R.reads frame) answer;
    answers_unreadable = is_some R.unreadable_mark;
  }

  -- the call that hands in a frame of this framing, and a buffer for the answer
  abbrev pub call_over : (frame buffer : List ℕ) → Call
  call_over frame buffer = record { wire = wire_of; frame = frame; room = length buffer }
