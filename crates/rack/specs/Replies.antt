-- What the code answers with.
use Rattle.std.specs.Prelude.{◌≡◌, ℕ, Bool, List, [], Some, None, Ok, Err, Option, Result}
use Rattle.std.specs.Option.{option_map}
use Rattle.std.specs.Bool.{then_some}
use Rattle.line.specs.declared.fault.LineFault.TheVariants.{Unreadable}
use Rattle.line.specs.declared.message.Message.{Message}
use Rattle.line.specs.declared.refusal.Flaw.{Flaw}
use Rattle.line.specs.Calls.{said}
use Rattle.line.specs.Framings.{Rule}
use Rattle.line.specs.Messages.{Msg, data_msg, error_msg}
use Rattle.chain.specs.declared.fault.ChainFault.{ChainFault}
use Rattle.chain.specs.declared.fault.ChainFault.TheVariants.{Line}
use Rattle.chain.specs.declared.fault.RackFault.{RackFault}
use Rattle.chain.specs.declared.fault.RackFault.TheVariants.{Chain}
use Rattle.chain.specs.Built.{built}
use Rattle.promises.specs.declared.outcome.ErrorReply.TheVariants as error
use Rattle.promises.specs.Outcomes.{error_code}
use Rattle.promises.specs.Replies.{Reply, fault_msg}
use Rattle.promises.specs.Wires.{answer_frame}
use Rattle.rack.specs.declared.replies.Answer.{Answer}
use Rattle.rack.specs.declared.replies.Answer.TheVariants as answer
use Rattle.rack.specs.declared.replies.Served.{Served}

-- the message that answers
abbrev pub message_of : Answer → Msg
message_of (answer.Status node bytes) = data_msg node bytes
message_of (answer.Read node values) = data_msg node (built values)
message_of (answer.Error error) = error_msg (error_code error)

-- the reply to a call that is not refused
abbrev pub reply_with : Option Msg → Option RackFault → Reply
reply_with message fault = record { refusal = None; message = message; fault = fault }

-- what is served, in the words of the promises
abbrev pub reply_of : Served Answer → Reply
reply_of served = reply_with (option_map message_of served.answer) served.fault

-- the answer to a message that has no command for the rack: error 05 where it is for another node, else a status
abbrev pub no_command_msg : ℕ → ChainFault → Msg
no_command_msg node (Line fault) = error_msg (error_code error.OtherNode)
no_command_msg node fault = fault_msg node (Chain fault)

-- what is served to a frame that cannot be read, answered or not
abbrev pub unreadable_reply : Flaw → Bool → Reply
unreadable_reply flaw answered = reply_with (then_some answered (error_msg (error_code error.Unreadable))) (Some (Chain (Line (Unreadable flaw))))

module _ {Mark : Type 0} where
  -- what is read from a frame
  abbrev pub read_in : Result (Mark × Message) Flaw → Result (Mark × Msg) Flaw
  read_in (Ok p) = Ok (p.0, said p.1)
  read_in (Err flaw) = Err flaw

  -- the messages that answer under a mark, and what is served with them
  abbrev pub marked_msg : Option (Mark × Answer) → Option Msg
  marked_msg answer = option_map (λ a. message_of a.1) answer

  abbrev pub marked_reply : Served (Mark × Answer) → Reply
  marked_reply served = reply_with (marked_msg served.answer) served.fault

  -- the frame of an answer under its mark: none where there is no answer
  abbrev pub frame_of : Rule Mark → Option (Mark × Answer) → List ℕ
  frame_of R None = []
  frame_of R (Some a) = R.writes a.0 (message_of a.1)

  -- the frame that answers, by what is read from the request: none where there is no answer
  abbrev pub frame_for : Rule Mark → Result (Mark × Msg) Flaw → Option Msg → List ℕ
  frame_for R request None = []
  frame_for R request (Some message) = answer_frame R request message

  -- what is served is framed as an answer to what was read
  abbrev pub Framed : Rule Mark → Result (Mark × Msg) Flaw → Served (Mark × Answer) → Type 0
  Framed R request served = frame_of R served.answer ≡ frame_for R request (marked_msg served.answer)
