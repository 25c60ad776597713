-- What an answering call gives.
use Rattle.std.specs.Prelude.{ℕ, List, [], take, Some, None, Ok, Err, Option, Result}
use Rattle.chain.specs.declared.fault.RackFault.{RackFault}
use Rattle.promises.specs.declared.outcome.AnswerRefusal.{AnswerRefusal}
use Rattle.promises.specs.declared.outcome.AnswerRefusal.TheVariants.{ShortBuffer}
use Rattle.promises.specs.declared.outcome.Answered.{Answered}
use Rattle.promises.specs.declared.outcome.ErrorReply.{ErrorReply}
use Rattle.promises.specs.declared.outcome.ErrorReply.TheVariants.{Unreadable, OtherNode}

-- the number of a refusal
abbrev pub refusal_number : AnswerRefusal → ℕ
refusal_number ShortBuffer = 1

-- the code of an error message that answers
abbrev pub error_code : ErrorReply → ℕ
error_code Unreadable = 0x03
error_code OtherNode = 0x05

-- what a call gives: its refusal, the bytes of its answer (none where there is no answer), and its fault
pub record Outcome : Type 0 where
  pub refusal : Option AnswerRefusal
  pub answer : List ℕ
  pub fault : Option RackFault

-- the outcome that the result of a call tells, with the buffer as the call leaves it
abbrev pub outcome_of : Result Answered AnswerRefusal → List ℕ → Outcome
outcome_of (Ok a) buffer = record { refusal = None; answer = take a.len buffer; fault = a.fault }
outcome_of (Err refusal) buffer = record { refusal = Some refusal; answer = []; fault = None }
