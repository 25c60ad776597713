-- What is told of a read: the bytes of its answer, or what refuses it.
use Rattle.std.specs.Prelude.{ℕ, List, Some, None, Ok, Err, Option, Result}
use Rattle.chain.specs.declared.answer.ReadAnswer.{ReadAnswer}
use Rattle.chain.specs.declared.fault.RackFault.{RackFault}
use Rattle.chain.specs.Answers.{Answer}
use Rattle.chain.specs.Built.{built}

-- as the code tells it
abbrev pub answer_of : Result ReadAnswer RackFault → Result (List ℕ) RackFault
answer_of (Ok a) = Ok (built a)
answer_of (Err f) = Err f

-- by the definition: bytes that were put together before a refusal are no answer
abbrev pub unless_refused : Option RackFault → List ℕ → Result (List ℕ) RackFault
unless_refused None bytes = Ok bytes
unless_refused (Some f) bytes = Err f

abbrev pub result_of : Answer → Result (List ℕ) RackFault
result_of a = unless_refused a.refusal a.bytes
