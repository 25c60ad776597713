-- What a refused call, and one that tells a fault, leave.
use Rattle.std.specs.Prelude.{◌≡◌, ℕ, ◌<◌, ◌≤◌, [], Some, None}
use Rattle.std.specs.Option.{option_map}
use Rattle.chain.specs.declared.fault.RackFault.{RackFault}
use Rattle.chain.specs.Answers.{Values}
use Rattle.promises.specs.declared.outcome.AnswerRefusal.{AnswerRefusal}
use Rattle.promises.specs.Outcomes.{Outcome, refusal_number}
use Rattle.promises.specs.Wires.{Call}
use Rattle.promises.specs.Requests.{Setup}
use Rattle.promises.specs.Runs.{CallAnswered}

pub record RefusesRightly (s : Setup) (c : Call) (before : Values) (o : Outcome) (after : Values) : Type 0 where
  -- a call with a short buffer is refused by 1, with no answer and no fault
  pub short : c.room < 138 → (option_map refusal_number o.refusal ≡ Some 1) × (o.answer ≡ []) × (o.fault ≡ None)
  -- no other is refused
  pub long : 138 ≤ c.room → o.refusal ≡ None
  -- whatever tells a refusal or a fault changes no value
  pub refused : (e : AnswerRefusal) → o.refusal ≡ Some e → (r : ℕ) → after r ≡ before r
  pub faulty : (f : RackFault) → o.fault ≡ Some f → (r : ℕ) → after r ≡ before r

abbrev pub Refusing : Call → Type 0
Refusing c = (s : Setup) (before after : Values) (o : Outcome) → CallAnswered s c before o after → RefusesRightly s c before o after
