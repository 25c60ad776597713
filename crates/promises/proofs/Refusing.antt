-- What is refused, and what a refused call and one that tells a fault leave.
use Rattle.std.proofs.Common.{◌≡◌, ℕ, Bool, ltb, List, [], ◌∷◌, Some, None, Ok, Err, Option, Result, sym, refl, ap, ◌∙◌}
use Rattle.std.proofs.lemmas.Bool.{cond-true, cond-false, lt-ltb, le-ltb}
use Rattle.line.specs.declared.refusal.Flaw.{Flaw}
use Rattle.line.specs.Messages.{Msg, data_msg, error_msg}
use Rattle.table.specs.Rows.{PlainRow}
use Rattle.chain.specs.declared.access.Command.{Command}
use Rattle.chain.specs.declared.access.Command.TheVariants as command
use Rattle.chain.specs.declared.fault.ChainFault.{ChainFault}
use Rattle.chain.specs.declared.fault.RackFault.{RackFault}
use Rattle.chain.specs.Access.{command_of}
use Rattle.chain.specs.Walks.{Walked}
use Rattle.chain.specs.Answers.{Values}
use Rattle.chain.specs.Kept.{laid_over}
use Rattle.promises.specs.declared.outcome.AnswerRefusal.{AnswerRefusal}
use Rattle.promises.specs.Outcomes.{Outcome}
use Rattle.promises.specs.Wires.{Call}
use Rattle.promises.specs.Requests.{Setup, Request, short_buffer, unreadable, error_message, other_node, unknown_command, write, read, command_request, data_request, for_rack, message_request, frame_request, request_of}
use Rattle.promises.specs.Replies.{write_refusal, reply_to, unless_refused, values_after}
use Rattle.promises.specs.Runs.{given}
use Rattle.promises.specs.Refusals.{Refusing}
use Rattle.promises.proofs.Options.{some-none, cond_prop}

-- only a short buffer has a refusal
abbrev Unrefused : Request → Type 0
Unrefused a = (s : Setup) (h : Values) → (reply_to s h a).refusal ≡ None

command_unrefused : (rows : List PlainRow) (node : ℕ) (o : Result Command ChainFault) (bs : List ℕ) → Unrefused (command_request rows node o bs)
command_unrefused rows node (Ok command.Write) bs s h = refl
command_unrefused rows node (Ok command.WriteUnanswered) bs s h = refl
command_unrefused rows node (Ok command.Read) bs s h = refl
command_unrefused rows node (Err fault) bs s h = refl

data_unrefused : (rows : List PlainRow) (node : ℕ) (bs : List ℕ) → Unrefused (data_request rows node bs)
data_unrefused rows node [] s h = refl
data_unrefused rows node (b ∷ bs) s h = command_unrefused rows node (command_of b) bs s h

message_unrefused : (s : Setup) (m : Msg) → Unrefused (message_request s m)
message_unrefused s (data_msg node bs) =
    cond_prop Unrefused (for_rack s node) (data_request s.rows node bs) other_node (data_unrefused s.rows node bs) (λ s h. refl)
message_unrefused s (error_msg code) = λ s h. refl

pub frame_unrefused : (s : Setup) (b : Bool) (o : Result Msg Flaw) → Unrefused (frame_request s b o)
frame_unrefused s b (Ok m) = message_unrefused s m
frame_unrefused s b (Err flaw) = λ s h. refl

-- what tells a fault keeps nothing
write_stays : (w : Walked) (o : Option RackFault) (h : Values) (f : RackFault) → o ≡ Some f → (r : ℕ) → laid_over (unless_refused o w.items) h r ≡ h r
write_stays w None h f e r = some-none f (sym e)
write_stays w (Some g) h f e r = refl

fault_stays : (s : Setup) (h : Values) (a : Request) (f : RackFault) → (reply_to s h a).fault ≡ Some f → (r : ℕ) → values_after s h a r ≡ h r
fault_stays s h short_buffer f e r = refl
fault_stays s h (unreadable flaw b) f e r = refl
fault_stays s h error_message f e r = refl
fault_stays s h other_node f e r = refl
fault_stays s h (unknown_command node fault) f e r = refl
fault_stays s h (write node b size w) f e r = write_stays w (write_refusal s h w) h f e r
fault_stays s h (read node w) f e r = refl

refusal_stays : (s : Setup) (h : Values) (a : Request) (x : AnswerRefusal) → (reply_to s h a).refusal ≡ Some x → (r : ℕ) → values_after s h a r ≡ h r
refusal_stays s h short_buffer x e r = refl
refusal_stays s h (unreadable flaw b) x e r = refl
refusal_stays s h error_message x e r = refl
refusal_stays s h other_node x e r = refl
refusal_stays s h (unknown_command node fault) x e r = refl
refusal_stays s h (write node b size w) x e r = some-none x (sym e)
refusal_stays s h (read node w) x e r = refl

pub refusing : (c : Call) → Refusing c
refusing c s h k o a =
    let long : Request = frame_request s c.wire.answers_unreadable (c.wire.reads c.frame) in
    record {
      short = λ l.
          let e : o ≡ given c (reply_to s h short_buffer) =
          a.gives ∙ ap (λ (x : Request). given c (reply_to s h x)) (cond-true (ltb c.room 138) short_buffer long (lt-ltb c.room 138 l)) in
          (rw e, rw e, rw e);
      long = λ l.
          ap (λ (x : Outcome). x.refusal) a.gives ∙
          ap (λ (x : Request). (reply_to s h x).refusal) (cond-false (ltb c.room 138) short_buffer long (le-ltb c.room 138 l)) ∙
          frame_unrefused s c.wire.answers_unreadable (c.wire.reads c.frame) s h;
      refused = λ x e r. a.leaves r ∙ refusal_stays s h (request_of s c) x (sym (ap (λ (y : Outcome). y.refusal) a.gives) ∙ e) r;
      faulty = λ f e r. a.leaves r ∙ fault_stays s h (request_of s c) f (sym (ap (λ (y : Outcome). y.fault) a.gives) ∙ e) r;
    }
