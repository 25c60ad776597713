-- Each call has the outcome that is laid down for the values accepted before it, and the same outcome in any order that the theorem on
-- order admits.
use Rattle.std.proofs.Common.{◌≡◌, ℕ, zero, suc, ◌<◌, Bool, true, false, ltb, List, [], ◌∷◌, length, get_or, take, Some, None, Ok, Err, Option, Result, sym, refl, ap, ◌∙◌, subst, ⊎_elim, arith}
use Rattle.std.proofs.lemmas.Bool.{cases_Bool, cond-true, cond-false}
use Rattle.std.specs.Bool.{then_some}
use Rattle.std.specs.Result.{result_ok}
use Rattle.line.specs.declared.refusal.Flaw.{Flaw}
use Rattle.line.specs.Messages.{Msg, error_msg, Bytes}
use Rattle.table.specs.Tables.{Ruled}
use Rattle.order.specs.Reordering.{Rearranged, SameRun}
use Rattle.order.proofs.Reordering.{reordering}
use Rattle.order.proofs.Runs.{runs}
use Rattle.chain.specs.Answers.{Values}
use Rattle.promises.specs.Outcomes.{Outcome}
use Rattle.promises.specs.Wires.{message_in, Lawful, Call, LawfulCall}
use Rattle.promises.specs.Requests.{Setup, Request, short_buffer, message_request, frame_request, request_of}
use Rattle.promises.specs.Replies.{Reply, reply_to, values_after}
use Rattle.promises.specs.Meeting.{rack_calls}
use Rattle.promises.specs.Runs.{answer_bytes, given, outcome, New, Recast}
use Rattle.promises.specs.Promised.{accepted_values, AllLawful, AsLaidDown, AllAsLaidDown, SameOutcome, SameInOrder}
use Rattle.promises.proofs.Options.{cond_prop}
use Rattle.promises.proofs.Keeping.{run, left, held}
use Rattle.promises.proofs.Chained.{in_table}
use Rattle.promises.proofs.Locality.{premises, reply_by, shown, hidden}
use Rattle.promises.proofs.Sending.{Tidy, GoodRequest, message_good, Sent, reply_sent, tidy_after}

-- what a call comes to, whose frame is made of bytes
frame_good : (s : Setup) (c : Call) → LawfulCall c → (o : Result Msg Flaw) → c.wire.reads c.frame ≡ o → GoodRequest (frame_request s c.wire.answers_unreadable o)
frame_good s c d (Ok m) e = message_good s m (d.0.reads_framable c.frame m d.1 e)
frame_good s c d (Err flaw) e = tt

pub request_good : (s : Setup) (c : Call) → LawfulCall c → GoodRequest (request_of s c)
request_good s c d =
    cond_prop GoodRequest (ltb c.room 138) short_buffer (frame_request s c.wire.answers_unreadable (c.wire.reads c.frame)) tt
    (frame_good s c d (c.wire.reads c.frame) refl)

-- what answers such a call can be sent
pub answer_sent : (s : Setup) → Ruled s.rows s.limits → (c : Call) → LawfulCall c → (h : Values) → Tidy s.rows h → Sent (reply_to s h (request_of s c)).message
answer_sent s ruled c d h y = reply_sent s ruled h (request_of s c) y (in_table s c) (request_good s c d)

-- the call's own framing reads from the answer the message that answers the call
no_message : (o : Result Msg Flaw) → ((m : Msg) → o ≡ Ok m → ⊥) → result_ok o ≡ None
no_message (Ok m) n = absurd (n m refl)
no_message (Err flaw) n = refl

silent : (c : Call) → Lawful c.wire → message_in c.wire [] ≡ None
silent c law = no_message (c.wire.reads []) law.empty_unread

answer_read : (c : Call) → Lawful c.wire → (q : Msg) → c.wire.reads c.frame ≡ Ok q → (o : Option Msg) → Sent o → message_in c.wire (answer_bytes c o) ≡ o
answer_read c law q e None x = silent c law
answer_read c law q e (Some m) x = ap result_ok (law.reads_answer c.frame q m e x.0 x.1)

error_read : (c : Call) → Lawful c.wire → (flaw : Flaw) → c.wire.reads c.frame ≡ Err flaw → (b : Bool) → c.wire.answers_unreadable ≡ b →
    message_in c.wire (answer_bytes c (then_some b (error_msg 3))) ≡ then_some b (error_msg 3)
error_read c law flaw e true f = ap result_ok (law.reads_error c.frame flaw (error_msg 3) e f tt (omega arith))
error_read c law flaw e false f = silent c law

abbrev Heard : Call → Reply → Type 0
Heard c reply = message_in c.wire (answer_bytes c reply.message) ≡ reply.message

heard_by : (s : Setup) (c : Call) → Lawful c.wire → (h : Values) (o : Result Msg Flaw) → c.wire.reads c.frame ≡ o →
    Sent (reply_to s h (frame_request s c.wire.answers_unreadable o)).message → Heard c (reply_to s h (frame_request s c.wire.answers_unreadable o))
heard_by s c law h (Ok q) e x = answer_read c law q e (reply_to s h (message_request s q)).message x
heard_by s c law h (Err flaw) e x = error_read c law flaw e c.wire.answers_unreadable refl

pub heard : (s : Setup) → Ruled s.rows s.limits → (c : Call) → LawfulCall c → (h : Values) → Tidy s.rows h → Heard c (reply_to s h (request_of s c))
heard s ruled c d h y =
    let x = answer_sent s ruled c d h y in
    let long : Request = frame_request s c.wire.answers_unreadable (c.wire.reads c.frame) in
    ⊎_elim
    (λ (k : ltb c.room 138 ≡ true).
    subst (λ (a : Request). Heard c (reply_to s h a)) (sym (cond-true (ltb c.room 138) short_buffer long k)) (silent c d.0))
    (λ (k : ltb c.room 138 ≡ false).
    let e = cond-false (ltb c.room 138) short_buffer long k in
    subst (λ (a : Request). Heard c (reply_to s h a)) (sym e)
    (heard_by s c d.0 h (c.wire.reads c.frame) refl (subst (λ (a : Request). Sent (reply_to s h a).message) e x)))
    (cases_Bool (ltb c.room 138))

-- the values before each call of a run are made of bytes
tidy_new : (s : Setup) → Ruled s.rows s.limits → (h : Values) → New s h → Tidy s.rows h
tidy_new s ruled h new r l = subst Bytes (sym (new r l)) (ruled.octets r)

tidy_at : (s : Setup) (calls : List Call) → AllLawful calls → (h : Values) → Tidy s.rows h → (i : ℕ) → Tidy s.rows (left s (take i calls) h)
tidy_at s calls g h y zero = y
tidy_at s [] g h y (suc i) = y
tidy_at s (c ∷ calls) g h y (suc i) =
    tidy_at s calls (λ x k b. g x (suc k) (omega arith)) (values_after s h (request_of s c))
    (tidy_after s h (request_of s c) (request_good s c (g c 0 (omega arith))) y) i

-- each place of a run
run_at : (s : Setup) (calls : List Call) (h : Values) (x : Call) (y : Outcome) (i : ℕ) → i < length calls →
    outcome s (get_or calls i x) (left s (take i calls) h) ≡ get_or (run s calls h) i y
run_at s [] h x y i b = absurd (omega arith)
run_at s (c ∷ calls) h x y zero b = refl
run_at s (c ∷ calls) h x y (suc i) b = run_at s calls (values_after s h (request_of s c)) x y i (omega arith)

take_run : (s : Setup) (calls : List Call) (h : Values) (i : ℕ) → run s (take i calls) h ≡ take i (run s calls h)
take_run s calls h zero = refl
take_run s [] h (suc i) = refl
take_run s (c ∷ calls) h (suc i) = ap (λ (os : List Outcome). outcome s c h ∷ os) (take_run s calls (values_after s h (request_of s c)) i)

-- the outcome laid down for values that agree with those held
laid_down_lem : (s : Setup) → Ruled s.rows s.limits → (c : Call) → LawfulCall c → (h k : Values) → Tidy s.rows h →
    ((r : ℕ) → r < length s.rows → h r ≡ k r) → AsLaidDown s k c (outcome s c h)
laid_down_lem s ruled c d h k y e =
    let z : reply_to s h (request_of s c) ≡ reply_to s k (request_of s c) = reply_by s ruled (request_of s c) h k (in_table s c) (λ r b _. e r b) in
    record {
      refusal = ap (λ (x : Reply). x.refusal) z;
      fault = ap (λ (x : Reply). x.fault) z;
      message = heard s ruled c d h y ∙ ap (λ (x : Reply). x.message) z;
      silence = λ q. ap (answer_bytes c) (ap (λ (x : Reply). x.message) z ∙ q);
    }

pub laid_down_run : (s : Setup) → Ruled s.rows s.limits → (calls : List Call) → AllLawful calls → (h : Values) → New s h → AllAsLaidDown s calls (run s calls h)
laid_down_run s ruled calls g h new x y i b =
    let k : Values = left s (take i calls) h in
    let a = held s (take i calls) h new in
    subst (λ (o : Outcome). AsLaidDown s (accepted_values s (take i calls) (take i (run s calls h))) (get_or calls i x) o) (run_at s calls h x y i b)
    (subst (λ (os : List Outcome). AsLaidDown s (accepted_values s (take i calls) os) (get_or calls i x) (outcome s (get_or calls i x) k)) (take_run s calls h i)
    (laid_down_lem s ruled (get_or calls i x) (g x i b) k (accepted_values s (take i calls) (run s (take i calls) h)) (tidy_at s calls g h (tidy_new s ruled h new) i) a))

-- the same message answers
silent_by : (c d : Call) → Lawful c.wire → (o : Option Msg) → message_in c.wire (answer_bytes c o) ≡ o → answer_bytes c o ≡ [] → answer_bytes d o ≡ []
silent_by c d law o e q = let z : o ≡ None = sym e ∙ ap (message_in c.wire) q ∙ silent c law in ap (answer_bytes d) z

same_by : (c d : Call) → Lawful c.wire → Lawful d.wire → (o p : Reply) → o ≡ p → Heard c o → Heard d p → SameOutcome c d (given c o) (given d p)
same_by c d law law' o p e u v = record {
  refusal = ap (λ (x : Reply). x.refusal) e;
  fault = ap (λ (x : Reply). x.fault) e;
  message = u ∙ ap (λ (x : Reply). x.message) e ∙ sym v;
  silence = (
    λ q. ap (λ (x : Reply). answer_bytes d x.message) (sym e) ∙ silent_by c d law o.message u q,
    λ q. ap (λ (x : Reply). answer_bytes c x.message) e ∙ silent_by d c law' p.message v q,
  );
}

pub order_run : (s : Setup) → Ruled s.rows s.limits → (calls calls' : List Call) (p : Rearranged (rack_calls s) Recast calls calls') → AllLawful calls → AllLawful calls' →
    (h h' : Values) → New s h → New s h' → SameInOrder s calls calls' p.to (run s calls h) (run s calls' h') (left s calls h) (left s calls' h')
order_run s ruled calls calls' p g g' h h' new new' =
    let same : SameRun (rack_calls s) (λ o q. o ≡ q) calls calls' p.to h h' =
    reordering (rack_calls s) Recast (λ o q. o ≡ q) (premises s ruled) calls calls' p h h'
    (λ r. hidden (length s.rows) r (h r) (h' r) [] (λ b. new r b ∙ sym (new' r b))) in
    let z : Reply = record { refusal = None; message = None; fault = None } in
    record {
      outcomes = λ x y i b.
          let b' : p.to i < length calls' = p.to_below i b in
          let c : Call = get_or calls i x in
          let d : Call = get_or calls' (p.to i) x in
          let k : Values = left s (take i calls) h in
          let k' : Values = left s (take (p.to i) calls') h' in
          let e : reply_to s k (request_of s c) ≡ reply_to s k' (request_of s d) =
          sym ((runs (rack_calls s)).place x z calls h i b) ∙ same.outcome z i b ∙ (runs (rack_calls s)).place x z calls' h' (p.to i) b' in
          subst (λ (o : Outcome). SameOutcome c d o (get_or (run s calls' h') (p.to i) y)) (run_at s calls h x y i b)
          (subst (λ (o : Outcome). SameOutcome c d (outcome s c k) o) (run_at s calls' h' x y (p.to i) b')
          (same_by c d (g x i b).0 (g' x (p.to i) b').0 (reply_to s k (request_of s c)) (reply_to s k' (request_of s d)) e
          (heard s ruled c (g x i b) k (tidy_at s calls g h (tidy_new s ruled h new) i))
          (heard s ruled d (g' x (p.to i) b') k' (tidy_at s calls' g' h' (tidy_new s ruled h' new') (p.to i)))));
      laid_down = laid_down_run s ruled calls g h new;
      laid_down' = laid_down_run s ruled calls' g' h' new';
      rows = λ r b. shown (length s.rows) r (left s calls h r) (left s calls' h' r) [] b (same.agree r);
    }
