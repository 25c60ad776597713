-- A call goes by the rows that it concerns and changes only those that it writes, and a call that is recast comes to the same: what the
-- theorem on order asks of the calls on a rack.
use Rattle.std.proofs.Common.{◌≡◌, ℕ, suc, ◌<◌, Bool, true, false, cond, not, ◌&&◌, ◌||◌, eqb, ltb, List, [], ◌∷◌, ◌++◌, length, get_or, Some, None, Ok, Option, Result, unwrap_or, sym, refl, ap, ◌∙◌, subst, inl, inr, ⊎_elim, arith}
use Rattle.std.proofs.lemmas.Bool.{cases_Bool, cond-true, cond-false, eqb-true, eq-eqb, ne_eqb, lt-ltb, ltb-true, and_parts, and_from, or_left, or_right, or_parts, not_from_false}
use Rattle.line.specs.declared.refusal.Flaw.{Flaw}
use Rattle.line.specs.Messages.{Msg}
use Rattle.table.specs.Rows.{PlainRow}
use Rattle.table.specs.Draws.{row_at}
use Rattle.table.specs.Tables.{Ruled}
use Rattle.order.specs.Calls.{Local, AgreeFor, Alike, Premises}
use Rattle.order.specs.Last.{else}
use Rattle.chain.specs.declared.fault.RackFault.{RackFault}
use Rattle.chain.specs.declared.fault.RackFault.TheVariants.{Secured}
use Rattle.chain.specs.Faults.{too_long}
use Rattle.chain.specs.Items.{PlainItem, row_of, place_of}
use Rattle.chain.specs.Items as item
use Rattle.chain.specs.Walks.{Found, Walked}
use Rattle.chain.specs.Locks.{first_secured, lock_of}
use Rattle.chain.specs.Answers.{Values, Answer, answered, answer_from}
use Rattle.chain.specs.Kept.{value_for, last_value, laid_over}
use Rattle.promises.specs.Wires.{Call}
use Rattle.promises.specs.Requests.{Setup, Request, short_buffer, unreadable, error_message, other_node, unknown_command, write, read, message_request, frame_request, request_of}
use Rattle.promises.specs.Replies.{unlocked, feed_within, first_on, feed_refusal, over_limit, first_refusal, feeds, overdrawn, write_refusal, write_reply, read_reply, reply_to, unless_refused, values_after}
use Rattle.promises.specs.Meeting.{found_for, is_write, of_some, names, writes_row, goes_with, concerns_row, rack_calls}
use Rattle.promises.specs.Runs.{Recast}
use Rattle.promises.proofs.Options.{some-none, false-true, cond_same, none-else}
use Rattle.promises.proofs.Keeping.{within_on, at_feeds}
use Rattle.promises.proofs.Chained.{Ranged, Covered, InTable, OfChain, in_table}

-- the row is named
abbrev among : ℕ → List Found → Bool
among r fs = of_some (λ k. eqb r k) fs

-- a write that finds these rows concerns the row
abbrev around : List PlainRow → List Found → ℕ → Bool
around rows fs r = among r fs || of_some (goes_with rows r) fs

secured_with : (rows : List PlainRow) (fs : List Found) (x : RackFault) → first_secured rows fs ≡ Some x → of_some (goes_with rows 0) fs ≡ true
secured_with rows [] x e = some-none x (sym e)
secured_with rows (f ∷ fs) x e =
    ⊎_elim
    (λ (k : (f.reached && (row_at rows f.row).secured) ≡ true).
    or_left (goes_with rows 0 f.row) (of_some (goes_with rows 0) fs)
    (or_left ((row_at rows f.row).secured && eqb 0 0) (not (eqb (row_at rows f.row).feed 0) && eqb (row_at rows 0).feed (row_at rows f.row).feed)
    (and_from (row_at rows f.row).secured (eqb 0 0) (and_parts f.reached (row_at rows f.row).secured k).1 refl)))
    (λ (k : (f.reached && (row_at rows f.row).secured) ≡ false).
    or_right (goes_with rows 0 f.row) (of_some (goes_with rows 0) fs)
    (secured_with rows fs x (sym (cond-false (f.reached && (row_at rows f.row).secured) (Some (Secured f.place)) (first_secured rows fs) k) ∙ e)))
    (cases_Bool (f.reached && (row_at rows f.row).secured))

on_feed : (rows : List PlainRow) (k r f : ℕ) → (row_at rows k).feed ≡ suc f → (row_at rows r).feed ≡ suc f → goes_with rows r k ≡ true
on_feed rows k r f e g =
    or_right ((row_at rows k).secured && eqb r 0) (not (eqb (row_at rows k).feed 0) && eqb (row_at rows r).feed (row_at rows k).feed)
    (and_from (not (eqb (row_at rows k).feed 0)) (eqb (row_at rows r).feed (row_at rows k).feed)
    (not_from_false (eqb (row_at rows k).feed 0) (ne_eqb (row_at rows k).feed 0 (λ z. let y : (row_at rows k).feed ≡ suc f = e in omega arith)))
    (eq-eqb (row_at rows r).feed (row_at rows k).feed (g ∙ sym e)))

feed_with : (rows : List PlainRow) (is : List PlainItem) (fs : List Found) (f p : ℕ) → Covered is fs → first_on rows (suc f) is ≡ Some p →
    (r : ℕ) → (row_at rows r).feed ≡ suc f → of_some (goes_with rows r) fs ≡ true
feed_with rows [] fs f p c e r g = some-none p (sym e)
feed_with rows (i ∷ is) [] f p c e r g = absurd c
feed_with rows (i ∷ is) (x ∷ fs) f p c e r g =
    ⊎_elim
    (λ (k : eqb (row_at rows (row_of i)).feed (suc f) ≡ true).
    or_left (goes_with rows r x.row) (of_some (goes_with rows r) fs)
    (on_feed rows x.row r f (ap (λ (y : ℕ). (row_at rows y).feed) (sym c.0) ∙ eqb-true (row_at rows (row_of i)).feed (suc f) k) g))
    (λ (k : eqb (row_at rows (row_of i)).feed (suc f) ≡ false).
    or_right (goes_with rows r x.row) (of_some (goes_with rows r) fs)
    (feed_with rows is fs f p c.1 (sym (cond-false (eqb (row_at rows (row_of i)).feed (suc f)) (Some (place_of i)) (first_on rows (suc f) is) k) ∙ e) r g))
    (cases_Bool (eqb (row_at rows (row_of i)).feed (suc f)))

-- items have no value for a row that is not named
value_stays : (i : PlainItem) (r k : ℕ) → row_of i ≡ k → eqb r k ≡ false → value_for r i ≡ None
value_stays (item.write row place v) r k e q = cond-false (eqb r row) (Some v) None (ap (eqb r) e ∙ q)
value_stays (item.read query) r k e q = refl

last_stays : (is : List PlainItem) (fs : List Found) (r : ℕ) → Covered is fs → among r fs ≡ false → last_value is r ≡ None
last_stays [] fs r c e = refl
last_stays (i ∷ is) [] r c e = absurd c
last_stays (i ∷ is) (f ∷ fs) r c e =
    let p = or_parts (eqb r f.row) (among r fs) e in
    none-else (last_value is r) (value_for r i) (last_stays is fs r c.1 p.1) (value_stays i r f.row c.0 p.0)

-- two states that agree at what a write concerns
first_same : (p q : ℕ → Option RackFault) (fs : List ℕ) → ((k : ℕ) → k < length fs → p (get_or fs k 0) ≡ q (get_or fs k 0)) → first_refusal p fs ≡ first_refusal q fs
first_same p q [] e = refl
first_same p q (f ∷ fs) e =
    let a : p f ≡ q f = e 0 (omega arith) in
    let b = first_same p q fs (λ k l. e (suc k) (omega arith)) in cc

module _ (s : Setup) (ruled : Ruled s.rows s.limits) (w : Walked) (ok : InTable s.rows w) (h h' : Values)
    (agree : (r : ℕ) → r < length s.rows → around s.rows w.found r ≡ true → h r ≡ h' r) where
  laid_same : (r : ℕ) → h r ≡ h' r → laid_over w.items h r ≡ laid_over w.items h' r
  laid_same r e = ap (λ (v : List ℕ). unwrap_or (last_value w.items r) v) e

  lock_by : (o : Option RackFault) → first_secured s.rows w.found ≡ o → cond (unlocked h) None o ≡ cond (unlocked h') None o
  lock_by None e = cond_same (unlocked h) None ∙ sym (cond_same (unlocked h') None)
  lock_by (Some x) e =
      ap (λ (v : List ℕ). cond (unlocked (λ (r : ℕ). v)) None (Some x))
      (agree 0 ruled.some (or_right (among 0 w.found) (of_some (goes_with s.rows 0) w.found) (secured_with s.rows w.found x e)))

  limit_by : (f : ℕ) (o : Option ℕ) → first_on s.rows (suc f) w.items ≡ o →
      feed_refusal (feed_within s (laid_over w.items h) (suc f)) o ≡ feed_refusal (feed_within s (laid_over w.items h') (suc f)) o
  limit_by f None e = refl
  limit_by f (Some i) e =
      ap (λ (b : Bool). feed_refusal b (Some i))
      (within_on s (suc f) (laid_over w.items h) (laid_over w.items h')
      (λ r b on. laid_same r (agree r b (or_right (among r w.found) (of_some (goes_with s.rows r) w.found) (feed_with s.rows w.items w.found f i ok.1 e r on)))))

  overdrawn-by : overdrawn s h w.items ≡ overdrawn s h' w.items
  overdrawn-by =
      first_same (over_limit s h w.items) (over_limit s h' w.items) feeds
      (λ k l. ap (over_limit s h w.items) (at_feeds k l) ∙ limit_by k (first_on s.rows (suc k) w.items) refl ∙ sym (ap (over_limit s h' w.items) (at_feeds k l)))

  refusal_by : write_refusal s h w ≡ write_refusal s h' w
  refusal_by =
      ap (λ (o : Option RackFault). else o (else w.refusal (overdrawn s h w.items))) (lock_by (first_secured s.rows w.found) refl) ∙
      ap (λ (o : Option RackFault). else (lock_of (unlocked h') s.rows w.found) (else w.refusal o)) overdrawn-by

  kept_by : (o : Option RackFault) (r : ℕ) → h r ≡ h' r → laid_over (unless_refused o w.items) h r ≡ laid_over (unless_refused o w.items) h' r
  kept_by None r g = laid_same r g
  kept_by (Some x) r g = g

  written_same : (r : ℕ) → r < length s.rows → among r w.found ≡ true →
      laid_over (unless_refused (write_refusal s h w) w.items) h r ≡ laid_over (unless_refused (write_refusal s h' w) w.items) h' r
  written_same r b e =
      ap (λ (o : Option RackFault). laid_over (unless_refused o w.items) h r) refusal_by ∙
      kept_by (write_refusal s h' w) r (agree r b (or_left (among r w.found) (of_some (goes_with s.rows r) w.found) e))

-- two states that agree at what a read names
answer-by : (rows : List PlainRow) (h h' : Values) (is : List PlainItem) (fs : List Found) (a : List ℕ) (x : Option RackFault) → Covered is fs → Ranged rows fs →
    ((r : ℕ) → r < length rows → among r fs ≡ true → h r ≡ h' r) → answer_from rows h a is x ≡ answer_from rows h' a is x
answer-by rows h h' [] fs a x c b e = refl
answer-by rows h h' (i ∷ is) [] a x c b e = absurd c
answer-by rows h h' (item.write row place v ∷ is) (f ∷ fs) a x c b e =
    answer-by rows h h' is fs a x c.1 b.1 (λ r d q. e r d (or_right (eqb r f.row) (among r fs) q))
answer-by rows h h' (item.read q ∷ is) (f ∷ fs) a x c b e =
    let l : q.row < length rows = subst (λ (k : ℕ). k < length rows) (sym c.0) b.0 in
    let v : h q.row ≡ h' q.row = e q.row l (or_left (eqb q.row f.row) (among q.row fs) (eq-eqb q.row f.row c.0)) in
    let full : Answer = record { bytes = a; refusal = Some (too_long q.place) } in
    let more : Values → List ℕ = λ k. a ++ answered q (row_at rows q.row).kind (k q.row) in
    let g : more h ≡ more h' = ap (λ (y : List ℕ). a ++ answered q (row_at rows q.row).kind y) v in
    ap (λ (y : List ℕ). cond (ltb 64 (length y)) full (answer_from rows h y is x)) g ∙
    ap (λ (y : Answer). cond (ltb 64 (length (more h'))) full y)
    (answer-by rows h h' is fs (more h') x c.1 b.1 (λ r d z. e r d (or_right (eqb r f.row) (among r fs) z)))

-- what is asked of calls, by what they come to
pub reply_by : (s : Setup) → Ruled s.rows s.limits → (a : Request) (h h' : Values) → OfChain (InTable s.rows) a →
    ((r : ℕ) → r < length s.rows → concerns_row s.rows a r ≡ true → h r ≡ h' r) → reply_to s h a ≡ reply_to s h' a
reply_by s ruled short_buffer h h' p e = refl
reply_by s ruled (unreadable flaw b) h h' p e = refl
reply_by s ruled error_message h h' p e = refl
reply_by s ruled other_node h h' p e = refl
reply_by s ruled (unknown_command node fault) h h' p e = refl
reply_by s ruled (write node b size w) h h' p e = ap (write_reply node b size) (refusal_by s ruled w p h h' e)
reply_by s ruled (read node w) h h' p e =
    ap (read_reply node)
    (answer-by s.rows h h' w.items w.found (0x02 ∷ []) w.refusal p.1 p.0 (λ r b q. e r b (or_left (among r w.found) false q)))

written-concerned : (rows : List PlainRow) (a : Request) (r : ℕ) → writes_row a r ≡ true → concerns_row rows a r ≡ true
written-concerned rows a r e = or_left (names a r) (is_write a && of_some (goes_with rows r) (found_for a)) (and_parts (is_write a) (names a r) e).1

kept_stay : (w : Walked) (o : Option RackFault) (h : Values) (r : ℕ) → Covered w.items w.found → among r w.found ≡ false → laid_over (unless_refused o w.items) h r ≡ h r
kept_stay w None h r c e = ap (λ (v : Option (List ℕ)). unwrap_or v (h r)) (last_stays w.items w.found r c e)
kept_stay w (Some x) h r c e = refl

after_stays : (s : Setup) (a : Request) (h : Values) (r : ℕ) → OfChain (InTable s.rows) a → writes_row a r ≡ false → values_after s h a r ≡ h r
after_stays s short_buffer h r p e = refl
after_stays s (unreadable flaw b) h r p e = refl
after_stays s error_message h r p e = refl
after_stays s other_node h r p e = refl
after_stays s (unknown_command node fault) h r p e = refl
after_stays s (write node b size w) h r p e = kept_stay w (write_refusal s h w) h r p.1 e
after_stays s (read node w) h r p e = refl

after-by : (s : Setup) → Ruled s.rows s.limits → (a : Request) (h h' : Values) → OfChain (InTable s.rows) a →
    ((r : ℕ) → r < length s.rows → concerns_row s.rows a r ≡ true → h r ≡ h' r) →
    (r : ℕ) → r < length s.rows → writes_row a r ≡ true → values_after s h a r ≡ values_after s h' a r
after-by s ruled short_buffer h h' p e r b q = false-true q
after-by s ruled (unreadable flaw x) h h' p e r b q = false-true q
after-by s ruled error_message h h' p e r b q = false-true q
after-by s ruled other_node h h' p e r b q = false-true q
after-by s ruled (unknown_command node fault) h h' p e r b q = false-true q
after-by s ruled (write node x size w) h h' p e r b q = written_same s ruled w p h h' e r b q
after-by s ruled (read node w) h h' p e r b q = false-true q

-- values of the table's rows alone
pub shown : {X : Type 0} (n r : ℕ) (x y d : X) → r < n → cond (ltb r n) x d ≡ cond (ltb r n) y d → x ≡ y
shown n r x y d l e = sym (cond-true (ltb r n) x d (lt-ltb r n l)) ∙ e ∙ cond-true (ltb r n) y d (lt-ltb r n l)

pub hidden : {X : Type 0} (n r : ℕ) (x y d : X) → (r < n → x ≡ y) → cond (ltb r n) x d ≡ cond (ltb r n) y d
hidden {X} n r x y d e =
    ⊎_elim (λ (k : ltb r n ≡ true). ap (λ (z : X). cond (ltb r n) z d) (e (ltb-true r n k)))
    (λ (k : ltb r n ≡ false). cond-false (ltb r n) x d k ∙ sym (cond-false (ltb r n) y d k)) (cases_Bool (ltb r n))

agreed : (s : Setup) (c : Call) (h h' : Values) → AgreeFor (rack_calls s) c h h' →
    (r : ℕ) → r < length s.rows → concerns_row s.rows (request_of s c) r ≡ true → h r ≡ h' r
agreed s c h h' e r l q = shown (length s.rows) r (h r) (h' r) [] l (e r q)

local : (s : Setup) → Ruled s.rows s.limits → Local (rack_calls s)
local s ruled = record {
  written_concerns = λ c r. written-concerned s.rows (request_of s c) r;
  others_stay = λ c h r e. ap (λ (v : List ℕ). cond (ltb r (length s.rows)) v []) (after_stays s (request_of s c) h r (in_table s c) e);
  outcome_by = λ c h h' e. reply_by s ruled (request_of s c) h h' (in_table s c) (agreed s c h h' e);
  written_by = λ c h h' e r q.
      hidden (length s.rows) r (values_after s h (request_of s c) r) (values_after s h' (request_of s c) r) []
      (λ l. after-by s ruled (request_of s c) h h' (in_table s c) (agreed s c h h' e) r l q);
}

-- a call recast comes to the same
read_as : (s : Setup) (c : Call) (m : Msg) → c.wire.reads c.frame ≡ Ok m → request_of s c ≡ cond (ltb c.room 138) short_buffer (message_request s m)
read_as s c m e = ap (λ (o : Result Msg Flaw). cond (ltb c.room 138) short_buffer (frame_request s c.wire.answers_unreadable o)) e

pub recast_request : (s : Setup) (c d : Call) → Recast c d → request_of s c ≡ request_of s d
recast_request s c d (inl e) = ap (request_of s) e
recast_request s c d (inr (m, p, q, l)) =
    read_as s c m p ∙ ap (λ (k : ℕ). cond (ltb k 138) short_buffer (message_request s m)) l ∙ sym (read_as s d m q)

recasting : (s : Setup) (c d : Call) → Recast c d → Alike (rack_calls s) (λ o p. o ≡ p) c d
recasting s c d z =
    let e = recast_request s c d z in
    record {
      outcome = λ h. ap (reply_to s h) e;
      after = λ h r. ap (λ (a : Request). cond (ltb r (length s.rows)) (values_after s h a r) []) e;
      writes = λ r. ap (λ (a : Request). writes_row a r) e;
      concerns = λ r. ap (λ (a : Request). concerns_row s.rows a r) e;
    }

pub premises : (s : Setup) → Ruled s.rows s.limits → Premises (rack_calls s) Recast (λ o p. o ≡ p)
premises s ruled = record { local = local s ruled; recast = recasting s }
