-- What a rack holds after a run, read off the calls and their outcomes, and that every feed then is within its limit.
use Rattle.std.proofs.Common.{◌≡◌, ℕ, zero, suc, ◌*◌, ◌<◌, ◌≤◌, Bool, true, false, cond, not, ◌&&◌, eqb, leb, List, [], ◌∷◌, length, get_or, is_some, Some, None, Option, unwrap_or, sym, refl, ap, ◌∙◌, ⊎_elim, arith}
use Rattle.std.proofs.lemmas.Bool.{cases_Bool, eqb-true, eqb-false, cond-false}
use Rattle.table.specs.Rows.{PlainRow}
use Rattle.table.specs.Draws.{row_at, amount, draw, number_of, limit_of, defaults}
use Rattle.table.specs.Tables.{Ruled}
use Rattle.order.specs.Calls.{final}
use Rattle.order.specs.Last.{else}
use Rattle.chain.specs.declared.fault.RackFault.{RackFault}
use Rattle.chain.specs.declared.fault.RackFault.TheVariants.{OverLimit}
use Rattle.chain.specs.Items.{PlainItem, row_of, place_of}
use Rattle.chain.specs.Items as item
use Rattle.chain.specs.Walks.{Walked}
use Rattle.chain.specs.Locks.{lock_of}
use Rattle.chain.specs.Answers.{Values, read_answer}
use Rattle.chain.specs.Kept.{value_for, last_value, laid_over}
use Rattle.promises.specs.Outcomes.{Outcome}
use Rattle.promises.specs.Wires.{Call}
use Rattle.promises.specs.Requests.{Setup, Request, short_buffer, unreadable, error_message, other_node, unknown_command, write, read, request_of}
use Rattle.promises.specs.Replies.{unlocked, numbers, feed_within, first_on, feed_refusal, over_limit, first_refusal, feeds, overdrawn, write_refusal, reply_to, unless_refused, values_after}
use Rattle.promises.specs.Meeting.{rack_calls}
use Rattle.promises.specs.Runs.{outcome, New}
use Rattle.promises.specs.Promised.{write_items, accepted, last_accepted, accepted_values, FeedsWithin}
use Rattle.promises.proofs.Options.{some-none, cond-none, cond_same, else-none, none-else, value-else}

-- the outcomes of calls one after the other, and the values at the end
abbrev pub run : Setup → List Call → Values → List Outcome
run s [] h = []
run s (c ∷ calls) h = outcome s c h ∷ run s calls (values_after s h (request_of s c))

abbrev pub left : Setup → List Call → Values → Values
left s calls h = final (rack_calls s) calls h

-- the draw goes by the rows on the feed
part : (b : Bool) (x y : ℕ) → (b ≡ true → x ≡ y) → cond b x 0 ≡ cond b y 0
part true x y e = e refl
part false x y e = refl

pub draw_on : (f : ℕ) (rows : List PlainRow) (v w : ℕ → ℕ) → ((r : ℕ) → r < length rows → (row_at rows r).feed ≡ f → v r ≡ w r) → draw f rows v ≡ draw f rows w
draw_on f [] v w e = refl
draw_on f (x ∷ rs) v w e =
    let a = draw_on f rs (λ k. v (suc k)) (λ k. w (suc k)) (λ r l q. e (suc r) (omega arith) q) in
    let b : amount f x (v 0) ≡ amount f x (w 0) =
    part (eqb x.feed f) (v 0 * x.flow) (w 0 * x.flow) (λ q. ap (λ (n : ℕ). n * x.flow) (e 0 (omega arith) (eqb-true x.feed f q))) in
    cc

pub within_on : (s : Setup) (f : ℕ) (h k : Values) → ((r : ℕ) → r < length s.rows → (row_at s.rows r).feed ≡ f → h r ≡ k r) → feed_within s h f ≡ feed_within s k f
within_on s f h k e =
    ap (λ (d : ℕ). leb d (limit_of s.limits f * 32000)) (draw_on f s.rows (numbers h) (numbers k) (λ r l q. ap number_of (e r l q)))

-- a message without an item on a feed has no value for a row on it
value_off : (rows : List PlainRow) (f : ℕ) (i : PlainItem) (r : ℕ) → eqb (row_at rows (row_of i)).feed f ≡ false → (row_at rows r).feed ≡ f → value_for r i ≡ None
value_off rows f (item.write row place v) r e q =
    ⊎_elim
    (λ (k : eqb r row ≡ true). absurd (eqb-false (row_at rows row).feed f e (sym (ap (λ (x : ℕ). (row_at rows x).feed) (eqb-true r row k)) ∙ q)))
    (λ (k : eqb r row ≡ false). cond-false (eqb r row) (Some v) None k) (cases_Bool (eqb r row))
value_off rows f (item.read query) r e q = refl

last_off : (rows : List PlainRow) (f : ℕ) (items : List PlainItem) → first_on rows f items ≡ None → (r : ℕ) → (row_at rows r).feed ≡ f → last_value items r ≡ None
last_off rows f [] e r q = refl
last_off rows f (i ∷ items) e r q =
    let p = cond-none (eqb (row_at rows (row_of i)).feed f) (place_of i) (first_on rows f items) e in
    none-else (last_value items r) (value_for r i) (last_off rows f items p.1 r q) (value_off rows f i r p.0 q)

-- the feeds, one after the other
pub at_feeds : (k : ℕ) → k < 8 → get_or feeds k 0 ≡ suc k
at_feeds zero l = refl
at_feeds (suc zero) l = refl
at_feeds (suc (suc zero)) l = refl
at_feeds (suc (suc (suc zero))) l = refl
at_feeds (suc (suc (suc (suc zero)))) l = refl
at_feeds (suc (suc (suc (suc (suc zero))))) l = refl
at_feeds (suc (suc (suc (suc (suc (suc zero)))))) l = refl
at_feeds (suc (suc (suc (suc (suc (suc (suc zero))))))) l = refl
at_feeds (suc (suc (suc (suc (suc (suc (suc (suc k)))))))) l = absurd (omega arith)

first_none : (p : ℕ → Option RackFault) (fs : List ℕ) → first_refusal p fs ≡ None → (k : ℕ) → k < length fs → p (get_or fs k 0) ≡ None
first_none p [] e k l = absurd (omega arith)
first_none p (f ∷ fs) e zero l = (else-none (p f) (first_refusal p fs) e).0
first_none p (f ∷ fs) e (suc k) l = first_none p fs (else-none (p f) (first_refusal p fs) e).1 k (omega arith)

first_by : (p : ℕ → Option RackFault) (f : ℕ) (fs : List ℕ) (s : RackFault) (o : Option RackFault) → p f ≡ o →
    (first_refusal p fs ≡ Some s → (k : ℕ) × (k < length fs) × (p (get_or fs k 0) ≡ Some s)) →
    else (p f) (first_refusal p fs) ≡ Some s → (k : ℕ) × (k < length (f ∷ fs)) × (p (get_or (f ∷ fs) k 0) ≡ Some s)
first_by p f fs s None q more e =
    let t = more (ap (λ (x : Option RackFault). else x (first_refusal p fs)) (sym q) ∙ e) in
    (suc t.0, omega (arith, t.1), t.2)
first_by p f fs s (Some x) q more e = (0, omega arith, q ∙ sym (ap (λ (y : Option RackFault). else y (first_refusal p fs)) q) ∙ e)

pub first_some : (p : ℕ → Option RackFault) (fs : List ℕ) (s : RackFault) → first_refusal p fs ≡ Some s → (k : ℕ) × (k < length fs) × (p (get_or fs k 0) ≡ Some s)
first_some p [] s e = some-none s (sym e)
first_some p (f ∷ fs) s e = first_by p f fs s (p f) refl (first_some p fs s) e

-- one feed
refusal_none : (b : Bool) (i : ℕ) → feed_refusal b (Some i) ≡ None → b ≡ true
refusal_none true i e = refl
refusal_none false i e = some-none (OverLimit i) e

pub refusal_some : (b : Bool) (o : Option ℕ) (s : RackFault) → feed_refusal b o ≡ Some s → (b ≡ false) × ((i : ℕ) × (s ≡ OverLimit i))
refusal_some b None s e = some-none s (sym e)
refusal_some true (Some i) s e = some-none s (sym e)
refusal_some false (Some i) s e = (refl, (i, (cc)))

within_by : (s : Setup) (h : Values) (items : List PlainItem) (f : ℕ) (o : Option ℕ) → first_on s.rows f items ≡ o →
    feed_refusal (feed_within s (laid_over items h) f) o ≡ None → feed_within s h f ≡ true → feed_within s (laid_over items h) f ≡ true
within_by s h items f None q e l =
    within_on s f (laid_over items h) h (λ r _ on. ap (λ (o : Option (List ℕ)). unwrap_or o (h r)) (last_off s.rows f items q r on)) ∙ l
within_by s h items f (Some i) q e l = refusal_none (feed_within s (laid_over items h) f) i e

-- every feed within its limit
abbrev pub Fed : Setup → Values → Type 0
Fed s h = (k : ℕ) → k < 8 → feed_within s h (suc k) ≡ true

pub fed_laid : (s : Setup) (h : Values) (items : List PlainItem) → overdrawn s h items ≡ None → Fed s h → Fed s (laid_over items h)
fed_laid s h items e fed k l =
    within_by s h items (suc k) (first_on s.rows (suc k) items) refl
    (ap (over_limit s h items) (sym (at_feeds k l)) ∙ first_none (over_limit s h items) feeds e k l) (fed k l)

fed_kept : (s : Setup) (h : Values) (w : Walked) (o : Option RackFault) → write_refusal s h w ≡ o → Fed s h → Fed s (laid_over (unless_refused o w.items) h)
fed_kept s h w None e fed =
    let a = else-none (lock_of (unlocked h) s.rows w.found) (else w.refusal (overdrawn s h w.items)) e in
    fed_laid s h w.items (else-none w.refusal (overdrawn s h w.items) a.1).1 fed
fed_kept s h w (Some f) e fed = fed

fed-after : (s : Setup) (h : Values) (a : Request) → Fed s h → Fed s (values_after s h a)
fed-after s h short_buffer fed = fed
fed-after s h (unreadable flaw b) fed = fed
fed-after s h error_message fed = fed
fed-after s h other_node fed = fed
fed-after s h (unknown_command node fault) fed = fed
fed-after s h (write node b size w) fed = fed_kept s h w (write_refusal s h w) refl fed
fed-after s h (read node w) fed = fed

pub fed_run : (s : Setup) (calls : List Call) (h : Values) → Fed s h → Fed s (left s calls h)
fed_run s [] h fed = fed
fed_run s (c ∷ calls) h fed = fed_run s calls (values_after s h (request_of s c)) (fed-after s h (request_of s c) fed)

fed_as : (s : Setup) (h k : Values) → ((r : ℕ) → r < length s.rows → h r ≡ k r) → Fed s h → Fed s k
fed_as s h k e fed f l = within_on s (suc f) k h (λ r b _. sym (e r b)) ∙ fed f l

pub fed_new : (s : Setup) → Ruled s.rows s.limits → (h : Values) → New s h → Fed s h
fed_new s ruled h new = fed_as s (defaults s.rows) h (λ r l. sym (new r l)) (λ k l. ruled.supplied (suc k) (omega arith) (omega arith))

-- what is held after a call, and after a run, read off what they give
write_holds : (items : List PlainItem) (h : Values) (o : Option RackFault) (r : ℕ) →
    laid_over (unless_refused o items) h r ≡ unwrap_or (cond (not (is_some o)) (last_value items r) None) (h r)
write_holds items h None r = refl
write_holds items h (Some f) r = refl

call_holds : (s : Setup) (h : Values) (a : Request) (r : ℕ) →
    values_after s h a r ≡ unwrap_or (cond (not (is_some (reply_to s h a).refusal) && not (is_some (reply_to s h a).fault)) (last_value (write_items a) r) None) (h r)
call_holds s h short_buffer r = refl
call_holds s h (unreadable flaw b) r = refl
call_holds s h error_message r = refl
call_holds s h other_node r = refl
call_holds s h (unknown_command node fault) r = refl
call_holds s h (write node b size w) r = write_holds w.items h (write_refusal s h w) r
call_holds s h (read node w) r =
    sym (ap (λ (o : Option (List ℕ)). unwrap_or o (h r)) (cond_same (not (is_some (read_answer s.rows h w).refusal)) None))

run_holds : (s : Setup) (calls : List Call) (h : Values) (r : ℕ) → left s calls h r ≡ unwrap_or (last_accepted s calls (run s calls h) r) (h r)
run_holds s [] h r = refl
run_holds s (c ∷ calls) h r =
    let k : Values = values_after s h (request_of s c) in
    run_holds s calls k r ∙
    ap (λ (v : List ℕ). unwrap_or (last_accepted s calls (run s calls k) r) v) (call_holds s h (request_of s c) r) ∙
    value-else (last_accepted s calls (run s calls k) r) (cond (accepted (outcome s c h)) (last_value (write_items (request_of s c)) r) None) (h r)

pub held : (s : Setup) (calls : List Call) (h : Values) → New s h → (r : ℕ) → r < length s.rows → left s calls h r ≡ accepted_values s calls (run s calls h) r
held s calls h new r b = run_holds s calls h r ∙ ap (λ (v : List ℕ). unwrap_or (last_accepted s calls (run s calls h) r) v) (new r b)

drawn : (s : Setup) (h : Values) → Fed s h → (f : ℕ) → 1 ≤ f → f ≤ 8 → feed_within s h f ≡ true
drawn s h fed zero a b = absurd (omega arith)
drawn s h fed (suc k) a b = fed k (omega arith)

pub feeds_run : (s : Setup) → Ruled s.rows s.limits → (calls : List Call) (h : Values) → New s h → FeedsWithin s calls (run s calls h) (left s calls h)
feeds_run s ruled calls h new = record {
  held = held s calls h new;
  drawn =
      drawn s (accepted_values s calls (run s calls h))
      (fed_as s (left s calls h) (accepted_values s calls (run s calls h)) (held s calls h new) (fed_run s calls h (fed_new s ruled h new)));
}
