-- A write that nothing else refuses is refused for a feed exactly when some feed's draw would pass its limit.
use Rattle.std.proofs.Common.{◌≡◌, ℕ, zero, suc, ◌<◌, ◌≤◌, Bool, true, false, not, ◌&&◌, List, is_some, Some, None, Option, unwrap_or, sym, refl, ap, ◌∙◌, subst, arith}
use Rattle.std.proofs.lemmas.Bool.{both_ways}
use Rattle.table.specs.Tables.{Ruled}
use Rattle.order.specs.Last.{else}
use Rattle.chain.specs.declared.fault.RackFault.{RackFault}
use Rattle.chain.specs.declared.fault.RackFault.TheVariants.{OverLimit}
use Rattle.chain.specs.Items.{PlainItem}
use Rattle.chain.specs.Walks.{Walked}
use Rattle.chain.specs.Locks.{lock_of}
use Rattle.chain.specs.Answers.{Values}
use Rattle.chain.specs.Kept.{last_value, laid_over}
use Rattle.promises.specs.declared.outcome.AnswerRefusal.{AnswerRefusal}
use Rattle.promises.specs.Outcomes.{Outcome}
use Rattle.promises.specs.Wires.{Call}
use Rattle.promises.specs.Requests.{Setup, Request, write, request_of}
use Rattle.promises.specs.Replies.{unlocked, feed_within, first_on, over_limit, feeds, overdrawn, write_refusal, reply_to}
use Rattle.promises.specs.Runs.{outcome, CallAnswered, New}
use Rattle.promises.specs.Promised.{accepted, accepted_values, RefusedByNoOther, PassesALimit, RefusedForAFeed, ExactlyRefused}
use Rattle.promises.proofs.Options.{some-none}
use Rattle.promises.proofs.Keeping.{run, left, within_on, at_feeds, first_some, refusal_some, fed_laid, fed_run, fed_new, held}

-- the check of the feeds, at what is held
over_feeds : (s : Setup) (h : Values) (items : List PlainItem) (f : RackFault) → overdrawn s h items ≡ Some f →
    ((k : ℕ) × (k < 8) × (feed_within s (laid_over items h) (suc k) ≡ false)) × ((i : ℕ) × (f ≡ OverLimit i))
over_feeds s h items f e =
    let u = first_some (over_limit s h items) feeds f e in
    let l : u.0 < 8 = u.1 in
    let q : over_limit s h items (suc u.0) ≡ Some f = ap (over_limit s h items) (sym (at_feeds u.0 l)) ∙ u.2 in
    let v = refusal_some (feed_within s (laid_over items h) (suc u.0)) (first_on s.rows (suc u.0) items) f q in
    ((u.0, l, v.0), v.1)

module _ (s : Setup) (ruled : Ruled s.rows s.limits) (calls : List Call) (h : Values) (new : New s h) (c : Call) (node size : ℕ) (b : Bool) (w : Walked)
    (e : request_of s c ≡ write node b size w) (f : w.refusal ≡ None)
    (g : lock_of (unlocked (accepted_values s calls (run s calls h))) s.rows w.found ≡ None) where
  -- what is held, and what was accepted
  abbrev now : Values
  now = left s calls h

  abbrev then : Values
  then = accepted_values s calls (run s calls h)

  unlocked_still : lock_of (unlocked now) s.rows w.found ≡ None
  unlocked_still =
      ap (λ (v : List ℕ). lock_of (unlocked (λ (r : ℕ). v)) s.rows w.found) (held s calls h new 0 ruled.some) ∙ g

  refusal_is : write_refusal s now w ≡ overdrawn s now w.items
  refusal_is =
      ap (λ (o : Option RackFault). else o (else w.refusal (overdrawn s now w.items))) unlocked_still ∙
      ap (λ (o : Option RackFault). else o (overdrawn s now w.items)) f

  fault_is : (outcome s c now).fault ≡ overdrawn s now w.items
  fault_is = ap (λ (a : Request). (reply_to s now a).fault) e ∙ refusal_is

  unrefused : (outcome s c now).refusal ≡ None
  unrefused = ap (λ (a : Request). (reply_to s now a).refusal) e

  within_is : (k : ℕ) → feed_within s (laid_over w.items now) k ≡ feed_within s (laid_over w.items then) k
  within_is k =
      within_on s k (laid_over w.items now) (laid_over w.items then)
      (λ r below _. ap (λ (v : List ℕ). unwrap_or (last_value w.items r) v) (held s calls h new r below))

  abbrev Over : Type 0
  Over = PassesALimit s (laid_over w.items then)

  passing : (x : RackFault) → overdrawn s now w.items ≡ Some x → Over
  passing x q =
      let u = over_feeds s now w.items x q in
      let l : u.0.0 < 8 = u.0.1 in
      (suc u.0.0, omega arith, omega arith, sym (within_is (suc u.0.0)) ∙ u.0.2)

  to_by : (o : Option RackFault) → overdrawn s now w.items ≡ o → (i : ℕ) → o ≡ Some (OverLimit i) → Over
  to_by None q i z = some-none (OverLimit i) (sym z)
  to_by (Some x) q i z = passing x q

  fed_still : (k : ℕ) → 1 ≤ k → k ≤ 8 → overdrawn s now w.items ≡ None → feed_within s (laid_over w.items then) k ≡ true
  fed_still zero a d q = absurd (omega arith)
  fed_still (suc k) a d q = sym (within_is (suc k)) ∙ fed_laid s now w.items q (fed_run s calls h (fed_new s ruled h new)) k (omega arith)

  from_by : (o : Option RackFault) → overdrawn s now w.items ≡ o → Over → RefusedForAFeed (outcome s c now)
  from_by None q p = absurd (both_ways (feed_within s (laid_over w.items then) p.0) p.3 (fed_still p.0 p.1 p.2 q))
  from_by (Some x) q p =
      let u = over_feeds s now w.items x q in
      (u.1.0, fault_is ∙ q ∙ ap (λ (y : RackFault). Some y) u.1.1)

  accept_by : (o : Option RackFault) → overdrawn s now w.items ≡ o → (Over → ⊥) → accepted (outcome s c now) ≡ true
  accept_by None q p =
      ap (λ (x : Option AnswerRefusal). not (is_some x) && not (is_some (outcome s c now).fault)) unrefused ∙
      ap (λ (x : Option RackFault). not (is_some x)) (fault_is ∙ q)
  accept_by (Some x) q p = absurd (p (passing x q))

  pub exactly : ExactlyRefused s then w.items (outcome s c now)
  exactly = record {
    refused = (
      λ z. to_by (overdrawn s now w.items) refl z.0 (sym fault_is ∙ z.1),
      from_by (overdrawn s now w.items) refl,
    );
    granted = accept_by (overdrawn s now w.items) refl;
  }

pub exact_run : (s : Setup) → Ruled s.rows s.limits → (calls : List Call) (h : Values) → New s h →
    (c : Call) (sent : RefusedByNoOther s (accepted_values s calls (run s calls h)) c) (o : Outcome) (next : Values) →
    CallAnswered s c (left s calls h) o next → ExactlyRefused s (accepted_values s calls (run s calls h)) sent.chain.items o
exact_run s ruled calls h new c z o next a =
    subst (λ (x : Outcome). ExactlyRefused s (accepted_values s calls (run s calls h)) z.chain.items x) (sym a.gives)
    (exactly s ruled calls h new c z.node z.size z.answered z.chain z.is_write z.whole z.unsecured)
