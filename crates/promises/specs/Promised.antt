-- What is promised of every run of calls on a rack that was new.
use Rattle.std.specs.Prelude.{◌≡◌, ℕ, ◌<◌, ◌≤◌, Bool, true, false, cond, not, ◌&&◌, ◌↔◌, List, [], ◌∷◌, length, take, is_some, Some, None, Option, slice_index_or}
use Rattle.std.specs.Option.{unwrap_or}
use Rattle.table.specs.Draws.{defaults}
use Rattle.order.specs.Last.{else}
use Rattle.order.specs.Reordering.{Rearranged}
use Rattle.chain.specs.declared.fault.RackFault.TheVariants.{OverLimit}
use Rattle.chain.specs.Items.{PlainItem}
use Rattle.chain.specs.Walks.{Walked}
use Rattle.chain.specs.Locks.{lock_of}
use Rattle.chain.specs.Answers.{Values}
use Rattle.chain.specs.Kept.{last_value, laid_over}
use Rattle.promises.specs.Outcomes.{Outcome}
use Rattle.promises.specs.Wires.{message_in, Call, LawfulCall}
use Rattle.promises.specs.Requests.{Setup, Request, short_buffer, unreadable, error_message, other_node, unknown_command, write, read, request_of}
use Rattle.promises.specs.Replies.{unlocked, feed_within, reply_to}
use Rattle.promises.specs.Meeting.{rack_calls}
use Rattle.promises.specs.Runs.{CallAnswered, Run, New, Recast}

-- the items of a write
abbrev pub write_items : Request → List PlainItem
write_items short_buffer = []
write_items (unreadable flaw answered) = []
write_items error_message = []
write_items other_node = []
write_items (unknown_command node fault) = []
write_items (write node answered size w) = w.items
write_items (read node w) = []

-- a write is accepted when its call is not refused and tells no fault
abbrev pub accepted : Outcome → Bool
accepted o = not (is_some o.refusal) && not (is_some o.fault)

-- a row's last accepted value: the last one for it in the latest accepted write that has one, read off the calls and their outcomes
abbrev pub last_accepted : Setup → List Call → List Outcome → ℕ → Option (List ℕ)
last_accepted s [] os r = None
last_accepted s (c ∷ calls) [] r = None
last_accepted s (c ∷ calls) (o ∷ os) r =
    else (last_accepted s calls os r) (cond (accepted o) (last_value (write_items (request_of s c)) r) None)

-- each row at its last accepted value, or at its default before any
abbrev pub accepted_values : Setup → List Call → List Outcome → Values
accepted_values s calls os r = unwrap_or (last_accepted s calls os r) (defaults s.rows r)

-- every call of a list comes in over a framing that keeps its meaning
abbrev pub AllLawful : List Call → Type 0
AllLawful calls = (x : Call) (i : ℕ) → i < length calls → LawfulCall (slice_index_or calls i x)

-- An outcome is the one laid down for a call while the rows hold these values: the refusal, the fault, and the message that the
-- call's framing reads from the answer; and where no message is laid down, there is no answer.
pub record AsLaidDown (s : Setup) (h : Values) (c : Call) (o : Outcome) : Type 0 where
  pub refusal : o.refusal ≡ (reply_to s h (request_of s c)).refusal
  pub fault : o.fault ≡ (reply_to s h (request_of s c)).fault
  pub message : message_in c.wire o.answer ≡ (reply_to s h (request_of s c)).message
  pub silence : (reply_to s h (request_of s c)).message ≡ None → o.answer ≡ []

-- each call of a run has the outcome laid down for the values then held, which are those accepted before it
abbrev pub AllAsLaidDown : Setup → List Call → List Outcome → Type 0
AllAsLaidDown s calls os = (x : Call) (y : Outcome) (i : ℕ) → i < length calls →
    AsLaidDown s (accepted_values s (take i calls) (take i os)) (slice_index_or calls i x) (slice_index_or os i y)

-- two outcomes are the same: the refusal, the fault, and the messages that the calls' own framings read from the answers; or there is
-- no answer in both
pub record SameOutcome (c d : Call) (o p : Outcome) : Type 0 where
  pub refusal : o.refusal ≡ p.refusal
  pub fault : o.fault ≡ p.fault
  pub message : message_in c.wire o.answer ≡ message_in d.wire p.answer
  pub silence : (o.answer ≡ []) ↔ (p.answer ≡ [])

-- Order. Two runs from new of a list of calls and of that list rearranged: each call has the same outcome in both, and it is the one laid
-- down; and all rows end with equal values. (`to i` is the new place of the call at place i.)
pub record SameInOrder (s : Setup) (calls calls' : List Call) (to : ℕ → ℕ) (os os' : List Outcome) (after after' : Values) : Type 0 where
  pub outcomes : (x : Call) (y : Outcome) (i : ℕ) → i < length calls → SameOutcome (slice_index_or calls i x) (slice_index_or calls' (to i) x) (slice_index_or os i y) (slice_index_or os' (to i) y)
  pub laid_down : AllAsLaidDown s calls os
  pub laid_down' : AllAsLaidDown s calls' os'
  pub rows : (r : ℕ) → r < length s.rows → after r ≡ after' r

-- Feeds. After a run from new, every row holds its last accepted value, or its default before any; and at these values every feed's draw
-- is within its limit.
pub record FeedsWithin (s : Setup) (calls : List Call) (os : List Outcome) (after : Values) : Type 0 where
  pub held : (r : ℕ) → r < length s.rows → after r ≡ accepted_values s calls os r
  pub drawn : (f : ℕ) → 1 ≤ f → f ≤ 8 → feed_within s (accepted_values s calls os) f ≡ true

-- a write that nothing but a feed refuses, while the rows hold these values: its buffer is long enough, its frame can be read, it is for
-- the rack, its whole chain is sound, and no row of it is locked
pub record RefusedByNoOther (s : Setup) (h : Values) (c : Call) : Type 0 where
  pub node : ℕ
  pub answered : Bool
  pub size : ℕ
  pub chain : Walked
  pub is_write : request_of s c ≡ write node answered size chain
  pub whole : chain.refusal ≡ None
  pub unsecured : lock_of (unlocked h) s.rows chain.found ≡ None

-- some feed's draw at these values passes its limit
abbrev pub PassesALimit : Setup → Values → Type 0
PassesALimit s h = (f : ℕ) × (1 ≤ f) × (f ≤ 8) × (feed_within s h f ≡ false)

abbrev pub RefusedForAFeed : Outcome → Type 0
RefusedForAFeed o = (index : ℕ) × (o.fault ≡ Some (OverLimit index))

-- Exactness, for one write that comes after a run from new: it is refused for a feed exactly when some feed's draw would pass its limit,
-- with the write's rows once each at the message's last values and all others as accepted; else it is accepted.
pub record ExactlyRefused (s : Setup) (h : Values) (items : List PlainItem) (o : Outcome) : Type 0 where
  pub refused : RefusedForAFeed o ↔ PassesALimit s (laid_over items h)
  pub granted : (PassesALimit s (laid_over items h) → ⊥) → accepted o ≡ true

-- The promises, while answering calls are all that a rack has met since it was new.
pub record Promises (s : Setup) : Type 0 where
  pub order : (calls calls' : List Call) (p : Rearranged (rack_calls s) Recast calls calls') → AllLawful calls → AllLawful calls' →
      (new new' : Values) → New s new → New s new' → (os os' : List Outcome) (after after' : Values) →
      Run s calls new os after → Run s calls' new' os' after' → SameInOrder s calls calls' p.to os os' after after'
  pub feeds : (calls : List Call) (new : Values) → New s new → (os : List Outcome) (after : Values) → Run s calls new os after →
      FeedsWithin s calls os after
  pub exactness : (calls : List Call) (new : Values) → New s new → (os : List Outcome) (after : Values) → Run s calls new os after →
      (c : Call) (sent : RefusedByNoOther s (accepted_values s calls os) c) →
      (o : Outcome) (next : Values) → CallAnswered s c after o next → ExactlyRefused s (accepted_values s calls os) sent.chain.items o
