-- What a request is answered with, and which values it changes.
use Rattle.std.specs.Prelude.{ℕ, Bool, cond, List, [], ◌∷◌, Some, None, Option, ◌==◌}
use Rattle.std.specs.Option.{unwrap_or}
use Rattle.std.specs.Bool.{then_some}
use Rattle.line.specs.declared.fault.LineFault.TheVariants as line
use Rattle.line.specs.Messages.{Msg, data_msg, error_msg}
use Rattle.number.specs.Numbers.{char}
use Rattle.table.specs.Rows.{PlainRow}
use Rattle.table.specs.Draws.{row_at, number_of, within}
use Rattle.order.specs.Last.{else}
use Rattle.chain.specs.declared.fault.ChainFault.TheVariants.{Line}
use Rattle.chain.specs.declared.fault.RackFault.{RackFault}
use Rattle.chain.specs.declared.fault.RackFault.TheVariants.{Chain, OverLimit}
use Rattle.chain.specs.Faults.{rack_code, rack_place}
use Rattle.chain.specs.Items.{PlainItem, row_of, place_of}
use Rattle.chain.specs.Walks.{Walked}
use Rattle.chain.specs.Locks.{lock_of}
use Rattle.chain.specs.Answers.{Values, Answer, read_answer}
use Rattle.chain.specs.Kept.{laid_over}
use Rattle.promises.specs.declared.outcome.AnswerRefusal.{AnswerRefusal}
use Rattle.promises.specs.declared.outcome.AnswerRefusal.TheVariants.{ShortBuffer}
use Rattle.promises.specs.declared.outcome.ErrorReply.TheVariants as error
use Rattle.promises.specs.Outcomes.{error_code}
use Rattle.promises.specs.Requests.{Setup, Request, short_buffer, unreadable, error_message, other_node, unknown_command, write, read}

-- secured rows may be written while row 0 is 64
abbrev pub unlocked : Values → Bool
unlocked h = unwrap_or (char.reads (h 0)) 0 == 64

-- the values as numbers, as they count in a draw
abbrev pub numbers : Values → ℕ → ℕ
numbers h r = number_of (h r)

-- the feed's draw at these values is within its limit
abbrev pub feed_within : Setup → Values → ℕ → Bool
feed_within s h f = within f s.rows s.limits (numbers h)

-- the place of the first item on the feed f, if there is one
abbrev pub first_on : List PlainRow → ℕ → List PlainItem → Option ℕ
first_on rows f [] = None
first_on rows f (i ∷ is) = cond ((row_at rows (row_of i)).feed == f) (Some (place_of i)) (first_on rows f is)

-- a feed whose first item is at this place refuses the write, unless it stays within its limit
abbrev pub feed_refusal : Bool → Option ℕ → Option RackFault
feed_refusal stays None = None
feed_refusal stays (Some i) = cond stays None (Some (OverLimit i))

-- the feed f has an item in the message and would pass its limit with the message's last values laid over those held
abbrev pub over_limit : Setup → Values → List PlainItem → ℕ → Option RackFault
over_limit s h items f = feed_refusal (feed_within s (laid_over items h) f) (first_on s.rows f items)

-- the first that some check of the feeds refuses
abbrev pub first_refusal : (ℕ → Option RackFault) → List ℕ → Option RackFault
first_refusal check [] = None
first_refusal check (f ∷ fs) = else (check f) (first_refusal check fs)

abbrev pub feeds : List ℕ
feeds = 1 ∷ 2 ∷ 3 ∷ 4 ∷ 5 ∷ 6 ∷ 7 ∷ 8 ∷ []

-- the lowest feed that would pass its limit
abbrev pub overdrawn : Setup → Values → List PlainItem → Option RackFault
overdrawn s h items = first_refusal (over_limit s h items) feeds

-- what refuses a write: a locked row, else what was sent, else a feed
abbrev pub write_refusal : Setup → Values → Walked → Option RackFault
write_refusal s h w = else (lock_of (unlocked h) s.rows w.found) (else w.refusal (overdrawn s h w.items))

-- a status message: 00, the status and its index
abbrev pub status_msg : (node status index : ℕ) → Msg
status_msg node status index = data_msg node (0x00 ∷ status ∷ index ∷ [])

abbrev pub fault_msg : ℕ → RackFault → Msg
fault_msg node f = status_msg node (rack_code f) (rack_place f)

-- an accepted write answers status 00 at the data length
abbrev pub write_msg : (node size : ℕ) → Option RackFault → Msg
write_msg node size None = status_msg node 0x00 size
write_msg node size (Some f) = fault_msg node f

abbrev pub read_msg : ℕ → List ℕ → Option RackFault → Msg
read_msg node bytes None = data_msg node bytes
read_msg node bytes (Some f) = fault_msg node f

-- what a call is told: its refusal, the message that answers it, and its fault
pub record Reply : Type 0 where
  pub refusal : Option AnswerRefusal
  pub message : Option Msg
  pub fault : Option RackFault

abbrev pub write_reply : ℕ → Bool → ℕ → Option RackFault → Reply
write_reply node answered size fault = record { refusal = None; message = then_some answered (write_msg node size fault); fault = fault }

abbrev pub read_reply : ℕ → Answer → Reply
read_reply node a = record { refusal = None; message = Some (read_msg node a.bytes a.refusal); fault = a.refusal }

-- what a request is answered with while the rows hold these values
abbrev pub reply_to : Setup → Values → Request → Reply
reply_to s h short_buffer = record { refusal = Some ShortBuffer; message = None; fault = None }
reply_to s h (unreadable flaw answered) =
    record { refusal = None; message = then_some answered (error_msg (error_code error.Unreadable)); fault = Some (Chain (Line (line.Unreadable flaw))) }
reply_to s h error_message = record { refusal = None; message = None; fault = None }
reply_to s h other_node = record { refusal = None; message = Some (error_msg (error_code error.OtherNode)); fault = Some (Chain (Line line.OtherNode)) }
reply_to s h (unknown_command node fault) = record { refusal = None; message = Some (fault_msg node (Chain fault)); fault = Some (Chain fault) }
reply_to s h (write node answered size w) = write_reply node answered size (write_refusal s h w)
reply_to s h (read node w) = read_reply node (read_answer s.rows h w)

-- a write's items, unless it is refused
abbrev pub unless_refused : Option RackFault → List PlainItem → List PlainItem
unless_refused None items = items
unless_refused (Some f) items = []

-- the items that a request has kept: all of an accepted write's, and else none
abbrev pub kept_items : Setup → Values → Request → List PlainItem
kept_items s h short_buffer = []
kept_items s h (unreadable flaw answered) = []
kept_items s h error_message = []
kept_items s h other_node = []
kept_items s h (unknown_command node fault) = []
kept_items s h (write node answered size w) = unless_refused (write_refusal s h w) w.items
kept_items s h (read node w) = []

-- the values after a request: each row that is written at its last value in the message
abbrev pub values_after : Setup → Values → Request → Values
values_after s h request = laid_over (kept_items s h request) h
