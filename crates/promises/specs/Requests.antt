-- What a call comes to, by the call, the table and the node alone.
use Rattle.std.specs.Prelude.{ℕ, ◌+◌, Bool, true, false, cond, ◌||◌, List, [], ◌∷◌, length, Ok, Err, Result, ◌==◌, nat_lt}
use Rattle.line.specs.declared.refusal.Flaw.{Flaw}
use Rattle.line.specs.Messages.{Msg, data_msg, error_msg}
use Rattle.table.specs.Rows.{PlainRow}
use Rattle.chain.specs.declared.access.Command.{Command}
use Rattle.chain.specs.declared.access.Command.TheVariants as command
use Rattle.chain.specs.declared.fault.ChainFault.{ChainFault}
use Rattle.chain.specs.declared.fault.ChainFault.TheVariants.{MissingByte}
use Rattle.chain.specs.Access.{command_of}
use Rattle.chain.specs.Walks.{Walked}
use Rattle.chain.specs.Chains.{write_reading, read_reading}
use Rattle.promises.specs.Wires.{Call}

-- what a rack is made with, and never changes: the rows and the limits of its table, and its node
pub record Setup : Type 0 where
  pub rows : List PlainRow
  pub limits : List ℕ
  pub node : ℕ

pub data Request : Type 0 where
  -- the answer buffer is short
  short_buffer : Request
  -- the frame cannot be read, and is answered or not
  unreadable : (flaw : Flaw) (answered : Bool) → Request
  -- the message is an error message
  error_message : Request
  -- the message is for another node
  other_node : Request
  -- the message has no command that the rack knows
  unknown_command : (node : ℕ) (fault : ChainFault) → Request
  -- a write, answered or not, with the number of data bytes and what its chain is by the message and the table alone
  write : (node : ℕ) (answered : Bool) (size : ℕ) (chain : Walked) → Request
  -- a read
  read : (node : ℕ) (chain : Walked) → Request

-- a data message to the rack, by its command and the bytes behind it
abbrev pub command_request : List PlainRow → ℕ → Result Command ChainFault → List ℕ → Request
command_request rows node (Ok command.Write) bs = write node true (length bs + 1) (write_reading rows bs)
command_request rows node (Ok command.WriteUnanswered) bs = write node false (length bs + 1) (write_reading rows bs)
command_request rows node (Ok command.Read) bs = read node (read_reading rows bs)
command_request rows node (Err fault) bs = unknown_command node fault

-- by its data bytes, of which a message always has one
abbrev pub data_request : List PlainRow → ℕ → List ℕ → Request
data_request rows node [] = unknown_command node (MissingByte 0)
data_request rows node (b ∷ bs) = command_request rows node (command_of b) bs

-- a message is for the rack when it names the rack's node, or 128
abbrev pub for_rack : Setup → ℕ → Bool
for_rack s node = node == s.node || node == 128

abbrev pub message_request : Setup → Msg → Request
message_request s (data_msg node bytes) = cond (for_rack s node) (data_request s.rows node bytes) other_node
message_request s (error_msg code) = error_message

-- a frame, by what its framing reads from it
abbrev pub frame_request : Setup → Bool → Result Msg Flaw → Request
frame_request s answered (Ok message) = message_request s message
frame_request s answered (Err flaw) = unreadable flaw answered

-- the buffer's length is checked first
abbrev pub request_of : Setup → Call → Request
request_of s c = cond (nat_lt c.room 138) short_buffer (frame_request s c.wire.answers_unreadable (c.wire.reads c.frame))
