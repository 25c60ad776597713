-- What a rack serves.
use Rattle.std.specs.Prelude.{◌≡◌, ℕ, true, List, length, is_some}
use Rattle.line.specs.Framings.{Rule}
use Rattle.line.specs.Messages.{Msg, data_msg}
use Rattle.table.specs.declared.Table.{Table}
use Rattle.table.specs.Held.{rows_of, limits_of}
use Rattle.chain.specs.declared.access.Access.TheVariants.{Write, Read}
use Rattle.chain.specs.Reader.{chain_of}
use Rattle.promises.specs.Replies.{Reply, kept_items, reply_to}
use Rattle.promises.specs.Requests.{Setup, Request, frame_request, write, read}
use Rattle.promises.specs.Stored.{kept_in_store, values_in}
use Rattle.promises.specs.Wires.{wire_of}
use Rattle.rack.specs.declared.message.DataMessage.{DataMessage}
use Rattle.rack.specs.declared.rack.Rack.{Rack}

-- what a rack with this node and table is made with
abbrev pub setup : ℕ → Table → Setup
setup node table = record { rows = rows_of table; limits = limits_of table; node = node }

-- a data message, as the line has it
abbrev pub on_line : DataMessage → Msg
on_line m = data_msg m.node m.bytes.now

-- the requests that a message is as a write, and as a read
abbrev pub write_request : Table → DataMessage → Request
write_request table m = write m.node true (length m.bytes.now) (chain_of (Write true) (rows_of table) m.bytes.now)

abbrev pub read_request : Table → DataMessage → Request
read_request table m = read m.node (chain_of Read (rows_of table) m.bytes.now)

-- what a frame asks
abbrev pub frame_asks : {Mark : Type 0} → Rule Mark → Setup → List ℕ → Request
frame_asks R s frame = frame_request s (is_some R.unreadable_mark) ((wire_of R).reads frame)

module _ {S : Type 0} where
  -- what a rack is made with
  abbrev pub setup_of : Rack S → Setup
  setup_of rack = setup rack.node.number rack.table

  -- A rack serves a request: what it replies, and what its store holds then, where `held` says what a store holds. Its node and its
  -- table stay.
  pub record Serves (held : S → List (List ℕ)) (before : Rack S) (request : Request) (reply : Reply) (after : Rack S) : Type 0 where
    pub told : reply ≡ reply_to (setup_of before) (values_in (held before.store)) request
    pub kept : held after.store ≡ kept_in_store (kept_items (setup_of before) (values_in (held before.store)) request) (held before.store)
    pub same_node : after.node ≡ before.node
    pub same_table : after.table ≡ before.table
