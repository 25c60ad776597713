-- What a reader of a chain gives and leaves.
use Rattle.std.specs.Prelude.{ℕ, ◌+◌, cond, ◌&&◌, List, [], ◌∷◌, drop, Some, None, Ok, Err, Option, Result, ◌==◌}
use Rattle.table.specs.Held.{rows_of}
use Rattle.table.specs.Rows.{PlainRow}
use Rattle.chain.specs.declared.access.Access.{Access}
use Rattle.chain.specs.declared.fault.RackFault.{RackFault}
use Rattle.chain.specs.declared.item.Item.{Item}
use Rattle.chain.specs.declared.reader.Chain.{Chain}
use Rattle.chain.specs.declared.reader.Start.{Start}
use Rattle.chain.specs.declared.fault.RackFault.TheVariants.{WrongType, NotReadable}
use Rattle.chain.specs.Cursors.{rest}
use Rattle.chain.specs.Faults.{missing}
use Rattle.chain.specs.Items.{PlainItem, plain_item}
use Rattle.chain.specs.Values.{type_bits}
use Rattle.chain.specs.Walks.{Walked, Verdict, barred, spoiled, taken, Look, unfound, on_row, refused_by, ended, next, onward}
use Rattle.chain.specs.Chains.{type_of, look_by, walk_by, chain_by}

-- an item and the bytes that it takes behind its first, or why it is refused, by the definition
abbrev pub verdict_result : Verdict → Result (PlainItem × ℕ) RackFault
verdict_result (barred f) = Err f
verdict_result (spoiled f) = Err f
verdict_result (taken x k) = Ok (x, k)

abbrev pub look_result : Look → Result (PlainItem × ℕ) RackFault
look_result (unfound f) = Err f
look_result (on_row r v) = verdict_result v

-- what bars a read on a row: the types of its parameter byte q and its index byte x, or the row's marks
abbrev pub may_read : PlainRow → ℕ → ℕ → ℕ → Result (Unit {0}) RackFault
may_read row x q i =
    cond (type_of q == type_bits row.kind && type_of x == type_of q) (cond row.readable (Ok tt) (Err (NotReadable i))) (Err (WrongType i))

-- what is left of a chain that is being taken apart
abbrev pub remaining : Chain → Walked
remaining c = walk_by c.access (rows_of c.table.now) c.cursor.at c.ahead 0 (rest c.cursor)

-- what is left from an item on, by its first byte
abbrev pub from_item : Chain → Start → Walked
from_item c s =
    onward s.place (look_by c.access (rows_of c.table.now) s.place s.group s.first s.byte (rest s.behind))
    (λ k. walk_by c.access (rows_of c.table.now) (s.place + 1) (next s.group s.byte) k (rest s.behind))

-- the same where the item is to be told: a refusal refuses the rest
abbrev pub from_group : Chain → Result Start RackFault → Walked
from_group c (Ok s) = from_item c s
from_group c (Err f) = refused_by f

-- and where the chain may have ended
abbrev pub from_start : Chain → Result (Option Start) RackFault → Walked
from_start c (Ok (Some s)) = from_item c s
from_start c (Ok None) = ended
from_start c (Err f) = refused_by f

-- the chain in the data of a message: it stands behind the command, and of no data at all the first byte is missing
abbrev pub chain_of : Access → List PlainRow → List ℕ → Walked
chain_of access rows [] = refused_by (missing 0)
chain_of access rows (command ∷ bs) = chain_by access rows bs

-- what is given next: the first item, the end, or what refuses the rest
abbrev pub next_of : List PlainItem → Option RackFault → Result (Option PlainItem) RackFault
next_of (x ∷ items) refusal = Ok (Some x)
next_of [] None = Ok None
next_of [] (Some f) = Err f

abbrev pub given : Walked → Result (Option PlainItem) RackFault
given w = next_of w.items w.refusal

-- what is left then: all but the first item; where no item is given, all stays
abbrev pub behind : List PlainItem → Walked → Walked
behind [] w = w
behind (x ∷ items) w = record { found = drop 1 w.found; items = items; refusal = w.refusal }

abbrev pub left : Walked → Walked
left w = behind w.items w

-- the same, as the code tells it
abbrev pub told : Result (Option Item) RackFault → Result (Option PlainItem) RackFault
told (Ok (Some x)) = Ok (Some (plain_item x))
told (Ok None) = Ok None
told (Err f) = Err f

-- what is told of a whole chain
abbrev pub checked : Option RackFault → Result (Unit {0}) RackFault
checked None = Ok tt
checked (Some f) = Err f
