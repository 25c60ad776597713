-- The chains of writes and reads on the rows of a table.
use Rattle.std.specs.Prelude.{ℕ, ◌+◌, Bool, true, cond, not, ◌&&◌, List, [], ◌∷◌, Some, None, Ok, Err, Option, Result, ◌==◌, bit_and, nat_le}
use Rattle.table.specs.Rows.{PlainRow}
use Rattle.table.specs.Draws.{row_at}
use Rattle.table.specs.Tables.{place, has_process}
use Rattle.chain.specs.declared.access.Access.{Access}
use Rattle.chain.specs.declared.access.Access.TheVariants.{Write, Read}
use Rattle.chain.specs.declared.fault.RackFault.{RackFault}
use Rattle.chain.specs.declared.fault.RackFault.TheVariants.{NoProcess, NoParameter, WrongType, NotWritable, Secured, NotReadable}
use Rattle.chain.specs.declared.item.Query.{Query}
use Rattle.chain.specs.declared.reader.Ahead.{Ahead}
use Rattle.chain.specs.declared.reader.Ahead.TheVariants.{Group}
use Rattle.chain.specs.Faults.{missing, top_bit}
use Rattle.chain.specs.Items.{write, read}
use Rattle.chain.specs.Values.{type_bits, value_at, length_at}
use Rattle.chain.specs.Walks.{Walked, Verdict, barred, spoiled, taken, Look, unfound, on_row, walk}

-- the bits of a process byte, and of a parameter or index byte
abbrev pub process_of : ℕ → ℕ
process_of g = bit_and g 0x7f

abbrev pub parameter_of : ℕ → ℕ
parameter_of q = bit_and q 0x1f

abbrev pub type_of : ℕ → ℕ
type_of q = bit_and q 0x60

-- an item on the row that is found, if one is
abbrev pub on_found : Option ℕ → RackFault → (ℕ → Verdict) → Look
on_found None f verdict = unfound f
on_found (Some r) f verdict = on_row r (verdict r)

-- A write: the parameter byte q at i, on the row r.
abbrev pub value_taken : ℕ → ℕ → Result (List ℕ × ℕ) RackFault → Verdict
value_taken r i (Ok p) = taken (write r i p.0) p.1
value_taken r i (Err f) = spoiled f

abbrev pub write_of : Bool → PlainRow → ℕ → ℕ → ℕ → List ℕ → Verdict
write_of unlocked row r i q bs =
    cond (type_of q == type_bits row.kind)
    (cond row.writable
    (cond (not unlocked && row.secured) (barred (Secured i)) (value_taken r i (value_at row.kind (i + 1) bs)))
    (barred (NotWritable i)))
    (barred (WrongType i))

abbrev pub write_at : Bool → List PlainRow → ℕ → ℕ → Bool → ℕ → List ℕ → Look
write_at unlocked rows i g first q bs =
    on_found (place (process_of g) (parameter_of q) rows) (NoParameter i) (λ r. write_of unlocked (row_at rows r) r i q bs)

-- A read: the index byte x at i, then the process p at i + 1, and the parameter q at i + 2, on the row r.
abbrev pub query : ℕ → ℕ → ℕ → Bool → ℕ → Query
query r i g first x = record { row = r; place = i; group = cond first (Some g) None; index = x }

abbrev pub length_taken : Query → Result ℕ RackFault → Verdict
length_taken q (Ok k) = taken (read q) (k + 2)
length_taken q (Err f) = spoiled f

abbrev pub read_of : PlainRow → ℕ → ℕ → ℕ → Bool → ℕ → ℕ → List ℕ → Verdict
read_of row r i g first x q bs =
    cond (type_of q == type_bits row.kind && type_of x == type_of q)
    (cond row.readable (length_taken (query r i g first x) (length_at row.kind (i + 3) bs)) (barred (NotReadable (i + 2))))
    (barred (WrongType (i + 2)))

abbrev pub read_on : List PlainRow → ℕ → ℕ → Bool → ℕ → ℕ → List ℕ → Look
read_on rows i g first x p [] = unfound (missing (i + 2))
read_on rows i g first x p (q ∷ bs) =
    cond (nat_le 128 q) (unfound (top_bit (i + 2)))
    (on_found (place p (parameter_of q) rows) (NoParameter (i + 2)) (λ r. read_of (row_at rows r) r i g first x q bs))

abbrev pub read_at : List PlainRow → ℕ → ℕ → Bool → ℕ → List ℕ → Look
read_at rows i g first x [] = unfound (missing (i + 1))
read_at rows i g first x (p ∷ bs) =
    cond (nat_le 128 p) (unfound (top_bit (i + 1)))
    (cond (has_process p rows) (read_on rows i g first x p bs) (unfound (NoProcess (i + 1))))

-- which process bytes open a group: those of a process that has a row, in a write; all, in a read
abbrev pub opens_by : Access → List PlainRow → ℕ → Bool
opens_by (Write unlocked) rows g = has_process (process_of g) rows
opens_by Read rows g = true

abbrev pub look_by : Access → List PlainRow → ℕ → ℕ → Bool → ℕ → List ℕ → Look
look_by (Write unlocked) rows = write_at unlocked rows
look_by Read rows = read_at rows

abbrev pub walk_by : Access → List PlainRow → ℕ → Ahead → ℕ → List ℕ → Walked
walk_by access rows = walk (opens_by access rows) (look_by access rows)

-- a whole chain: the data bytes behind the command
abbrev pub chain_by : Access → List PlainRow → List ℕ → Walked
chain_by access rows bs = walk_by access rows 1 Group 0 bs

-- The reading that looks at the message and the table alone: it is the one for which no row is locked.
abbrev pub write_reading : List PlainRow → List ℕ → Walked
write_reading rows bs = chain_by (Write true) rows bs

abbrev pub read_reading : List PlainRow → List ℕ → Walked
read_reading rows bs = chain_by Read rows bs
