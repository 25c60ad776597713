-- The answer to a read, and the check of its length.
use Rattle.std.specs.Prelude.{ℕ, cond, List, [], ◌∷◌, ◌++◌, length, Some, Ok, Err, Option, Result, nat_lt}
use Rattle.table.specs.declared.Kind.{Kind}
use Rattle.table.specs.Rows.{PlainRow}
use Rattle.table.specs.Draws.{row_at}
use Rattle.chain.specs.declared.fault.ChainFault.{ChainFault}
use Rattle.chain.specs.declared.fault.ChainFault.TheVariants.{AnswerTooLong}
use Rattle.chain.specs.declared.fault.RackFault.{RackFault}
use Rattle.chain.specs.declared.item.Query.{Query}
use Rattle.chain.specs.Faults.{too_long}
use Rattle.chain.specs.Items.{PlainItem, write, read, repeated}
use Rattle.chain.specs.Values.{in_chain}
use Rattle.chain.specs.Walks.{Walked}

-- what each row holds
abbrev pub Values : Type 0
Values = ℕ → List ℕ

-- what a query adds to the answer at a value
abbrev pub answered : Query → Kind → List ℕ → List ℕ
answered q kind v = repeated q ++ in_chain kind v

-- the answer with a query more, unless it then passes 64 bytes
abbrev pub put_answer : Query → Kind → List ℕ → List ℕ → Result (Unit {0}) ChainFault
put_answer q kind v bytes = cond (nat_lt 64 (length (bytes ++ answered q kind v))) (Err (AnswerTooLong q.place)) (Ok tt)

abbrev pub put_bytes : Query → Kind → List ℕ → List ℕ → List ℕ
put_bytes q kind v bytes = cond (nat_lt 64 (length (bytes ++ answered q kind v))) bytes (bytes ++ answered q kind v)

-- the bytes of an answer, and what refuses the read
pub record Answer : Type 0 where
  pub bytes : List ℕ
  pub refusal : Option RackFault

-- the answer that goes on from some bytes with the items of a read, and what refuses the read behind them
abbrev pub answer_from : List PlainRow → Values → List ℕ → List PlainItem → Option RackFault → Answer
answer_from rows h bytes [] refusal = record { bytes = bytes; refusal = refusal }
answer_from rows h bytes (write r i v ∷ items) refusal = answer_from rows h bytes items refusal
answer_from rows h bytes (read q ∷ items) refusal =
    cond (nat_lt 64 (length (bytes ++ answered q (row_at rows q.row).kind (h q.row))))
    (record { bytes = bytes; refusal = Some (too_long q.place) })
    (answer_from rows h (bytes ++ answered q (row_at rows q.row).kind (h q.row)) items refusal)

-- the answer to a read: 02, then what each item adds
abbrev pub read_answer : List PlainRow → Values → Walked → Answer
read_answer rows h w = answer_from rows h (0x02 ∷ []) w.items w.refusal

-- 02 and what all items add, however long it is
abbrev pub whole_from : List PlainRow → Values → List ℕ → List PlainItem → List ℕ
whole_from rows h bytes [] = bytes
whole_from rows h bytes (write r i v ∷ items) = whole_from rows h bytes items
whole_from rows h bytes (read q ∷ items) = whole_from rows h (bytes ++ answered q (row_at rows q.row).kind (h q.row)) items
