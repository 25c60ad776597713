-- The answer to a read is bytes.
use Rattle.std.proofs.Common.{◌≡◌, ℕ, ◌<◌, true, ltb, List, [], ◌∷◌, ◌++◌, length, Some, Option, arith}
use Rattle.std.proofs.lemmas.Bool.{cond_both}
use Rattle.std.specs.List.{AllByRecursion}
use Rattle.value.specs.Values.{Bytes}
use Rattle.table.specs.declared.Kind.{Kind}
use Rattle.table.specs.declared.Kind.TheVariants.{Char, Integer, Long, Float, Text, OpenText}
use Rattle.table.specs.Rows.{PlainRow, kind_ruled}
use Rattle.table.specs.Draws.{row_at}
use Rattle.table.specs.Tables.{Ruled}
use Rattle.table.proofs.Facts.{row_ruled}
use Rattle.chain.specs.declared.access.Access.TheVariants.{Read}
use Rattle.chain.specs.declared.fault.RackFault.{RackFault}
use Rattle.chain.specs.declared.item.Query.{Query}
use Rattle.chain.specs.Faults.{too_long}
use Rattle.chain.specs.Items.{PlainItem, write, read, row_of, repeated}
use Rattle.chain.specs.Values.{in_chain}
use Rattle.chain.specs.Chains.{read_reading}
use Rattle.chain.specs.Answers.{Values, Answer, answered, answer_from}
use Rattle.chain_laws.specs.Rows.{carried}
use Rattle.chain_laws.specs.Answers.{AnswersAreBytes}
use Rattle.chain_laws.proofs.Rows.{text_size, kind_ruled_lem, rows_found_stand}

append_bytes : (xs ys : List ℕ) → Bytes xs → Bytes ys → Bytes (xs ++ ys)
append_bytes [] ys h k = k
append_bytes (x ∷ xs) ys h k = (h.0, append_bytes xs ys h.1 k)

-- a value as it stands in a chain: the length of a text is a byte
in_chain_bytes : (kind : Kind) (text v : List ℕ) → kind_ruled kind text ≡ true → Bytes v → Bytes (in_chain kind v)
in_chain_bytes (Char r) text v k h = h
in_chain_bytes (Integer r) text v k h = h
in_chain_bytes (Long r) text v k h = h
in_chain_bytes (Float r) text v k h = h
in_chain_bytes (Text n) text v k h = let l = text_size n text k in (omega arith, h)
in_chain_bytes OpenText text v k h = (omega arith, append_bytes v (0 ∷ []) h (omega arith, tt))

module _ (rows : List PlainRow) (limits : List ℕ) (t : Ruled rows limits) (h : Values) (b : (r : ℕ) → r < length rows → Bytes (h r)) where
  answered_bytes : (q : Query) → q.row < length rows → Bytes (repeated q) → Bytes (answered q (row_at rows q.row).kind (h q.row))
  answered_bytes q l m =
      append_bytes (repeated q) (in_chain (row_at rows q.row).kind (h q.row)) m
      (in_chain_bytes (row_at rows q.row).kind (row_at rows q.row).text (h q.row) (kind_ruled_lem (row_at rows q.row) (row_ruled rows t.lawful q.row)) (b q.row l))

  answer_bytes_lem : (items : List PlainItem) (bytes : List ℕ) (o : Option RackFault) → AllByRecursion (λ x. row_of x < length rows) items → AllByRecursion (λ x. Bytes (carried x)) items → Bytes bytes →
      Bytes (answer_from rows h bytes items o).bytes
  answer_bytes_lem [] bytes o l m k = k
  answer_bytes_lem (write r i v ∷ items) bytes o l m k = answer_bytes_lem items bytes o l.1 m.1 k
  answer_bytes_lem (read q ∷ items) bytes o l m k =
      let more : List ℕ = bytes ++ answered q (row_at rows q.row).kind (h q.row) in
      cond_both (ltb 64 (length more)) (record { bytes = bytes; refusal = Some (too_long q.place) }) (answer_from rows h more items o) (λ (x : Answer). Bytes x.bytes) (λ _. k)
      (λ _. answer_bytes_lem items more o l.1 m.1 (append_bytes bytes (answered q (row_at rows q.row).kind (h q.row)) k (answered_bytes q l.0 m.0)))

pub answers_are_bytes : AnswersAreBytes
answers_are_bytes rows limits t h b bs m =
    let w = rows_found_stand Read rows bs in
    answer_bytes_lem rows limits t h b (read_reading rows bs).items (0x02 ∷ []) (read_reading rows bs).refusal w.items_stand (w.octets m) (omega arith, tt)
