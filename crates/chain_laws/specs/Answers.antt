-- The check of an answer's length, laid over the reading of a read that looks at the message and the table alone.
use Rattle.std.specs.Prelude.{◌≡◌, ℕ, ◌<◌, ◌≤◌, List, [], ◌∷◌, length, Some}
use Rattle.value.specs.Values.{Bytes}
use Rattle.table.specs.Rows.{PlainRow}
use Rattle.table.specs.Tables.{Ruled}
use Rattle.chain.specs.declared.fault.RackFault.{RackFault}
use Rattle.chain.specs.Faults.{too_long, rack_place}
use Rattle.chain.specs.Walks.{Walked}
use Rattle.chain.specs.Chains.{read_reading}
use Rattle.chain.specs.Answers.{Values, read_answer, whole_from}

-- `w` is the reading by message and table alone
pub record RoomLaidOver (rows : List PlainRow) (h : Values) (w : Walked) : Type 0 where
  -- with room for what all items add, only what refuses the reading refuses the read, and the answer is the whole
  pub same : length (whole_from rows h (0x02 ∷ []) w.items) ≤ 64 →
      read_answer rows h w ≡ record { bytes = whole_from rows h (0x02 ∷ []) w.items; refusal = w.refusal }
  -- without room the answer is refused as too long, before whatever refuses the reading
  pub full : 64 < length (whole_from rows h (0x02 ∷ []) w.items) → (i : ℕ) × ((read_answer rows h w).refusal ≡ Some (too_long i)) ×
      ((g : RackFault) → w.refusal ≡ Some g → i < rack_place g)
  -- either way the answer has at most 64 bytes
  pub fits : length (read_answer rows h w).bytes ≤ 64

abbrev pub AnswersLieOver : Type 0
AnswersLieOver = (rows : List PlainRow) (h : Values) (bs : List ℕ) → RoomLaidOver rows h (read_reading rows bs)

-- where the table keeps the rules, and the message and what the rows hold are bytes, the answer is bytes
abbrev pub AnswersAreBytes : Type 0
AnswersAreBytes = (rows : List PlainRow) (limits : List ℕ) → Ruled rows limits → (h : Values) → ((r : ℕ) → r < length rows → Bytes (h r)) →
    (bs : List ℕ) → Bytes bs → Bytes (read_answer rows h (read_reading rows bs)).bytes
