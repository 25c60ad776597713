-- What a chain is, in the words of its format: the bytes laid down for fit groups, and no others, are taken apart into their items.
use Rattle.std.specs.Prelude.{◌≡◌, ℕ, ◌≤◌, List, ◌∷◌, length, None}
use Rattle.value.specs.Values.{Bytes}
use Rattle.table.specs.Rows.{PlainRow}
use Rattle.chain.specs.Walks.{Walked}
use Rattle.chain.specs.Chains.{write_reading, read_reading}
use Rattle.chain.specs.Answers.{Values, read_answer}
use Rattle.chain_format.specs.Groups.{Group, Entries, laid_down, items_of, FitGroups, all_taken}
use Rattle.chain_format.specs.Entries.{ReadEntry, read_shape, answer_shape, write_entries, read_entries}

module _ {Entry : Type 0} (entries : Entries Entry) (reading : List ℕ → Walked) where
  -- fit groups laid down are taken apart into their items, at their places, and nothing is refused
  abbrev pub TakenApart : Type 0
  TakenApart = (g : Group Entry) (gs : List (Group Entry)) → FitGroups entries g gs → reading (laid_down entries.shape g gs) ≡ all_taken (items_of entries 1 g gs)

  -- bytes of which nothing is refused are fit groups laid down, and the items taken are theirs
  abbrev pub LaidDown : Type 0
  LaidDown = (bs : List ℕ) → Bytes bs → (reading bs).refusal ≡ None →
      (g : Group Entry) × (gs : List (Group Entry)) × FitGroups entries g gs × (laid_down entries.shape g gs ≡ bs) × ((reading bs).items ≡ items_of entries 1 g gs)

abbrev pub WritesTakenApart : Type 0
WritesTakenApart = (rows : List PlainRow) → TakenApart (write_entries rows) (write_reading rows)

abbrev pub WritesLaidDown : Type 0
WritesLaidDown = (rows : List PlainRow) → LaidDown (write_entries rows) (write_reading rows)

abbrev pub ReadsTakenApart : Type 0
ReadsTakenApart = (rows : List PlainRow) → TakenApart (read_entries rows) (read_reading rows)

abbrev pub ReadsLaidDown : Type 0
ReadsLaidDown = (rows : List PlainRow) → LaidDown (read_entries rows) (read_reading rows)

-- A read of fit groups is answered by 02 and the same groups laid down with each row's value behind its index byte, if that is at
-- most 64 bytes.
abbrev pub ReadsAnswered : Type 0
ReadsAnswered = (rows : List PlainRow) (held : Values) (g : Group ReadEntry) (gs : List (Group ReadEntry)) → FitGroups (read_entries rows) g gs →
    length (0x02 ∷ laid_down (answer_shape rows held) g gs) ≤ 64 →
    read_answer rows held (read_reading rows (laid_down (read_shape rows) g gs)) ≡ record { bytes = 0x02 ∷ laid_down (answer_shape rows held) g gs; refusal = None }
