-- The entries of writes, of reads and of the answers to reads.
use Rattle.std.specs.Prelude.{◌≡◌, ℕ, ◌+◌, ◌≤◌, true, List, [], ◌∷◌, Some}
use Rattle.table.specs.declared.Kind.{Kind}
use Rattle.table.specs.declared.Kind.TheVariants.{Char, Integer, Long, Float, Text, OpenText}
use Rattle.table.specs.Rows.{PlainRow, admitted}
use Rattle.table.specs.Draws.{row_at}
use Rattle.table.specs.Tables.{place}
use Rattle.chain.specs.Items.{write, read}
use Rattle.chain.specs.Values.{type_bits, in_chain}
use Rattle.chain.specs.Chains.{query}
use Rattle.chain.specs.Answers.{Values}
use Rattle.chain_format.specs.Groups.{Shape, Entries}

-- a row to write, and the value for it
pub record WriteEntry : Type 0 where
  pub row : ℕ
  pub value : List ℕ

-- a row to read, and the five free bits of the index byte
pub record ReadEntry : Type 0 where
  pub row : ℕ
  pub index : ℕ

-- a parameter byte without its top bit: the type and the parameter of a row
abbrev pub parameter_byte : PlainRow → ℕ
parameter_byte row = type_bits row.kind + row.parameter

-- the length byte of a text in a read, 00 for an open text
abbrev pub length_byte : Kind → List ℕ
length_byte (Char r) = []
length_byte (Integer r) = []
length_byte (Long r) = []
length_byte (Float r) = []
length_byte (Text n) = n ∷ []
length_byte OpenText = 0 ∷ []

module _ (rows : List PlainRow) where
  -- a write: the parameter byte, and behind it the value
  abbrev pub write_shape : Shape WriteEntry
  write_shape = record { low = λ e. parameter_byte (row_at rows e.row); behind = λ e. in_chain (row_at rows e.row).kind e.value }

  -- the index byte of a read: the type and the free bits
  abbrev pub index_byte : ReadEntry → ℕ
  index_byte e = type_bits (row_at rows e.row).kind + e.index

  -- a read: the index byte, and behind it process, parameter byte and length byte
  abbrev pub read_shape : Shape ReadEntry
  read_shape = record {
    low = index_byte;
    behind = λ e. (row_at rows e.row).process ∷ parameter_byte (row_at rows e.row) ∷ length_byte (row_at rows e.row).kind;
  }

  -- the answer to a read: the index byte again, and behind it the value that the row holds
  abbrev pub answer_shape : Values → Shape ReadEntry
  answer_shape held = record { low = index_byte; behind = λ e. in_chain (row_at rows e.row).kind (held e.row) }

  -- an entry that may be written in a group of the process p
  pub record MayWrite (p : ℕ) (e : WriteEntry) : Type 0 where
    pub found : place p (row_at rows e.row).parameter rows ≡ Some e.row
    pub five_bits : (row_at rows e.row).parameter ≤ 31
    pub writable : (row_at rows e.row).writable ≡ true
    pub admits : admitted (row_at rows e.row).kind e.value ≡ true

  -- an entry that may be read, in any group
  pub record MayRead (e : ReadEntry) : Type 0 where
    pub found : place (row_at rows e.row).process (row_at rows e.row).parameter rows ≡ Some e.row
    pub seven_bits : (row_at rows e.row).process ≤ 127
    pub five_bits : (row_at rows e.row).parameter ≤ 31
    pub free : e.index ≤ 31
    pub readable : (row_at rows e.row).readable ≡ true

  abbrev pub write_entries : Entries WriteEntry
  write_entries = record { shape = write_shape; item = λ i g first b e. write e.row i e.value; Fit = λ p e. MayWrite p e }

  abbrev pub read_entries : Entries ReadEntry
  read_entries = record { shape = read_shape; item = λ i g first b e. read (query e.row i g first b); Fit = λ p e. MayRead e }
