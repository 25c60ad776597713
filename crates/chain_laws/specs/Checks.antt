-- Some of the checks of a chain in plain words, to compare with the rules without following a walk. Places are indexes of data bytes:
-- the command is at 0.
use Rattle.std.specs.Prelude.{◌≡◌, ℕ, Bool, true, false, List, [], ◌∷◌, ◌++◌, Some}
use Rattle.std.specs.List.{AllByRecursion}
use Rattle.table.specs.Rows.{PlainRow}
use Rattle.table.specs.Draws.{row_at}
use Rattle.table.specs.Tables.{place, has_process, Ruled}
use Rattle.chain.specs.declared.access.Access.{Access}
use Rattle.chain.specs.declared.access.Access.TheVariants.{Write}
use Rattle.chain.specs.declared.fault.RackFault.TheVariants.{NoProcess, NotWritable, Secured}
use Rattle.chain.specs.Faults.{missing}
use Rattle.chain.specs.Values.{type_bits}
use Rattle.chain.specs.Walks.{Found}
use Rattle.chain.specs.Chains.{process_of, parameter_of, type_of, chain_by, write_reading}

-- a write's process byte g and parameter byte q name the row r, by its process, its parameter and its type
pub record Names (rows : List PlainRow) (g q r : ℕ) : Type 0 where
  pub pair : place (process_of g) (parameter_of q) rows ≡ Some r
  pub typed : type_of q ≡ type_bits (row_at rows r).kind

pub record Checked (rows : List PlainRow) : Type 0 where
  -- a message with nothing behind its command lacks the byte at 1
  pub empty : (access : Access) → (chain_by access rows []).refusal ≡ Some (missing 1)
  -- a write to a process that no row has is refused at its process byte, whatever comes behind it
  pub no_process : (unlocked : Bool) (g : ℕ) (bs : List ℕ) → has_process (process_of g) rows ≡ false →
      (chain_by (Write unlocked) rows (g ∷ bs)).refusal ≡ Some (NoProcess 1)
  -- a write to a row that is not writable is refused at its parameter byte, unlocked or not, whatever comes behind it
  pub not_writable : (unlocked : Bool) (g q r : ℕ) (bs : List ℕ) → Names rows g q r → (row_at rows r).writable ≡ false →
      (chain_by (Write unlocked) rows (g ∷ q ∷ bs)).refusal ≡ Some (NotWritable 2)
  -- while rows are locked, the first secured row to whose value a write gets refuses it, at the row's parameter byte, whatever the
  -- value is and whatever comes behind it
  pub locked : (bs : List ℕ) (before after : List Found) (f : Found) → (write_reading rows bs).found ≡ before ++ f ∷ after →
      AllByRecursion (λ x. (row_at rows x.row).secured ≡ false) before → f.reached ≡ true → (row_at rows f.row).secured ≡ true →
      (chain_by (Write false) rows bs).refusal ≡ Some (Secured f.place)
  -- a message cannot unlock its own items: that it gives row 0 the value 64 (80, 0A, 40) before a secured row changes nothing
  pub own_unlock : (limits : List ℕ) → Ruled rows limits → (g q r : ℕ) (bs : List ℕ) → Names rows g q r →
      (row_at rows r).writable ≡ true → (row_at rows r).secured ≡ true →
      (chain_by (Write false) rows (0x80 ∷ 0x0a ∷ 0x40 ∷ g ∷ q ∷ bs)).refusal ≡ Some (Secured 5)
  -- only a write while rows are locked is refused for a secured row
  pub only_locked : (access : Access) (bs : List ℕ) (i : ℕ) → (chain_by access rows bs).refusal ≡ Some (Secured i) → access ≡ Write false

abbrev pub ChecksStand : Type 0
ChecksStand = (rows : List PlainRow) → Checked rows
