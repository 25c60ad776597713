-- Of bytes, the items of a chain carry bytes.
use Rattle.std.proofs.Common.{ℕ, ◌<◌, false, cond, leb, List}
use Rattle.std.proofs.lemmas.Bool.{cond_both}
use Rattle.std.specs.List.{AllByRecursion}
use Rattle.value.specs.Values.{Bytes}
use Rattle.table.specs.Rows.{PlainRow}
use Rattle.chain.specs.declared.access.Access.{Access}
use Rattle.chain.specs.declared.reader.Ahead.{Ahead}
use Rattle.chain.specs.declared.reader.Ahead.TheVariants.{Group, InGroup, End}
use Rattle.chain.specs.Items.{PlainItem}
use Rattle.chain.specs.Walks.{Walked, barred, spoiled, taken, Look, unfound, on_row, next, onward}
use Rattle.chain.specs.Chains.{opens_by, look_by, chain_by}
use Rattle.chain_laws.specs.Rows.{carried}
use Rattle.chain_laws.proofs.Walks.{Steps, walk_by_lem}
use Rattle.chain_laws.proofs.Looks.{Right, look_right}

-- a group's byte that is ahead is a byte
abbrev AheadByte : Ahead → Type 0
AheadByte Group = Unit {0}
AheadByte (InGroup g first) = g < 256
AheadByte End = Unit {0}

next_byte : (g b : ℕ) → g < 256 → AheadByte (next g b)
next_byte g b l =
    cond_both (leb 128 b) (InGroup g false) (cond (leb 128 g) Group End) AheadByte (λ _. l)
    (λ _. cond_both (leb 128 g) Group End AheadByte (λ _. tt) (λ _. tt))

abbrev CarryBytes : List PlainItem → Type 0
CarryBytes items = AllByRecursion (λ x. Bytes (carried x)) items

module _ (access : Access) (rows : List PlainRow) where
  onward_carries : (i g b : ℕ) (bs : List ℕ) (l : Look) (rest : ℕ → Walked) → Right access rows i g b bs l → g < 256 → b < 256 → Bytes bs →
      ((k : ℕ) → CarryBytes (rest k).items) → CarryBytes (onward i l rest).items
  onward_carries i g b bs (unfound f) rest s m n o h = tt
  onward_carries i g b bs (on_row r (barred f)) rest s m n o h = tt
  onward_carries i g b bs (on_row r (spoiled f)) rest s m n o h = tt
  onward_carries i g b bs (on_row r (taken x k)) rest s m n o h = (s.1.octets m n o, h k)

  abbrev Carries : ℕ → Ahead → List ℕ → Walked → Type 0
  Carries i a bs w = AheadByte a → Bytes bs → CarryBytes w.items

  carries : Steps (look_by access rows) Carries
  carries = record {
    short = λ i a _ _. tt;
    skip = λ i a b bs w h l o. h l o.1;
    group = λ i g bs w h l o. h o.0 o.1;
    closed = λ i g bs _ _. tt;
    item = λ i g first b bs rest h l o.
        onward_carries i g b bs (look_by access rows i g first b bs) rest (look_right access rows i g first b bs) l o.0 o.1 (λ k. h k (next_byte g b l) o.1);
    done = λ i _ _. tt;
    more = λ i b bs _ _. tt;
  }

  pub items_octets : (bs : List ℕ) → Bytes bs → AllByRecursion (λ x. Bytes (carried x)) (chain_by access rows bs).items
  items_octets bs = walk_by_lem (opens_by access rows) (look_by access rows) Carries carries 1 Group 0 bs tt
