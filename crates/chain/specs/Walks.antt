-- Going through a chain from left to right, up to the first refusal.
use Rattle.std.specs.Prelude.{ℕ, zero, suc, ◌+◌, Bool, true, false, cond, List, [], ◌∷◌, Some, None, Option, nat_le}
use Rattle.chain.specs.declared.fault.RackFault.{RackFault}
use Rattle.chain.specs.declared.fault.RackFault.TheVariants.{NoProcess}
use Rattle.chain.specs.declared.reader.Ahead.{Ahead}
use Rattle.chain.specs.declared.reader.Ahead.TheVariants.{Group, InGroup, End}
use Rattle.chain.specs.Faults.{missing, extra}
use Rattle.chain.specs.Items.{PlainItem}

-- a row found for an item, with the item's place; `reached` says that the type and the row's marks let it on to its value or length
pub record Found : Type 0 where
  pub row : ℕ
  pub place : ℕ
  pub reached : Bool

-- what going through a chain gives: the rows found, the items taken, and what refused the rest
pub record Walked : Type 0 where
  pub found : List Found
  pub items : List PlainItem
  pub refusal : Option RackFault

-- what becomes of an item whose row is found
pub data Verdict : Type 0 where
  -- its type or the row's marks refuse it
  barred : RackFault → Verdict
  -- its value or its length refuses it
  spoiled : RackFault → Verdict
  -- it is taken, and takes so many bytes behind its first
  taken : PlainItem → ℕ → Verdict

-- what is seen at the first byte of an item: no row, or a row and a verdict
pub data Look : Type 0 where
  unfound : RackFault → Look
  on_row : (row : ℕ) → Verdict → Look

abbrev pub refused_by : RackFault → Walked
refused_by f = record { found = []; items = []; refusal = Some f }

abbrev pub ended : Walked
ended = record { found = []; items = []; refusal = None }

-- what comes behind an item: the top bit of its first byte b tells of another item, that of the group's byte g of another group
abbrev pub next : ℕ → ℕ → Ahead
next g b = cond (nat_le 128 b) (InGroup g false) (cond (nat_le 128 g) Group End)

-- an item at i, and then the rest of the chain behind the bytes that it takes
abbrev pub onward : ℕ → Look → (ℕ → Walked) → Walked
onward i (unfound f) rest = refused_by f
onward i (on_row r (barred f)) rest = record { found = record { row = r; place = i; reached = false } ∷ []; items = []; refusal = Some f }
onward i (on_row r (spoiled f)) rest = record { found = record { row = r; place = i; reached = true } ∷ []; items = []; refusal = Some f }
onward i (on_row r (taken x k)) rest = record {
  found = record { row = r; place = i; reached = true } ∷ (rest k).found;
  items = x ∷ (rest k).items;
  refusal = (rest k).refusal;
}

-- A chain by the bytes that are left: i is the index of the first of them, and the next k belong to the item before. `opens` says
-- whether a process byte opens a group, `look` what is seen at an item's first byte, in the group of g, first in it or not.
abbrev pub walk : (ℕ → Bool) → (ℕ → ℕ → Bool → ℕ → List ℕ → Look) → ℕ → Ahead → ℕ → List ℕ → Walked
walk opens look i a (suc k) [] = refused_by (missing i)
walk opens look i a (suc k) (b ∷ bs) = walk opens look (i + 1) a k bs
walk opens look i Group zero [] = refused_by (missing i)
walk opens look i Group zero (g ∷ bs) = cond (opens g) (walk opens look (i + 1) (InGroup g true) zero bs) (refused_by (NoProcess i))
walk opens look i (InGroup g first) zero [] = refused_by (missing i)
walk opens look i (InGroup g first) zero (b ∷ bs) = onward i (look i g first b bs) (λ k. walk opens look (i + 1) (next g b) k bs)
walk opens look i End zero [] = ended
walk opens look i End zero (b ∷ bs) = refused_by (extra i)
