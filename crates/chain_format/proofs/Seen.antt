-- What is asked of entries, and of what a walk sees at their first bytes, for groups of them to be taken apart.
use Rattle.std.proofs.Common.{◌≡◌, ℕ, ◌%◌, ◌≤◌, Bool, true, List, ◌++◌, length, drop}
use Rattle.chain.specs.Items.{PlainItem, row_of, place_of}
use Rattle.chain.specs.Walks.{Look, on_row, taken}
use Rattle.chain_format.specs.Groups.{Entries}

pub record Seen {Entry : Type 0} (entries : Entries Entry) (opens : ℕ → Bool) (look : ℕ → ℕ → Bool → ℕ → List ℕ → Look) : Type 0 where
  pub small : (p : ℕ) (x : Entry) → entries.Fit p x → entries.shape.low x ≤ 127
  pub opened : (g : ℕ) (x : Entry) → entries.Fit (g % 128) x → opens g ≡ true
  pub placed : (i g : ℕ) (first : Bool) (b : ℕ) (x : Entry) → place_of (entries.item i g first b x) ≡ i
  -- a fit entry is taken
  pub takes : (i g : ℕ) (first : Bool) (b : ℕ) (x : Entry) (rest : List ℕ) → entries.Fit (g % 128) x → b % 128 ≡ entries.shape.low x →
      look i g first b (entries.shape.behind x ++ rest) ≡
      on_row (row_of (entries.item i g first b x)) (taken (entries.item i g first b x) (length (entries.shape.behind x)))
  -- what is taken is a fit entry
  pub stood : (i g : ℕ) (first : Bool) (b : ℕ) (bs : List ℕ) (r : ℕ) (y : PlainItem) (k : ℕ) → look i g first b bs ≡ on_row r (taken y k) →
      (x : Entry) × entries.Fit (g % 128) x × (b % 128 ≡ entries.shape.low x) × (entries.shape.behind x ++ drop k bs ≡ bs)
