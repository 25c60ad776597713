-- What holds at every step of going through a chain holds of the whole of it.
use Rattle.std.proofs.Common.{ℕ, zero, suc, ◌+◌, Bool, true, List, [], ◌∷◌}
use Rattle.std.proofs.lemmas.Bool.{cond_both}
use Rattle.chain.specs.declared.fault.RackFault.TheVariants.{NoProcess}
use Rattle.chain.specs.declared.reader.Ahead.{Ahead}
use Rattle.chain.specs.declared.reader.Ahead.TheVariants.{Group, InGroup, End}
use Rattle.chain.specs.Faults.{missing, extra}
use Rattle.chain.specs.Walks.{Walked, Look, refused_by, ended, next, onward, walk}

-- the steps of a walk, for a fact on the index at which it starts, what is ahead there, the bytes that are left, and what it gives
pub record Steps (look : ℕ → ℕ → Bool → ℕ → List ℕ → Look) (Holds : ℕ → Ahead → List ℕ → Walked → Type 0) : Type 0 where
  pub short : (i : ℕ) (a : Ahead) → Holds i a [] (refused_by (missing i))
  pub skip : (i : ℕ) (a : Ahead) (b : ℕ) (bs : List ℕ) (w : Walked) → Holds (i + 1) a bs w → Holds i a (b ∷ bs) w
  pub group : (i g : ℕ) (bs : List ℕ) (w : Walked) → Holds (i + 1) (InGroup g true) bs w → Holds i Group (g ∷ bs) w
  pub closed : (i g : ℕ) (bs : List ℕ) → Holds i Group (g ∷ bs) (refused_by (NoProcess i))
  pub item : (i g : ℕ) (first : Bool) (b : ℕ) (bs : List ℕ) (rest : ℕ → Walked) → ((k : ℕ) → Holds (i + 1) (next g b) bs (rest k)) →
      Holds i (InGroup g first) (b ∷ bs) (onward i (look i g first b bs) rest)
  pub done : (i : ℕ) → Holds i End [] ended
  pub more : (i b : ℕ) (bs : List ℕ) → Holds i End (b ∷ bs) (refused_by (extra i))

module _ (opens : ℕ → Bool) (look : ℕ → ℕ → Bool → ℕ → List ℕ → Look) (Holds : ℕ → Ahead → List ℕ → Walked → Type 0) (s : Steps look Holds) where
  pub walk_by_lem : (i : ℕ) (a : Ahead) (k : ℕ) (bs : List ℕ) → Holds i a bs (walk opens look i a k bs)
  walk_by_lem i a (suc k) [] = s.short i a
  walk_by_lem i a (suc k) (b ∷ bs) = s.skip i a b bs (walk opens look (i + 1) a k bs) (walk_by_lem (i + 1) a k bs)
  walk_by_lem i Group zero [] = s.short i Group
  walk_by_lem i Group zero (g ∷ bs) =
      cond_both (opens g) (walk opens look (i + 1) (InGroup g true) zero bs) (refused_by (NoProcess i)) (Holds i Group (g ∷ bs))
      (λ _. s.group i g bs (walk opens look (i + 1) (InGroup g true) zero bs) (walk_by_lem (i + 1) (InGroup g true) zero bs)) (λ _. s.closed i g bs)
  walk_by_lem i (InGroup g first) zero [] = s.short i (InGroup g first)
  walk_by_lem i (InGroup g first) zero (b ∷ bs) =
      s.item i g first b bs (λ k. walk opens look (i + 1) (next g b) k bs) (λ k. walk_by_lem (i + 1) (next g b) k bs)
  walk_by_lem i End zero [] = s.done i
  walk_by_lem i End zero (b ∷ bs) = s.more i b bs
