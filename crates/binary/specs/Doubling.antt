-- Bytes with every 10 doubled, so that only start and end have a 10 that is not.
use Rattle.std.specs.Prelude.{◌≡◌, ℕ, cond, List, [], ◌∷◌, Some, None, Option, ◌==◌}
use Rattle.std.specs.Option.{option_map}

-- Each byte 10 stands twice, each other byte once.
abbrev pub doubled : List ℕ → List ℕ
doubled [] = []
doubled (b ∷ bs) = b ∷ cond (b == 16) (16 ∷ doubled bs) (doubled bs)

-- The bytes that stand so with every 10 doubled; nothing where a 10 has no second one behind it.
abbrev pub undoubled : List ℕ → Option (List ℕ)
undoubled [] = Some []
undoubled (a ∷ []) = cond (a == 16) None (Some (a ∷ []))
undoubled (a ∷ b ∷ r) =
    cond (a == 16) (cond (b == 16) (option_map (λ p. a ∷ p) (undoubled r)) None)
    (option_map (λ p. a ∷ p) (undoubled (b ∷ r)))

-- The two are inverse: what was doubled is undone to the same bytes, and what can be undone was doubled so.
pub record Inverse : Type 0 where
  pub undoes : (p : List ℕ) → undoubled (doubled p) ≡ Some p
  pub doubles : (r p : List ℕ) → undoubled r ≡ Some p → doubled p ≡ r
