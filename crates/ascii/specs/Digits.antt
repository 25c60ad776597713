-- How many digits bytes have.
use Rattle.std.specs.Prelude.{◌≡◌, ℕ, ◌*◌, List, [], ◌∷◌, length, refl}
use Rattle.std.proofs.Common.{arith}
use Rattle.ascii.specs.Hex.{hexes}

pub length-hexes : (xs : List ℕ) → length (hexes xs) ≡ 2 * length xs
length-hexes [] = refl
length-hexes (x ∷ xs) = let h = length-hexes xs in omega arith
