-- Bytes as pairs of capital hex digits.
use Rattle.std.specs.Prelude.{ℕ, ◌+◌, ◌-◌, ◌*◌, ◌/◌, ◌%◌, cond, ◌&&◌, List, [], ◌∷◌, Some, None, Option, nat_le, nat_lt}

-- 0 to 9 are the digits 30 to 39, and 10 to 15 the letters 41 to 46.
abbrev pub digit : ℕ → ℕ
digit v = cond (nat_lt v 10) (48 + v) (55 + v)

-- The high digit first.
abbrev pub hexes : List ℕ → List ℕ
hexes [] = []
hexes (b ∷ bs) = digit (b / 16) ∷ digit (b % 16) ∷ hexes bs

-- What a capital digit stands for, and no other character stands for anything.
abbrev pub value : ℕ → Option ℕ
value c =
    cond (nat_le 48 c && nat_le c 57) (Some (c - 48))
    (cond (nat_le 65 c && nat_le c 70) (Some (c - 55)) None)

abbrev pub paired : Option ℕ → Option ℕ → Option (List ℕ) → Option (List ℕ)
paired None low rest = None
paired (Some h) None rest = None
paired (Some h) (Some l) None = None
paired (Some h) (Some l) (Some bs) = Some ((16 * h + l) ∷ bs)

-- The bytes that pairs of digits spell; nothing where a character is no digit, or one is left over.
abbrev pub spelled : List ℕ → Option (List ℕ)
spelled [] = Some []
spelled (a ∷ []) = None
spelled (a ∷ b ∷ r) = paired (value a) (value b) (spelled r)
