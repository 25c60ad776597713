-- The kinds of number: which number some bytes are, the highest byte first, and back.
use Rattle.std.specs.Prelude.{◌≡◌, ℕ, ◌+◌, ◌*◌, ◌/◌, ◌%◌, Bool, true, cond, List, [], ◌∷◌, length, is_some, Some, None, Option, nat_le, Float}
use Rattle.std.specs.Float.Ieee as Ieee
use Rattle.std.specs.Float.{binary32}
use Rattle.value.specs.Values.{Bytes}

-- a kind of number: its width in bytes, the number that some bytes are, the bytes of a number, and the order "at most"
pub record NumberKind (N : Type 0) : Type 0 where
  pub width : ℕ
  -- nothing where the bytes are not a number of the kind
  pub reads : List ℕ → Option N
  -- nothing for what is not a number
  pub writes : N → Option (List ℕ)
  pub at_most : N → N → Bool

-- what every kind shows
pub record Laws {N : Type 0} (k : NumberKind N) : Type 0 where
  -- the bytes of a number are as many as the kind's width
  pub sized : (bs : List ℕ) (n : N) → k.reads bs ≡ Some n → length bs ≡ k.width
  -- the bytes of a number, read and written again, are the same bytes
  pub again : (bs : List ℕ) (n : N) → Bytes bs → k.reads bs ≡ Some n → k.writes n ≡ Some bs
  -- only numbers stand in the order
  pub numbers : (m n : N) → k.at_most m n ≡ true → (is_some (k.writes m) ≡ true) × (is_some (k.writes n) ≡ true)

-- the bytes of n, if it has any, are read as n
abbrev pub ReadBack : {N : Type 0} → NumberKind N → N → Type 0
ReadBack k n = (bs : List ℕ) → k.writes n ≡ Some bs → k.reads bs ≡ Some n

-- the number that one, two or four bytes are
abbrev pub of_one : List ℕ → Option ℕ
of_one [] = None
of_one (a ∷ []) = Some a
of_one (a ∷ (b ∷ l)) = None

abbrev pub of_two : List ℕ → Option ℕ
of_two [] = None
of_two (a ∷ []) = None
of_two (a ∷ (b ∷ [])) = Some (a * 256 + b)
of_two (a ∷ (b ∷ (c ∷ l))) = None

abbrev pub of_four : List ℕ → Option ℕ
of_four [] = None
of_four (a ∷ []) = None
of_four (a ∷ (b ∷ [])) = None
of_four (a ∷ (b ∷ (c ∷ []))) = None
of_four (a ∷ (b ∷ (c ∷ (d ∷ [])))) = Some (a * 16777216 + b * 65536 + c * 256 + d)
of_four (a ∷ (b ∷ (c ∷ (d ∷ (e ∷ l))))) = None

-- the one, two or four bytes of a number
abbrev pub one : ℕ → List ℕ
one n = (n % 256) ∷ []

abbrev pub two : ℕ → List ℕ
two n = (n / 256 % 256) ∷ (n % 256) ∷ []

abbrev pub four : ℕ → List ℕ
four n = (n / 16777216 % 256) ∷ (n / 65536 % 256) ∷ (n / 256 % 256) ∷ (n % 256) ∷ []

-- the float with this bit pattern, unless it is not a number
abbrev pub of_pattern : Option ℕ → Option Float
of_pattern None = None
of_pattern (Some n) = cond (Ieee.is_nan (Ieee.of_bits binary32 n)) None (Some (Ieee.of_bits binary32 n))

abbrev pub char : NumberKind ℕ
char = record { width = 1; reads = of_one; writes = λ n. Some (one n); at_most = nat_le }

abbrev pub integer : NumberKind ℕ
integer = record { width = 2; reads = of_two; writes = λ n. Some (two n); at_most = nat_le }

abbrev pub long : NumberKind ℕ
long = record { width = 4; reads = of_four; writes = λ n. Some (four n); at_most = nat_le }

-- minus zero and the infinities are numbers, and the order is IEEE's
abbrev pub float : NumberKind Float
float = record {
  width = 4;
  reads = λ bs. of_pattern (of_four bs);
  writes = λ x. cond (Ieee.is_nan x) None (Some (four (Ieee.to_bits binary32 x)));
  at_most = Ieee.le;
}
