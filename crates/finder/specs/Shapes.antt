-- What received bytes can look like from a place on. Bytes are counted from there, the first included.
use Rattle.std.specs.Prelude.{ℕ, ◌+◌, ◌<◌, ◌≤◌, List, [], ◌∷◌, ◌++◌, length, ◌≢◌}

-- None of these bytes is x.
abbrev pub Without : ℕ → List ℕ → Type 0
Without x [] = Unit {0}
Without x (b ∷ bs) = (b ≢ x) × Without x bs

-- Every 10 stands twice, read from the left.
pub data Doubled : List ℕ → Type 0 where
  no_bytes : Doubled []
  plain : {b : ℕ} {bs : List ℕ} → (b ≢ 0x10) → Doubled bs → Doubled (b ∷ bs)
  pair : {bs : List ℕ} → Doubled bs → Doubled (0x10 ∷ 0x10 ∷ bs)

-- A whole frame: 3A to the first 0A in at most 135 bytes, or 10 02 to 10 03 in at most 138 bytes with every 10 between them doubled.
pub data Whole : List ℕ → Type 0 where
  ascii_frame : (body : List ℕ) → Without 0x0A body → length body + 2 ≤ 135 → Whole (0x3A ∷ (body ++ 0x0A ∷ []))
  binary_frame : (body : List ℕ) → Doubled body → length body + 4 ≤ 138 → Whole (0x10 ∷ 0x02 ∷ (body ++ 0x10 ∷ 0x03 ∷ []))

-- An attempt that the bytes stop in: neither an end nor a wrong pair nor an inner start has come,
-- and fewer bytes are there than a frame may have.
pub data Unfinished : List ℕ → Type 0 where
  in_ascii : (body : List ℕ) → Without 0x0A body → length body + 1 < 135 → Unfinished (0x3A ∷ body)
  last_ten : Unfinished (0x10 ∷ [])
  in_binary : (body : List ℕ) → Doubled body → length body + 2 < 138 → Unfinished (0x10 ∷ 0x02 ∷ body)
  in_pair : (body : List ℕ) → Doubled body → length body + 3 < 138 → Unfinished (0x10 ∷ 0x02 ∷ (body ++ 0x10 ∷ []))

-- From 10 02 on, before an end or a wrong pair, another 10 02 whose two bytes lie in the first 138: it stands k bytes further.
pub data InnerStart : ℕ → List ℕ → Type 0 where
  inner : (body rest : List ℕ) → Doubled body → length body + 4 ≤ 138
      → InnerStart (length body + 2) (0x10 ∷ 0x02 ∷ (body ++ 0x10 ∷ 0x02 ∷ rest))

-- None of these: a byte other than 3A and 10, a 10 that no 02 follows, or an attempt that is over without an end.
abbrev pub NoStart : List ℕ → Type 0
NoStart bs =
    ((frame rest : List ℕ) → Whole frame → bs ≢ frame ++ rest) × (Unfinished bs → ⊥) × ((k : ℕ) → InnerStart k bs → ⊥)
