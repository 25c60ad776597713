-- The rules at their edges, as one fact that is computed.
use Rattle.std.specs.Prelude.{◌≡◌, ℕ, List, [], ◌∷◌, ◌++◌, map, replicate}
use Rattle.finder.specs.declared.Outcome.TheVariants.{Frame, More, None}
use Rattle.finder.specs.First.{Answer}
use Rattle.finder.specs.Search.{found}

-- 3A, n bytes 41, and what ends them.
abbrev pub ascii_of : ℕ → List ℕ → List ℕ
ascii_of n end = 0x3A ∷ (replicate n 0x41 ++ end)

-- 10 02, n bytes 41, and what ends them.
abbrev pub binary_of : ℕ → List ℕ → List ℕ
binary_of n end = 0x10 ∷ 0x02 ∷ (replicate n 0x41 ++ end)

-- Received bytes, each with their answer.
abbrev pub edges : List (List ℕ × Answer)
edges =
    -- after a wrong pair, what lies inside the attempt is tried
    (0x10 ∷ 0x02 ∷ 0x3A ∷ 0x10 ∷ 0x05 ∷ 0x0A ∷ [], (Frame, 2, 0x3A ∷ 0x10 ∷ 0x05 ∷ 0x0A ∷ []))
    -- a 10 that no 02 follows is passed over alone
    ∷ (0x10 ∷ 0x10 ∷ 0x02 ∷ 0x01 ∷ 0x10 ∷ 0x03 ∷ [], (Frame, 1, 0x10 ∷ 0x02 ∷ 0x01 ∷ 0x10 ∷ 0x03 ∷ []))
    -- the search goes on from an inner start, and the 3A before it is not tried
    ∷ (0x10 ∷ 0x02 ∷ 0x3A ∷ 0x10 ∷ 0x02 ∷ 0x0A ∷ 0x10 ∷ 0x03 ∷ [], (Frame, 3, 0x10 ∷ 0x02 ∷ 0x0A ∷ 0x10 ∷ 0x03 ∷ []))
    -- a doubled 10 is data, also before a 03
    ∷ (0x10 ∷ 0x02 ∷ 0x10 ∷ 0x10 ∷ 0x03 ∷ 0x10 ∷ 0x03 ∷ [], (Frame, 0, 0x10 ∷ 0x02 ∷ 0x10 ∷ 0x10 ∷ 0x03 ∷ 0x10 ∷ 0x03 ∷ []))
    -- the bytes stop inside an attempt, of which a last 10 is one
    ∷ (0x3A ∷ 0x41 ∷ [], (More, 0, []))
    ∷ (0x41 ∷ 0x10 ∷ [], (More, 1, []))
    -- more is told of the first unfinished attempt, also where a whole frame lies behind its start
    ∷ (0x3A ∷ 0x10 ∷ 0x02 ∷ 0x01 ∷ 0x10 ∷ 0x03 ∷ [], (More, 0, []))
    -- nothing starts
    ∷ (0x41 ∷ 0x02 ∷ 0x0A ∷ [], (None, 3, []))
    -- 135 bytes are a frame, 136 are none
    ∷ (ascii_of 133 (0x0A ∷ []), (Frame, 0, ascii_of 133 (0x0A ∷ [])))
    ∷ (ascii_of 134 (0x0A ∷ []), (None, 136, []))
    -- without an end, 134 bytes are unfinished, and 135 are over
    ∷ (ascii_of 133 [], (More, 0, []))
    ∷ (ascii_of 134 [], (None, 135, []))
    -- 138 bytes are a frame, 139 are none, since the last pair lies only half in the window
    ∷ (binary_of 134 (0x10 ∷ 0x03 ∷ []), (Frame, 0, binary_of 134 (0x10 ∷ 0x03 ∷ [])))
    ∷ (binary_of 135 (0x10 ∷ 0x03 ∷ []), (None, 139, []))
    -- without an end, 137 bytes are unfinished, and 138 are over, also when the last is a 10 (which is an attempt of its own)
    ∷ (binary_of 134 (0x10 ∷ []), (More, 0, []))
    ∷ (binary_of 135 (0x10 ∷ []), (More, 137, []))
    ∷ []

-- The answers to them are the computed ones.
abbrev pub Edges : Type 0
Edges = map (λ e. found e.0) edges ≡ map (λ e. e.1) edges
