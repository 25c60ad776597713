-- The first frame, computed: what an attempt at a place comes to, and what is passed over.
use Rattle.std.specs.Prelude.{ℕ, zero, suc, ◌+◌, ◌-◌, cond, List, [], ◌∷◌, length, take, ◌==◌, nat_lt}
use Rattle.finder.specs.declared.Outcome.TheVariants.{Frame, More, None}
use Rattle.finder.specs.declared.Attempt.{Attempt}
use Rattle.finder.specs.declared.Attempt.TheVariants.{Ends, Restarts, Fails, Open}
use Rattle.finder.specs.declared.Inside.{Inside}
use Rattle.finder.specs.declared.Inside.TheVariants.{Byte, Ten, End, Start, Wrong}
use Rattle.finder.specs.First.{Answer}

-- What an attempt without an end in its window comes to: while fewer bytes are there, more may bring the end.
abbrev pub unended : ℕ → List ℕ → Attempt
unended window bs = cond (nat_lt (length bs) window) Open Fails

-- From 3A: n bytes are read, and these are left of the window. The first 0A ends the frame.
abbrev pub ascii : ℕ → List ℕ → Attempt → Attempt
ascii n [] otherwise = otherwise
ascii n (b ∷ bs) otherwise = cond (b == 0x0A) (Ends (n + 1)) (ascii (n + 1) bs otherwise)

-- An attempt at 3A, the first of these bytes.
abbrev pub ascii_attempt : ℕ → List ℕ → Attempt
ascii_attempt window bs = ascii 0 (take window bs) (unended window bs)

-- What a 10 inside a binary frame and the byte behind it are together; a 10 that is the last byte stands alone.
abbrev pub behind_ten : List ℕ → Inside
behind_ten [] = Byte
behind_ten (b ∷ bs) = cond (b == 0x03) End (cond (b == 0x02) Start (cond (b == 0x10) Ten Wrong))

-- What stands at the first of these bytes, inside a binary frame.
abbrev pub inside : List ℕ → Inside
inside [] = Byte
inside (b ∷ bs) = cond (b == 0x10) (behind_ten bs) Byte

-- What an attempt comes to by what stands behind its first n bytes. `pass k` is what it comes to when it reads on k bytes further.
abbrev pub judged : Inside → ℕ → (ℕ → Attempt) → Attempt
judged Byte n pass = pass 1
judged Ten n pass = pass 2
judged End n pass = Ends (n + 2)
judged Start n pass = Restarts n
judged Wrong n pass = Fails

-- From 10 02: n bytes are read, and these are left of the window, of which it reads on behind the first k.
abbrev pub binary : ℕ → ℕ → List ℕ → Attempt → Attempt
binary k n [] otherwise = otherwise
binary (suc k) n (b ∷ bs) otherwise = binary k (n + 1) bs otherwise
binary zero n (b ∷ bs) otherwise = judged (inside (b ∷ bs)) n (λ k. binary (k - 1) (n + 1) bs otherwise)

-- An attempt at 10 02, the first of these bytes.
abbrev pub binary_attempt : ℕ → List ℕ → Attempt
binary_attempt window bs = binary 2 0 (take window bs) (unended window bs)

-- What an attempt comes to at a 10 with these bytes behind it.
abbrev pub ten_attempt : List ℕ → Attempt
ten_attempt [] = Open
ten_attempt (b ∷ bs) = cond (b == 0x02) (binary_attempt 138 (0x10 ∷ b ∷ bs)) Fails

-- What an attempt at the first of these bytes comes to.
abbrev pub attempt : List ℕ → Attempt
attempt [] = Fails
attempt (b ∷ bs) = cond (b == 0x3A) (ascii_attempt 135 (b ∷ bs)) (cond (b == 0x10) (ten_attempt bs) Fails)

-- The same answer, n places further.
abbrev pub shifted : ℕ → Answer → Answer
shifted n a = (a.0, n + a.1, a.2)

-- The answer by what an attempt at the first of these bytes comes to. `pass k` is the answer when k bytes are passed over:
-- an attempt that fails passes over its first byte only, one that restarts over all before the inner start.
abbrev pub answered : Attempt → List ℕ → (ℕ → Answer) → Answer
answered (Ends n) bs pass = (Frame, 0, take n bs)
answered (Restarts k) bs pass = pass k
answered Fails bs pass = pass 1
answered Open bs pass = (More, 0, [])

-- The answer when the first k of these bytes are passed over.
abbrev pub seek : ℕ → List ℕ → Answer
seek k [] = (None, 0, [])
seek (suc k) (b ∷ bs) = shifted 1 (seek k bs)
seek zero (b ∷ bs) = answered (attempt (b ∷ bs)) (b ∷ bs) (λ k. shifted 1 (seek (k - 1) bs))

-- The answer to these received bytes.
abbrev pub found : List ℕ → Answer
found bs = seek 0 bs
