-- What holds of every answer.
use Rattle.std.specs.Prelude.{◌≡◌, ℕ, ◌+◌, List, [], ◌∷◌, ◌++◌, length, drop, ◌≢◌}
use Rattle.finder.specs.declared.Outcome.{Outcome}
use Rattle.finder.specs.declared.Outcome.TheVariants.{Frame, More, None}
use Rattle.finder.specs.Shapes.{Without, Whole}
use Rattle.finder.specs.First.{Answer, First}
use Rattle.finder.specs.Search.{shifted, found}
use Rattle.finder.specs.Edges.{Edges}

-- Only one answer is the first: the one that is computed.
abbrev pub OnlyOne : Type 0
OnlyOne = (bs : List ℕ) (a : Answer) → First bs a → a ≡ found bs

-- A whole frame with anything behind it is found whole at place 0.
abbrev pub WholeFound : Type 0
WholeFound = (frame more : List ℕ) → Whole frame → found (frame ++ more) ≡ (Frame, 0, frame)

-- Noise in front, bytes other than 3A and 10, shifts the place and changes nothing else.
abbrev pub NoiseShifts : Type 0
NoiseShifts =
    (noise bs : List ℕ) → Without 0x3A noise → Without 0x10 noise → found (noise ++ bs) ≡ shifted (length noise) (found bs)

-- A frame that is found stays found, at its place, when more bytes come behind.
abbrev pub FrameStays : Type 0
FrameStays = (bs more : List ℕ) → (found bs).0 ≡ Frame → found (bs ++ more) ≡ found bs

-- Where no frame is found, the bytes from the place on suffice: whatever comes behind, only the place changes when those before it are dropped.
abbrev pub RestSuffices : Type 0
RestSuffices =
    (bs more : List ℕ) → ((found bs).0 ≢ Frame)
    → found (bs ++ more) ≡ shifted (found bs).1 (found (drop (found bs).1 bs ++ more))

-- The answer where a frame is found, and the later one where none is.
abbrev pub unless_frame : Outcome → Answer → Answer → Answer
unless_frame Frame answer later = answer
unless_frame More answer later = later
unless_frame None answer later = later

-- Feeding: `past` bytes are dropped, these are kept, and these pieces are still to come. Unless a frame is found in what is kept,
-- the bytes before the place are dropped too, and the next piece comes behind the others.
abbrev pub fed : ℕ → List ℕ → List (List ℕ) → Answer
fed past kept [] = shifted past (found kept)
fed past kept (piece ∷ pieces) =
    unless_frame (found kept).0 (shifted past (found kept)) (fed (past + (found kept).1) (drop (found kept).1 kept ++ piece) pieces)

-- The pieces as one.
abbrev pub joined : List (List ℕ) → List ℕ
joined [] = []
joined (piece ∷ pieces) = piece ++ joined pieces

-- However the bytes are cut into pieces, the answer is the one to all of them.
abbrev pub PiecesAlike : Type 0
PiecesAlike = (pieces : List (List ℕ)) → fed 0 [] pieces ≡ found (joined pieces)

-- All of them, with the answers at the edges of the rules.
pub record Laws : Type 0 where
  pub only : OnlyOne
  pub whole : WholeFound
  pub noise : NoiseShifts
  pub stays : FrameStays
  pub rest : RestSuffices
  pub pieces : PiecesAlike
  pub edges : Edges
