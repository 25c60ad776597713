-- What is written on the line, and what is found there.
use Rattle.std.specs.Prelude.{◌≡◌, ℕ, List, ◌++◌}
use Rattle.line.specs.Messages.{Msg, Framable, OfBytes}
use Rattle.line.specs.Framings.{Rule}
use Rattle.ascii.specs.Frames.{ascii}
use Rattle.binary.specs.Frames.{binary}
use Rattle.finder.specs.declared.Outcome.TheVariants.{Frame}
use Rattle.finder.specs.First.{Answer}
use Rattle.finder.specs.Search.{found}

-- A frame that a framing writes, for any mark and any message that can be framed, is found whole at place 0, whatever stands behind it.
abbrev pub FoundWhole : {Mark : Type 0} → Rule Mark → Type 0
FoundWhole {Mark} R =
    (mark : Mark) (s : Msg) (more : List ℕ) → Framable s → OfBytes s → ◌≡◌ {A = Answer} (found (R.writes mark s ++ more)) (Frame, 0, R.writes mark s)

abbrev pub WrittenFound : Type 0
WrittenFound = FoundWhole ascii × FoundWhole binary
