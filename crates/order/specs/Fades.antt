-- Two fades whose calls mix: haze on register 1, fog on register 2.
use Rattle.std.specs.Prelude.{ℕ, List, [], ◌∷◌}
use Rattle.order.specs.declared.registers.Ask.{Ask}
use Rattle.order.specs.declared.registers.Ask.TheVariants.{Read, Write}
use Rattle.order.specs.declared.registers.Call.{Call}

-- a call under the tag of a desk
abbrev pub by : ℕ → Ask → Call
by desk asked = record { tag = desk; ask = asked }

-- the haze comes up in three steps
abbrev pub haze : List Call
haze = by 1 (Write 1 10) ∷ by 1 (Write 1 20) ∷ by 1 (Write 1 30) ∷ []

-- the fog goes down in two, and is read back
abbrev pub fog : List Call
fog = by 1 (Write 2 200) ∷ by 1 (Write 2 100) ∷ by 1 (Read 2) ∷ []

-- both fades at once, the fog from desk 2
abbrev pub mixed : List Call
mixed =
    by 2 (Write 2 200) ∷ by 1 (Write 1 10) ∷ by 1 (Write 1 20) ∷ by 2 (Write 2 100) ∷ by 2 (Read 2) ∷ by 1 (Write 1 30) ∷ []

-- the same, but the fog is read back before its last step
abbrev pub crossed : List Call
crossed =
    by 2 (Write 2 200) ∷ by 1 (Write 1 10) ∷ by 1 (Write 1 20) ∷ by 2 (Read 2) ∷ by 2 (Write 2 100) ∷ by 1 (Write 1 30) ∷ []
