-- The code and the place of each fault of the line.
use Rattle.std.specs.Prelude.{ℕ}
use Rattle.line.specs.declared.fault.LineFault.{LineFault}
use Rattle.line.specs.declared.fault.LineFault.TheVariants.{Unreadable, OtherNode}
use Rattle.line.specs.Refusals.{flaw_number}

abbrev pub line_code : LineFault → ℕ
line_code (Unreadable flaw) = flaw_number flaw
line_code OtherNode = 0x05

abbrev pub line_place : LineFault → ℕ
line_place (Unreadable flaw) = 0
line_place OtherNode = 0
