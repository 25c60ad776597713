-- The number of each refusal of the line.
use Rattle.std.specs.Prelude.{ℕ}
use Rattle.line.specs.declared.refusal.Flaw.{Flaw}
use Rattle.line.specs.declared.refusal.Flaw.TheVariants as flaw
use Rattle.line.specs.declared.refusal.ReadRefusal.{ReadRefusal}
use Rattle.line.specs.declared.refusal.ReadRefusal.TheVariants as read
use Rattle.line.specs.declared.refusal.WriteRefusal.{WriteRefusal}
use Rattle.line.specs.declared.refusal.WriteRefusal.TheVariants as write

abbrev pub flaw_number : Flaw → ℕ
flaw_number flaw.NotAFrame = 8

abbrev pub read_number : ReadRefusal → ℕ
read_number read.ShortBuffer = 1
read_number (read.Unreadable f) = flaw_number f

abbrev pub write_number : WriteRefusal → ℕ
write_number write.ShortBuffer = 1
write_number write.DataLength = 9
