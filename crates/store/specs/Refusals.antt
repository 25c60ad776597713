-- The number of each refusal.
use Rattle.std.specs.Prelude.{ℕ}
use Rattle.store.specs.declared.refusals.KeepRefusal.{KeepRefusal}
use Rattle.store.specs.declared.refusals.KeepRefusal.TheVariants as keep
use Rattle.store.specs.declared.refusals.AskRefusal.{AskRefusal}
use Rattle.store.specs.declared.refusals.AskRefusal.TheVariants as ask

abbrev pub keep_number : KeepRefusal → ℕ
keep_number keep.OutOfBounds = 7

abbrev pub ask_number : AskRefusal → ℕ
ask_number ask.ShortBuffer = 1
ask_number ask.OutOfBounds = 7
