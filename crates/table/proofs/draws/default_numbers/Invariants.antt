use Rattle.std.proofs.Common.{◌≡◌, ℕ, ◌<◌, map, length, get_or}
use Rattle.table.specs.Rows.{plain}
use Rattle.table.specs.Draws.{default_numbers}
use Rattle.table.proofs.draws.default_numbers.Given as goal

abbrev pub invariant-loop-i : goal.invariant-loop-i
invariant-loop-i l = (length l.numbers ≡ 128) × ((k : ℕ) → k < l.i → get_or l.numbers k 0 ≡ default_numbers (map plain l.rows) k)
