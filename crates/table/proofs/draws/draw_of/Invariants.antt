use Rattle.std.proofs.Common.{◌≡◌, ◌+◌, ◌*◌, ◌^◌, ◌≤◌, map, get_or, drop}
use Rattle.table.specs.Rows.{plain}
use Rattle.table.specs.Draws.{draw}
use Rattle.table.proofs.draws.draw_of.Given as goal

abbrev pub invariant-loop-i : goal.invariant-loop-i
invariant-loop-i l = (l.sum + draw l.feed (map plain (drop l.i l.rows)) (λ k. get_or l.values (l.i + k) 0) ≡ draw l.feed (map plain l.rows) (λ k. get_or l.values k 0)) × (l.sum ≤ l.i * 2 ^ 48)
