use Rattle.std.proofs.Common.{◌≡◌}
use Rattle.table.specs.Held.{rows_of}
use Rattle.defaults.proofs.Laying.{laid}
use Rattle.defaults.proofs.keep_defaults.Given as goal

-- the rows so far have their defaults, and the others what they had
abbrev pub invariant-loop-number : goal.invariant-loop-number
invariant-loop-number g l = g.S.Store.held l.store ≡ laid (rows_of l.table) l.number (g.S.Store.held l.initial.store)
