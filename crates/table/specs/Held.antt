-- What a table holds.
use Rattle.std.specs.Prelude.{ℕ, List, map}
use Rattle.table.specs.declared.Table.{Table}
use Rattle.table.specs.Rows.{PlainRow, plain}

-- the rows that stand
abbrev pub rows_of : Table → List PlainRow
rows_of t = map plain t.rows.items

-- the limits of the feeds 1 to 8, in ml/min
abbrev pub limits_of : Table → List ℕ
limits_of t = t.limits
