-- The table of a rack, as the checks of a write take it.
use Rattle.table.specs.declared.Table.{Table}
use Rattle.table.specs.Held.{rows_of, limits_of}
use Rattle.promises.specs.Requests.{Setup}

-- no check of a write looks at the node
abbrev pub setup_of : Table → Setup
setup_of t = record { rows = rows_of t; limits = limits_of t; node = 0 }
