-- What the cells mean.
use Rattle.std.specs.Prelude.{ℕ, List, map}
use Rattle.value.specs.Values.{bytes_of}
use Rattle.store.specs.declared.cells.Cells.{Cells}

-- each row's value is that of its cell
abbrev pub cells_held : Cells → List (List ℕ)
cells_held c = map bytes_of c.cells
