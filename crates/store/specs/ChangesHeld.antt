-- What the list of changes in memory means.
use Rattle.std.specs.Prelude.{ℕ, List, map}
use Rattle.value.specs.Values.{bytes_of}
use Rattle.store.specs.declared.changes.change.Change.{Change}
use Rattle.store.specs.declared.changes.Changes.{Changes}
use Rattle.store.specs.ChangeList.{Entry, replay}
use Rattle.store.specs.Held.{empty_rows}

abbrev pub entry_of : Change → Entry
entry_of x = record { row = x.row; value = bytes_of x.value }

abbrev pub entries_of : List Change → List Entry
entries_of xs = map entry_of xs

-- the list
abbrev pub list_of : Changes → List Entry
list_of c = entries_of c.entries.items

-- the values that it means
abbrev pub changes_held : Changes → List (List ℕ)
changes_held c = replay (list_of c) empty_rows
