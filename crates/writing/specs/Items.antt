-- The chain of a write, and its items.
use Rattle.std.specs.Prelude.{List, true}
use Rattle.table.specs.Held.{rows_of}
use Rattle.chain.specs.declared.access.Access.TheVariants.{Write}
use Rattle.chain.specs.Items.{PlainItem}
use Rattle.chain.specs.Walks.{Walked}
use Rattle.chain.specs.Reader.{chain_of, remaining}
use Rattle.writing.specs.declared.items.WriteChain.{WriteChain}
use Rattle.writing.specs.declared.items.Items.{Items}

-- what going through the chain gives, by the message and the table alone: locked rows are looked at before
abbrev pub reading_of : WriteChain → Walked
reading_of w = chain_of (Write true) (rows_of w.table.now) w.message.now

abbrev pub items_of : WriteChain → List PlainItem
items_of w = (reading_of w).items

-- the items that are still to come
abbrev pub items_left : Items → List PlainItem
items_left i = (remaining i.chain).items
