-- The items of a chain.
use Rattle.std.specs.Prelude.{ℕ, List, [], ◌∷◌, ◌++◌, Some, None, Option}
use Rattle.chain.specs.declared.item.Item.{Item}
use Rattle.chain.specs.declared.item.Item.TheVariants as item
use Rattle.chain.specs.declared.item.Query.{Query}

-- an item by what it says, apart from where its bytes lie: a write, with its row, the place of its parameter byte and its value;
-- or a read
pub data PlainItem : Type 0 where
  write : (row place : ℕ) (value : List ℕ) → PlainItem
  read : Query → PlainItem

-- what an item of the code says
abbrev pub plain_item : Item → PlainItem
plain_item (item.Write row place value) = write row place value.now
plain_item (item.Read query) = read query

abbrev pub row_of : PlainItem → ℕ
row_of (write row place value) = row
row_of (read query) = query.row

abbrev pub place_of : PlainItem → ℕ
place_of (write row place value) = place
place_of (read query) = query.place

-- what a query's answer repeats: the group's byte at the first item of a group, and the index byte
abbrev pub group_byte : Option ℕ → List ℕ
group_byte None = []
group_byte (Some g) = g ∷ []

abbrev pub repeated : Query → List ℕ
repeated query = group_byte query.group ++ query.index ∷ []
