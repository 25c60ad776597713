-- The first item on a feed.
use Rattle.std.proofs.Common.{◌≡◌, ℕ, Bool, true, false, cond, eqb, List, [], ◌∷◌, Option, Some, refl}
use Rattle.std.specs.List.{find}
use Rattle.std.specs.Option.{option_map}
use Rattle.table.specs.Rows.{PlainRow}
use Rattle.table.specs.Draws.{row_at}
use Rattle.chain.specs.Items.{PlainItem, place_of, row_of}
use Rattle.promises.specs.Replies.{first_on}

-- the row of the item is on the feed f
abbrev pub on_feed : List PlainRow → ℕ → PlainItem → Bool
on_feed rows f i = eqb (row_at rows (row_of i)).feed f

this_or : (b : Bool) (i : PlainItem) (o : Option PlainItem) (p : Option ℕ) → option_map place_of o ≡ p → option_map place_of (cond b (Some i) o) ≡ cond b (Some (place_of i)) p
this_or true i o p e = refl
this_or false i o p e = e

pub first_found : (rows : List PlainRow) (f : ℕ) (items : List PlainItem) → option_map place_of (find (on_feed rows f) items) ≡ first_on rows f items
first_found rows f [] = refl
first_found rows f (i ∷ items) = this_or (on_feed rows f i) i (find (on_feed rows f) items) (first_on rows f items) (first_found rows f items)
