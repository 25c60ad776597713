-- The items of a chain, as an iterator gives them.
use Rattle.std.proofs.Common.{◌≡◌, ℕ, ◌<◌, ◌≤◌, true, List, [], ◌∷◌, length, Some, None, Ok, Err, Option, Result, MatchOption, sym, ap, ◌∙◌, arith}
use Rattle.std.proofs.ByRecursion.{All-weaker}
use Rattle.std.specs.List.{AllByRecursion}
use Rattle.std.specs.Option.{option_flatten}
use Rattle.std.specs.Result.{result_ok}
use Rattle.std.specs.Iterator.{MakesProgress, YieldsFirstBy, item_count}
use Rattle.table.specs.Held.{rows_of}
use Rattle.table.specs.Rows.{PlainRow}
use Rattle.table.proofs.Facts.{table_ruled}
use Rattle.chain.specs.declared.access.Access.TheVariants.{Write}
use Rattle.chain.specs.declared.fault.RackFault.{RackFault}
use Rattle.chain.specs.declared.item.Item.{Item}
use Rattle.chain.specs.Items.{PlainItem, plain_item, row_of}
use Rattle.chain.specs.Walks.{Walked}
use Rattle.chain.specs.Reader.{chain_of, given, behind, left, told}
use Rattle.chain.proofs.Turns.{item_given, end-given, refusal_given}
use Rattle.chain_laws.proofs.Rows.{rows_found_stand}
use Rattle.writing.specs.declared.items.Items.{Items}
use Rattle.writing.specs.declared.items.WriteChain.{WriteChain}
use Rattle.writing.specs.Items.{items_left, items_of}

none_left : (w rest : Walked) → rest ≡ left w → w.items ≡ [] → (w.items ≡ []) × (rest.items ≡ [])
none_left w rest l n = (n, ap (λ (v : Walked). v.items) l ∙ ap (λ (xs : List PlainItem). (behind xs w).items) n ∙ n)

-- what a chain gives, where a refusal counts as the end
pub first_given : (w rest : Walked) (r : Result (Option Item) RackFault) → told r ≡ given w → rest ≡ left w →
    MatchOption (option_flatten (result_ok r)) ((w.items ≡ []) × (rest.items ≡ [])) (λ x. w.items ≡ plain_item x ∷ rest.items)
first_given w rest (Ok (Some x)) e l = item_given w (plain_item x) e ∙ ap (λ (v : Walked). plain_item x ∷ v.items) (sym l)
first_given w rest (Ok None) e l = none_left w rest l (end-given w e).0
first_given w rest (Err f) e l = none_left w rest l (refusal_given w f e).0

-- an item that is given is one fewer to come
pub fewer_left : (s t : Items) (i : Option Item) → YieldsFirstBy plain_item items_left s i t → MakesProgress (λ _. Unit {0}) (item_count items_left) s i t
fewer_left s t None y = record { on = λ _. tt; keeps = tt; rests = λ _. tt }
fewer_left s t (Some x) y = record { on = λ _. (tt, tt, omega (arith, ap length y)); keeps = tt; rests = λ _. tt }

rows_in : (rows : List PlainRow) (message : List ℕ) → length rows ≤ 128 → AllByRecursion (λ x. row_of x < 128) (chain_of (Write true) rows message).items
rows_in rows [] few = tt
rows_in rows (c ∷ bs) few =
    All-weaker (λ x. row_of x < length rows) (λ x. row_of x < 128) (λ x l. omega arith) (chain_of (Write true) rows (c ∷ bs)).items (rows_found_stand (Write true) rows bs).items_stand

-- the rows of the items are among the 128
pub rows_fit : (w : WriteChain) → AllByRecursion (λ x. row_of x < 128) (items_of w)
rows_fit w = rows_in (rows_of w.table.now) w.message.now (table_ruled w.table.now).few
