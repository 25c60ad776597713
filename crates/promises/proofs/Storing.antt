-- The items of a write are such as a store keeps, and a store that keeps them holds the values after the call.
use Rattle.std.proofs.Common.{◌≡◌, ℕ, zero, suc, ◌+◌, ◌<◌, ◌≤◌, Bool, true, false, cond, not, ◌&&◌, eqb, ltb, leb, List, [], ◌∷◌, length, get_or, take, set, Some, None, Ok, Err, Option, Result, unwrap_or, sym, refl, ap, ◌∙◌, subst, ⊎_elim, arith, length-set, length-take, get_or-set_other, get_or-set_same}
use Rattle.std.proofs.lemmas.Bool.{cases_Bool, cond-true, cond-false, cond_both, eqb-true, eqb-false, ltb-false, lt-ltb, le-leb}
use Rattle.table.specs.declared.Kind.{Kind}
use Rattle.table.specs.declared.Kind.TheVariants.{Char, Integer, Long, Float, Text, OpenText}
use Rattle.table.specs.Rows.{PlainRow, admitted}
use Rattle.table.specs.Draws.{row_at}
use Rattle.table.specs.Tables.{place, has_process, Ruled}
use Rattle.store.specs.Held.{accepts, held_after}
use Rattle.chain.specs.declared.access.Access.{Access}
use Rattle.chain.specs.declared.access.Access.TheVariants as access
use Rattle.chain.specs.declared.fault.RackFault.{RackFault}
use Rattle.chain.specs.declared.fault.RackFault.TheVariants.{NoProcess, NoParameter}
use Rattle.chain.specs.declared.item.Query.{Query}
use Rattle.chain.specs.declared.reader.Ahead.{Ahead}
use Rattle.chain.specs.declared.reader.Ahead.TheVariants.{Group, InGroup, End}
use Rattle.chain.specs.Items.{PlainItem}
use Rattle.chain.specs.Items as item
use Rattle.chain.specs.Values.{type_bits, before_zero, number_at, text_at, open_at, value_at, length_at}
use Rattle.chain.specs.Walks.{Found, Walked, Verdict, barred, spoiled, taken, Look, unfound, on_row, refused_by, next, onward, walk}
use Rattle.chain.specs.Chains.{process_of, parameter_of, type_of, on_found, value_taken, write_of, query, length_taken, read_of, read_on, read_at, opens_by, look_by, chain_by}
use Rattle.chain.specs.Kept.{last_value, laid_over}
use Rattle.promises.specs.Requests.{Setup, Request, short_buffer, unreadable, error_message, other_node, unknown_command, write, read, request_of}
use Rattle.promises.specs.Replies.{write_refusal, unless_refused, kept_items}
use Rattle.promises.specs.Stored.{values_in, kept_in_store, AnsweredInStore}
use Rattle.promises.proofs.Options.{cond_prop, value-else}
use Rattle.promises.proofs.Chained.{Ranged, Covered, InTable, OfChain, chain_in, request_chain}
use Rattle.promises.proofs.Sending.{Short, rows_short}

-- the value of a write has at most 24 bytes
abbrev ShortItem : PlainItem → Type 0
ShortItem (item.write row place v) = length v ≤ 24
ShortItem (item.read q) = Unit {0}

abbrev pub ShortItems : List PlainItem → Type 0
ShortItems [] = Unit {0}
ShortItems (i ∷ is) = ShortItem i × ShortItems is

abbrev ShortValue : Result (List ℕ × ℕ) RackFault → Type 0
ShortValue (Ok p) = length p.0 ≤ 24
ShortValue (Err f) = Unit {0}

abbrev ShortVerdict : Verdict → Type 0
ShortVerdict (barred f) = Unit {0}
ShortVerdict (spoiled f) = Unit {0}
ShortVerdict (taken i k) = ShortItem i

abbrev ShortLook : Look → Type 0
ShortLook (unfound f) = Unit {0}
ShortLook (on_row r v) = ShortVerdict v

take_short : (n : ℕ) (bs : List ℕ) → n ≤ 24 → length (take n bs) ≤ 24
take_short n bs l = simp length-take (omega arith)

number_short : (kind : Kind) (width i : ℕ) (bs : List ℕ) → width ≤ 24 → ShortValue (number_at kind width i bs)
number_short kind width i bs l =
    cond_prop ShortValue (ltb (length bs) width) _ _ tt (cond_prop ShortValue (admitted kind (take width bs)) _ _ (take_short width bs l) tt)

text_short : (size i : ℕ) (bs : List ℕ) → size ≤ 24 → ShortValue (text_at size i bs)
text_short size i [] l = tt
text_short size i (b ∷ bs) l =
    cond_prop ShortValue (eqb b size) _ _ (cond_prop ShortValue (ltb (length bs) size) _ _ tt (take_short size bs l)) tt

open_short : (i : ℕ) (bs : List ℕ) → ShortValue (open_at i bs)
open_short i [] = tt
open_short i (b ∷ bs) =
    cond_prop ShortValue (eqb b 0) _ _
    (cond_both (ltb 24 (length (before_zero bs))) _ _ ShortValue (λ e. tt)
    (λ e. cond_prop ShortValue (ltb (length (before_zero bs)) (length bs)) _ _ (ltb-false 24 (length (before_zero bs)) e) tt))
    tt

value_short : (kind : Kind) (i : ℕ) (bs : List ℕ) → Short kind → ShortValue (value_at kind i bs)
value_short (Char r) i bs d = number_short (Char r) 1 i bs (omega arith)
value_short (Integer r) i bs d = number_short (Integer r) 2 i bs (omega arith)
value_short (Long r) i bs d = number_short (Long r) 4 i bs (omega arith)
value_short (Float r) i bs d = number_short (Float r) 4 i bs (omega arith)
value_short (Text n) i bs d = text_short n i bs d
value_short OpenText i bs d = open_short i bs

found_short : (f : RackFault) (v : ℕ → Verdict) (o : Option ℕ) → ((r : ℕ) → ShortVerdict (v r)) → ShortLook (on_found o f v)
found_short f v None y = tt
found_short f v (Some r) y = y r

taken_short : (r i : ℕ) (o : Result (List ℕ × ℕ) RackFault) → ShortValue o → ShortVerdict (value_taken r i o)
taken_short r i (Ok p) x = x
taken_short r i (Err f) x = tt

write_of_short : (unlocked : Bool) (row : PlainRow) (r i q : ℕ) (bs : List ℕ) → Short row.kind → ShortVerdict (write_of unlocked row r i q bs)
write_of_short unlocked row r i q bs d =
    cond_prop ShortVerdict (eqb (type_of q) (type_bits row.kind)) _ _
    (cond_prop ShortVerdict row.writable _ _
    (cond_prop ShortVerdict (not unlocked && row.secured) _ _ tt (taken_short r i (value_at row.kind (i + 1) bs) (value_short row.kind (i + 1) bs d))) tt) tt

asked_short : (q : Query) (o : Result ℕ RackFault) → ShortVerdict (length_taken q o)
asked_short q (Ok k) = tt
asked_short q (Err f) = tt

read_of_short : (row : PlainRow) (r i g : ℕ) (first : Bool) (x q : ℕ) (bs : List ℕ) → ShortVerdict (read_of row r i g first x q bs)
read_of_short row r i g first x q bs =
    cond_prop ShortVerdict (eqb (type_of q) (type_bits row.kind) && eqb (type_of x) (type_of q)) _ _
    (cond_prop ShortVerdict row.readable _ _ (asked_short (query r i g first x) (length_at row.kind (i + 3) bs)) tt) tt

read_on_short : (rows : List PlainRow) (i g : ℕ) (first : Bool) (x p : ℕ) (bs : List ℕ) → ShortLook (read_on rows i g first x p bs)
read_on_short rows i g first x p [] = tt
read_on_short rows i g first x p (q ∷ bs) =
    cond_prop ShortLook (leb 128 q) _ _ tt
    (found_short (NoParameter (i + 2)) (λ r. read_of (row_at rows r) r i g first x q bs) (place p (parameter_of q) rows) (λ r. read_of_short (row_at rows r) r i g first x q bs))

read_short : (rows : List PlainRow) (i g : ℕ) (first : Bool) (x : ℕ) (bs : List ℕ) → ShortLook (read_at rows i g first x bs)
read_short rows i g first x [] = tt
read_short rows i g first x (p ∷ bs) =
    cond_prop ShortLook (leb 128 p) _ _ tt (cond_prop ShortLook (has_process p rows) _ _ (read_on_short rows i g first x p bs) tt)

look_short : (a : Access) (rows : List PlainRow) → ((r : ℕ) → Short (row_at rows r).kind) → (i g : ℕ) (first : Bool) (b : ℕ) (bs : List ℕ) → ShortLook (look_by a rows i g first b bs)
look_short (access.Write unlocked) rows d i g first b bs =
    found_short (NoParameter i) (λ r. write_of unlocked (row_at rows r) r i b bs) (place (process_of g) (parameter_of b) rows)
    (λ r. write_of_short unlocked (row_at rows r) r i b bs (d r))
look_short access.Read rows d i g first b bs = read_short rows i g first b bs

abbrev ShortChain : Walked → Type 0
ShortChain w = ShortItems w.items

onward_short : (i : ℕ) (l : Look) (rest : ℕ → Walked) → ShortLook l → ((k : ℕ) → ShortChain (rest k)) → ShortChain (onward i l rest)
onward_short i (unfound f) rest y e = tt
onward_short i (on_row r (barred f)) rest y e = tt
onward_short i (on_row r (spoiled f)) rest y e = tt
onward_short i (on_row r (taken x k)) rest y e = (y, e k)

walk_short : (opens : ℕ → Bool) (look : ℕ → ℕ → Bool → ℕ → List ℕ → Look) → ((i g : ℕ) (first : Bool) (b : ℕ) (bs : List ℕ) → ShortLook (look i g first b bs)) →
    (i : ℕ) (a : Ahead) (k : ℕ) (bs : List ℕ) → ShortChain (walk opens look i a k bs)
walk_short opens look e i a (suc k) [] = tt
walk_short opens look e i a (suc k) (b ∷ bs) = walk_short opens look e (i + 1) a k bs
walk_short opens look e i Group zero [] = tt
walk_short opens look e i Group zero (g ∷ bs) =
    cond_prop ShortChain (opens g) (walk opens look (i + 1) (InGroup g true) zero bs) (refused_by (NoProcess i)) (walk_short opens look e (i + 1) (InGroup g true) zero bs) tt
walk_short opens look e i (InGroup g first) zero [] = tt
walk_short opens look e i (InGroup g first) zero (b ∷ bs) =
    onward_short i (look i g first b bs) (λ k. walk opens look (i + 1) (next g b) k bs) (e i g first b bs) (λ k. walk_short opens look e (i + 1) (next g b) k bs)
walk_short opens look e i End zero [] = tt
walk_short opens look e i End zero (b ∷ bs) = tt

pub chain_short : (s : Setup) → Ruled s.rows s.limits → (a : Access) (bs : List ℕ) → ShortItems (chain_by a s.rows bs).items
chain_short s ruled a bs =
    walk_short (opens_by a s.rows) (look_by a s.rows) (look_short a s.rows (rows_short s.rows ruled.lawful)) 1 Group 0 bs

-- so a store of 128 values accepts it
pub accepted_by_store : (row : ℕ) (v : List ℕ) → row < 128 → length v ≤ 24 → accepts row v ≡ true
accepted_by_store row v l d = cond-true (ltb row 128) (leb (length v) 24) false (lt-ltb row 128 l) ∙ le-leb (length v) 24 d

kept_is_set : (held : List (List ℕ)) (row : ℕ) (v : List ℕ) → row < 128 → length v ≤ 24 → held_after held row v ≡ set held row v
kept_is_set held row v l d = cond-true (accepts row v) (set held row v) held (accepted_by_store row v l d)

set_values : (held : List (List ℕ)) (i : ℕ) (v : List ℕ) (r : ℕ) → i < length held → values_in (set held i v) r ≡ unwrap_or (cond (eqb r i) (Some v) None) (values_in held r)
set_values held i v r l =
    ⊎_elim
    (λ (k : eqb r i ≡ true).
    ap (λ (x : ℕ). get_or (set held i v) x []) (eqb-true r i k) ∙ get_or-set_same held i v [] l ∙
    sym (ap (λ (o : Option (List ℕ)). unwrap_or o (values_in held r)) (cond-true (eqb r i) (Some v) None k)))
    (λ (k : eqb r i ≡ false).
    get_or-set_other held i r v [] (eqb-false r i k) ∙
    sym (ap (λ (o : Option (List ℕ)). unwrap_or o (values_in held r)) (cond-false (eqb r i) (Some v) None k)))
    (cases_Bool (eqb r i))

abbrev HeldAs : List PlainItem → List (List ℕ) → Type 0
HeldAs is held = (r : ℕ) → values_in (kept_in_store is held) r ≡ laid_over is (values_in held) r

items_held : (rows : List PlainRow) → length rows ≤ 128 → (is : List PlainItem) (fs : List Found) (held : List (List ℕ)) → Covered is fs → Ranged rows fs → ShortItems is → length held ≡ 128 → HeldAs is held
items_held rows few [] fs held c b d l r = refl
items_held rows few (i ∷ is) [] held c b d l r = absurd c
items_held rows few (item.write row place v ∷ is) (f ∷ fs) held c b d l r =
    let x : row < length rows = subst (λ (k : ℕ). k < length rows) (sym c.0) b.0 in
    let e = kept_is_set held row v (omega arith) d.0 in
    let n = length-set held row v in
    let m : length (held_after held row v) ≡ 128 = ap length e ∙ n ∙ l in
    items_held rows few is fs (held_after held row v) c.1 b.1 d.1 m r ∙
    ap (λ (y : List ℕ). unwrap_or (last_value is r) y) (ap (λ (vs : List (List ℕ)). values_in vs r) e ∙ set_values held row v r (omega arith)) ∙
    value-else (last_value is r) (cond (eqb r row) (Some v) None) (values_in held r)
items_held rows few (item.read q ∷ is) (f ∷ fs) held c b d l r =
    items_held rows few is fs held c.1 b.1 d.1 l r ∙ value-else (last_value is r) None (values_in held r)

write_held : (s : Setup) → Ruled s.rows s.limits → (w : Walked) (o : Option RackFault) (held : List (List ℕ)) → InTable s.rows w × ShortChain w → length held ≡ 128 → HeldAs (unless_refused o w.items) held
write_held s ruled w None held p l = items_held s.rows ruled.few w.items w.found held p.0.1 p.0.0 p.1 l
write_held s ruled w (Some f) held p l = λ r. refl

kept_held : (s : Setup) → Ruled s.rows s.limits → (a : Request) (held : List (List ℕ)) → OfChain (λ w. InTable s.rows w × ShortChain w) a → length held ≡ 128 →
    HeldAs (kept_items s (values_in held) a) held
kept_held s ruled short_buffer held p l = λ r. refl
kept_held s ruled (unreadable flaw b) held p l = λ r. refl
kept_held s ruled error_message held p l = λ r. refl
kept_held s ruled other_node held p l = λ r. refl
kept_held s ruled (unknown_command node fault) held p l = λ r. refl
kept_held s ruled (write node b size w) held p l = write_held s ruled w (write_refusal s (values_in held) w) held p l
kept_held s ruled (read node w) held p l = λ r. refl

pub answered_in_store : AnsweredInStore
answered_in_store s ruled c held held' o l e f =
    let p = request_chain s (λ w. InTable s.rows w × ShortChain w) (λ a bs. (chain_in a s.rows bs, chain_short s ruled a bs)) c in
    record { gives = e; leaves = λ r. ap (λ (x : List (List ℕ)). values_in x r) f ∙ kept_held s ruled (request_of s c) held p l r }
