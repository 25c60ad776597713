-- Whatever answers a call can be sent: bytes, and 1 to 64 of them.
use Rattle.std.proofs.Common.{◌≡◌, ℕ, zero, suc, ◌+◌, ◌<◌, ◌≤◌, Bool, true, false, cond, not, ◌&&◌, ◌||◌, eqb, ltb, leb, List, [], ◌∷◌, ◌++◌, length, take, Some, None, Ok, Err, Option, Result, unwrap_or, sym, refl, subst, ⊎_elim, arith, length-append}
use Rattle.std.proofs.lemmas.Bool.{cases_Bool, cond-true, cond-false, ltb-false, le-ltb, ne_eqb, or_from, leb-true, and_parts}
use Rattle.std.specs.Bool.{then_some}
use Rattle.line.specs.Calls.{wrong_length}
use Rattle.line.specs.Messages.{Msg, data_msg, error_msg, Framable, Bytes, OfBytes}
use Rattle.table.specs.declared.Kind.{Kind}
use Rattle.table.specs.declared.Kind.TheVariants.{Char, Integer, Long, Float, Text, OpenText}
use Rattle.table.specs.Rows.{PlainRow, admitted, kind_ruled, feed_ruled, keeps_rules}
use Rattle.table.specs.Draws.{row_at}
use Rattle.table.specs.Tables.{all_keep_rules, place, has_process, Ruled}
use Rattle.table.proofs.Facts.{row_ruled}
use Rattle.order.specs.Last.{else}
use Rattle.chain.specs.declared.access.Access.{Access}
use Rattle.chain.specs.declared.access.Access.TheVariants as access
use Rattle.chain.specs.declared.access.Command.{Command}
use Rattle.chain.specs.declared.access.Command.TheVariants as command
use Rattle.chain.specs.declared.fault.ChainFault.{ChainFault}
use Rattle.chain.specs.declared.fault.ChainFault.TheVariants.{UnknownCommand}
use Rattle.chain.specs.declared.fault.RackFault.{RackFault}
use Rattle.chain.specs.declared.fault.RackFault.TheVariants.{Chain, NoProcess, NoParameter, Secured, OverLimit}
use Rattle.chain.specs.declared.item.Query.{Query}
use Rattle.chain.specs.declared.reader.Ahead.{Ahead}
use Rattle.chain.specs.declared.reader.Ahead.TheVariants.{Group, InGroup, End}
use Rattle.chain.specs.Access.{command_of}
use Rattle.chain.specs.Faults.{too_long, rack_code, rack_place}
use Rattle.chain.specs.Items.{PlainItem, row_of, place_of, group_byte, repeated}
use Rattle.chain.specs.Items as item
use Rattle.chain.specs.Values.{type_bits, in_chain, before_zero, number_at, text_at, open_at, value_at, length_byte_at, length_at}
use Rattle.chain.specs.Walks.{Found, Walked, Verdict, barred, spoiled, taken, Look, unfound, on_row, refused_by, next, onward, walk}
use Rattle.chain.specs.Chains.{process_of, parameter_of, type_of, on_found, value_taken, write_of, write_at, query, length_taken, read_of, read_on, read_at, opens_by, look_by, chain_by}
use Rattle.chain.specs.Locks.{first_secured, lock_of}
use Rattle.chain.specs.Answers.{Values, Answer, answered, answer_from, read_answer}
use Rattle.chain.specs.Kept.{value_for, last_value, laid_over}
use Rattle.promises.specs.Requests.{Setup, Request, short_buffer, unreadable, error_message, other_node, unknown_command, write, read, command_request, data_request, for_rack, message_request}
use Rattle.promises.specs.Replies.{unlocked, feed_within, first_on, feed_refusal, over_limit, first_refusal, feeds, overdrawn, write_refusal, write_msg, read_msg, reply_to, unless_refused, values_after}
use Rattle.promises.proofs.Options.{cond_prop}
use Rattle.promises.proofs.Chained.{Ranged, Covered, InTable, OfChain}

-- bytes
append_bytes : (a b : List ℕ) → Bytes a → Bytes b → Bytes (a ++ b)
append_bytes [] b x y = y
append_bytes (c ∷ a) b x y = (x.0, append_bytes a b x.1 y)

take_bytes : (n : ℕ) (a : List ℕ) → Bytes a → Bytes (take n a)
take_bytes zero a x = tt
take_bytes (suc n) [] x = tt
take_bytes (suc n) (c ∷ a) x = (x.0, take_bytes n a x.1)

before_bytes : (a : List ℕ) → Bytes a → Bytes (before_zero a)
before_bytes [] x = tt
before_bytes (b ∷ a) x = cond_prop Bytes (eqb b 0) [] (b ∷ before_zero a) tt (x.0, before_bytes a x.1)

-- a fixed text has at most 24 bytes
abbrev pub Short : Kind → Type 0
Short (Char r) = Unit {0}
Short (Integer r) = Unit {0}
Short (Long r) = Unit {0}
Short (Float r) = Unit {0}
Short (Text n) = n ≤ 24
Short OpenText = Unit {0}

kind_short : (k : Kind) (text : List ℕ) → kind_ruled k text ≡ true → Short k
kind_short (Char r) text e = tt
kind_short (Integer r) text e = tt
kind_short (Long r) text e = tt
kind_short (Float r) text e = tt
kind_short (Text n) text e =
    let a = and_parts (leb 1 n) (leb n 24 && eqb (length text) n) e in
    leb-true n 24 (and_parts (leb n 24) (eqb (length text) n) a.1).0
kind_short OpenText text e = tt

row_short : (r : PlainRow) → keeps_rules r ≡ true → Short r.kind
row_short r e =
    let a = and_parts (leb r.process 127) (leb r.parameter 31 && ((r.readable || r.writable) && (kind_ruled r.kind r.text && feed_ruled r.kind r.feed r.flow))) e in
    let b = and_parts (leb r.parameter 31) ((r.readable || r.writable) && (kind_ruled r.kind r.text && feed_ruled r.kind r.feed r.flow)) a.1 in
    let c = and_parts (r.readable || r.writable) (kind_ruled r.kind r.text && feed_ruled r.kind r.feed r.flow) b.1 in
    kind_short r.kind r.text (and_parts (kind_ruled r.kind r.text) (feed_ruled r.kind r.feed r.flow) c.1).0

pub rows_short : (rows : List PlainRow) → all_keep_rules rows ≡ true → (r : ℕ) → Short (row_at rows r).kind
rows_short rows e r = row_short (row_at rows r) (row_ruled rows e r)

in_chain_bytes : (k : Kind) (v : List ℕ) → Short k → Bytes v → Bytes (in_chain k v)
in_chain_bytes (Char r) v d x = x
in_chain_bytes (Integer r) v d x = x
in_chain_bytes (Long r) v d x = x
in_chain_bytes (Float r) v d x = x
in_chain_bytes (Text n) v d x = (omega arith, x)
in_chain_bytes OpenText v d x = (omega arith, append_bytes v (0 ∷ []) x (omega arith, tt))

-- statuses, places within a message of n data bytes, and items made of bytes
abbrev Good : ℕ → RackFault → Type 0
Good n f = (rack_code f < 256) × (rack_place f ≤ n)

abbrev Goods : ℕ → Option RackFault → Type 0
Goods n None = Unit {0}
Goods n (Some f) = Good n f

abbrev Placed : ℕ → List Found → Type 0
Placed n [] = Unit {0}
Placed n (f ∷ fs) = (f.place ≤ n) × Placed n fs

abbrev GoodItem : ℕ → PlainItem → Type 0
GoodItem n (item.write row place v) = (place ≤ n) × Bytes v
GoodItem n (item.read q) = (q.place ≤ n) × Bytes (repeated q)

abbrev GoodItems : ℕ → List PlainItem → Type 0
GoodItems n [] = Unit {0}
GoodItems n (i ∷ is) = GoodItem n i × GoodItems n is

abbrev GoodChain : ℕ → Walked → Type 0
GoodChain n w = Placed n w.found × GoodItems n w.items × Goods n w.refusal

abbrev Judged : ℕ → Verdict → Type 0
Judged n (barred f) = Good n f
Judged n (spoiled f) = Good n f
Judged n (taken i k) = GoodItem n i

abbrev Looked : ℕ → Look → Type 0
Looked n (unfound f) = Good n f
Looked n (on_row r v) = Judged n v

abbrev Led : Ahead → Type 0
Led Group = Unit {0}
Led (InGroup g first) = g < 256
Led End = Unit {0}

abbrev Valued : ℕ → Result (List ℕ × ℕ) RackFault → Type 0
Valued n (Ok p) = Bytes p.0
Valued n (Err f) = Good n f

abbrev Lengthy : ℕ → Result ℕ RackFault → Type 0
Lengthy n (Ok k) = Unit {0}
Lengthy n (Err f) = Good n f

-- values
number_good : (n : ℕ) (kind : Kind) (width i : ℕ) (bs : List ℕ) → Bytes bs → i + length bs ≤ n → Valued n (number_at kind width i bs)
number_good n kind width i bs x l =
    cond_prop (Valued n) (ltb (length bs) width) _ _ (omega arith, l)
    (cond_prop (Valued n) (admitted kind (take width bs)) _ _ (take_bytes width bs x) (omega arith, omega arith))

text_good : (n size i : ℕ) (bs : List ℕ) → Bytes bs → i + length bs ≤ n → Valued n (text_at size i bs)
text_good n size i [] x l = (omega arith, omega arith)
text_good n size i (b ∷ bs) x l =
    cond_prop (Valued n) (eqb b size) _ _
    (cond_prop (Valued n) (ltb (length bs) size) _ _ (omega arith, omega arith) (take_bytes size bs x.1))
    (omega arith, omega arith)

open_good : (n i : ℕ) (bs : List ℕ) → Bytes bs → i + length bs ≤ n → Valued n (open_at i bs)
open_good n i [] x l = (omega arith, omega arith)
open_good n i (b ∷ bs) x l =
    cond_prop (Valued n) (eqb b 0) _ _
    (cond_prop (Valued n) (ltb 24 (length (before_zero bs))) _ _ (omega arith, omega arith)
    (cond_prop (Valued n) (ltb (length (before_zero bs)) (length bs)) _ _ (before_bytes bs x.1) (omega arith, omega arith)))
    (omega arith, omega arith)

value_good : (n : ℕ) (kind : Kind) (i : ℕ) (bs : List ℕ) → Bytes bs → i + length bs ≤ n → Valued n (value_at kind i bs)
value_good n (Char r) i bs x l = number_good n (Char r) 1 i bs x l
value_good n (Integer r) i bs x l = number_good n (Integer r) 2 i bs x l
value_good n (Long r) i bs x l = number_good n (Long r) 4 i bs x l
value_good n (Float r) i bs x l = number_good n (Float r) 4 i bs x l
value_good n (Text v) i bs x l = text_good n v i bs x l
value_good n OpenText i bs x l = open_good n i bs x l

found_good : (n : ℕ) (f : RackFault) (v : ℕ → Verdict) (o : Option ℕ) → Good n f → ((r : ℕ) → Judged n (v r)) → Looked n (on_found o f v)
found_good n f v None x y = x
found_good n f v (Some r) x y = y r

-- writes
taken_good : (n r i : ℕ) (o : Result (List ℕ × ℕ) RackFault) → i ≤ n → Valued n o → Judged n (value_taken r i o)
taken_good n r i (Ok p) l x = (l, x)
taken_good n r i (Err f) l x = x

write_of_good : (n : ℕ) (unlocked : Bool) (row : PlainRow) (r i q : ℕ) (bs : List ℕ) → Bytes bs → suc i + length bs ≤ n → Judged n (write_of unlocked row r i q bs)
write_of_good n unlocked row r i q bs x l =
    cond_prop (Judged n) (eqb (type_of q) (type_bits row.kind)) _ _
    (cond_prop (Judged n) row.writable _ _
    (cond_prop (Judged n) (not unlocked && row.secured) _ _ (omega arith, omega arith)
    (taken_good n r i (value_at row.kind (i + 1) bs) (omega arith) (value_good n row.kind (i + 1) bs x (omega arith))))
    (omega arith, omega arith))
    (omega arith, omega arith)

write_good : (n : ℕ) (unlocked : Bool) (rows : List PlainRow) (i g : ℕ) (first : Bool) (q : ℕ) (bs : List ℕ) → Bytes bs → suc i + length bs ≤ n → Looked n (write_at unlocked rows i g first q bs)
write_good n unlocked rows i g first q bs x l =
    found_good n (NoParameter i) (λ r. write_of unlocked (row_at rows r) r i q bs) (place (process_of g) (parameter_of q) rows) (omega arith, omega arith)
    (λ r. write_of_good n unlocked (row_at rows r) r i q bs x l)

-- reads
length_byte_good : (n size i : ℕ) (bs : List ℕ) → i + length bs ≤ n → Lengthy n (length_byte_at size i bs)
length_byte_good n size i [] l = (omega arith, omega arith)
length_byte_good n size i (b ∷ bs) l = cond_prop (Lengthy n) (eqb b size) _ _ tt (omega arith, omega arith)

length_good : (n : ℕ) (kind : Kind) (i : ℕ) (bs : List ℕ) → i + length bs ≤ n → Lengthy n (length_at kind i bs)
length_good n (Char r) i bs l = tt
length_good n (Integer r) i bs l = tt
length_good n (Long r) i bs l = tt
length_good n (Float r) i bs l = tt
length_good n (Text v) i bs l = length_byte_good n v i bs l
length_good n OpenText i bs l = length_byte_good n 0 i bs l

asked_good : (n : ℕ) (q : Query) (o : Result ℕ RackFault) → GoodItem n (item.read q) → Lengthy n o → Judged n (length_taken q o)
asked_good n q (Ok k) x y = x
asked_good n q (Err f) x y = y

repeated_bytes : (g x : ℕ) (first : Bool) → g < 256 → x < 256 → Bytes (group_byte (cond first (Some g) None) ++ x ∷ [])
repeated_bytes g x true d e = (d, (e, tt))
repeated_bytes g x false d e = (e, tt)

read_of_good : (n : ℕ) (row : PlainRow) (r i g : ℕ) (first : Bool) (x q : ℕ) (bs : List ℕ) → g < 256 → x < 256 → i + 3 + length bs ≤ n → Judged n (read_of row r i g first x q bs)
read_of_good n row r i g first x q bs d e l =
    cond_prop (Judged n) (eqb (type_of q) (type_bits row.kind) && eqb (type_of x) (type_of q)) _ _
    (cond_prop (Judged n) row.readable _ _
    (asked_good n (query r i g first x) (length_at row.kind (i + 3) bs) (omega arith, repeated_bytes g x first d e) (length_good n row.kind (i + 3) bs l))
    (omega arith, omega arith))
    (omega arith, omega arith)

read_on_good : (n : ℕ) (rows : List PlainRow) (i g : ℕ) (first : Bool) (x p : ℕ) (bs : List ℕ) → g < 256 → x < 256 → i + 2 + length bs ≤ n → Looked n (read_on rows i g first x p bs)
read_on_good n rows i g first x p [] d e l = (omega arith, omega arith)
read_on_good n rows i g first x p (q ∷ bs) d e l =
    cond_prop (Looked n) (leb 128 q) _ _ (omega arith, omega arith)
    (found_good n (NoParameter (i + 2)) (λ r. read_of (row_at rows r) r i g first x q bs) (place p (parameter_of q) rows) (omega arith, omega arith)
    (λ r. read_of_good n (row_at rows r) r i g first x q bs d e (omega arith)))

read_good : (n : ℕ) (rows : List PlainRow) (i g : ℕ) (first : Bool) (x : ℕ) (bs : List ℕ) → g < 256 → x < 256 → suc i + length bs ≤ n → Looked n (read_at rows i g first x bs)
read_good n rows i g first x [] d e l = (omega arith, omega arith)
read_good n rows i g first x (p ∷ bs) d e l =
    cond_prop (Looked n) (leb 128 p) _ _ (omega arith, omega arith)
    (cond_prop (Looked n) (has_process p rows) _ _ (read_on_good n rows i g first x p bs d e (omega arith)) (omega arith, omega arith))

look_good : (n : ℕ) (a : Access) (rows : List PlainRow) (i g : ℕ) (first : Bool) (b : ℕ) (bs : List ℕ) → g < 256 → b < 256 → Bytes bs → suc i + length bs ≤ n → Looked n (look_by a rows i g first b bs)
look_good n (access.Write unlocked) rows i g first b bs d e x l = write_good n unlocked rows i g first b bs x l
look_good n access.Read rows i g first b bs d e x l = read_good n rows i g first b bs d e l

-- chains
onward_good : (n i : ℕ) (l : Look) (rest : ℕ → Walked) → i ≤ n → Looked n l → ((k : ℕ) → GoodChain n (rest k)) → GoodChain n (onward i l rest)
onward_good n i (unfound f) rest b y e = (tt, tt, y)
onward_good n i (on_row r (barred f)) rest b y e = ((b, tt), tt, y)
onward_good n i (on_row r (spoiled f)) rest b y e = ((b, tt), tt, y)
onward_good n i (on_row r (taken x k)) rest b y e = ((b, (e k).0), (y, (e k).1), (e k).2)

next_led : (g b : ℕ) → g < 256 → Led (next g b)
next_led g b d = cond_prop Led (leb 128 b) (InGroup g false) (cond (leb 128 g) Group End) d (cond_prop Led (leb 128 g) Group End tt tt)

walk_good : (n : ℕ) (opens : ℕ → Bool) (look : ℕ → ℕ → Bool → ℕ → List ℕ → Look) →
    ((i g : ℕ) (first : Bool) (b : ℕ) (bs : List ℕ) → g < 256 → b < 256 → Bytes bs → suc i + length bs ≤ n → Looked n (look i g first b bs)) →
    (i : ℕ) (a : Ahead) (k : ℕ) (bs : List ℕ) → Led a → Bytes bs → i + length bs ≤ n → GoodChain n (walk opens look i a k bs)
walk_good n opens look e i a (suc k) [] d x l = (tt, tt, (omega arith, omega arith))
walk_good n opens look e i a (suc k) (b ∷ bs) d x l = walk_good n opens look e (i + 1) a k bs d x.1 (omega arith)
walk_good n opens look e i Group zero [] d x l = (tt, tt, (omega arith, omega arith))
walk_good n opens look e i Group zero (g ∷ bs) d x l =
    cond_prop (GoodChain n) (opens g) (walk opens look (i + 1) (InGroup g true) zero bs) (refused_by (NoProcess i))
    (walk_good n opens look e (i + 1) (InGroup g true) zero bs x.0 x.1 (omega arith)) (tt, tt, (omega arith, omega arith))
walk_good n opens look e i (InGroup g first) zero [] d x l = (tt, tt, (omega arith, omega arith))
walk_good n opens look e i (InGroup g first) zero (b ∷ bs) d x l =
    onward_good n i (look i g first b bs) (λ k. walk opens look (i + 1) (next g b) k bs) (omega arith) (e i g first b bs d x.0 x.1 (omega arith))
    (λ k. walk_good n opens look e (i + 1) (next g b) k bs (next_led g b d) x.1 (omega arith))
walk_good n opens look e i End zero [] d x l = (tt, tt, tt)
walk_good n opens look e i End zero (b ∷ bs) d x l = (tt, tt, (omega arith, omega arith))

chain_good : (n : ℕ) (a : Access) (rows : List PlainRow) (bs : List ℕ) → Bytes bs → suc (length bs) ≤ n → GoodChain n (chain_by a rows bs)
chain_good n a rows bs x l = walk_good n (opens_by a rows) (look_by a rows) (look_good n a rows) 1 Group 0 bs tt x (omega arith)

-- what refuses a write
else_good : (n : ℕ) (o p : Option RackFault) → Goods n o → Goods n p → Goods n (else o p)
else_good n None p x y = y
else_good n (Some f) p x y = x

secured_good : (n : ℕ) (rows : List PlainRow) (fs : List Found) → Placed n fs → Goods n (first_secured rows fs)
secured_good n rows [] x = tt
secured_good n rows (f ∷ fs) x =
    cond_prop (Goods n) (f.reached && (row_at rows f.row).secured) (Some (Secured f.place)) (first_secured rows fs) (omega arith, x.0) (secured_good n rows fs x.1)

abbrev Below : ℕ → Option ℕ → Type 0
Below n None = Unit {0}
Below n (Some i) = i ≤ n

item_place : (n : ℕ) (i : PlainItem) → GoodItem n i → place_of i ≤ n
item_place n (item.write row place v) x = x.0
item_place n (item.read q) x = x.0

first_good : (n : ℕ) (rows : List PlainRow) (f : ℕ) (is : List PlainItem) → GoodItems n is → Below n (first_on rows f is)
first_good n rows f [] x = tt
first_good n rows f (i ∷ is) x =
    cond_prop (Below n) (eqb (row_at rows (row_of i)).feed f) (Some (place_of i)) (first_on rows f is) (item_place n i x.0) (first_good n rows f is x.1)

limit_good : (n : ℕ) (b : Bool) (o : Option ℕ) → Below n o → Goods n (feed_refusal b o)
limit_good n b None x = tt
limit_good n b (Some i) x = cond_prop (Goods n) b None (Some (OverLimit i)) tt (omega arith, x)

feeds_good : (n : ℕ) (p : ℕ → Option RackFault) (fs : List ℕ) → ((f : ℕ) → Goods n (p f)) → Goods n (first_refusal p fs)
feeds_good n p [] e = tt
feeds_good n p (f ∷ fs) e = else_good n (p f) (first_refusal p fs) (e f) (feeds_good n p fs e)

refusal_good : (n : ℕ) (s : Setup) (h : Values) (w : Walked) → GoodChain n w → Goods n (write_refusal s h w)
refusal_good n s h w x =
    else_good n (lock_of (unlocked h) s.rows w.found) (else w.refusal (overdrawn s h w.items))
    (cond_prop (Goods n) (unlocked h) None (first_secured s.rows w.found) tt (secured_good n s.rows w.found x.0))
    (else_good n w.refusal (overdrawn s h w.items) x.2
    (feeds_good n (over_limit s h w.items) feeds
    (λ f. limit_good n (feed_within s (laid_over w.items h) f) (first_on s.rows f w.items) (first_good n s.rows f w.items x.1))))

-- what a read answers
abbrev pub Tidy : List PlainRow → Values → Type 0
Tidy rows h = (r : ℕ) → r < length rows → Bytes (h r)

abbrev GoodAnswer : ℕ → Answer → Type 0
GoodAnswer n a = (1 ≤ length a.bytes) × (length a.bytes ≤ 64) × Bytes a.bytes × Goods n a.refusal

answer_good : (n : ℕ) (rows : List PlainRow) (h : Values) → ((r : ℕ) → Short (row_at rows r).kind) → (a : List ℕ) (is : List PlainItem) (fs : List Found) (x : Option RackFault) → Tidy rows h →
    Covered is fs → Ranged rows fs → GoodItems n is → Goods n x → 1 ≤ length a → length a ≤ 64 → Bytes a → GoodAnswer n (answer_from rows h a is x)
answer_good n rows h d a [] fs x y c b f z l l' q = (l, l', q, z)
answer_good n rows h d a (i ∷ is) [] x y c b f z l l' q = absurd c
answer_good n rows h d a (item.write row place v ∷ is) (g ∷ fs) x y c b f z l l' q =
    answer_good n rows h d a is fs x y c.1 b.1 f.1 z l l' q
answer_good n rows h d a (item.read k ∷ is) (g ∷ fs) x y c b f z l l' q =
    let v : Bytes (h k.row) = y k.row (subst (λ (j : ℕ). j < length rows) (sym c.0) b.0) in
    let add : List ℕ = answered k (row_at rows k.row).kind (h k.row) in
    let m : Bytes add =
    append_bytes (repeated k) (in_chain (row_at rows k.row).kind (h k.row)) f.0.1 (in_chain_bytes (row_at rows k.row).kind (h k.row) (d k.row) v) in
    let e = length-append a add in
    let full : Answer = record { bytes = a; refusal = Some (too_long k.place) } in
    ⊎_elim
    (λ (t : ltb 64 (length (a ++ add)) ≡ true).
    subst (GoodAnswer n) (sym (cond-true (ltb 64 (length (a ++ add))) full (answer_from rows h (a ++ add) is x) t))
    (l, l', q, (omega arith, f.0.0)))
    (λ (t : ltb 64 (length (a ++ add)) ≡ false).
    subst (GoodAnswer n) (sym (cond-false (ltb 64 (length (a ++ add))) full (answer_from rows h (a ++ add) is x) t))
    (answer_good n rows h d (a ++ add) is fs x y c.1 b.1 f.1 z (omega arith) (ltb-false 64 (length (a ++ add)) t) (append_bytes a add q m)))
    (cases_Bool (ltb 64 (length (a ++ add))))

-- what a call comes to, by a message that can be sent
abbrev pub Sendable : Msg → Type 0
Sendable m = Framable m × OfBytes m

-- a framing does not refuse it for its length
pub right_length : (m : Msg) → Framable m → wrong_length m ≡ false
right_length (data_msg node bs) x =
    or_from (eqb (length bs) 0) (ltb 64 (length bs)) (ne_eqb (length bs) 0 (λ e. omega (arith, x.0))) (le-ltb 64 (length bs) x.1)
right_length (error_msg code) x = refl

abbrev pub GoodRequest : Request → Type 0
GoodRequest short_buffer = Unit {0}
GoodRequest (unreadable flaw b) = Unit {0}
GoodRequest error_message = Unit {0}
GoodRequest other_node = Unit {0}
GoodRequest (unknown_command node fault) = (node < 256) × Good 64 (Chain fault)
GoodRequest (write node b size w) = (node < 256) × (size ≤ 64) × GoodChain 64 w
GoodRequest (read node w) = (node < 256) × GoodChain 64 w

abbrev Commanded : Result Command ChainFault → Type 0
Commanded (Ok c) = Unit {0}
Commanded (Err fault) = Good 64 (Chain fault)

commanded : (b : ℕ) → Commanded (command_of b)
commanded b =
    cond_prop Commanded (eqb b 0x01) _ _ tt
    (cond_prop Commanded (eqb b 0x02) _ _ tt (cond_prop Commanded (eqb b 0x04) (Ok command.Read) (Err UnknownCommand) tt (omega arith, omega arith)))

command_good : (rows : List PlainRow) (node : ℕ) (o : Result Command ChainFault) (bs : List ℕ) → node < 256 → suc (length bs) ≤ 64 → Bytes bs → Commanded o →
    GoodRequest (command_request rows node o bs)
command_good rows node (Ok command.Write) bs d l x e = (d, omega arith, chain_good 64 (access.Write true) rows bs x l)
command_good rows node (Ok command.WriteUnanswered) bs d l x e = (d, omega arith, chain_good 64 (access.Write true) rows bs x l)
command_good rows node (Ok command.Read) bs d l x e = (d, chain_good 64 access.Read rows bs x l)
command_good rows node (Err fault) bs d l x e = (d, e)

data_good : (rows : List PlainRow) (node : ℕ) (bs : List ℕ) → node < 256 → length bs ≤ 64 → Bytes bs → GoodRequest (data_request rows node bs)
data_good rows node [] d l x = (d, (omega arith, omega arith))
data_good rows node (b ∷ bs) d l x = command_good rows node (command_of b) bs d l x.1 (commanded b)

pub message_good : (s : Setup) (m : Msg) → Sendable m → GoodRequest (message_request s m)
message_good s (data_msg node bs) x = cond_prop GoodRequest (for_rack s node) _ _ (data_good s.rows node bs x.1.0 x.0.1 x.1.1) tt
message_good s (error_msg code) x = tt

-- what answers it
write_sent : (node size : ℕ) (o : Option RackFault) → node < 256 → size ≤ 64 → Goods 64 o → Sendable (write_msg node size o)
write_sent node size None d l x = ((omega arith, omega arith), (d, (omega arith, (omega arith, (omega arith, tt)))))
write_sent node size (Some f) d l x = ((omega arith, omega arith), (d, (omega arith, (x.0, (omega (arith, x.1), tt)))))

read_sent : (node : ℕ) (a : List ℕ) (o : Option RackFault) → node < 256 → 1 ≤ length a → length a ≤ 64 → Bytes a → Goods 64 o → Sendable (read_msg node a o)
read_sent node a None d l l' x y = ((l, l'), (d, x))
read_sent node a (Some f) d l l' x y = write_sent node 0 (Some f) d (omega arith) y

abbrev pub Sent : Option Msg → Type 0
Sent None = Unit {0}
Sent (Some m) = Sendable m

when_sent : (b : Bool) (m : Msg) → Sendable m → Sent (then_some b m)
when_sent true m x = x
when_sent false m x = tt

pub reply_sent : (s : Setup) → Ruled s.rows s.limits → (h : Values) (a : Request) → Tidy s.rows h → OfChain (InTable s.rows) a → GoodRequest a → Sent (reply_to s h a).message
reply_sent s ruled h short_buffer y p f = tt
reply_sent s ruled h (unreadable flaw b) y p f = when_sent b (error_msg 3) (tt, omega arith)
reply_sent s ruled h error_message y p f = tt
reply_sent s ruled h other_node y p f = (tt, omega arith)
reply_sent s ruled h (unknown_command node fault) y p f = write_sent node 0 (Some (Chain fault)) f.0 (omega arith) f.1
reply_sent s ruled h (write node b size w) y p f =
    when_sent b (write_msg node size (write_refusal s h w)) (write_sent node size (write_refusal s h w) f.0 f.1 (refusal_good 64 s h w f.2))
reply_sent s ruled h (read node w) y p f =
    let a = answer_good 64 s.rows h (rows_short s.rows ruled.lawful) (0x02 ∷ []) w.items w.found w.refusal y p.1 p.0 f.1.1 f.1.2 (omega arith) (omega arith) (omega arith, tt) in
    let o : Answer = read_answer s.rows h w in
    read_sent node o.bytes o.refusal f.0 a.0 a.1 a.2 a.3

-- values stay bytes
abbrev OfByteOption : Option (List ℕ) → Type 0
OfByteOption None = Unit {0}
OfByteOption (Some v) = Bytes v

else_bytes : (o p : Option (List ℕ)) → OfByteOption o → OfByteOption p → OfByteOption (else o p)
else_bytes None p x y = y
else_bytes (Some v) p x y = x

item_bytes : (n : ℕ) (i : PlainItem) (r : ℕ) → GoodItem n i → OfByteOption (value_for r i)
item_bytes n (item.write row place v) r x = cond_prop OfByteOption (eqb r row) (Some v) None x.1 tt
item_bytes n (item.read q) r x = tt

last_bytes : (n : ℕ) (is : List PlainItem) (r : ℕ) → GoodItems n is → OfByteOption (last_value is r)
last_bytes n [] r x = tt
last_bytes n (i ∷ is) r x = else_bytes (last_value is r) (value_for r i) (last_bytes n is r x.1) (item_bytes n i r x.0)

or_bytes : (o : Option (List ℕ)) (v : List ℕ) → OfByteOption o → Bytes v → Bytes (unwrap_or o v)
or_bytes None v x y = y
or_bytes (Some u) v x y = x

kept_tidy : (rows : List PlainRow) (w : Walked) (o : Option RackFault) (h : Values) → GoodItems 64 w.items → Tidy rows h → Tidy rows (laid_over (unless_refused o w.items) h)
kept_tidy rows w None h x y r b = or_bytes (last_value w.items r) (h r) (last_bytes 64 w.items r x) (y r b)
kept_tidy rows w (Some f) h x y r b = y r b

pub tidy_after : (s : Setup) (h : Values) (a : Request) → GoodRequest a → Tidy s.rows h → Tidy s.rows (values_after s h a)
tidy_after s h short_buffer f y = y
tidy_after s h (unreadable flaw b) f y = y
tidy_after s h error_message f y = y
tidy_after s h other_node f y = y
tidy_after s h (unknown_command node fault) f y = y
tidy_after s h (write node b size w) f y = kept_tidy s.rows w (write_refusal s h w) h f.2.1 y
tidy_after s h (read node w) f y = y
