-- The rows that a chain finds are rows of the table, and its items are for rows that it found.
use Rattle.std.proofs.Common.{◌≡◌, ℕ, zero, suc, ◌+◌, ◌<◌, Bool, true, false, not, ◌&&◌, eqb, ltb, leb, List, [], ◌∷◌, length, Some, None, Ok, Err, Option, Result, sym, refl, ◌∙◌, ⊎_elim, arith}
use Rattle.std.proofs.lemmas.Bool.{cases_Bool, cond-true, cond-false}
use Rattle.line.specs.declared.refusal.Flaw.{Flaw}
use Rattle.line.specs.Messages.{Msg, data_msg, error_msg}
use Rattle.table.specs.Rows.{PlainRow, has_pair}
use Rattle.table.specs.Draws.{row_at}
use Rattle.table.specs.Tables.{place, place_from, has_process}
use Rattle.chain.specs.declared.access.Access.{Access}
use Rattle.chain.specs.declared.access.Access.TheVariants as access
use Rattle.chain.specs.declared.access.Command.{Command}
use Rattle.chain.specs.declared.access.Command.TheVariants as command
use Rattle.chain.specs.declared.fault.ChainFault.{ChainFault}
use Rattle.chain.specs.declared.fault.RackFault.{RackFault}
use Rattle.chain.specs.declared.fault.RackFault.TheVariants.{NoProcess, NoParameter}
use Rattle.chain.specs.declared.item.Query.{Query}
use Rattle.chain.specs.declared.reader.Ahead.{Ahead}
use Rattle.chain.specs.declared.reader.Ahead.TheVariants.{Group, InGroup, End}
use Rattle.chain.specs.Access.{command_of}
use Rattle.chain.specs.Items.{PlainItem, row_of}
use Rattle.chain.specs.Values.{type_bits, value_at, length_at}
use Rattle.chain.specs.Walks.{Found, Walked, Verdict, barred, spoiled, taken, Look, unfound, on_row, refused_by, next, onward, walk}
use Rattle.chain.specs.Chains.{process_of, parameter_of, type_of, on_found, value_taken, write_of, write_at, query, length_taken, read_of, read_on, read_at, opens_by, look_by, chain_by}
use Rattle.promises.specs.Wires.{Call}
use Rattle.promises.specs.Requests.{Setup, Request, short_buffer, unreadable, error_message, other_node, unknown_command, write, read, command_request, data_request, for_rack, message_request, frame_request, request_of}
use Rattle.promises.proofs.Options.{some-none, cond_prop}

-- each row found is a row of the table
abbrev pub Ranged : List PlainRow → List Found → Type 0
Ranged rows [] = Unit {0}
Ranged rows (f ∷ fs) = (f.row < length rows) × Ranged rows fs

-- the items are for the rows found, one after the other
abbrev pub Covered : List PlainItem → List Found → Type 0
Covered [] fs = Unit {0}
Covered (i ∷ is) [] = ⊥
Covered (i ∷ is) (f ∷ fs) = (row_of i ≡ f.row) × Covered is fs

abbrev pub InTable : List PlainRow → Walked → Type 0
InTable rows w = Ranged rows w.found × Covered w.items w.found

-- an item that is taken is for the row that was looked up
abbrev OnRow : ℕ → Verdict → Type 0
OnRow r (barred f) = Unit {0}
OnRow r (spoiled f) = Unit {0}
OnRow r (taken i k) = row_of i ≡ r

abbrev InRange : List PlainRow → Look → Type 0
InRange rows (unfound f) = Unit {0}
InRange rows (on_row r v) = (r < length rows) × OnRow r v

place_below : (i p q : ℕ) (rows : List PlainRow) (k : ℕ) → place_from i p q rows ≡ Some k → k < i + length rows
place_below i p q [] k e = some-none k (sym e)
place_below i p q (r ∷ rs) k e =
    ⊎_elim
    (λ (b : has_pair p q r ≡ true).
    let f = sym (cond-true (has_pair p q r) (Some i) (place_from (i + 1) p q rs) b) ∙ e in
    let g : i ≡ k = cc in omega arith)
    (λ (b : has_pair p q r ≡ false).
    let f = place_below (i + 1) p q rs k (sym (cond-false (has_pair p q r) (Some i) (place_from (i + 1) p q rs) b) ∙ e) in omega arith)
    (cases_Bool (has_pair p q r))

found_range : (rows : List PlainRow) (p q : ℕ) (f : RackFault) (v : ℕ → Verdict) → ((r : ℕ) → OnRow r (v r)) → (o : Option ℕ) → place p q rows ≡ o → InRange rows (on_found o f v)
found_range rows p q f v x None e = tt
found_range rows p q f v x (Some r) e = let g = place_below 0 p q rows r e in (omega arith, x r)

value_on : (r i : ℕ) (o : Result (List ℕ × ℕ) RackFault) → OnRow r (value_taken r i o)
value_on r i (Ok p) = refl
value_on r i (Err f) = tt

write_on : (unlocked : Bool) (row : PlainRow) (r i q : ℕ) (bs : List ℕ) → OnRow r (write_of unlocked row r i q bs)
write_on unlocked row r i q bs =
    cond_prop (OnRow r) (eqb (type_of q) (type_bits row.kind)) _ _
    (cond_prop (OnRow r) row.writable _ _
    (cond_prop (OnRow r) (not unlocked && row.secured) _ _ tt (value_on r i (value_at row.kind (i + 1) bs))) tt) tt

write_range : (unlocked : Bool) (rows : List PlainRow) (i g : ℕ) (first : Bool) (q : ℕ) (bs : List ℕ) → InRange rows (write_at unlocked rows i g first q bs)
write_range unlocked rows i g first q bs =
    found_range rows (process_of g) (parameter_of q) (NoParameter i) (λ r. write_of unlocked (row_at rows r) r i q bs)
    (λ r. write_on unlocked (row_at rows r) r i q bs) (place (process_of g) (parameter_of q) rows) refl

length_on : (q : Query) (o : Result ℕ RackFault) → OnRow q.row (length_taken q o)
length_on q (Ok k) = refl
length_on q (Err f) = tt

read_on_lem : (row : PlainRow) (r i g : ℕ) (first : Bool) (x q : ℕ) (bs : List ℕ) → OnRow r (read_of row r i g first x q bs)
read_on_lem row r i g first x q bs =
    cond_prop (OnRow r) (eqb (type_of q) (type_bits row.kind) && eqb (type_of x) (type_of q)) _ _
    (cond_prop (OnRow r) row.readable _ _ (length_on (query r i g first x) (length_at row.kind (i + 3) bs)) tt) tt

row_range : (rows : List PlainRow) (i g : ℕ) (first : Bool) (x p : ℕ) (bs : List ℕ) → InRange rows (read_on rows i g first x p bs)
row_range rows i g first x p [] = tt
row_range rows i g first x p (q ∷ bs) =
    cond_prop (InRange rows) (leb 128 q) _ _ tt
    (found_range rows p (parameter_of q) (NoParameter (i + 2)) (λ r. read_of (row_at rows r) r i g first x q bs)
    (λ r. read_on_lem (row_at rows r) r i g first x q bs) (place p (parameter_of q) rows) refl)

read_range : (rows : List PlainRow) (i g : ℕ) (first : Bool) (x : ℕ) (bs : List ℕ) → InRange rows (read_at rows i g first x bs)
read_range rows i g first x [] = tt
read_range rows i g first x (p ∷ bs) =
    cond_prop (InRange rows) (leb 128 p) _ _ tt
    (cond_prop (InRange rows) (has_process p rows) _ _ (row_range rows i g first x p bs) tt)

look_range : (a : Access) (rows : List PlainRow) (i g : ℕ) (first : Bool) (b : ℕ) (bs : List ℕ) → InRange rows (look_by a rows i g first b bs)
look_range (access.Write unlocked) rows i g first b bs = write_range unlocked rows i g first b bs
look_range access.Read rows i g first b bs = read_range rows i g first b bs

onward_in : (rows : List PlainRow) (i : ℕ) (l : Look) (rest : ℕ → Walked) → InRange rows l → ((k : ℕ) → InTable rows (rest k)) → InTable rows (onward i l rest)
onward_in rows i (unfound f) rest b e = (tt, tt)
onward_in rows i (on_row r (barred f)) rest b e = ((b.0, tt), tt)
onward_in rows i (on_row r (spoiled f)) rest b e = ((b.0, tt), tt)
onward_in rows i (on_row r (taken x k)) rest b e = ((b.0, (e k).0), (b.1, (e k).1))

walk_in : (rows : List PlainRow) (opens : ℕ → Bool) (look : ℕ → ℕ → Bool → ℕ → List ℕ → Look) →
    ((i g : ℕ) (first : Bool) (b : ℕ) (bs : List ℕ) → InRange rows (look i g first b bs)) →
    (i : ℕ) (a : Ahead) (k : ℕ) (bs : List ℕ) → InTable rows (walk opens look i a k bs)
walk_in rows opens look e i a (suc k) [] = (tt, tt)
walk_in rows opens look e i a (suc k) (b ∷ bs) = walk_in rows opens look e (i + 1) a k bs
walk_in rows opens look e i Group zero [] = (tt, tt)
walk_in rows opens look e i Group zero (g ∷ bs) =
    cond_prop (InTable rows) (opens g) (walk opens look (i + 1) (InGroup g true) zero bs) (refused_by (NoProcess i))
    (walk_in rows opens look e (i + 1) (InGroup g true) zero bs) (tt, tt)
walk_in rows opens look e i (InGroup g first) zero [] = (tt, tt)
walk_in rows opens look e i (InGroup g first) zero (b ∷ bs) =
    onward_in rows i (look i g first b bs) (λ k. walk opens look (i + 1) (next g b) k bs) (e i g first b bs)
    (λ k. walk_in rows opens look e (i + 1) (next g b) k bs)
walk_in rows opens look e i End zero [] = (tt, tt)
walk_in rows opens look e i End zero (b ∷ bs) = (tt, tt)

pub chain_in : (a : Access) (rows : List PlainRow) (bs : List ℕ) → InTable rows (chain_by a rows bs)
chain_in a rows bs = walk_in rows (opens_by a rows) (look_by a rows) (look_range a rows) 1 Group 0 bs

-- a fact of every chain holds of the one that a request has
abbrev pub OfChain : (Walked → Type 0) → Request → Type 0
OfChain P short_buffer = Unit {0}
OfChain P (unreadable flaw b) = Unit {0}
OfChain P error_message = Unit {0}
OfChain P other_node = Unit {0}
OfChain P (unknown_command node fault) = Unit {0}
OfChain P (write node b size w) = P w
OfChain P (read node w) = P w

module _ (rows : List PlainRow) (P : Walked → Type 0) (all : (a : Access) (bs : List ℕ) → P (chain_by a rows bs)) where
  command_chain : (node : ℕ) (o : Result Command ChainFault) (bs : List ℕ) → OfChain P (command_request rows node o bs)
  command_chain node (Ok command.Write) bs = all (access.Write true) bs
  command_chain node (Ok command.WriteUnanswered) bs = all (access.Write true) bs
  command_chain node (Ok command.Read) bs = all access.Read bs
  command_chain node (Err fault) bs = tt

  data_chain : (node : ℕ) (bs : List ℕ) → OfChain P (data_request rows node bs)
  data_chain node [] = tt
  data_chain node (b ∷ bs) = command_chain node (command_of b) bs

message_chain : (s : Setup) (P : Walked → Type 0) → ((a : Access) (bs : List ℕ) → P (chain_by a s.rows bs)) → (m : Msg) → OfChain P (message_request s m)
message_chain s P all (data_msg node bs) = cond_prop (OfChain P) (for_rack s node) _ _ (data_chain s.rows P all node bs) tt
message_chain s P all (error_msg code) = tt

frame_chain : (s : Setup) (P : Walked → Type 0) → ((a : Access) (bs : List ℕ) → P (chain_by a s.rows bs)) → (b : Bool) (o : Result Msg Flaw) → OfChain P (frame_request s b o)
frame_chain s P all b (Ok m) = message_chain s P all m
frame_chain s P all b (Err flaw) = tt

pub request_chain : (s : Setup) (P : Walked → Type 0) → ((a : Access) (bs : List ℕ) → P (chain_by a s.rows bs)) → (c : Call) → OfChain P (request_of s c)
request_chain s P all c =
    cond_prop (OfChain P) (ltb c.room 138) short_buffer (frame_request s c.wire.answers_unreadable (c.wire.reads c.frame)) tt
    (frame_chain s P all c.wire.answers_unreadable (c.wire.reads c.frame))

pub in_table : (s : Setup) (c : Call) → OfChain (InTable s.rows) (request_of s c)
in_table s c = request_chain s (InTable s.rows) (λ a. chain_in a s.rows) c
