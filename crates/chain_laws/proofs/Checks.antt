-- Some of the checks in plain words.
use Rattle.std.proofs.Common.{◌≡◌, ℕ, suc, ◌+◌, ◌≤◌, Bool, true, false, cond, not, ◌&&◌, eqb, List, [], ◌∷◌, ◌++◌, length, Some, Ok, Err, Option, sym, refl, ap, ◌∙◌, ⊎_elim, arith}
use Rattle.std.proofs.lemmas.Bool.{cases_Bool, cond-true, cond-false, both_ways, and_parts, and_from, and_right, or_left, or_right, eq-eqb, le-ltb}
use Rattle.std.specs.List.{AllByRecursion}
use Rattle.table.specs.Rows.{PlainRow, has_pair, reset_row}
use Rattle.table.specs.Draws.{row_at}
use Rattle.table.specs.Tables.{place_from, place, has_process, Ruled}
use Rattle.order.specs.Last.{else}
use Rattle.chain.specs.declared.access.Access.{Access}
use Rattle.chain.specs.declared.access.Access.TheVariants.{Write}
use Rattle.chain.specs.declared.fault.RackFault.{RackFault}
use Rattle.chain.specs.declared.fault.RackFault.TheVariants.{NoProcess, NoParameter, WrongType, NotWritable, Secured}
use Rattle.chain.specs.declared.reader.Ahead.{Ahead}
use Rattle.chain.specs.declared.reader.Ahead.TheVariants.{Group, InGroup}
use Rattle.chain.specs.Faults.{missing, extra}
use Rattle.chain.specs.Items.{write}
use Rattle.chain.specs.Values.{type_bits, value_at}
use Rattle.chain.specs.Walks.{Found, Walked, Verdict, barred, spoiled, taken, Look, unfound, on_row, refused_by, next, onward}
use Rattle.chain.specs.Chains.{process_of, parameter_of, type_of, on_found, value_taken, write_of, opens_by, look_by, walk_by, chain_by, write_reading}
use Rattle.chain.specs.Locks.{first_secured}
use Rattle.chain_laws.specs.Checks.{Names, ChecksStand}
use Rattle.chain_laws.proofs.Values.{is_secured}
use Rattle.chain_laws.proofs.Walks.{Steps, walk_by_lem}
use Rattle.chain_laws.proofs.Looks.{Right, look_right}
use Rattle.chain_laws.proofs.Locks.{locks_lie_over}

-- a process of which a row is found has one
process_of_lem : (i p q : ℕ) (rows : List PlainRow) (r : ℕ) → place_from i p q rows ≡ Some r → has_process p rows ≡ true
process_of_lem i p q [] r e = let z : ◌≡◌ {A = ℕ} 0 1 = cc in absurd (omega arith)
process_of_lem i p q (x ∷ rows) r e =
    ⊎_elim
    (λ (b : has_pair p q x ≡ true). or_left (eqb x.process p) (has_process p rows) (and_parts (eqb x.process p) (eqb x.parameter q) b).0)
    (λ (b : has_pair p q x ≡ false).
    or_right (eqb x.process p) (has_process p rows)
    (process_of_lem (i + 1) p q rows r (sym (cond-false (has_pair p q x) (Some i) (place_from (i + 1) p q rows) b) ∙ e)))
    (cases_Bool (has_pair p q x))

module _ (unlocked : Bool) (rows : List PlainRow) where
  abbrev from : ℕ → Ahead → ℕ → List ℕ → Walked
  from = walk_by (Write unlocked) rows

  -- a group that opens with an item on a row
  group_at : (i g q r : ℕ) (bs : List ℕ) (v : Verdict) → place (process_of g) (parameter_of q) rows ≡ Some r → write_of unlocked (row_at rows r) r (i + 1) q bs ≡ v →
      from i Group 0 (g ∷ q ∷ bs) ≡ onward (i + 1) (on_row r v) (λ k. from (i + 1 + 1) (next g q) k bs)
  group_at i g q r bs v e f =
      cond-true (has_process (process_of g) rows) (from (i + 1) (InGroup g true) 0 (q ∷ bs)) (refused_by (NoProcess i)) (process_of_lem 0 (process_of g) (parameter_of q) rows r e) ∙
      ap (λ (o : Option ℕ). onward (i + 1) (on_found o (NoParameter (i + 1)) (λ r. write_of unlocked (row_at rows r) r (i + 1) q bs)) (λ k. from (i + 1 + 1) (next g q) k bs)) e ∙
      ap (λ (v : Verdict). onward (i + 1) (on_row r v) (λ k. from (i + 1 + 1) (next g q) k bs)) f

module _ (unlocked : Bool) (row : PlainRow) (r i q : ℕ) (bs : List ℕ) (t : type_of q ≡ type_bits row.kind) where
  of_type : write_of unlocked row r i q bs ≡
      cond row.writable (cond (not unlocked && row.secured) (barred (Secured i)) (value_taken r i (value_at row.kind (i + 1) bs))) (barred (NotWritable i))
  of_type =
      cond-true (eqb (type_of q) (type_bits row.kind))
      (cond row.writable (cond (not unlocked && row.secured) (barred (Secured i)) (value_taken r i (value_at row.kind (i + 1) bs))) (barred (NotWritable i)))
      (barred (WrongType i)) (eq-eqb (type_of q) (type_bits row.kind) t)

  bars_write : row.writable ≡ false → write_of unlocked row r i q bs ≡ barred (NotWritable i)
  bars_write w =
      of_type ∙
      cond-false row.writable (cond (not unlocked && row.secured) (barred (Secured i)) (value_taken r i (value_at row.kind (i + 1) bs))) (barred (NotWritable i)) w

  bars_locked : row.writable ≡ true → (not unlocked && row.secured) ≡ true → write_of unlocked row r i q bs ≡ barred (Secured i)
  bars_locked w s =
      of_type ∙
      cond-true row.writable (cond (not unlocked && row.secured) (barred (Secured i)) (value_taken r i (value_at row.kind (i + 1) bs))) (barred (NotWritable i)) w ∙
      cond-true (not unlocked && row.secured) (barred (Secured i)) (value_taken r i (value_at row.kind (i + 1) bs)) s

-- the first secured row behind rows that are not
first_behind : (rows : List PlainRow) (before after : List Found) (f : Found) → AllByRecursion (λ x. (row_at rows x.row).secured ≡ false) before → f.reached ≡ true →
    (row_at rows f.row).secured ≡ true → first_secured rows (before ++ f ∷ after) ≡ Some (Secured f.place)
first_behind rows [] after f a r s =
    cond-true (f.reached && (row_at rows f.row).secured) (Some (Secured f.place)) (first_secured rows after) (and_from f.reached (row_at rows f.row).secured r s)
first_behind rows (x ∷ before) after f a r s =
    cond-false (x.reached && (row_at rows x.row).secured) (Some (Secured x.place)) (first_secured rows (before ++ f ∷ after))
    (and_right x.reached (row_at rows x.row).secured a.0) ∙
    first_behind rows before after f a.1 r s

-- row 0 of a table, and the value 64 for it
reset_place : (rows : List PlainRow) → 1 ≤ length rows → row_at rows 0 ≡ reset_row → place 0 10 rows ≡ Some 0
reset_place [] l e = absurd (omega arith)
reset_place (r ∷ rs) l e = cond-true (has_pair 0 10 r) (Some 0) (place_from 1 0 10 rs) (ap (has_pair 0 10) e)

reset_taken : (row : PlainRow) (bs : List ℕ) → row ≡ reset_row → write_of false row 0 2 0x0a (64 ∷ bs) ≡ taken (write 0 2 (64 ∷ [])) 1
reset_taken row bs e =
    ap (λ (x : PlainRow). write_of false x 0 2 0x0a (64 ∷ bs)) e ∙
    ap (λ (b : Bool). value_taken 0 2 (cond b (Err (missing (3 + suc (length bs)))) (Ok (64 ∷ [], 1)))) (le-ltb (suc (length bs)) 1 (omega arith))

own_locked : (rows : List PlainRow) (limits : List ℕ) → Ruled rows limits → (g q r : ℕ) (bs : List ℕ) → Names rows g q r →
    (row_at rows r).writable ≡ true → (row_at rows r).secured ≡ true → (chain_by (Write false) rows (0x80 ∷ 0x0a ∷ 64 ∷ g ∷ q ∷ bs)).refusal ≡ Some (Secured 5)
own_locked rows limits t g q r bs n w s =
    ap (λ (x : Walked). x.refusal)
    (group_at false rows 1 0x80 0x0a 0 (64 ∷ g ∷ q ∷ bs) (taken (write 0 2 (64 ∷ [])) 1) (reset_place rows t.some t.first) (reset_taken (row_at rows 0) (g ∷ q ∷ bs) t.first)) ∙
    ap (λ (x : Walked). x.refusal)
    (group_at false rows 4 g q r bs (barred (Secured 5)) n.pair (bars_locked false (row_at rows r) r 5 q bs n.typed w s))

-- the fault of a locked row comes only in a write while rows are locked
module _ (access : Access) (rows : List PlainRow) where
  abbrev LockedOnly : Walked → Type 0
  LockedOnly w = (j : ℕ) → w.refusal ≡ Some (Secured j) → access ≡ Write false

  refused_only : (f : RackFault) → (is_secured f ≡ true → access ≡ Write false) → (j : ℕ) → Some f ≡ Some (Secured j) → access ≡ Write false
  refused_only f h j e = let s : f ≡ Secured j = cc in h (ap is_secured s)

  other : (f : RackFault) → is_secured f ≡ false → (j : ℕ) → Some f ≡ Some (Secured j) → access ≡ Write false
  other f h = refused_only f (λ s. absurd (both_ways (is_secured f) h s))

  onward_only : (i g b : ℕ) (bs : List ℕ) (l : Look) (rest : ℕ → Walked) → Right access rows i g b bs l → ((k : ℕ) → LockedOnly (rest k)) → LockedOnly (onward i l rest)
  onward_only i g b bs (unfound f) rest s h = other f s.2
  onward_only i g b bs (on_row r (barred f)) rest s h = refused_only f s.3
  onward_only i g b bs (on_row r (spoiled f)) rest s h = other f s.1.2
  onward_only i g b bs (on_row r (taken x k)) rest s h = h k

  only : Steps (look_by access rows) (λ i a bs w. LockedOnly w)
  only = record {
    short = λ i a. other (missing i) refl;
    skip = λ i a b bs w h. h;
    group = λ i g bs w h. h;
    closed = λ i g bs. other (NoProcess i) refl;
    item = λ i g first b bs rest h. onward_only i g b bs (look_by access rows i g first b bs) rest (look_right access rows i g first b bs) h;
    done = λ i j e. let z : ◌≡◌ {A = ℕ} 0 1 = cc in absurd (omega arith);
    more = λ i b bs. other (extra i) refl;
  }

pub checks_stand : ChecksStand
checks_stand rows = record {
  empty = λ access. refl;
  no_process = λ unlocked g bs e.
      ap (λ (x : Walked). x.refusal)
      (cond-false (has_process (process_of g) rows) (walk_by (Write unlocked) rows 2 (InGroup g true) 0 bs) (refused_by (NoProcess 1)) e);
  not_writable = λ unlocked g q r bs n w.
      ap (λ (x : Walked). x.refusal)
      (group_at unlocked rows 1 g q r bs (barred (NotWritable 2)) n.pair (bars_write unlocked (row_at rows r) r 2 q bs n.typed w));
  locked = λ bs before after f e a r s.
      (locks_lie_over false rows bs).refusal ∙
      ap (λ (o : Option RackFault). else o (write_reading rows bs).refusal) (ap (first_secured rows) e ∙ first_behind rows before after f a r s);
  own_unlock = own_locked rows;
  only_locked = λ access bs i e. walk_by_lem (opens_by access rows) (look_by access rows) (λ i a bs w. LockedOnly access rows w) (only access rows) 1 Group 0 bs i e;
}
