-- The secured check lies over the reading by message and table alone.
use Rattle.std.proofs.Common.{◌≡◌, ℕ, zero, suc, ◌+◌, ◌<◌, Bool, true, false, cond, ◌&&◌, eqb, List, [], ◌∷◌, Some, None, Ok, Err, Option, Result, sym, refl, ap, ◌∙◌, ⊎_elim, arith}
use Rattle.std.proofs.lemmas.Bool.{cases_Bool, cond-true, cond-false, and_parts}
use Rattle.table.specs.Rows.{PlainRow}
use Rattle.table.specs.Draws.{row_at}
use Rattle.table.specs.Tables.{place}
use Rattle.order.specs.Last.{else}
use Rattle.chain.specs.declared.access.Access.TheVariants.{Write}
use Rattle.chain.specs.declared.fault.RackFault.{RackFault}
use Rattle.chain.specs.declared.fault.RackFault.TheVariants.{NoProcess, NoParameter, WrongType, NotWritable, Secured}
use Rattle.chain.specs.declared.reader.Ahead.{Ahead}
use Rattle.chain.specs.declared.reader.Ahead.TheVariants.{Group, InGroup, End}
use Rattle.chain.specs.Faults.{rack_place, missing, extra}
use Rattle.chain.specs.Items.{PlainItem, write}
use Rattle.chain.specs.Values.{type_bits, value_at}
use Rattle.chain.specs.Walks.{Found, Walked, barred, on_row, refused_by, next, onward}
use Rattle.chain.specs.Chains.{process_of, parameter_of, type_of, on_found, value_taken, write_of, opens_by, walk_by, write_reading}
use Rattle.chain.specs.Locks.{first_secured}
use Rattle.chain_laws.specs.Places.{UpTo}
use Rattle.chain_laws.specs.Locks.{LocksLieOver}
use Rattle.chain_laws.proofs.Places.{chain_placed}

module _ (rows : List PlainRow) where
  -- `d`, taken while secured rows are locked, beside the reading `w`
  record Over (w d : Walked) : Type 0 where
    refusal : d.refusal ≡ else (first_secured rows w.found) w.refusal
    items : d.refusal ≡ None → d.items ≡ w.items
    same : first_secured rows w.found ≡ None → d ≡ w

  refused_over : (f : RackFault) → Over (refused_by f) (refused_by f)
  refused_over f = record { refusal = refl; items = λ _. refl; same = λ _. refl }

  barred_over : (r i : ℕ) (f : RackFault) (rest rest' : ℕ → Walked) → Over (onward i (on_row r (barred f)) rest) (onward i (on_row r (barred f)) rest')
  barred_over r i f rest rest' = record { refusal = refl; items = λ _. refl; same = λ _. refl }

  -- the first secured row, where the item at hand gets as far as its value
  first_at : (r i : ℕ) (fs : List Found) (s : Bool) → (row_at rows r).secured ≡ s →
      first_secured rows (record { row = r; place = i; reached = true } ∷ fs) ≡ cond s (Some (Secured i)) (first_secured rows fs)
  first_at r i fs s e = ap (λ (b : Bool). cond b (Some (Secured i)) (first_secured rows fs)) e

  -- a secured row bars the item
  locked_over : (r i : ℕ) (v : Result (List ℕ × ℕ) RackFault) (rest rest' : ℕ → Walked) → (row_at rows r).secured ≡ true →
      Over (onward i (on_row r (value_taken r i v)) rest) (onward i (on_row r (barred (Secured i))) rest')
  locked_over r i (Err f) rest rest' e =
      let l = first_at r i [] true e in
      record {
        refusal = ap (λ (o : Option RackFault). else o (Some f)) (sym l);
        items = λ _. refl;
        same = λ n. let z : ◌≡◌ {A = ℕ} 0 1 = cc in absurd (omega arith);
      }
  locked_over r i (Ok p) rest rest' e =
      let l = first_at r i (rest p.1).found true e in
      record {
        refusal = ap (λ (o : Option RackFault). else o (rest p.1).refusal) (sym l);
        items = λ n. let z : ◌≡◌ {A = ℕ} 0 1 = cc in absurd (omega arith);
        same = λ n. let z : ◌≡◌ {A = ℕ} 0 1 = cc in absurd (omega arith);
      }

  -- any other row lets it on
  free_over : (r i : ℕ) (v : Result (List ℕ × ℕ) RackFault) (rest rest' : ℕ → Walked) → (row_at rows r).secured ≡ false → ((k : ℕ) → Over (rest k) (rest' k)) →
      Over (onward i (on_row r (value_taken r i v)) rest) (onward i (on_row r (value_taken r i v)) rest')
  free_over r i (Err f) rest rest' e h =
      record { refusal = ap (λ (o : Option RackFault). else o (Some f)) (sym (first_at r i [] false e)); items = λ _. refl; same = λ _. refl }
  free_over r i (Ok p) rest rest' e h =
      let l = first_at r i (rest p.1).found false e in
      let o = h p.1 in
      record {
        refusal = o.refusal ∙ ap (λ (x : Option RackFault). else x (rest p.1).refusal) (sym l);
        items = λ n. ap (λ (xs : List PlainItem). write r i p.0 ∷ xs) (o.items n);
        same = λ n.
            ap (λ (x : Walked). record {
              found = record { row = r; place = i; reached = true } ∷ x.found;
              items = write r i p.0 ∷ x.items;
              refusal = x.refusal;
            }) (o.same (sym l ∙ n));
      }

  row_over : (fit writable s : Bool) (r i : ℕ) (v : Result (List ℕ × ℕ) RackFault) (rest rest' : ℕ → Walked) → (row_at rows r).secured ≡ s → ((k : ℕ) → Over (rest k) (rest' k)) →
      Over (onward i (on_row r (cond fit (cond writable (value_taken r i v) (barred (NotWritable i))) (barred (WrongType i)))) rest)
      (onward i (on_row r (cond fit (cond writable (cond s (barred (Secured i)) (value_taken r i v)) (barred (NotWritable i))) (barred (WrongType i)))) rest')
  row_over false writable s r i v rest rest' e h = barred_over r i (WrongType i) rest rest'
  row_over true false s r i v rest rest' e h = barred_over r i (NotWritable i) rest rest'
  row_over true true true r i v rest rest' e h = locked_over r i v rest rest' e
  row_over true true false r i v rest rest' e h = free_over r i v rest rest' e h

  found_over : (o : Option ℕ) (i q : ℕ) (bs : List ℕ) (rest rest' : ℕ → Walked) → ((k : ℕ) → Over (rest k) (rest' k)) →
      Over (onward i (on_found o (NoParameter i) (λ r. write_of true (row_at rows r) r i q bs)) rest)
      (onward i (on_found o (NoParameter i) (λ r. write_of false (row_at rows r) r i q bs)) rest')
  found_over None i q bs rest rest' h = refused_over (NoParameter i)
  found_over (Some r) i q bs rest rest' h =
      row_over (eqb (type_of q) (type_bits (row_at rows r).kind)) (row_at rows r).writable (row_at rows r).secured r i (value_at (row_at rows r).kind (i + 1) bs) rest rest' refl h

  group_over : (b : Bool) (f : RackFault) (w d : Walked) → Over w d → Over (cond b w (refused_by f)) (cond b d (refused_by f))
  group_over true f w d h = h
  group_over false f w d h = refused_over f

  walk_over : (i : ℕ) (a : Ahead) (k : ℕ) (bs : List ℕ) → Over (walk_by (Write true) rows i a k bs) (walk_by (Write false) rows i a k bs)
  walk_over i a (suc k) [] = refused_over (missing i)
  walk_over i a (suc k) (b ∷ bs) = walk_over (i + 1) a k bs
  walk_over i Group zero [] = refused_over (missing i)
  walk_over i Group zero (g ∷ bs) =
      group_over (opens_by (Write true) rows g) (NoProcess i) (walk_by (Write true) rows (i + 1) (InGroup g true) zero bs)
      (walk_by (Write false) rows (i + 1) (InGroup g true) zero bs) (walk_over (i + 1) (InGroup g true) zero bs)
  walk_over i (InGroup g first) zero [] = refused_over (missing i)
  walk_over i (InGroup g first) zero (b ∷ bs) =
      found_over (place (process_of g) (parameter_of b) rows) i b bs (λ k. walk_by (Write true) rows (i + 1) (next g b) k bs)
      (λ k. walk_by (Write false) rows (i + 1) (next g b) k bs) (λ k. walk_over (i + 1) (next g b) k bs)
  walk_over i End zero [] = record { refusal = refl; items = λ _. refl; same = λ _. refl }
  walk_over i End zero (b ∷ bs) = refused_over (extra i)

  -- the first secured row stands before a place where every item that gets as far as its value does
  secured_before : (stop : ℕ) (fs : List Found) (f : RackFault) → UpTo stop fs → first_secured rows fs ≡ Some f → rack_place f < stop
  secured_before stop [] f u e = let z : ◌≡◌ {A = ℕ} 0 1 = cc in absurd (omega arith)
  secured_before stop (x ∷ fs) f u e =
      ⊎_elim
      (λ (b : (x.reached && (row_at rows x.row).secured) ≡ true).
      let l : x.place < stop = u.1 (and_parts x.reached (row_at rows x.row).secured b).0 in
      let s = sym (cond-true (x.reached && (row_at rows x.row).secured) (Some (Secured x.place)) (first_secured rows fs) b) ∙ e in
      let t : Secured x.place ≡ f = cc in
      let p : x.place ≡ rack_place f = ap rack_place t in omega arith)
      (λ (b : (x.reached && (row_at rows x.row).secured) ≡ false).
      secured_before stop fs f u.2 (sym (cond-false (x.reached && (row_at rows x.row).secured) (Some (Secured x.place)) (first_secured rows fs) b) ∙ e))
      (cases_Bool (x.reached && (row_at rows x.row).secured))

pub locks_lie_over : LocksLieOver
locks_lie_over true rows bs = record { refusal = refl; items = λ _. refl; same = λ _. refl; earlier = λ f g e _. let z : ◌≡◌ {A = ℕ} 0 1 = cc in absurd (omega arith) }
locks_lie_over false rows bs =
    let o = walk_over rows 1 Group 0 bs in
    record {
      refusal = o.refusal;
      items = o.items;
      same = o.same;
      earlier = λ f g e n. secured_before rows (rack_place g) (write_reading rows bs).found f ((chain_placed (Write true) rows bs).found_before g n) e;
    }
