-- The rows that the reading of a chain finds are rows of the table, and its items are for them and granted by them.
use Rattle.std.proofs.Common.{◌≡◌, ℕ, suc, ◌<◌, ◌≤◌, Bool, true, false, ◌&&◌, ◌||◌, eqb, leb, List, [], ◌∷◌, ◌++◌, length, Some, None, Option, sym, refl, ap, subst, arith}
use Rattle.std.proofs.ByRecursion.{All-weaker}
use Rattle.std.proofs.lemmas.Bool.{and_parts, eqb-true, leb-true}
use Rattle.std.specs.List.{AllByRecursion}
use Rattle.number.specs.Numbers.{char, integer, long, float}
use Rattle.number.specs.Ranges.{between}
use Rattle.table.specs.declared.Kind.{Kind}
use Rattle.table.specs.declared.Kind.TheVariants.{Char, Integer, Long, Float, Text, OpenText}
use Rattle.table.specs.Rows.{PlainRow, no_zero, admitted, kind_ruled, feed_ruled, keeps_rules}
use Rattle.table.specs.Draws.{row_at}
use Rattle.table.specs.Tables.{Ruled}
use Rattle.table.proofs.Facts.{row_ruled}
use Rattle.chain.specs.declared.access.Access.{Access}
use Rattle.chain.specs.declared.access.Access.TheVariants.{Write, Read}
use Rattle.chain.specs.declared.fault.RackFault.{RackFault}
use Rattle.chain.specs.declared.fault.RackFault.TheVariants.{NoProcess}
use Rattle.chain.specs.declared.reader.Ahead.TheVariants.{Group}
use Rattle.chain.specs.Faults.{missing, extra}
use Rattle.chain.specs.Items.{PlainItem, write, read, row_of, group_byte}
use Rattle.chain.specs.Walks.{Found, Walked, barred, spoiled, taken, Look, unfound, on_row, onward}
use Rattle.chain.specs.Chains.{opens_by, look_by, chain_by}
use Rattle.chain_laws.specs.Rows.{ForFound, Granted, carried, RowsFoundStand}
use Rattle.chain_laws.proofs.Walks.{Steps, walk_by_lem}
use Rattle.chain_laws.proofs.Looks.{Right, look_right}
use Rattle.chain_laws.proofs.Octets.{items_octets}

module _ (access : Access) (rows : List PlainRow) where
  record Sound (w : Walked) : Type 0 where
    stand : AllByRecursion (λ f. f.row < length rows) w.found
    matched : ForFound w.items w.found
    complete : w.refusal ≡ None → length w.items ≡ length w.found
    items : AllByRecursion (λ x. row_of x < length rows) w.items
    granted : AllByRecursion (Granted access rows) w.items

  refused_sound : (f : RackFault) (fs : List Found) → AllByRecursion (λ x. x.row < length rows) fs → Sound (record { found = fs; items = []; refusal = Some f })
  refused_sound f fs h =
      record { stand = h; matched = tt; complete = λ e. let z : ◌≡◌ {A = ℕ} 0 1 = cc in absurd (omega arith); items = tt; granted = tt }

  onward_sound : (i g b : ℕ) (bs : List ℕ) (l : Look) (rest : ℕ → Walked) → Right access rows i g b bs l → ((k : ℕ) → Sound (rest k)) → Sound (onward i l rest)
  onward_sound i g b bs (unfound f) rest s h = refused_sound f [] tt
  onward_sound i g b bs (on_row r (barred f)) rest s h = refused_sound f (record { row = r; place = i; reached = false } ∷ []) (s.0, tt)
  onward_sound i g b bs (on_row r (spoiled f)) rest s h = refused_sound f (record { row = r; place = i; reached = true } ∷ []) (s.0, tt)
  onward_sound i g b bs (on_row r (taken x k)) rest s h =
      record {
        stand = (s.0, (h k).stand);
        matched = (s.1.row, s.1.place, (h k).matched);
        complete = λ e. ap suc ((h k).complete e);
        items = (subst (λ (n : ℕ). n < length rows) (sym s.1.row) s.0, (h k).items);
        granted = (s.1.granted, (h k).granted);
      }

  sound : Steps (look_by access rows) (λ i a bs w. Sound w)
  sound = record {
    short = λ i a. refused_sound (missing i) [] tt;
    skip = λ i a b bs w h. h;
    group = λ i g bs w h. h;
    closed = λ i g bs. refused_sound (NoProcess i) [] tt;
    item = λ i g first b bs rest h. onward_sound i g b bs (look_by access rows i g first b bs) rest (look_right access rows i g first b bs) h;
    done = λ i. record { stand = tt; matched = tt; complete = λ _. refl; items = tt; granted = tt };
    more = λ i b bs. refused_sound (extra i) [] tt;
  }

-- a value that a row of the rules admits has at most 24 bytes
sized : (bs : List ℕ) (width : ℕ) (b : Bool) → width ≤ 24 → (eqb (length bs) width && b) ≡ true → length bs ≤ 24
sized bs width b l e = let n = eqb-true (length bs) width (and_parts (eqb (length bs) width) b e).0 in omega arith

pub text_size : (n : ℕ) (text : List ℕ) → kind_ruled (Text n) text ≡ true → n ≤ 24
text_size n text k = leb-true n 24 (and_parts (leb n 24) (eqb (length text) n) (and_parts (leb 1 n) (leb n 24 && eqb (length text) n) k).1).0

admitted_short : (kind : Kind) (text v : List ℕ) → kind_ruled kind text ≡ true → admitted kind v ≡ true → length v ≤ 24
admitted_short (Char r) text v k e = sized v 1 (between char r.least r.greatest (char.reads v)) (omega arith) e
admitted_short (Integer r) text v k e = sized v 2 (between integer r.least r.greatest (integer.reads v)) (omega arith) e
admitted_short (Long r) text v k e = sized v 4 (between long r.least r.greatest (long.reads v)) (omega arith) e
admitted_short (Float r) text v k e = sized v 4 (between float r.least r.greatest (float.reads v)) (omega arith) e
admitted_short (Text n) text v k e =
    let l = text_size n text k in
    let s = eqb-true (length v) n e in omega arith
admitted_short OpenText text v k e = leb-true (length v) 24 (and_parts (leb (length v) 24) (no_zero v) e).0

pub kind_ruled_lem : (r : PlainRow) → keeps_rules r ≡ true → kind_ruled r.kind r.text ≡ true
kind_ruled_lem r e =
    let k : Bool = kind_ruled r.kind r.text && feed_ruled r.kind r.feed r.flow in
    let m : Bool = (r.readable || r.writable) && k in
    let a = (and_parts (leb r.process 127) (leb r.parameter 31 && m) e).1 in
    let b = (and_parts (leb r.parameter 31) m a).1 in
    let c = (and_parts (r.readable || r.writable) k b).1 in
    (and_parts (kind_ruled r.kind r.text) (feed_ruled r.kind r.feed r.flow) c).0

repeated_short : (o : Option ℕ) (x : ℕ) → length (group_byte o ++ x ∷ []) ≤ 24
repeated_short None x = omega arith
repeated_short (Some g) x = omega arith

carried_short : (access : Access) (rows : List PlainRow) (limits : List ℕ) → Ruled rows limits → (x : PlainItem) → Granted access rows x → length (carried x) ≤ 24
carried_short (Write unlocked) rows limits t (write r i v) h =
    admitted_short (row_at rows r).kind (row_at rows r).text v (kind_ruled_lem (row_at rows r) (row_ruled rows t.lawful r)) h.2
carried_short (Write unlocked) rows limits t (read q) h = absurd h
carried_short Read rows limits t (write r i v) h = absurd h
carried_short Read rows limits t (read q) h = repeated_short q.group q.index

pub rows_found_stand : RowsFoundStand
rows_found_stand access rows bs =
    let w = walk_by_lem (opens_by access rows) (look_by access rows) (λ i a bs w. Sound access rows w) (sound access rows) 1 Group 0 bs in
    record {
      rows_stand = w.stand;
      for_found = w.matched;
      all_taken = w.complete;
      items_stand = w.items;
      granted = w.granted;
      short = λ limits t. All-weaker (Granted access rows) (λ x. length (carried x) ≤ 24) (carried_short access rows limits t) (chain_by access rows bs).items w.granted;
      octets = items_octets access rows bs;
    }
