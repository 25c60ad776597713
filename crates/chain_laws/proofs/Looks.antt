-- What is seen at an item's first byte.
use Rattle.std.proofs.Common.{◌≡◌, ℕ, ◌+◌, ◌<◌, ◌≤◌, Bool, true, false, cond, not, ◌&&◌, eqb, leb, List, [], ◌∷◌, length, Some, None, Ok, Err, Option, Result, sym, refl, ap, ◌∙◌, ⊎_elim, arith}
use Rattle.std.proofs.lemmas.Bool.{cases_Bool, cond-true, cond-false, cond_both, and_parts, not-true, both_ways}
use Rattle.value.specs.Values.{Bytes}
use Rattle.table.specs.Rows.{PlainRow, has_pair}
use Rattle.table.specs.Draws.{row_at}
use Rattle.table.specs.Tables.{place_from, place, has_process}
use Rattle.chain.specs.declared.access.Access.{Access}
use Rattle.chain.specs.declared.access.Access.TheVariants.{Write, Read}
use Rattle.chain.specs.declared.fault.RackFault.{RackFault}
use Rattle.chain.specs.declared.fault.RackFault.TheVariants.{NoProcess, NoParameter, WrongType, NotWritable, Secured, NotReadable}
use Rattle.chain.specs.Faults.{rack_place, top_bit}
use Rattle.chain.specs.Items.{PlainItem, read, row_of, place_of}
use Rattle.chain.specs.Values.{type_bits, value_at, length_at}
use Rattle.chain.specs.Walks.{Verdict, barred, spoiled, taken, Look, unfound, on_row}
use Rattle.chain.specs.Chains.{process_of, parameter_of, type_of, on_found, value_taken, write_of, query, length_taken, read_of, read_on, look_by}
use Rattle.chain_laws.specs.Rows.{Granted, carried}
use Rattle.chain_laws.proofs.Values.{is_secured, Within, ValueRight, value_right, LengthRight, length_right}

-- an item that is taken on the row r: its row and its place, that the row grants it, and that of bytes it carries bytes
pub record Taken (access : Access) (rows : List PlainRow) (i g b : ℕ) (bs : List ℕ) (r : ℕ) (x : PlainItem) : Type 0 where
  pub row : row_of x ≡ r
  pub place : place_of x ≡ i
  pub granted : Granted access rows x
  pub octets : g < 256 → b < 256 → Bytes bs → Bytes (carried x)

module _ (access : Access) (rows : List PlainRow) (i g b : ℕ) (bs : List ℕ) where
  -- what is seen at the byte b at i, in the group of g, before bs: a fault lies there or behind, and behind where the value or the
  -- length is at fault; it is that of a locked row only in a write while rows are locked
  abbrev pub Right : Look → Type 0
  Right (unfound f) = Within i (i + 1 + length bs) f
  Right (on_row r (barred f)) = (r < length rows) × (i ≤ rack_place f) × (rack_place f ≤ i + 1 + length bs) × (is_secured f ≡ true → access ≡ Write false)
  Right (on_row r (spoiled f)) = (r < length rows) × Within (i + 1) (i + 1 + length bs) f
  Right (on_row r (taken x k)) = (r < length rows) × Taken access rows i g b bs r x

-- a row that is found stands in the table
place_below : (i p q : ℕ) (rows : List PlainRow) (k : ℕ) → place_from i p q rows ≡ Some k → k < i + length rows
place_below i p q [] k e = let z : ◌≡◌ {A = ℕ} 0 1 = cc in absurd (omega arith)
place_below i p q (r ∷ rs) k e =
    ⊎_elim
    (λ (b : has_pair p q r ≡ true).
    let f = sym (cond-true (has_pair p q r) (Some i) (place_from (i + 1) p q rs) b) ∙ e in
    let g : i ≡ k = cc in omega arith)
    (λ (b : has_pair p q r ≡ false).
    let f = place_below (i + 1) p q rs k (sym (cond-false (has_pair p q r) (Some i) (place_from (i + 1) p q rs) b) ∙ e) in omega arith)
    (cases_Bool (has_pair p q r))

found_right : (access : Access) (rows : List PlainRow) (i g b : ℕ) (bs : List ℕ) (p q : ℕ) (f : RackFault) (verdict : ℕ → Verdict) → Within i (i + 1 + length bs) f →
    ((r : ℕ) → r < length rows → Right access rows i g b bs (on_row r (verdict r))) →
    (o : Option ℕ) → place p q rows ≡ o → Right access rows i g b bs (on_found o f verdict)
found_right access rows i g b bs p q f verdict l v None e = l
found_right access rows i g b bs p q f verdict l v (Some r) e = v r (let k = place_below 0 p q rows r e in omega arith)

-- a write
module _ (unlocked : Bool) (rows : List PlainRow) (i g q : ℕ) (bs : List ℕ) (r : ℕ) (l : r < length rows) where
  taken-value : (v : Result (List ℕ × ℕ) RackFault) → (row_at rows r).writable ≡ true → (not unlocked && (row_at rows r).secured) ≡ false →
      ValueRight (row_at rows r).kind (i + 1) bs v → Right (Write unlocked) rows i g q bs (on_row r (value_taken r i v))
  taken-value (Ok p) w s h = (
    l,
    record {
      row = refl;
      place = refl;
      granted = (w, (λ u. sym (ap (λ (b : Bool). not b && (row_at rows r).secured) u) ∙ s), h.0);
      octets = λ _ _. h.1;
    },
  )
  taken-value (Err f) w s h = (l, h)

  write_right : Right (Write unlocked) rows i g q bs (on_row r (write_of unlocked (row_at rows r) r i q bs))
  write_right =
      let value : Verdict = value_taken r i (value_at (row_at rows r).kind (i + 1) bs) in
      let allowed : Verdict = cond (not unlocked && (row_at rows r).secured) (barred (Secured i)) value in
      let Fine : Verdict → Type 0 = λ v. Right (Write unlocked) rows i g q bs (on_row r v) in
      cond_both (eqb (type_of q) (type_bits (row_at rows r).kind)) (cond (row_at rows r).writable allowed (barred (NotWritable i))) (barred (WrongType i)) Fine
      (λ _. cond_both (row_at rows r).writable allowed (barred (NotWritable i)) Fine
      (λ w. cond_both (not unlocked && (row_at rows r).secured) (barred (Secured i)) value Fine (λ n. (l, omega arith, omega arith, λ _. ap Write (not-true unlocked (and_parts (not unlocked) (row_at rows r).secured n).0)))
      (λ s. taken-value (value_at (row_at rows r).kind (i + 1) bs) w s (value_right (row_at rows r).kind (i + 1) bs)))
      (λ _. (l, omega arith, omega arith, λ n. absurd (both_ways false refl n))))
      (λ _. (l, omega arith, omega arith, λ n. absurd (both_ways false refl n)))

-- a read
query_octets : (r i g : ℕ) (first : Bool) (x : ℕ) → g < 256 → x < 256 → Bytes (carried (read (query r i g first x)))
query_octets r i g true x l m = (l, (m, tt))
query_octets r i g false x l m = (m, tt)

module _ (rows : List PlainRow) (i g : ℕ) (first : Bool) (x p q : ℕ) (bs : List ℕ) (r : ℕ) (l : r < length rows) where
  taken-length : (v : Result ℕ RackFault) → (row_at rows r).readable ≡ true → LengthRight (i + 3) bs v →
      Right Read rows i g x (p ∷ q ∷ bs) (on_row r (length_taken (query r i g first x) v))
  taken-length (Ok k) e h = (l, record { row = refl; place = refl; granted = e; octets = λ m n _. query_octets r i g first x m n })
  taken-length (Err f) e h = (l, (omega (arith, h.0), omega (arith, h.1), h.2))

  read_right : Right Read rows i g x (p ∷ q ∷ bs) (on_row r (read_of (row_at rows r) r i g first x q bs))
  read_right =
      let asked : Verdict = length_taken (query r i g first x) (length_at (row_at rows r).kind (i + 3) bs) in
      let Fine : Verdict → Type 0 = λ v. Right Read rows i g x (p ∷ q ∷ bs) (on_row r v) in
      cond_both (eqb (type_of q) (type_bits (row_at rows r).kind) && eqb (type_of x) (type_of q)) (cond (row_at rows r).readable asked (barred (NotReadable (i + 2)))) (barred (WrongType (i + 2))) Fine
      (λ _. cond_both (row_at rows r).readable asked (barred (NotReadable (i + 2))) Fine
      (λ e. taken-length (length_at (row_at rows r).kind (i + 3) bs) e (length_right (row_at rows r).kind (i + 3) bs))
      (λ _. (l, omega arith, omega arith, λ n. absurd (both_ways false refl n))))
      (λ _. (l, omega arith, omega arith, λ n. absurd (both_ways false refl n)))

read_on_right : (rows : List PlainRow) (i g : ℕ) (first : Bool) (x p : ℕ) (bs : List ℕ) → Right Read rows i g x (p ∷ bs) (read_on rows i g first x p bs)
read_on_right rows i g first x p [] = (omega arith, omega arith, refl)
read_on_right rows i g first x p (q ∷ bs) =
    cond_both (leb 128 q) (unfound (top_bit (i + 2))) (on_found (place p (parameter_of q) rows) (NoParameter (i + 2)) (λ r. read_of (row_at rows r) r i g first x q bs))
    (Right Read rows i g x (p ∷ q ∷ bs)) (λ _. (omega arith, omega arith, refl))
    (λ _. found_right Read rows i g x (p ∷ q ∷ bs) p (parameter_of q) (NoParameter (i + 2)) (λ r. read_of (row_at rows r) r i g first x q bs) (omega arith, omega arith, refl)
    (λ r l. read_right rows i g first x p q bs r l) (place p (parameter_of q) rows) refl)

pub look_right : (access : Access) (rows : List PlainRow) (i g : ℕ) (first : Bool) (b : ℕ) (bs : List ℕ) → Right access rows i g b bs (look_by access rows i g first b bs)
look_right (Write unlocked) rows i g first q bs =
    found_right (Write unlocked) rows i g q bs (process_of g) (parameter_of q) (NoParameter i) (λ r. write_of unlocked (row_at rows r) r i q bs) (omega arith, omega arith, refl)
    (λ r l. write_right unlocked rows i g q bs r l) (place (process_of g) (parameter_of q) rows) refl
look_right Read rows i g first x [] = (omega arith, omega arith, refl)
look_right Read rows i g first x (p ∷ bs) =
    cond_both (leb 128 p) (unfound (top_bit (i + 1))) (cond (has_process p rows) (read_on rows i g first x p bs) (unfound (NoProcess (i + 1))))
    (Right Read rows i g x (p ∷ bs)) (λ _. (omega arith, omega arith, refl))
    (λ _. cond_both (has_process p rows) (read_on rows i g first x p bs) (unfound (NoProcess (i + 1))) (Right Read rows i g x (p ∷ bs))
    (λ _. read_on_right rows i g first x p bs) (λ _. (omega arith, omega arith, refl)))
