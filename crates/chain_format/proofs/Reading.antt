-- The entries of reads.
use Rattle.std.proofs.Common.{◌≡◌, ℕ, suc, ◌+◌, ◌%◌, ◌<◌, ◌≤◌, Bool, true, false, ◌&&◌, eqb, leb, List, [], ◌∷◌, ◌++◌, length, drop, Some, Ok, Err, Result, sym, refl, ap, ◌∙◌, arith}
use Rattle.std.proofs.lemmas.Bool.{eq-eqb, eqb-true, lt-leb, leb-false, and_parts, and_from}
use Rattle.table.specs.declared.Kind.{Kind}
use Rattle.table.specs.Rows.{PlainRow}
use Rattle.table.specs.Draws.{row_at}
use Rattle.table.specs.Tables.{place, has_process}
use Rattle.chain.specs.declared.access.Access.TheVariants.{Read}
use Rattle.chain.specs.declared.fault.RackFault.{RackFault}
use Rattle.chain.specs.declared.fault.RackFault.TheVariants.{NoProcess}
use Rattle.chain.specs.declared.item.Query.{Query}
use Rattle.chain.specs.Faults.{missing, top_bit}
use Rattle.chain.specs.Items.{PlainItem, read}
use Rattle.chain.specs.Values.{type_bits, length_at}
use Rattle.chain.specs.Walks.{taken, on_row}
use Rattle.chain.specs.Chains.{parameter_of, type_of, query, length_taken, read_at, opens_by}
use Rattle.chain_format.specs.Entries.{ReadEntry, parameter_byte, length_byte, MayRead, read_entries}
use Rattle.chain_format.specs.Format.{ReadsTakenApart, ReadsLaidDown}
use Rattle.chain_format.proofs.Seen.{Seen}
use Rattle.chain_format.proofs.Taking.{taken-apart}
use Rattle.chain_format.proofs.Laying.{laid_down_lem}
use Rattle.chain_format.proofs.Refuted.{first_is, second_is, barred_taken, spoiled_taken, unfound_row, on_found_lem}
use Rattle.chain_format.proofs.LowBits.{type_small, low_bits, parameter_small, made_of}
use Rattle.chain_format.proofs.FoundRows.{found_process, found_pair}
use Rattle.chain_format.proofs.ValueBytes.{length_taken_lem, length_front}

-- a length that is taken was read
length_read : (q : Query) (v : Result ℕ RackFault) (y : PlainItem) (k : ℕ) → length_taken q v ≡ taken y k → (n : ℕ) × (v ≡ Ok n) × (n + 2 ≡ k)
length_read q (Ok n) y k e = (n, refl, cc)
length_read q (Err f) y k e = absurd (spoiled_taken f y k e)

-- a byte without its top bit
low_mod : (b : ℕ) → b ≤ 127 → b % 128 ≡ b
low_mod b l = omega arith

module _ (rows : List PlainRow) where
  -- the bytes behind an index byte
  abbrev behind : ReadEntry → List ℕ
  behind x = (row_at rows x.row).process ∷ parameter_byte (row_at rows x.row) ∷ length_byte (row_at rows x.row).kind

  takes : (i g : ℕ) (first : Bool) (b : ℕ) (x : ReadEntry) (rest : List ℕ) → MayRead rows x → b % 128 ≡ type_bits (row_at rows x.row).kind + x.index →
      read_at rows i g first b (behind x ++ rest) ≡ on_row x.row (taken (read (query x.row i g first b)) (length (behind x)))
  takes i g first b x rest f m =
      let row : PlainRow = row_at rows x.row in
      let kind : Kind = row.kind in
      let p : ℕ = row.process in
      let q : ℕ = parameter_byte row in
      let n : length (length_byte (row_at rows x.row).kind) + 2 ≡ suc (suc (length (length_byte (row_at rows x.row).kind))) = omega arith in
      let ps : (row_at rows x.row).process ≤ 127 = f.seven_bits in
      let pl : leb 128 (row_at rows x.row).process ≡ false = lt-leb _ _ (omega arith) in
      let qs : parameter_byte (row_at rows x.row) ≤ 127 = type_small kind row.parameter f.five_bits in
      let ql : leb 128 (parameter_byte (row_at rows x.row)) ≡ false = lt-leb _ _ (omega arith) in
      let hp : has_process p rows ≡ true = found_process p row.parameter rows x.row f.found in
      let qbits = low_bits q kind row.parameter (low_mod q qs) f.five_bits in
      let bbits = low_bits b kind x.index m f.free in
      let o : place p (parameter_of q) rows ≡ Some x.row = ap (λ (y : ℕ). place p y rows) qbits.0 ∙ f.found in
      let t : (eqb (type_of q) (type_bits kind) && eqb (type_of b) (type_of q)) ≡ true = and_from _ _ (eq-eqb _ _ qbits.1) (eq-eqb _ _ (bbits.1 ∙ sym qbits.1)) in
      let w : row.readable ≡ true = f.readable in
      let v : length_at kind (i + 3) (length_byte kind ++ rest) ≡ Ok (length (length_byte kind)) = length_taken_lem kind (i + 3) rest in
      rw (pl, hp, ql, o, t, w, v, n)

  stood : (i g : ℕ) (first : Bool) (b : ℕ) (bs : List ℕ) (r : ℕ) (y : PlainItem) (k : ℕ) → read_at rows i g first b bs ≡ on_row r (taken y k) →
      (x : ReadEntry) × MayRead rows x × (b % 128 ≡ type_bits (row_at rows x.row).kind + x.index) × (behind x ++ drop k bs ≡ bs)
  stood i g first b [] r y k e = absurd (unfound_row _ r (taken y k) e)
  stood i g first b (p ∷ []) r y k e =
      let a = second_is (leb 128 p) _ _ _ (unfound_row (top_bit (i + 1)) r (taken y k)) e in
      let h = first_is (has_process p rows) _ _ _ (unfound_row (NoProcess (i + 1)) r (taken y k)) a.1 in
      absurd (unfound_row (missing (i + 2)) r (taken y k) h.1)
  stood i g first b (p ∷ q ∷ bs) r y k e =
      let kind : Kind = (row_at rows r).kind in
      let a = second_is _ _ _ _ (unfound_row _ r (taken y k)) e in
      let h = first_is _ _ _ _ (unfound_row _ r (taken y k)) a.1 in
      let c = second_is _ _ _ _ (unfound_row _ r (taken y k)) h.1 in
      let o = on_found_lem _ _ _ r (taken y k) c.1 in
      let t = first_is _ _ _ _ (barred_taken _ y k) o.1 in
      let w = first_is _ _ _ _ (barred_taken _ y k) t.1 in
      let v = length_read (query r i g first b) (length_at kind (i + 3) bs) y k w.1 in
      laid i g first b p q bs r k a.0 c.0 o.0 t.0 w.0 v.0 v.2 (length_front kind (i + 3) bs v.0 v.1)
    where
      laid : (i g : ℕ) (first : Bool) (b p q : ℕ) (bs : List ℕ) (r k : ℕ) → leb 128 p ≡ false → leb 128 q ≡ false → place p (parameter_of q) rows ≡ Some r →
          (eqb (type_of q) (type_bits (row_at rows r).kind) && eqb (type_of b) (type_of q)) ≡ true → (row_at rows r).readable ≡ true →
          (n : ℕ) → n + 2 ≡ k → length_byte (row_at rows r).kind ++ drop n bs ≡ bs →
          (x : ReadEntry) × MayRead rows x × (b % 128 ≡ type_bits (row_at rows x.row).kind + x.index) × (behind x ++ drop k (p ∷ q ∷ bs) ≡ p ∷ q ∷ bs)
      laid i g first b p q bs r k a c o t w n nk l =
          let row : PlainRow = row_at rows r in
          let pl : p < 128 = leb-false 128 p a in
          let ql : q < 128 = leb-false 128 q c in
          let z = and_parts (eqb (type_of q) (type_bits row.kind)) (eqb (type_of b) (type_of q)) t in
          let tq : type_of q ≡ type_bits (row_at rows r).kind = eqb-true _ _ z.0 in
          let tb : type_of b ≡ type_of q = eqb-true _ _ z.1 in
          let pair = found_pair p (parameter_of q) rows r o in
          let pe : (row_at rows r).process ≡ p = pair.0 in
          let qe : (row_at rows r).parameter ≡ parameter_of q = pair.1 in
          let qs : parameter_of q ≤ 31 = parameter_small q in
          let bm : b % 128 ≡ type_of b + parameter_of b = made_of b in
          let qm : q % 128 ≡ type_of q + parameter_of q = made_of q in
          let qb : type_bits (row_at rows r).kind + (row_at rows r).parameter ≡ q = omega arith in
          let ke : k ≡ suc (suc n) = omega arith in
          let x : ReadEntry = record { row = r; index = parameter_of b } in (
            x,
            record {
              found = ap (λ (y : ℕ). place y row.parameter rows) pe ∙ ap (λ (y : ℕ). place p y rows) qe ∙ o;
              seven_bits = omega arith;
              five_bits = omega arith;
              free = parameter_small b;
              readable = w;
            },
            omega arith,
            ap (λ (m : ℕ). behind x ++ drop m (p ∷ q ∷ bs)) ke ∙ ap (λ (m : List ℕ). row.process ∷ parameter_byte row ∷ m) l ∙ ap (λ (m : ℕ). m ∷ parameter_byte row ∷ bs) pe ∙
                ap (λ (m : ℕ). p ∷ m ∷ bs) qb,
          )

  pub reads_seen : Seen (read_entries rows) (opens_by Read rows) (read_at rows)
  reads_seen = record {
    small = λ p x f. type_small (row_at rows x.row).kind x.index f.free;
    opened = λ g x f. refl;
    placed = λ i g first b x. refl;
    takes = λ i g first b x rest f m. takes i g first b x rest f m;
    stood = λ i g first b bs r y k e. stood i g first b bs r y k e;
  }

pub reads_taken_apart : ReadsTakenApart
reads_taken_apart rows = taken-apart (read_entries rows) (opens_by Read rows) (read_at rows) (reads_seen rows)

pub reads_laid_down : ReadsLaidDown
reads_laid_down rows = laid_down_lem (read_entries rows) (opens_by Read rows) (read_at rows) (reads_seen rows)
