-- The entries of writes.
use Rattle.std.proofs.Common.{◌≡◌, ℕ, ◌+◌, ◌%◌, true, eqb, List, ◌++◌, length, drop, Some, Ok, Err, Result, sym, refl, ap, ◌∙◌, subst, arith}
use Rattle.std.proofs.lemmas.Bool.{eq-eqb, eqb-true}
use Rattle.table.specs.declared.Kind.{Kind}
use Rattle.table.specs.Rows.{PlainRow}
use Rattle.table.specs.Draws.{row_at}
use Rattle.table.specs.Tables.{place, has_process}
use Rattle.chain.specs.declared.access.Access.TheVariants.{Write}
use Rattle.chain.specs.declared.fault.RackFault.{RackFault}
use Rattle.chain.specs.Items.{PlainItem, write}
use Rattle.chain.specs.Values.{type_bits, in_chain, value_at}
use Rattle.chain.specs.Walks.{taken, on_row}
use Rattle.chain.specs.Chains.{process_of, parameter_of, type_of, value_taken, write_at, opens_by}
use Rattle.chain_format.specs.Entries.{WriteEntry, MayWrite, write_entries}
use Rattle.chain_format.specs.Format.{WritesTakenApart, WritesLaidDown}
use Rattle.chain_format.proofs.Seen.{Seen}
use Rattle.chain_format.proofs.Taking.{taken-apart}
use Rattle.chain_format.proofs.Laying.{laid_down_lem}
use Rattle.chain_format.proofs.Refuted.{first_is, barred_taken, spoiled_taken, on_found_lem}
use Rattle.chain_format.proofs.LowBits.{process_low, type_small, low_bits, parameter_small, made_of}
use Rattle.chain_format.proofs.FoundRows.{found_process, found_pair}
use Rattle.chain_format.proofs.ValueBytes.{value_taken_lem, value_front}

-- a value that is taken was read
value_read : (r i : ℕ) (v : Result (List ℕ × ℕ) RackFault) (y : PlainItem) (k : ℕ) → value_taken r i v ≡ taken y k → (p : List ℕ × ℕ) × (v ≡ Ok p) × (p.1 ≡ k)
value_read r i (Ok p) y k e = (p, refl, cc)
value_read r i (Err f) y k e = absurd (spoiled_taken f y k e)

module _ (rows : List PlainRow) where
  takes : (i g b : ℕ) (x : WriteEntry) (rest : List ℕ) → MayWrite rows (g % 128) x → b % 128 ≡ type_bits (row_at rows x.row).kind + (row_at rows x.row).parameter →
      write_at true rows i g true b (in_chain (row_at rows x.row).kind x.value ++ rest) ≡
      on_row x.row (taken (write x.row i x.value) (length (in_chain (row_at rows x.row).kind x.value)))
  takes i g b x rest f m =
      let row : PlainRow = row_at rows x.row in
      let bs : List ℕ = in_chain row.kind x.value ++ rest in
      let bits = low_bits b row.kind row.parameter m f.five_bits in
      let o : place (process_of g) (parameter_of b) rows ≡ Some x.row =
      ap (λ (p : ℕ). place p (parameter_of b) rows) (process_low g) ∙ ap (λ (q : ℕ). place (g % 128) q rows) bits.0 ∙ f.found in
      let t : eqb (type_of b) (type_bits row.kind) ≡ true = eq-eqb _ _ bits.1 in
      let w : row.writable ≡ true = f.writable in
      let v : value_at row.kind (i + 1) bs ≡ Ok (x.value, length (in_chain row.kind x.value)) = value_taken_lem row.kind (i + 1) x.value rest f.admits in
      rw (o, t, w, v)

  stood : (i g b : ℕ) (bs : List ℕ) (r : ℕ) (y : PlainItem) (k : ℕ) → write_at true rows i g true b bs ≡ on_row r (taken y k) →
      (x : WriteEntry) × MayWrite rows (g % 128) x × (b % 128 ≡ type_bits (row_at rows x.row).kind + (row_at rows x.row).parameter) ×
      (in_chain (row_at rows x.row).kind x.value ++ drop k bs ≡ bs)
  stood i g b bs r y k e =
      let kind : Kind = (row_at rows r).kind in
      let o = on_found_lem _ _ _ r (taken y k) e in
      let t = first_is _ _ _ _ (barred_taken _ y k) o.1 in
      let w = first_is _ _ _ _ (barred_taken _ y k) t.1 in
      let v = value_read r i (value_at kind (i + 1) bs) y k w.1 in
      let a = value_front kind (i + 1) bs v.0 v.1 in
      let q : (row_at rows r).parameter ≡ parameter_of b = (found_pair (process_of g) (parameter_of b) rows r o.0).1 in
      let found : place (g % 128) (row_at rows r).parameter rows ≡ Some r =
      ap (λ (p : ℕ). place p (row_at rows r).parameter rows) (sym (process_low g)) ∙ ap (λ (q : ℕ). place (process_of g) q rows) q ∙ o.0 in
      let kd : type_of b ≡ type_bits kind = eqb-true _ _ t.0 in (
        record { row = r; value = v.0.0 },
        record { found = found; five_bits = omega (arith, parameter_small b); writable = w.0; admits = a.1 },
        omega (arith, made_of b),
        subst (λ (n : ℕ). in_chain kind v.0.0 ++ drop n bs ≡ bs) v.2 a.0,
      )

  pub writes_seen : Seen (write_entries rows) (opens_by (Write true) rows) (write_at true rows)
  writes_seen = record {
    small = λ p x f. type_small (row_at rows x.row).kind (row_at rows x.row).parameter f.five_bits;
    opened = λ g x f. ap (λ (p : ℕ). has_process p rows) (process_low g) ∙ found_process (g % 128) (row_at rows x.row).parameter rows x.row f.found;
    placed = λ i g first b x. refl;
    takes = λ i g first b x rest f m. takes i g b x rest f m;
    stood = λ i g first b bs r y k e. stood i g b bs r y k e;
  }

pub writes_taken_apart : WritesTakenApart
writes_taken_apart rows = taken-apart (write_entries rows) (opens_by (Write true) rows) (write_at true rows) (writes_seen rows)

pub writes_laid_down : WritesLaidDown
writes_laid_down rows = laid_down_lem (write_entries rows) (opens_by (Write true) rows) (write_at true rows) (writes_seen rows)
