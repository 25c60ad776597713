-- A row that is found has the process and the parameter that were looked for.
use Rattle.std.proofs.Common.{◌≡◌, ℕ, suc, ◌+◌, Bool, true, false, cond, eqb, List, [], ◌∷◌, Some, refl, ap, ◌∙◌, arith}
use Rattle.std.proofs.lemmas.Bool.{and_parts, eqb-true, or_left, or_right}
use Rattle.table.specs.Rows.{PlainRow, has_pair}
use Rattle.table.specs.Draws.{row_at}
use Rattle.table.specs.Tables.{place_from, place, has_process}
use Rattle.chain_format.proofs.Refuted.{none-some}

abbrev FoundFrom : ℕ → ℕ → ℕ → List PlainRow → ℕ → Type 0
FoundFrom i p q rows k = (j : ℕ) × (k ≡ i + j) × (has_pair p q (row_at rows j) ≡ true) × (has_process p rows ≡ true)

found_from : (i p q : ℕ) (rows : List PlainRow) (k : ℕ) → place_from i p q rows ≡ Some k → FoundFrom i p q rows k
found_from i p q [] k e = absurd (none-some k e)
found_from i p q (r ∷ rs) k e = by (has_pair p q r) refl (found_from (i + 1) p q rs k) e
  where
    by : (b : Bool) → has_pair p q r ≡ b → (place_from (i + 1) p q rs ≡ Some k → FoundFrom (i + 1) p q rs k) →
        cond b (Some i) (place_from (i + 1) p q rs) ≡ Some k → FoundFrom i p q (r ∷ rs) k
    by true h later e =
        let s : i ≡ k = cc in
        (0, omega arith, h, or_left (eqb r.process p) (has_process p rs) (and_parts (eqb r.process p) (eqb r.parameter q) h).0)
    by false h later e =
        let f = later e in
        let s : k ≡ i + 1 + f.0 = f.1 in
        (suc f.0, omega arith, f.2, or_right (eqb r.process p) (has_process p rs) f.3)

pub found_process : (p q : ℕ) (rows : List PlainRow) (k : ℕ) → place p q rows ≡ Some k → has_process p rows ≡ true
found_process p q rows k e = (found_from 0 p q rows k e).3

pub found_pair : (p q : ℕ) (rows : List PlainRow) (k : ℕ) → place p q rows ≡ Some k → ((row_at rows k).process ≡ p) × ((row_at rows k).parameter ≡ q)
found_pair p q rows k e =
    let f = found_from 0 p q rows k e in
    let s : k ≡ 0 + f.0 = f.1 in
    let z : k ≡ f.0 = omega arith in
    let h = and_parts (eqb (row_at rows f.0).process p) (eqb (row_at rows f.0).parameter q) f.2 in
    (ap (λ (x : ℕ). (row_at rows x).process) z ∙ eqb-true _ _ h.0, ap (λ (x : ℕ). (row_at rows x).parameter) z ∙ eqb-true _ _ h.1)
