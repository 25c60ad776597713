-- The numbers of the rows, with the items of a write laid over them.
use Rattle.std.proofs.Common.{◌≡◌, ℕ, ◌<◌, Bool, true, false, cond, eqb, List, [], ◌∷◌, length, get_or, set, Some, None, unwrap_or, sym, refl, ap, ◌∙◌, ⊎_elim, arith, length-set, get_or-set_other, get_or-set_same}
use Rattle.std.proofs.lemmas.Bool.{cases_Bool, eqb-true, eqb-false}
use Rattle.table.specs.Draws.{number_of}
use Rattle.chain.specs.Items.{PlainItem, write, read}
use Rattle.chain.specs.Answers.{Values}
use Rattle.chain.specs.Kept.{keep_item, keep_all, laid_over}
use Rattle.chain_laws.proofs.Keeping.{last_counts}
use Rattle.writing.specs.Numbers.{lay_numbers}

-- an item's number stands for its value
set_at : (ns : List ℕ) (h : Values) (r : ℕ) (v : List ℕ) (k : ℕ) → k < length ns → get_or ns k 0 ≡ number_of (h k) →
    get_or (set ns r (number_of v)) k 0 ≡ number_of (unwrap_or (cond (eqb k r) (Some v) None) (h k))
set_at ns h r v k l e =
    ⊎_elim
    (λ (b : eqb k r ≡ true).
    let q : k ≡ r = eqb-true k r b in
    let m : r < length ns = omega arith in
    ap (λ (j : ℕ). get_or (set ns r (number_of v)) j 0) q ∙ get_or-set_same ns r (number_of v) 0 m
    ∙ sym (ap (λ (t : Bool). number_of (unwrap_or (cond t (Some v) None) (h k))) b))
    (λ (b : eqb k r ≡ false).
    get_or-set_other ns r k (number_of v) 0 (eqb-false k r b) ∙ e
    ∙ sym (ap (λ (t : Bool). number_of (unwrap_or (cond t (Some v) None) (h k))) b)) (cases_Bool (eqb k r))

kept_numbers : (items : List PlainItem) (ns : List ℕ) (h : Values) (k : ℕ) → k < length ns → get_or ns k 0 ≡ number_of (h k) →
    get_or (lay_numbers items ns) k 0 ≡ number_of (keep_all items h k)
kept_numbers [] ns h k l e = e
kept_numbers (write r i v ∷ items) ns h k l e =
    kept_numbers items (set ns r (number_of v)) (keep_item (write r i v) h) k (omega (arith, length-set ns r (number_of v))) (set_at ns h r v k l e)
kept_numbers (read q ∷ items) ns h k l e = kept_numbers items ns (keep_item (read q) h) k l e

-- each row counts once, at its last value in the message
pub laid_numbers : (items : List PlainItem) (ns : List ℕ) (h : Values) (k : ℕ) → k < length ns → get_or ns k 0 ≡ number_of (h k) →
    get_or (lay_numbers items ns) k 0 ≡ number_of (laid_over items h k)
laid_numbers items ns h k l e = kept_numbers items ns h k l e ∙ ap number_of (last_counts items h k)

pub laid_length : (items : List PlainItem) (ns : List ℕ) → length (lay_numbers items ns) ≡ length ns
laid_length [] ns = refl
laid_length (write r i v ∷ items) ns = laid_length items (set ns r (number_of v)) ∙ length-set ns r (number_of v)
laid_length (read q ∷ items) ns = laid_length items ns
