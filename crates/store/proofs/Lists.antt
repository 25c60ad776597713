-- What a list holds after one of its places was set.
use Rattle.std.proofs.Common.{◌≡◌, ℕ, ◌<◌, cond, eqb, List, map, length, get_or, set, sym, ap, ◌∙◌, ⊎_elim, eq-eqb, ne_eqb}
use Rattle.std.proofs.lemmas.List.{get_or-set_same, get_or-set_other, map-set}
use Rattle.std.proofs.lemmas.Bool.{cases_eq}
use Rattle.value.specs.declared.Value.{Value}
use Rattle.value.specs.Values.{bytes_of}

pub get_or-set : {A : Type 0} (xs : List A) (i j : ℕ) (a d : A) → j < length xs → get_or (set xs i a) j d ≡ cond (eqb i j) a (get_or xs j d)
get_or-set xs i j a d h =
    ⊎_elim
    (λ (q : i ≡ j). ap (λ k. get_or (set xs k a) j d) q ∙ get_or-set_same xs j a d h ∙ sym (simp (eq-eqb i j q)))
    (λ (n : i ≡ j → ⊥). get_or-set_other xs i j a d (λ q. n (sym q)) ∙ sym (simp (ne_eqb i j n)))
    (cases_eq i j)

-- what the cells mean after a value was put into one
pub cell_kept : (cells : List Value) (row : ℕ) (v : Value) → map bytes_of (set cells row v) ≡ set (map bytes_of cells) row (bytes_of v)
cell_kept cells row v = map-set bytes_of cells row v
