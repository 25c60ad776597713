-- Laying defaults over the values of a store, row by row.
use Rattle.std.proofs.Common.{◌≡◌, ℕ, zero, suc, ◌+◌, ◌<◌, ◌≤◌, Bool, true, false, cond, ltb, List, [], ◌∷◌, ◌++◌, map, length, get_or, take, drop, set, Option, Some, None, sym, refl, ap, ◌∙◌, ⊎_elim, add-one, arith, lt-ltb, le-leb}
use Rattle.std.proofs.lemmas.Bool.{cases_Bool, cond-true, cond-false, ltb-true, ltb-false}
use Rattle.std.specs.Option.{option_map}
use Rattle.value.specs.declared.Value.{Value}
use Rattle.value.specs.Values.{bytes_of}
use Rattle.table.specs.Rows.{PlainRow}
use Rattle.table.specs.Draws.{default_bytes, defaults}
use Rattle.store.specs.Held.{held_after}
use Rattle.promises.specs.Stored.{values_in}
use Rattle.defaults.specs.Kept.{new_held, DefaultsKept}

-- the defaults of the rows before i, and behind them what was held
abbrev pub laid : List PlainRow → ℕ → List (List ℕ) → List (List ℕ)
laid rows i held = take i (map default_bytes rows) ++ drop i held

set-one : (rows : List PlainRow) (held : List (List ℕ)) (i : ℕ) → i < length rows → i < length held →
    set (laid rows i held) i (defaults rows i) ≡ laid rows (suc i) held
set-one [] held i l m = absurd (omega arith)
set-one (r ∷ rows) [] i l m = absurd (omega arith)
set-one (r ∷ rows) (h ∷ held) zero l m = refl
set-one (r ∷ rows) (h ∷ held) (suc i) l m = ap (λ (xs : List (List ℕ)). default_bytes r ∷ xs) (set-one rows held i (omega arith) (omega arith))

-- the default that is looked up at a row that stands
pub default_taken : (b : Bool) (bytes : List ℕ) (o : Option Value) (v : Value) → b ≡ true → option_map bytes_of o ≡ cond b (Some bytes) None → o ≡ Some v → bytes_of v ≡ bytes
default_taken b bytes o v t e q = let s : Some bytes ≡ Some (bytes_of v) = sym (cond-true b (Some bytes) None t) ∙ sym e ∙ ap (option_map bytes_of) q in cc

-- a turn: the default of row i is kept
pub keep_one : (rows : List PlainRow) (held now after : List (List ℕ)) (i : ℕ) (slice : List ℕ) → i < length rows → length rows ≤ 128 → length held ≡ 128 →
    slice ≡ defaults rows i → length slice ≤ 24 → now ≡ laid rows i held → after ≡ held_after now i slice → after ≡ laid rows (i + 1) held
keep_one rows held now after i slice l few size d short n a =
    let r = lt-ltb i 128 (omega arith) in
    let f = le-leb (length slice) 24 short in
    let k : after ≡ set now i slice = a ∙ simp (r, f) in
    k ∙ ap (λ (xs : List (List ℕ)). set xs i slice) n ∙ ap (set (laid rows i held) i) d ∙ set-one rows held i l (omega arith)
    ∙ ap (λ (m : ℕ). laid rows m held) (sym (add-one i))

-- at the end all defaults are kept
take_rows : (rows : List PlainRow) → take (length rows) (map default_bytes rows) ≡ map default_bytes rows
take_rows [] = refl
take_rows (r ∷ rows) = ap (λ (xs : List (List ℕ)). default_bytes r ∷ xs) (take_rows rows)

pub laid_all : (rows : List PlainRow) (held : List (List ℕ)) (i : ℕ) → i ≡ length rows → laid rows i held ≡ new_held rows held
laid_all rows held i e =
    ap (λ (m : ℕ). laid rows m held) e ∙ ap (λ (xs : List (List ℕ)). xs ++ drop (length rows) held) (take_rows rows)

-- place by place
at_row : (rows : List PlainRow) (held : List (List ℕ)) (r : ℕ) → r < length rows → get_or (map default_bytes rows ++ held) r [] ≡ defaults rows r
at_row [] held r l = absurd (omega arith)
at_row (x ∷ rows) held zero l = refl
at_row (x ∷ rows) held (suc r) l = at_row rows held r (omega arith)

past_all : (rows : List PlainRow) (r : ℕ) → length rows ≤ r → get_or (map default_bytes rows ++ []) r [] ≡ []
past_all [] r l = refl
past_all (x ∷ rows) zero l = absurd (omega arith)
past_all (x ∷ rows) (suc r) l = past_all rows r (omega arith)

past_rows : (rows : List PlainRow) (held : List (List ℕ)) (r : ℕ) → length rows ≤ r → get_or (new_held rows held) r [] ≡ get_or held r []
past_rows [] held r l = refl
past_rows (x ∷ rows) held zero l = absurd (omega arith)
past_rows (x ∷ rows) [] (suc r) l = past_all rows r (omega arith)
past_rows (x ∷ rows) (h ∷ held) (suc r) l = past_rows rows held r (omega arith)

pub new_kept : (rows : List PlainRow) (held after : List (List ℕ)) → after ≡ new_held rows held → DefaultsKept rows (values_in held) (values_in after)
new_kept rows held after e r =
    ap (λ (xs : List (List ℕ)). get_or xs r []) e
    ∙ ⊎_elim
    (λ (b : ltb r (length rows) ≡ true).
    at_row rows (drop (length rows) held) r (ltb-true r (length rows) b) ∙ sym (cond-true (ltb r (length rows)) (defaults rows r) (get_or held r []) b))
    (λ (b : ltb r (length rows) ≡ false).
    past_rows rows held r (ltb-false r (length rows) b) ∙ sym (cond-false (ltb r (length rows)) (defaults rows r) (get_or held r []) b))
    (cases_Bool (ltb r (length rows)))
