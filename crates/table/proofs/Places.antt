-- Looking up rows: the loops, and what is found.
use Rattle.std.proofs.Common.{◌≡◌, ℕ, zero, suc, ◌+◌, ◌<◌, ◌≤◌, Bool, true, false, cond, not, ◌||◌, eqb, ltb, List, [], ◌∷◌, map, length, get_or, drop, is_some, Some, None, Option, sym, refl, ap, ◌∙◌, subst, ⊎_elim, arith, Bor}
use Rattle.std.proofs.lemmas.List.{drop_more, drop_all, length-map, get_or-map}
use Rattle.std.proofs.lemmas.Bool.{and_parts, and_from, or_parts, or_cases, eqb-true, eq-eqb, not-true, both_ways, cases_Bool, cond-true, cond-false, lt-ltb, le-ltb}
use Rattle.std.proofs.lemmas.Iterator.Adapters.{position_from-zero}
use Rattle.std.specs.Option.{option_map}
use Rattle.std.specs.List.{position, position_from, list_any}
use Rattle.std.specs.Slice.{IsGetResult}
use Rattle.table.specs.declared.Row.{Row}
use Rattle.table.specs.Rows.{PlainRow, plain, has_pair, reset_row}
use Rattle.table.specs.Draws.{row_at}
use Rattle.table.specs.Tables.{row_in, place_from, place, StandsAt, OnlyPlace, has_process, TellsProcess, pair_taken, apart}

-- the rows from i on: the one at hand, and the others
pub next_row : (rows : List Row) (i : ℕ) (x : Row) → x ≡ get_or rows i x → i < length rows → map plain (drop i rows) ≡ plain x ∷ map plain (drop (i + 1) rows)
next_row rows i x e h = ap (map plain) (drop_more rows i x h ∙ ap (λ (y : Row). y ∷ drop (i + 1) rows) (sym e))

pub no_row : (rows : List Row) (i : ℕ) → length rows ≤ i → map plain (drop i rows) ≡ []
no_row rows i h = ap (map plain) (drop_all i rows h)

-- the search of the code for a pair, and for a process
searched_from : (i p q : ℕ) (rows : List Row) → position_from (λ r. has_pair p q (plain r)) i rows ≡ place_from i p q (map plain rows)
searched_from i p q [] = refl
searched_from i p q (r ∷ rs) = ap (cond (has_pair p q (plain r)) (Some i)) (searched_from (i + 1) p q rs)

pub searched : (p q : ℕ) (rows : List Row) → position (λ r. has_pair p q (plain r)) rows ≡ place p q (map plain rows)
searched p q rows = position_from-zero (λ r. has_pair p q (plain r)) rows ∙ searched_from 0 p q rows

pub any_has : (p : ℕ) (rows : List Row) → list_any (λ r. eqb r.process p) rows ≡ has_process p (map plain rows)
any_has p [] = refl
any_has p (r ∷ rs) = ap (λ (b : Bool). eqb r.process p || b) (any_has p rs)

-- which rows have the process
some_has : (p : ℕ) (rows : List PlainRow) → has_process p rows ≡ true → TellsProcess p rows true
some_has p [] e = absurd (both_ways false refl e)
some_has p (r ∷ rs) e =
    ⊎_elim
    (λ (h : eqb r.process p ≡ true). (0, omega arith, eqb-true _ _ h))
    (λ (h : has_process p rs ≡ true). let t = some_has p rs h in (suc t.0, omega (arith, t.1), t.2))
    (or_cases (eqb r.process p) (has_process p rs) e)

none_has : (p : ℕ) (rows : List PlainRow) → has_process p rows ≡ false → TellsProcess p rows false
none_has p [] e k l x = omega arith
none_has p (r ∷ rs) e zero l x = both_ways false refl (sym (or_parts (eqb r.process p) _ e).0 ∙ eq-eqb _ _ x)
none_has p (r ∷ rs) e (suc k) l x = none_has p rs (or_parts (eqb r.process p) _ e).1 k (omega arith) x

pub tells : (p : ℕ) (rows : List PlainRow) (b : Bool) → has_process p rows ≡ b → TellsProcess p rows b
tells p rows true e = some_has p rows e
tells p rows false e = none_has p rows e

-- a row with the pair
pair_parts : (p q : ℕ) (r : PlainRow) → has_pair p q r ≡ true → (r.process ≡ p) × (r.parameter ≡ q)
pair_parts p q r e = let h = and_parts (eqb r.process p) (eqb r.parameter q) e in (eqb-true _ _ h.0, eqb-true _ _ h.1)

pair_from : (p q : ℕ) (r : PlainRow) → r.process ≡ p → r.parameter ≡ q → has_pair p q r ≡ true
pair_from p q r e f = and_from _ _ (eq-eqb _ _ e) (eq-eqb _ _ f)

none_stands : (p q : ℕ) (rows : List PlainRow) → pair_taken p q rows ≡ false → (k : ℕ) → StandsAt p q rows k → ⊥
none_stands p q [] e k s = omega (arith, s.0)
none_stands p q (r ∷ rs) e zero s = both_ways false refl (sym (or_parts (has_pair p q r) _ e).0 ∙ pair_from p q r s.1 s.2)
none_stands p q (r ∷ rs) e (suc k) s = none_stands p q rs (or_parts (has_pair p q r) _ e).1 k (omega (arith, s.0), s.1, s.2)

-- no later row has the pair of the first
alone : (p q : ℕ) (r : PlainRow) (rs : List PlainRow) → apart (r ∷ rs) ≡ true → r.process ≡ p → r.parameter ≡ q → (k : ℕ) → StandsAt p q rs k → ⊥
alone p q r rs a e f k s =
    let t = and_parts (not (pair_taken r.process r.parameter rs)) (apart rs) a in
    none_stands r.process r.parameter rs (not-true _ t.0) k (s.0, s.1 ∙ sym e, s.2 ∙ sym f)

one_stands : (p q : ℕ) (rows : List PlainRow) → apart rows ≡ true → (i k : ℕ) → StandsAt p q rows i → StandsAt p q rows k → k ≡ i
one_stands p q [] a i k s t = absurd (omega (arith, s.0))
one_stands p q (r ∷ rs) a zero zero s t = refl
one_stands p q (r ∷ rs) a zero (suc k) s t = absurd (alone p q r rs a s.1 s.2 k (omega (arith, t.0), t.1, t.2))
one_stands p q (r ∷ rs) a (suc i) zero s t = absurd (alone p q r rs a t.1 t.2 i (omega (arith, s.0), s.1, s.2))
one_stands p q (r ∷ rs) a (suc i) (suc k) s t =
    ap suc (one_stands p q rs (and_parts (not (pair_taken r.process r.parameter rs)) (apart rs) a).1 i k (omega (arith, s.0), s.1, s.2) (omega (arith, t.0), t.1, t.2))

-- where the search that counts from i stops
abbrev Stops : ℕ → ℕ → ℕ → List PlainRow → Option ℕ → Type 0
Stops i p q rows None = pair_taken p q rows ≡ false
Stops i p q rows (Some n) = (k : ℕ) × (n ≡ i + k) × StandsAt p q rows k

stops_later : (i p q : ℕ) (r : PlainRow) (rs : List PlainRow) (o : Option ℕ) → has_pair p q r ≡ false → Stops (i + 1) p q rs o → Stops i p q (r ∷ rs) o
stops_later i p q r rs None e h = ap (λ (b : Bool). b || pair_taken p q rs) e ∙ h
stops_later i p q r rs (Some n) e h = let s = h.2 in (suc h.0, omega (arith, h.1), (omega (arith, s.0), s.1, s.2))

stops_by : (b : Bool) (i p q : ℕ) (r : PlainRow) (rs : List PlainRow) → has_pair p q r ≡ b → Stops (i + 1) p q rs (place_from (i + 1) p q rs) → Stops i p q (r ∷ rs) (cond b (Some i) (place_from (i + 1) p q rs))
stops_by true i p q r rs e h = let s = pair_parts p q r e in (0, omega arith, (omega arith, s.0, s.1))
stops_by false i p q r rs e h = stops_later i p q r rs (place_from (i + 1) p q rs) e h

stops : (i p q : ℕ) (rows : List PlainRow) → Stops i p q rows (place_from i p q rows)
stops i p q [] = refl
stops i p q (r ∷ rs) = stops_by (has_pair p q r) i p q r rs refl (stops (i + 1) p q rs)

only_at : (p q : ℕ) (rows : List PlainRow) (o : Option ℕ) → apart rows ≡ true → Stops 0 p q rows o → OnlyPlace p q rows o
only_at p q rows None a h = none_stands p q rows h
only_at p q rows (Some n) a h =
    let e : h.0 ≡ n = omega (arith, h.1) in
    subst (λ (i : ℕ). OnlyPlace p q rows (Some i)) e (h.2, λ k s. one_stands p q rows a h.0 k h.2 s)

pub only_place : (p q : ℕ) (rows : List PlainRow) → apart rows ≡ true → OnlyPlace p q rows (place p q rows)
only_place p q rows a = only_at p q rows (place p q rows) a (stops 0 p q rows)

-- a place is found just where the pair is taken
taken-by : (i p q : ℕ) (rows : List PlainRow) (o : Option ℕ) → Stops i p q rows o → is_some o ≡ pair_taken p q rows
taken-by i p q rows None s = sym s
taken-by i p q rows (Some n) s = ⊎_elim (λ (h : pair_taken p q rows ≡ true). sym h) (λ (h : pair_taken p q rows ≡ false). absurd (none_stands p q rows h s.0 s.2)) (cases_Bool (pair_taken p q rows))

pub place-taken : (p q : ℕ) (rows : List PlainRow) → is_some (place p q rows) ≡ pair_taken p q rows
place-taken p q rows = taken-by 0 p q rows (place p q rows) (stops 0 p q rows)

-- the row that the code hands out
pub row_in_lem : (rows : List Row) (i : ℕ) (o : Option (Bor Row)) → IsGetResult rows i i o → option_map (λ x. plain x.now) o ≡ row_in (map plain rows) i
row_in_lem rows i None h = sym (cond-false (ltb i (length (map plain rows))) _ None (le-ltb _ _ (omega (arith, h.3, length-map rows plain))))
row_in_lem rows i (Some x) h =
    let l : i < length rows = h.3.0 in
    let e : row_at (map plain rows) i ≡ plain x.now = get_or-map plain rows i x.now reset_row l ∙ ap plain (sym h.1) in
    ap Some (sym e) ∙ sym (cond-true (ltb i (length (map plain rows))) (Some (row_at (map plain rows) i)) None (lt-ltb _ _ (omega (arith, length-map rows plain))))
