-- The places of the newest entries tell which entries are the newest of their row.
use Rattle.std.proofs.Common.{◌≡◌, ℕ, ◌+◌, ◌<◌, ◌≤◌, true, false, not, eqb, List, [], ◌∷◌, ◌++◌, length, get_or, set, sym, refl, ap, ◌∙◌, ⊎_elim, add-zero, arith, length-set, eq-eqb, ne_eqb}
use Rattle.std.proofs.lemmas.List.{get_or-set_same, get_or-set_other}
use Rattle.std.proofs.lemmas.Bool.{cases_eq, cases_Bool}
use Rattle.store.specs.ChangeList.{Entry, names, places_from}
use Rattle.store.proofs.Pigeonhole.{Below}
use Rattle.store.proofs.Replays.{names_here, names_past}

pub places_push : (es : List Entry) (e : Entry) (i : ℕ) (places : List ℕ) → places_from i (es ++ e ∷ []) places ≡ set (places_from i es places) e.row (i + length es)
places_push [] e i places = ap (λ n. set places e.row n) (sym (add-zero i))
places_push (x ∷ es) e i places =
    let n : (i + 1) + length es ≡ i + length (x ∷ es) = omega arith in
    places_push es e (i + 1) (set places x.row i) ∙ ap (λ k. set (places_from (i + 1) es (set places x.row i)) e.row k) n

-- a row without an entry keeps its place
place_stays : (es : List Entry) (i row : ℕ) (places : List ℕ) → names row es ≡ false → get_or (places_from i es places) row 0 ≡ get_or places row 0
place_stays [] i row places f = refl
place_stays (e ∷ es) i row places f =
    ⊎_elim
    (λ (q : e.row ≡ row). let t = names_here row e es q in let z : ◌≡◌ {A = ℕ} 0 1 = cc in absurd (omega arith))
    (λ (n : e.row ≡ row → ⊥). place_stays es (i + 1) row (set places e.row i) (sym (names_past row e es n) ∙ f) ∙ get_or-set_other places e.row row i 0 (λ q. n (sym q)))
    (cases_eq e.row row)

-- a row with an entry has its place among those of the entries
place_from_lem : (es : List Entry) (i row : ℕ) (places : List ℕ) → row < length places → names row es ≡ true → i ≤ get_or (places_from i es places) row 0
place_from_lem [] i row places h t = let z : ◌≡◌ {A = ℕ} 0 1 = cc in absurd (omega arith)
place_from_lem (e ∷ es) i row places h t =
    let l = length-set places e.row i in
    ⊎_elim
    (λ (later : names row es ≡ true). let p = place_from_lem es (i + 1) row (set places e.row i) (omega arith) later in omega arith)
    (λ (none : names row es ≡ false).
    ⊎_elim
    (λ (q : e.row ≡ row). let p = place_stays es (i + 1) row (set places e.row i) none ∙ ap (λ k. get_or (set places k i) row 0) q ∙ get_or-set_same places row i 0 h in omega arith)
    (λ (n : e.row ≡ row → ⊥). let p = names_past row e es n in let z : ◌≡◌ {A = ℕ} 0 1 = cc in absurd (omega arith))
    (cases_eq e.row row))
    (cases_Bool (names row es))

-- an entry is at the place of its row where no newer one is for the row, and elsewhere not
abbrev pub Told : ℕ → List Entry → List ℕ → Type 0
Told i [] places = Unit {0}
Told i (e ∷ es) places = (names e.row es ≡ not (eqb (get_or places e.row 0) i)) × Told (i + 1) es places

told_here : (es : List Entry) (i row : ℕ) (places : List ℕ) → row < length places → names row es ≡ not (eqb (get_or (places_from (i + 1) es (set places row i)) row 0) i)
told_here es i row places h =
    let l = length-set places row i in
    let place = get_or (places_from (i + 1) es (set places row i)) row 0 in
    ⊎_elim
    (λ (t : names row es ≡ true). let p = place_from_lem es (i + 1) row (set places row i) (omega arith) t in t ∙ sym (ap not (ne_eqb place i (λ q. omega arith))))
    (λ (f : names row es ≡ false). f ∙ sym (ap not (eq-eqb place i (place_stays es (i + 1) row (set places row i) f ∙ get_or-set_same places row i 0 h))))
    (cases_Bool (names row es))

pub places_told : (es : List Entry) (i : ℕ) (places : List ℕ) → Below 128 es → length places ≡ 128 → Told i es (places_from i es places)
places_told [] i places b l = tt
places_told (e ∷ es) i places b l = (told_here es i e.row places (omega (arith, b.0)), places_told es (i + 1) (set places e.row i) b.1 (length-set places e.row i ∙ l))
