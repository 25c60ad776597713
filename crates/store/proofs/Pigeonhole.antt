-- A counting argument: if all rows of a list are below n, at most n of its entries are the newest of their row.
use Rattle.std.proofs.Common.{◌≡◌, ℕ, zero, suc, ◌+◌, ◌<◌, ◌≤◌, Bool, true, false, cond, List, [], ◌∷◌, ◌++◌, length, sym, refl, ap, ◌∙◌, ⊎_elim, arith, lit≤, length-append, le-ltb}
use Rattle.std.proofs.lemmas.Bool.{cases_eq}
use Rattle.store.specs.declared.changes.change.Change.{Change}
use Rattle.store.specs.ChangeList.{Entry, names, newest, with_room}
use Rattle.store.specs.ChangesHeld.{entries_of}
use Rattle.store.proofs.Replays.{names_here, names_past}

-- all rows are below n
abbrev pub Below : ℕ → List Entry → Type 0
Below n [] = Unit {0}
Below n (e ∷ es) = (e.row < n) × Below n es

-- how many of the rows below n have an entry
abbrev named : ℕ → List Entry → ℕ
named zero es = 0
named (suc n) es = cond (names n es) 1 0 + named n es

bit_le : (b : Bool) → cond b 1 0 ≤ 1
bit_le true = lit≤ tt
bit_le false = lit≤ tt

named_le : (n : ℕ) (es : List Entry) → named n es ≤ n
named_le zero es = lit≤ tt
named_le (suc n) es = let h = named_le n es in let b = bit_le (names n es) in omega arith

named_none : (n : ℕ) → named n [] ≡ 0
named_none zero = refl
named_none (suc n) = let h = named_none n in omega arith

named_above : (n : ℕ) (e : Entry) (es : List Entry) → n ≤ e.row → named n (e ∷ es) ≡ named n es
named_above zero e es h = refl
named_above (suc n) e es h =
    ap (λ b. cond b 1 0 + named n (e ∷ es)) (names_past n e es (λ q. omega arith)) ∙ ap (λ t. cond (names n es) 1 0 + t) (named_above n e es (omega arith))

swap_bit : (b : Bool) (t : ℕ) → 1 + t ≡ (cond b 1 0 + t) + cond b 0 1
swap_bit true t = omega arith
swap_bit false t = omega arith

-- one more entry names one more row, unless a newer one names it
named_more : (n : ℕ) (e : Entry) (es : List Entry) → e.row < n → named n (e ∷ es) ≡ named n es + cond (names e.row es) 0 1
named_more zero e es h = absurd (omega arith)
named_more (suc n) e es h =
    ⊎_elim
    (λ (q : e.row ≡ n).
    ap (λ b. cond b 1 0 + named n (e ∷ es)) (names_here n e es q) ∙ ap (λ t. 1 + t) (named_above n e es (omega arith)) ∙ swap_bit (names n es) (named n es) ∙ ap (λ r. (cond (names n es) 1 0 + named n es) + cond (names r es) 0 1) (sym q))
    (λ (d : e.row ≡ n → ⊥).
    let t = named_more n e es (omega arith) in
    ap (λ b. cond b 1 0 + named n (e ∷ es)) (names_past n e es d) ∙ omega arith)
    (cases_eq e.row n)

newest_more : (b : Bool) (e : Entry) (es : List Entry) (t u : ℕ) → length es ≡ t → u ≡ t + cond b 0 1 → length (cond b es (e ∷ es)) ≡ u
newest_more true e es t u p q = omega arith
newest_more false e es t u p q = omega arith

newest_named : (n : ℕ) (es : List Entry) → Below n es → length (newest es) ≡ named n es
newest_named n [] h = sym (named_none n)
newest_named n (e ∷ es) h = newest_more (names e.row es) e (newest es) (named n es) (named n (e ∷ es)) (newest_named n es h.1) (named_more n e es h.0)

newest_few : (n : ℕ) (es : List Entry) → Below n es → length (newest es) ≤ n
newest_few n es h = let e = newest_named n es h in let l = named_le n es in omega arith

pub entries_below : (xs : List Change) → Below 128 (entries_of xs)
entries_below [] = tt
entries_below (x ∷ xs) = (x.low, entries_below xs)

-- so of any list of changes at most 128 are the newest of their row
pub newest_128 : (xs : List Change) → length (newest (entries_of xs)) ≤ 128
newest_128 xs = newest_few 128 (entries_of xs) (entries_below xs)

-- after a full list was compacted and one change added, at most 129 places are taken
pub paced : (xs : List Change) (after : List Entry) (e : Entry) → after ≡ with_room (entries_of xs) ++ e ∷ [] → 192 ≤ length (entries_of xs) → length after ≤ 129
paced xs after e a h =
    let b = le-ltb (length (entries_of xs)) 192 h in
    let r : with_room (entries_of xs) ≡ newest (entries_of xs) = ap (λ t. cond t (entries_of xs) (newest (entries_of xs))) b in
    let l = ap length (a ∙ ap (λ zs. zs ++ e ∷ []) r) ∙ length-append (newest (entries_of xs)) (e ∷ []) in
    let f = newest_128 xs in omega arith
