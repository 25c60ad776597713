-- The places of the newest changes, and moving these to the front.
use Rattle.std.proofs.Common.{◌≡◌, ℕ, ◌+◌, ◌<◌, ◌≤◌, true, false, cond, not, List, [], ◌∷◌, ◌++◌, length, get_or, take, drop, set, replicate, sym, ap, ◌∙◌, subst, arith, eq-eqb, ne_eqb}
use Rattle.std.proofs.lemmas.List.{append_assoc, drop_more, drop-set-lt, length-map, length-take-le, map_more, map_push, take_more_set}
use Rattle.arrayvec.specs.ArrayVec.{ArrayVec, with_items}
use Rattle.arrayvec.proofs.ArrayVecLemmas.{items-with_items}
use Rattle.store.specs.declared.changes.change.Change.{Change}
use Rattle.store.specs.ChangeList.{Entry, names, newest, places_from}
use Rattle.store.specs.ChangesHeld.{entries_of, entry_of}
use Rattle.store.proofs.Places.{Told, places_push}

-- what is left of the list from an entry on
from_here : (xs : List Change) (i : ℕ) (x : Change) → i < length xs → x ≡ get_or xs i x → entries_of (drop i xs) ≡ entry_of x ∷ entries_of (drop (i + 1) xs)
from_here xs i x h e = ap entries_of (drop_more xs i x h) ∙ ap (λ (y : Change). entry_of y ∷ entries_of (drop (i + 1) xs)) (sym e)

entries_length : (xs : List Change) (n : ℕ) → n ≤ length xs → length (entries_of (take n xs)) ≡ n
entries_length xs n h = length-map (take n xs) entry_of ∙ length-take-le n xs h

-- ---- `newest_places`
pub placed : (xs : List Change) (i row place : ℕ) (x : Change) (places : List ℕ) → i < length xs → row ≡ (get_or xs i x).row → place ≡ i → places ≡ places_from 0 (entries_of (take i xs)) (replicate 128 0) → set places row place ≡ places_from 0 (entries_of (take (i + 1) xs)) (replicate 128 0)
placed xs i row place x places h r p inv =
    let before = places_from 0 (entries_of (take i xs)) (replicate 128 0) in
    let l : 0 + length (entries_of (take i xs)) ≡ place = omega (arith, entries_length xs i (omega arith)) in
    ap (λ ps. set ps row place) inv ∙ ap (λ k. set before k place) r
    ∙ sym (ap (λ es. places_from 0 es (replicate 128 0)) (map_more entry_of xs i x h) ∙ places_push (entries_of (take i xs)) (entry_of (get_or xs i x)) 0 (replicate 128 0) ∙ ap (λ n. set before (get_or xs i x).row n) l)

-- ---- `newest_to_front`: what stands at the front, and the newest of what is left, are the newest of all; and the places tell the newest of what is left
abbrev pub Split : List Change → List ℕ → ℕ → ℕ → List Entry → Type 0
Split xs places i k all = (entries_of (take k xs) ++ newest (entries_of (drop i xs)) ≡ all) × Told i (entries_of (drop i xs)) places

left-told : (xs : List Change) (places : List ℕ) (i : ℕ) (x : Change) → i < length xs → x ≡ get_or xs i x → Told i (entries_of (drop i xs)) places → Told i (entry_of x ∷ entries_of (drop (i + 1) xs)) places
left-told xs places i x h e t = let P : List Entry → Type 0 = λ es. Told i es places in subst P (from_here xs i x h e) t

pub outlived : (xs : List Change) (all : List Entry) (places : List ℕ) (i k : ℕ) (x : Change) → i < length xs → x ≡ get_or xs i x → (get_or places x.row 0 ≡ i → ⊥) → Split xs places i k all → Split xs places (i + 1) k all
outlived xs all places i k x h e n s =
    let rest = entries_of (drop (i + 1) xs) in
    let t = left-told xs places i x h e s.1 in
    let b : names x.row rest ≡ true = t.0 ∙ ap not (ne_eqb (get_or places x.row 0) i n) in
    (sym (ap (λ es. entries_of (take k xs) ++ newest es) (from_here xs i x h e) ∙ ap (λ c. entries_of (take k xs) ++ cond c (newest rest) (entry_of x ∷ newest rest)) b) ∙ s.0, t.1)

pub moved : (xs : List Change) (all : List Entry) (places : List ℕ) (i k : ℕ) (x : Change) → i < length xs → k ≤ i → x ≡ get_or xs i x → get_or places x.row 0 ≡ i → Split xs places i k all → Split (set xs k x) places (i + 1) (k + 1) all
moved xs all places i k x h le e q s =
    let rest = entries_of (drop (i + 1) xs) in
    let t = left-told xs places i x h e s.1 in
    let b : names x.row rest ≡ false = t.0 ∙ ap not (eq-eqb (get_or places x.row 0) i q) in
    let same = drop-set-lt (i + 1) xs k x (omega arith) in
    let P : List Change → Type 0 = λ ys. Told (i + 1) (entries_of ys) places in (
      ap (λ ys. entries_of ys ++ newest (entries_of (drop (i + 1) (set xs k x)))) (take_more_set xs k x (omega arith))
          ∙ ap (λ es. es ++ newest (entries_of (drop (i + 1) (set xs k x)))) (map_push entry_of (take k xs) x)
          ∙ ap (λ ys. (entries_of (take k xs) ++ entry_of x ∷ []) ++ newest (entries_of ys)) same
          ∙ append_assoc (entries_of (take k xs)) (entry_of x ∷ []) (newest rest)
          ∙ sym (ap (λ es. entries_of (take k xs) ++ newest es) (from_here xs i x h e) ∙ ap (λ c. entries_of (take k xs) ++ cond c (newest rest) (entry_of x ∷ newest rest)) b) ∙ s.0,
      subst P (sym same) t.1,
    )

pub split_same : (xs ys : List Change) (all : List Entry) (places : List ℕ) (i k n : ℕ) → ys ≡ xs → n ≡ k → Split xs places i k all → Split ys places i n all
split_same xs ys all places i k n e q s =
    let P : List Change → Type 0 = λ zs. Split zs places i n all in
    let Q : ℕ → Type 0 = λ m. Split xs places i m all in
    subst P (sym e) (subst Q (sym q) s)

-- ---- `compact`: what stands at the front of the slice is what the cut leaves
pub cut : (v w : ArrayVec Change) (shown left : List Change) (k : ℕ) → shown ≡ v.items → length left ≡ length shown → entries_of (take k left) ≡ newest (entries_of shown) → w.items ≡ take k (with_items v left).items → entries_of w.items ≡ newest (entries_of v.items)
cut v w shown left k s l f t = ap entries_of (t ∙ ap (take k) (items-with_items v left (l ∙ ap length s))) ∙ f ∙ ap (λ xs. newest (entries_of xs)) s
