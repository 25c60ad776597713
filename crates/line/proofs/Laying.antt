-- Lists that are written over the parts of a buffer, one after the other.
use Rattle.std.proofs.Common.{◌≡◌, ℕ, ◌+◌, ◌<◌, ◌≤◌, List, [], ◌∷◌, ◌++◌, length, take, drop, set, sym, refl, ap, ◌∙◌, append_assoc, add-zero, zero-add, add-one, arith, length-append, length-drop, length-take}
use Rattle.std.proofs.lemmas.List.{take_at, drop_at, drop-drop, length-take-le, take-append-drop, set_split}
use Rattle.line.specs.Calls.{starting_with, overlaid}

set-overlaid : (e : List ℕ) (i b : ℕ) → i < length e → set e i b ≡ overlaid e i (b ∷ [])
set-overlaid e i b h = set_split e i b h ∙ rw add-one refl

pub overlaid-none : (e : List ℕ) (a : ℕ) → e ≡ overlaid e a []
overlaid-none e a = sym (rw add-zero (take-append-drop a e))

overlaid_twice : (e : List ℕ) (a b : ℕ) (xs ys : List ℕ) → b ≡ a + length xs → a ≤ length e → overlaid (overlaid e a xs) b ys ≡ overlaid e a (xs ++ ys)
overlaid_twice e a b xs ys q h =
    let d : List ℕ = drop (a + length xs) e in
    let t : List ℕ = take a e in
    let lt : length t ≡ a = length-take-le a e h in
    let lp : length (t ++ xs) ≡ b = length-append t xs ∙ omega arith in
    let g : overlaid e a xs ≡ (t ++ xs) ++ d = sym (append_assoc t xs d) in
    let front : take b (overlaid e a xs) ≡ t ++ xs = ap (take b) g ∙ take_at (t ++ xs) d b lp in
    let rest : drop b (overlaid e a xs) ≡ d = ap (drop b) g ∙ drop_at (t ++ xs) d b lp in
    let n : a + length xs + length ys ≡ a + length (xs ++ ys) = omega (arith, length-append xs ys) in
    let back : drop (b + length ys) (overlaid e a xs) ≡ drop (a + length (xs ++ ys)) e
    = sym (drop-drop (length ys) b (overlaid e a xs)) ∙ ap (drop (length ys)) rest ∙ drop-drop (length ys) (a + length xs) e
    ∙ ap (λ (i : ℕ). drop i e) n in
    let p : overlaid (overlaid e a xs) b ys ≡ (t ++ xs) ++ (ys ++ drop (a + length (xs ++ ys)) e)
    = ap (λ (z : List ℕ). z ++ (ys ++ drop (b + length ys) (overlaid e a xs))) front
    ∙ ap (λ (z : List ℕ). (t ++ xs) ++ (ys ++ z)) back in
    p ∙ append_assoc t xs (ys ++ drop (a + length (xs ++ ys)) e)
    ∙ ap (λ (z : List ℕ). t ++ z) (sym (append_assoc xs ys (drop (a + length (xs ++ ys)) e)))

pub overlaid_start : (e xs : List ℕ) → overlaid e 0 xs ≡ starting_with xs e
overlaid_start e xs = ap (λ (i : ℕ). xs ++ drop i e) (zero-add (length xs))

pub length-overlaid : (e : List ℕ) (a : ℕ) (xs : List ℕ) → a + length xs ≤ length e → length (overlaid e a xs) ≡ length e
length-overlaid e a xs h = simp (length-append, length-take, length-drop) (omega arith)

-- more bytes behind those that were written
pub overlaid_more : (e f xs ys : List ℕ) (a k : ℕ) → f ≡ overlaid e a xs → k ≡ a + length xs → a ≤ length e → overlaid f k ys ≡ overlaid e a (xs ++ ys)
overlaid_more e f xs ys a k is q h = ap (λ (z : List ℕ). overlaid z k ys) is ∙ overlaid_twice e a k xs ys q h

-- one byte more
pub set_more : (e f xs : List ℕ) (a k b : ℕ) → f ≡ overlaid e a xs → k ≡ a + length xs → k < length e → set f k b ≡ overlaid e a (xs ++ b ∷ [])
set_more e f xs a k b is q h =
    let l : length f ≡ length e = ap length is ∙ length-overlaid e a xs (omega arith) in
    set-overlaid f k b (omega arith) ∙ overlaid_more e f xs (b ∷ []) a k is q (omega arith)

-- the first byte
pub set_first : (e : List ℕ) (b : ℕ) → 0 < length e → set e 0 b ≡ overlaid e 0 (b ∷ [])
set_first e b h = set-overlaid e 0 b h
