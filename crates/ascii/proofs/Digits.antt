-- The digits of bytes: how many they are, and how they are written one byte after the other.
use Rattle.std.proofs.Common.{◌≡◌, ℕ, suc, ◌+◌, ◌*◌, ◌/◌, ◌%◌, ◌<◌, ◌≤◌, List, [], ◌∷◌, ◌++◌, length, take, get_or, set, refl, sym, ◌∙◌, ap, append_assoc, arith, length-append}
use Rattle.std.proofs.lemmas.List.{length-take-le, take_more}
use Rattle.line.specs.Calls.{overlaid, starting_with}
use Rattle.line.proofs.Laying.{overlaid_more, overlaid_start, set_first, set_more}
use Rattle.ascii.specs.Hex.{digit, hexes}
use Rattle.ascii.specs.Frames.{framed}
use Rattle.ascii.specs.Digits.{length-hexes}

pub hexes-append : (xs ys : List ℕ) → hexes (xs ++ ys) ≡ hexes xs ++ hexes ys
hexes-append [] ys = refl
hexes-append (x ∷ xs) ys = ap (λ (z : List ℕ). digit (x / 16) ∷ digit (x % 16) ∷ z) (hexes-append xs ys)

-- one more of `bytes`, as two digits
pub hexes_more : (e bytes s : List ℕ) (a i k u v : ℕ) → s ≡ overlaid e a (hexes (take i bytes)) → k ≡ a + 2 * i → i < length bytes
    → a + 2 * length bytes ≤ length e → u ≡ digit (get_or bytes i 0 / 16) → v ≡ digit (get_or bytes i 0 % 16)
    → set (set s k u) (k + 1) v ≡ overlaid e a (hexes (take (i + 1) bytes))
hexes_more e bytes s a i k u v inv q h room is-u is-v =
    let p : List ℕ = hexes (take i bytes) in
    let l : i ≤ length bytes = omega arith in
    let lp : length p ≡ 2 * i = length-hexes (take i bytes) ∙ ap (λ (j : ℕ). 2 * j) (length-take-le i bytes l) in
    let one = set_more e s p a k u inv (omega arith) (omega arith) in
    let two = set_more e (set s k u) (p ++ u ∷ []) a (k + 1) v one (omega (arith, length-append p (u ∷ []))) (omega arith) in
    let x : ℕ = get_or bytes i 0 in
    let t : hexes (take (i + 1) bytes) ≡ p ++ digit (x / 16) ∷ digit (x % 16) ∷ [] =
    ap hexes (take_more bytes i 0 h) ∙ hexes-append (take i bytes) (x ∷ []) in
    let r : (p ++ u ∷ []) ++ v ∷ [] ≡ p ++ digit (x / 16) ∷ digit (x % 16) ∷ [] = append_assoc p (u ∷ []) (v ∷ []) ∙ simp (is-u, is-v) in
    two ∙ ap (overlaid e a) (r ∙ sym t)

-- a whole frame, part by part
pub frame_laid : (e f g rest : List ℕ) (l first s k : ℕ) → l ≡ suc (length rest) → length rest ≤ 64 → 138 ≤ length e
    → f ≡ overlaid (set e 0 58) 1 (hexes (l ∷ first ∷ [])) → s ≡ 5 → g ≡ overlaid f s (hexes rest) → k ≡ s + 2 * length rest
    → set (set g k 13) (k + 1) 10 ≡ starting_with (framed (first ∷ rest)) e
frame_laid e f g rest l first s k is-l short room is-f is-s is-g is-k =
    let h1 : List ℕ = hexes (l ∷ first ∷ []) in
    let h2 : List ℕ = hexes rest in
    let lh : length h2 ≡ 2 * length rest = length-hexes rest in
    let f1 : f ≡ overlaid e 0 (58 ∷ h1) = is-f ∙ overlaid_more e (set e 0 58) (58 ∷ []) h1 0 1 (set_first e 58 (omega arith)) refl (omega arith) in
    let g1 : g ≡ overlaid e 0 (58 ∷ (h1 ++ h2)) = is-g ∙ overlaid_more e f (58 ∷ h1) h2 0 s f1 is-s (omega arith) in
    let a = set_more e g (58 ∷ (h1 ++ h2)) 0 k 13 g1 (omega arith) (omega arith) in
    let b = set_more e (set g k 13) ((58 ∷ (h1 ++ h2)) ++ 13 ∷ []) 0 (k + 1) 10 a (omega (arith, length-append (58 ∷ (h1 ++ h2)) (13 ∷ []))) (omega arith) in
    let r : ((58 ∷ (h1 ++ h2)) ++ 13 ∷ []) ++ 10 ∷ [] ≡ framed (first ∷ rest) =
    append_assoc (58 ∷ (h1 ++ h2)) (13 ∷ []) (10 ∷ [])
    ∙ ap (λ (n : ℕ). 58 ∷ digit (n / 16) ∷ digit (n % 16) ∷ digit (first / 16) ∷ digit (first % 16) ∷ (h2 ++ 13 ∷ 10 ∷ [])) is-l in
    b ∙ ap (overlaid e 0) r ∙ overlaid_start e (framed (first ∷ rest))

pub length-framed : (first : ℕ) (rest : List ℕ) → length (framed (first ∷ rest)) ≡ 7 + 2 * length rest
length-framed first rest = let h = length-hexes rest in let g = length-append (hexes rest) (13 ∷ 10 ∷ []) in omega arith
