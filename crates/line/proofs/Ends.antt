-- Lists with the elements at an end apart.
use Rattle.std.proofs.Common.{◌≡◌, ℕ, ◌+◌, ◌-◌, ◌<◌, ◌≤◌, List, [], ◌∷◌, ◌++◌, length, get_or, take, drop, sym, ap, ◌∙◌, arith}
use Rattle.std.proofs.lemmas.List.{drop_all, drop_more, take-append-drop}

-- a list with its last two elements apart
pub last-two : (r : List ℕ) → 2 ≤ length r → take (length r - 2) r ++ get_or r (length r - 2) 0 ∷ get_or r (length r - 1) 0 ∷ [] ≡ r
last-two r h =
    let two : length r - 2 < length r = omega arith in
    let one : length r - 2 + 1 < length r = omega arith in
    let end : length r ≤ length r - 2 + 1 + 1 = omega arith in
    let e : length r - 1 ≡ length r - 2 + 1 = omega arith in
    let tail : drop (length r - 2) r ≡ get_or r (length r - 2) 0 ∷ get_or r (length r - 2 + 1) 0 ∷ [] =
    drop_more r (length r - 2) 0 two
    ∙ ap (λ (z : List ℕ). get_or r (length r - 2) 0 ∷ z) (drop_more r (length r - 2 + 1) 0 one)
    ∙ ap (λ (z : List ℕ). get_or r (length r - 2) 0 ∷ get_or r (length r - 2 + 1) 0 ∷ z) (drop_all (length r - 2 + 1 + 1) r end) in
    ap (λ (m : ℕ). take (length r - 2) r ++ get_or r (length r - 2) 0 ∷ get_or r m 0 ∷ []) e
    ∙ ap (λ (z : List ℕ). take (length r - 2) r ++ z) (sym tail) ∙ take-append-drop (length r - 2) r
