-- Bytes that are printed as pairs of digits.
use Rattle.std.proofs.Common.{◌≡◌, ℕ, zero, suc, ◌+◌, ◌*◌, ◌/◌, ◌%◌, ◌<◌, List, [], ◌∷◌, ◌++◌, length, get_or, take, set, refl, sym, ap, ap₂, ◌∙◌, append_assoc, arith, length-set}
use Rattle.std.proofs.lemmas.List.{take_more, take_more_set}
use Rattle.std.proofs.lemmas.Bool.Decides.{nat_tests}
use Rattle.std.specs.Prelude.{IsAscii}
use Rattle.ascii.specs.Hex.{digit, hexes}

pub hexes-append : (xs ys : List ℕ) → hexes (xs ++ ys) ≡ hexes xs ++ hexes ys
hexes-append [] ys = refl
hexes-append (x ∷ xs) ys = ap (λ (z : List ℕ). digit (x / 16) ∷ digit (x % 16) ∷ z) (hexes-append xs ys)

digit-ascii : (v : ℕ) → v < 16 → digit v < 128
digit-ascii v h = grind (arith, nat_tests)

pub hexes-ascii : (bytes : List ℕ) → ((i : ℕ) → get_or bytes i 0 < 256) → IsAscii (hexes bytes)
hexes-ascii [] small i = omega arith
hexes-ascii (x ∷ bytes) small zero = digit-ascii (x / 16) (omega (arith, small 0))
hexes-ascii (x ∷ bytes) small (suc zero) = digit-ascii (x % 16) (omega arith)
hexes-ascii (x ∷ bytes) small (suc (suc i)) = hexes-ascii bytes (λ j. small (suc j)) i

-- the two digits of the next byte are put behind those of the bytes before it
pub pair_put : (digits bytes : List ℕ) (i high low : ℕ) → take (2 * i) digits ≡ hexes (take i bytes) → i < length bytes → 2 * i + 1 < length digits
    → high ≡ digit (get_or bytes i 0 / 16) → low ≡ digit (get_or bytes i 0 % 16)
    → take (2 * (i + 1)) (set (set digits (2 * i) high) (2 * i + 1) low) ≡ hexes (take (i + 1) bytes)
pair_put digits bytes i high low before h room is-high is-low =
    let n : 2 * (i + 1) ≡ 2 * i + 1 + 1 = omega arith in
    let one = take_more_set digits (2 * i) high (omega arith) in
    let two = take_more_set (set digits (2 * i) high) (2 * i + 1) low (omega (arith, length-set digits (2 * i) high)) in
    let pair = ap hexes (take_more bytes i 0 h) ∙ hexes-append (take i bytes) (get_or bytes i 0 ∷ []) in
    rw n
    (two ∙ ap (λ (z : List ℕ). z ++ low ∷ []) (one ∙ ap (λ (z : List ℕ). z ++ high ∷ []) before) ∙ append_assoc (hexes (take i bytes)) (high ∷ []) (low ∷ [])
    ∙ ap₂ (λ (h l : ℕ). hexes (take i bytes) ++ h ∷ l ∷ []) is-high is-low ∙ sym pair)
