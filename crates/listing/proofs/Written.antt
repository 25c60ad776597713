-- A frame that either framing writes has the shape that is looked for.
use Rattle.std.proofs.Common.{◌≡◌, ℕ, ◌/◌, ◌%◌, ◌<◌, ◌≤◌, cond, eqb, List, [], ◌∷◌, ◌++◌, length, sym, ap, ◌∙◌, subst, inl, inr, append_assoc, arith, length-append}
use Rattle.std.proofs.lemmas.Bool.{cases_Bool, cond-true, cond-false, eqb-true, eqb-false}
use Rattle.std.proofs.lemmas.Bool.Decides.{nat_tests}
use Rattle.line.specs.Messages.{Msg, data_msg, error_msg, Framable, Bytes, OfBytes}
use Rattle.ascii.specs.Hex.{digit, hexes}
use Rattle.ascii.specs.Frames.{counted, encode as asciiFrame}
use Rattle.ascii.specs.Digits.{length-hexes}
use Rattle.binary.specs.declared.Mark.{Mark}
use Rattle.binary.specs.Doubling.{doubled}
use Rattle.binary.specs.Frames.{content, encode as binaryFrame}
use Rattle.binary.specs.Laws.{binary_laws}
use Rattle.finder.specs.Shapes.{Without, Doubled, no_bytes, plain, pair, Whole, ascii_frame, binary_frame}
use Rattle.finder.proofs.Firsts.{whole_found}
use Rattle.listing.specs.Written.{WrittenFound}

digit_no_end : (v : ℕ) → v < 16 → digit v ≡ 10 → ⊥
digit_no_end v h e = grind (arith, nat_tests)

hexes_no_end : (p : List ℕ) → Bytes p → Without 10 (hexes p ++ 13 ∷ [])
hexes_no_end [] b = ((λ e. omega arith), tt)
hexes_no_end (x ∷ p) b =
    (digit_no_end (x / 16) (omega (arith, b.0)), (digit_no_end (x % 16) (omega arith), hexes_no_end p b.1))

counted_bytes : (s : Msg) → Framable s → OfBytes s → Bytes (length (counted s) ∷ counted s) × (length (counted s) ≤ 65)
counted_bytes (data_msg node bytes) f b = ((omega (arith, f.1), (b.0, b.1)), omega (arith, f.1))
counted_bytes (error_msg code) f b = ((omega arith, (b, tt)), omega arith)

ascii_whole : (s : Msg) → Framable s → OfBytes s → Whole (asciiFrame s)
ascii_whole s f b =
    let c = counted_bytes s f b in
    let l = length-hexes (length (counted s) ∷ counted s) in
    let m = length-append (hexes (length (counted s) ∷ counted s)) (13 ∷ []) in
    let w = ascii_frame (hexes (length (counted s) ∷ counted s) ++ 13 ∷ []) (hexes_no_end (length (counted s) ∷ counted s) c.0) (omega (arith, c.1)) in
    subst (λ (z : List ℕ). Whole (58 ∷ z)) (append_assoc (hexes (length (counted s) ∷ counted s)) (13 ∷ []) (10 ∷ [])) w

doubled-doubled : (p : List ℕ) → Doubled (doubled p)
doubled-doubled [] = no_bytes
doubled-doubled (b ∷ bs) =
    elim (cases_Bool (eqb b 16)) [
      | inl t ↦
          let e : b ∷ cond (eqb b 16) (16 ∷ doubled bs) (doubled bs) ≡ 16 ∷ 16 ∷ doubled bs =
          ap (λ (z : List ℕ). b ∷ z) (cond-true _ _ _ t) ∙ ap (λ (z : ℕ). z ∷ 16 ∷ doubled bs) (eqb-true b 16 t) in
          subst Doubled (sym e) (pair (doubled-doubled bs))
      | inr f ↦
          let e : b ∷ cond (eqb b 16) (16 ∷ doubled bs) (doubled bs) ≡ b ∷ doubled bs = ap (λ (z : List ℕ). b ∷ z) (cond-false _ _ _ f) in
          subst Doubled (sym e) (plain (eqb-false b 16 f) (doubled-doubled bs))
    ]

binary_whole : (m : Mark) (s : Msg) → Framable s → Whole (binaryFrame m s)
binary_whole m s f =
    let short = binary_laws.writes_short m s f in
    let l = length-append (doubled (content m s)) (16 ∷ 3 ∷ []) in
    binary_frame (doubled (content m s)) (doubled-doubled (content m s)) (omega arith)

pub written-found : WrittenFound
written-found = (
  (λ mark s more f b. whole_found (asciiFrame s) more (ascii_whole s f b)),
  (λ mark s more f b. whole_found (binaryFrame mark s) more (binary_whole mark s f)),
)
