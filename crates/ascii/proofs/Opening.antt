-- Frames with more digits than any has.
use Rattle.std.proofs.Common.{◌≡◌, ℕ, ◌<◌, List, [], ◌∷◌, length, Some, None, Err, Option, sym, refl, ap, ◌∙◌, arith}
use Rattle.std.proofs.lemmas.Bool.Decides.{nat_tests}
use Rattle.line.specs.declared.refusal.Flaw.TheVariants.{NotAFrame}
use Rattle.ascii.specs.Hex.{spelled}
use Rattle.ascii.specs.Frames.{opened, inner, digits_opened, decode}
use Rattle.ascii.specs.Digits.{length-hexes}
use Rattle.ascii.specs.Laws.{hexes-spelled}

opened-long : (p : List ℕ) → 66 < length p → opened (Some p) ≡ Err NotAFrame
opened-long [] h = absurd (omega arith)
opened-long (l ∷ []) h = absurd (omega arith)
opened-long (l ∷ x ∷ []) h = absurd (omega arith)
opened-long (l ∷ x ∷ y ∷ r) h = grind (arith, nat_tests)

spelled-long : (o : Option (List ℕ)) (digits : List ℕ) → spelled digits ≡ o → 132 < length digits → opened o ≡ Err NotAFrame
spelled-long None digits e h = refl
spelled-long (Some p) digits e h = opened-long p (omega (arith, ap length (hexes-spelled digits p e).0, length-hexes p))

pub decode-long : (frame digits : List ℕ) → Some digits ≡ inner frame → 132 < length digits → decode frame ≡ Err NotAFrame
decode-long frame digits between h = ap digits_opened (sym between) ∙ spelled-long (spelled digits) digits refl h
