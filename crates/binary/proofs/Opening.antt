-- Frames with more bytes than any has.
use Rattle.std.proofs.Common.{◌≡◌, ℕ, ◌<◌, List, [], ◌∷◌, length, Some, None, Err, Option, sym, refl, ap, ◌∙◌, arith}
use Rattle.std.proofs.lemmas.Bool.Decides.{nat_tests}
use Rattle.line.specs.declared.refusal.Flaw.TheVariants.{NotAFrame}
use Rattle.binary.specs.Doubling.{undoubled}
use Rattle.binary.specs.Frames.{opened, inner, inner_opened, decode}
use Rattle.binary.specs.DoublingLemmas.{inverse, length-doubled}

opened-long : (p : List ℕ) → 67 < length p → opened (Some p) ≡ Err NotAFrame
opened-long [] h = absurd (omega arith)
opened-long (sequence ∷ []) h = absurd (omega arith)
opened-long (sequence ∷ node ∷ []) h = absurd (omega arith)
opened-long (sequence ∷ node ∷ len ∷ []) h = absurd (omega arith)
opened-long (sequence ∷ node ∷ len ∷ code ∷ []) h = absurd (omega arith)
opened-long (sequence ∷ node ∷ len ∷ code ∷ more ∷ r) h = grind (arith, nat_tests)

undoubled-long : (o : Option (List ℕ)) (text : List ℕ) → undoubled text ≡ o → 134 < length text → opened o ≡ Err NotAFrame
undoubled-long None text e h = refl
undoubled-long (Some p) text e h = opened-long p (omega (arith, ap length (inverse.doubles text p e), length-doubled p))

pub decode-long : (frame text : List ℕ) → Some text ≡ inner frame → 134 < length text → decode frame ≡ Err NotAFrame
decode-long frame text between h = ap inner_opened (sym between) ∙ undoubled-long (undoubled text) text refl h
