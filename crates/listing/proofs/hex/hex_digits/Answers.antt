use Rattle.std.proofs.Common.{◌≡◌, ℕ, ◌*◌, length, take, ap, ◌∙◌, arith, length-set}
use Rattle.std.proofs.lemmas.List.{take_all}
use Rattle.ascii.specs.Hex.{hexes}
use Rattle.listing.proofs.Texts.{hexes-ascii, pair_put}
use Rattle.listing.proofs.hex.hex_digits.Goals as goal

pub loop-i-preserved : goal.loop-i-preserved
loop-i-preserved c =
    let l = c.loop-i in
    let long = l.invariant.0 in (
      length-set _ _ _ ∙ length-set _ _ _ ∙ long,
      pair_put l.digits c.args.bytes.now l.i _ _ l.invariant.1 c.loop-i-test.true (omega (arith, long))
          (ap (λ (p : ℕ × ℕ). p.0) c.hex_pair-high.ensures) (ap (λ (p : ℕ × ℕ). p.1) c.hex_pair-high.ensures),
    )

pub returns : goal.returns
returns c =
    let bytes = c.args.bytes.now in
    let all : length bytes ≡ c.loop-i.i = omega arith in
    let laid : take (2 * length bytes) c.loop-i.digits ≡ hexes bytes = rw all (c.loop-i.invariant.1 ∙ ap hexes (take_all c.loop-i.i bytes c.loop-i-test.false)) in
    record { long = c.loop-i.invariant.0; laid = laid; ascii = rw laid (hexes-ascii bytes (λ i. omega (arith, c.type_inv.bytes i))) }
