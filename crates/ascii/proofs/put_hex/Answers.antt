use Rattle.std.proofs.Common.{ℕ, ap, ◌∙◌, arith}
use Rattle.std.proofs.lemmas.List.{take_all}
use Rattle.line.specs.Calls.{overlaid}
use Rattle.line.proofs.Laying.{overlaid-none}
use Rattle.ascii.specs.Hex.{hexes}
use Rattle.ascii.proofs.Digits.{hexes_more}
use Rattle.ascii.proofs.put_hex.Goals as goal

pub loop-b-init : goal.loop-b-init
loop-b-init c = (omega arith, overlaid-none c.args.frame.now c.args.start)

pub loop-b-preserved : goal.loop-b-preserved
loop-b-preserved c = (
  omega arith,
  hexes_more c.args.frame.now c.args.bytes.now c.loop-b.frame c.args.start c.loop-b.b-index
      c.loop-b.end c.hex_pair-high.result.0 c.hex_pair-high.result.1 c.loop-b.invariant.1 c.loop-b.invariant.0 c.loop-b-test.true
      c.requires (ap (λ (p : ℕ × ℕ). p.0) c.hex_pair-high.ensures) (ap (λ (p : ℕ × ℕ). p.1) c.hex_pair-high.ensures),
)

pub returns : goal.returns
returns c =
    let all = take_all c.loop-b.b-index c.args.bytes.now c.loop-b-test.false in
    record { end = omega arith; laid = c.loop-b.invariant.1 ∙ ap (overlaid c.args.frame.now c.args.start) (ap hexes all) }
