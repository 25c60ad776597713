use Rattle.std.proofs.Common.{◌+◌, ◌≤◌, length, ap, ◌∙◌, arith}
use Rattle.std.proofs.lemmas.List.{take_all}
use Rattle.line.specs.Calls.{overlaid}
use Rattle.line.proofs.Laying.{overlaid-none}
use Rattle.binary.specs.Doubling.{doubled}
use Rattle.binary.proofs.Laying.{once, twice}
use Rattle.binary.proofs.put_doubled.Goals as goal
use Rattle.binary.proofs.put_doubled.Goals.{then-b-eq-DLE, else-b-eq-DLE}

pub loop-b-init : goal.loop-b-init
loop-b-init c = (omega arith, omega arith, overlaid-none c.args.frame.now c.args.start)

pub loop-b-preserved : goal.loop-b-preserved
loop-b-preserved c =
    let room : c.loop-b.end + 2 ≤ length c.args.frame.now = omega arith in
    elim c.if-b-eq-DLE.branch [
      | then-b-eq-DLE w ↦
          let t =
          twice c.args.frame.now c.args.bytes.now c.loop-b.frame c.args.start c.loop-b.b-index c.loop-b.end
          c.loop-b.invariant.1 c.loop-b.invariant.2 c.loop-b-test.true room w.if-b-eq-DLE.true in
          (omega arith, omega (arith, w.end-is, t.0), w.frame-is ∙ t.1)
      | else-b-eq-DLE w ↦
          let t =
          once c.args.frame.now c.args.bytes.now c.loop-b.frame c.args.start c.loop-b.b-index c.loop-b.end
          c.loop-b.invariant.1 c.loop-b.invariant.2 c.loop-b-test.true room w.if-b-eq-DLE.false in
          (omega arith, w.end-is ∙ t.0, w.frame-is ∙ t.1)
    ]

pub returns : goal.returns
returns c =
    let all = ap doubled (take_all c.loop-b.b-index c.args.bytes.now c.loop-b-test.false) in
    record {
      end = omega (arith, ap length all);
      room = omega arith;
      laid = c.loop-b.invariant.2 ∙ ap (overlaid c.args.frame.now c.args.start) all;
    }
