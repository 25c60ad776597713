use Rattle.std.proofs.Common.{◌≡◌, ◌+◌, length, ap, arith, refl}
use Rattle.binary.specs.Doubling.{undoubled}
use Rattle.binary.proofs.Undoubling.{behind_nothing, others, length-others, plain, twice}
use Rattle.binary.proofs.get_undoubled.Goals as goal

pub loop-rest-init : goal.loop-rest-init
loop-rest-init c = record {
  long = omega (arith, ap length c.requires.1);
  undoes = behind_nothing c.args.bytes.now.items (undoubled c.args.text.now) c.requires.1;
}

pub loop-rest-preserved-in_ok-rest : goal.loop-rest-preserved-in_ok-rest
loop-rest-preserved-in_ok-rest c =
    let r = c.loop-rest.rest.now in
    let one = length-others r in
    let strip = c.in_ok-rest.ensures.cases in
    let cut : length c.in_ok-rest.rest.now + 1 ≡ length (others r) = strip.2 in
    record {
      long = omega arith;
      undoes = rw c.push.ensures.items (twice c.args.text.now c.loop-rest.bytes.items r c.in_ok-rest.rest.now c.loop-rest.invariant.undoes c.if-b-eq-DLE.true strip.0 strip.1);
    }

pub loop-rest-preserved : goal.loop-rest-preserved
loop-rest-preserved c =
    let r = c.loop-rest.rest.now in
    let one = length-others r in
    record {
      long = omega arith;
      undoes = rw c.push.ensures.items (plain c.args.text.now c.loop-rest.bytes.items r (others r) c.loop-rest.invariant.undoes c.in-len1-up.len_at_least c.if-b-eq-DLE.false refl);
    }
