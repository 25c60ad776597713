use Rattle.std.proofs.Common.{arith}
use Rattle.value.proofs.Making.{filled, front, front_octets, made}
use Rattle.value.proofs.Value.new.Goals as goal

pub invariant_of-result : goal.invariant_of-result
invariant_of-result c =
    let e = c.copy_from_slice.ensures.after in
    record { short = omega arith; sized = filled _ _ _ e (omega arith); octets = front_octets _ _ _ e c.type_inv.from }

pub returns : goal.returns
returns c = made _ c.args.from.now (front _ _ _ c.copy_from_slice.ensures.after) (omega arith)
