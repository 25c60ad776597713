use Rattle.order.specs.Registers.{register_calls}
use Rattle.order.proofs.RegisterCalls.{premises}
use Rattle.order.proofs.registers.order_stands.Goals as goal

pub returns : goal.returns
returns c = c.reordering_stands.ensures register_calls premises
