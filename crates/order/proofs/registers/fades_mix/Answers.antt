use Rattle.order.specs.Fades.{haze, fog, mixed}
use Rattle.order.specs.Registers.{register_calls}
use Rattle.order.proofs.Fades.{mix, apart, not-crossed}
use Rattle.order.proofs.registers.fades_mix.Goals as goal

pub returns : goal.returns
returns c = record { mixes = c.mixing_stands.ensures register_calls haze fog mixed mix apart; crosses = not-crossed }
