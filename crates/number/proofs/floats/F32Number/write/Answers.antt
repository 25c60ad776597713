use Rattle.std.proofs.Common.{rules}
use Rattle.number.specs.KindLaws.{float_back}
use Rattle.number.proofs.floats.F32Number.write.Goals as goal

pub returns-else-is_nan : goal.returns-else-is_nan
returns-else-is_nan c = record { value = search rules; back = float_back c.args.self (search rules) }
