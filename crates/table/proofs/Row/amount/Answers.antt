use Rattle.std.proofs.Common.{rules}
use Rattle.std.proofs.lemmas.Nat.{mul-lt}
use Rattle.table.proofs.Row.amount.Goals as goal

pub returns : goal.returns
returns c = record { value = search rules; bound = mul-lt c.from.result c.from-2.result 65536 4294967296 (search rules) (search rules) }
