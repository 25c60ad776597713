use Rattle.std.proofs.Common.{true, arith, rules}
use Rattle.std.proofs.lemmas.Fmt.{hex_byte}
use Rattle.std.proofs.lemmas.List.{take_all}
use Rattle.listing.proofs.heard.HeardDisplay.fmt.Goals as goal

pub returns-in-Some-Data-clause-writes : goal.returns-in-Some-Data-clause-writes
returns-in-Some-Data-clause-writes g c = let e = hex_byte true c.in-Some-Data.node (omega arith) in search (rules, e, take_all)

pub returns-in-Some-Error-clause-writes : goal.returns-in-Some-Error-clause-writes
returns-in-Some-Error-clause-writes g c = let e = hex_byte true c.in-Some-Error.code (omega arith) in search (rules, e)
