use Rattle.std.proofs.Common.{rules}
use Rattle.std.proofs.lemmas.List.{drop_all}
use Rattle.finder.proofs.Reading.{two_read, byte_read, ten_read}
use Rattle.finder.proofs.try_binary.Goals as goal

pub loop-n-init : goal.loop-n-init
loop-n-init g c = two_read c.leading-window.result.now

pub loop-n-preserved-in-Byte : goal.loop-n-preserved-in-Byte
loop-n-preserved-in-Byte g c o = byte_read c.leading-window.result.now c.loop-n.n o _ (c.loop-n.invariant o) c.in-Byte.ensures

pub loop-n-preserved : goal.loop-n-preserved
loop-n-preserved g c o = ten_read c.leading-window.result.now c.loop-n.n o _ (c.loop-n.invariant o) c.in-Ten.ensures

pub returns : goal.returns
returns g c = let i = c.loop-n.invariant in search (rules, drop_all)
