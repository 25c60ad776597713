use Rattle.std.proofs.Common.{◌-◌, length, string_bytes}
use Rattle.listing.proofs.Found.{Reached}
use Rattle.listing.proofs.frames.list_frames.Given as goal

abbrev pub invariant-loop-frame : goal.invariant-loop-frame
invariant-loop-frame l = Reached l.received (string_bytes l.text) l.counts l.end

abbrev pub decreases-loop-frame : goal.decreases-loop-frame
decreases-loop-frame l = length l.received - l.end
