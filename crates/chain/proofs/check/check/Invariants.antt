use Rattle.std.proofs.Common.{◌≡◌, length}
use Rattle.chain.specs.Reader.{remaining}
use Rattle.chain.proofs.check.check.Given as goal

-- what refuses the rest refuses the whole
abbrev pub invariant-loop-item : goal.invariant-loop-item
invariant-loop-item l = (remaining l.chain).refusal ≡ (remaining l.initial.chain).refusal

-- one item fewer is left
abbrev pub decreases-loop-item : goal.decreases-loop-item
decreases-loop-item l = length (remaining l.chain).items
