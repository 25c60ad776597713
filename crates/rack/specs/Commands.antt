-- The command of a data message.
use Rattle.std.specs.Prelude.{ℕ, cond, ◌||◌, List, [], ◌∷◌, Ok, Err, Result, ◌==◌}
use Rattle.line.specs.declared.fault.LineFault.{LineFault}
use Rattle.line.specs.declared.fault.LineFault.TheVariants.{OtherNode}
use Rattle.chain.specs.declared.access.Command.{Command}
use Rattle.chain.specs.declared.fault.ChainFault.{ChainFault}
use Rattle.chain.specs.declared.fault.ChainFault.TheVariants.{Line, MissingByte}
use Rattle.chain.specs.Access.{command_of}

-- a message is for a rack at its own node, or at 128, which is every rack's
abbrev pub addressed_to : (own node : ℕ) → Result (Unit {0}) LineFault
addressed_to own node = cond (node == own || node == 128) (Ok tt) (Err OtherNode)

-- the command of a message, which has at least one data byte
abbrev pub command_at : List ℕ → Result Command ChainFault
command_at [] = Err (MissingByte 0)
command_at (b ∷ bs) = command_of b

-- the command of a message, if it is for the rack
abbrev pub command_for : (own node : ℕ) → List ℕ → Result Command ChainFault
command_for own node bytes = cond (node == own || node == 128) (command_at bytes) (Err (Line OtherNode))
