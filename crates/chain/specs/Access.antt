-- The commands.
use Rattle.std.specs.Prelude.{ℕ, cond, Ok, Err, Result, ◌==◌}
use Rattle.chain.specs.declared.access.Command.{Command}
use Rattle.chain.specs.declared.access.Command.TheVariants.{Write, WriteUnanswered, Read}
use Rattle.chain.specs.declared.fault.ChainFault.{ChainFault}
use Rattle.chain.specs.declared.fault.ChainFault.TheVariants.{UnknownCommand}

-- 01 writes, 02 writes with no answer, 04 reads, and no other byte is a command
abbrev pub command_of : ℕ → Result Command ChainFault
command_of b =
    cond (b == 0x01) (Ok Write)
    (cond (b == 0x02) (Ok WriteUnanswered)
    (cond (b == 0x04) (Ok Read) (Err UnknownCommand)))
