-- Messages that can be framed.
use Rattle.std.specs.Prelude.{cond, Ok, Err, Result}
use Rattle.line.specs.declared.framable.Framable.{Framable}
use Rattle.line.specs.declared.refusal.WriteRefusal.{WriteRefusal}
use Rattle.line.specs.declared.refusal.WriteRefusal.TheVariants.{DataLength}
use Rattle.line.specs.Calls.{said, wrong_length}
use Rattle.line.specs.Messages.{Msg}

-- the message that is told to be framable, if none is refused
abbrev pub framable_in : Result Framable WriteRefusal → Result Msg WriteRefusal
framable_in (Ok f) = Ok (said f.message)
framable_in (Err e) = Err e

-- a message can be framed if it has no wrong length
abbrev pub framable_of : Msg → Result Msg WriteRefusal
framable_of s = cond (wrong_length s) (Err DataLength) (Ok s)
