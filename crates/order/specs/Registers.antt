-- Calls on registers: reads, writes and copies, each under the tag of the desk that asks.
use Rattle.std.specs.Prelude.{◌≡◌, ℕ, Bool, false, ◌||◌, List, Some, None, Ok, Err, Option, Result, ◌==◌, slice_set}
use Rattle.std.specs.List.{slice_get}
use Rattle.order.specs.Calls.{Calls}
use Rattle.order.specs.declared.registers.Ask.{Ask}
use Rattle.order.specs.declared.registers.Ask.TheVariants.{Read, Write, Copy}
use Rattle.order.specs.declared.registers.Call.{Call}
use Rattle.order.specs.declared.registers.Missing.{Missing}
use Rattle.order.specs.declared.registers.Outcome.{Outcome}

-- The registers are a list of values. `slice_get s r` is what register r holds, or none where it is missing.

-- a value where one is read, none where a write or a copy is done, or that a register is missing
abbrev pub Answer : Type 0
Answer = Result (Option ℕ) Missing

abbrev pub missing : Missing
missing = record {}

-- the answer to a read, by what the register holds
abbrev pub read_of : Option ℕ → Answer
read_of (Some v) = Ok (Some v)
read_of None = Err missing

-- the answer to a write, by what the register held
abbrev pub write_of : Option ℕ → Answer
write_of (Some v) = Ok None
write_of None = Err missing

-- the answer to a copy, by what the two registers held
abbrev pub copy_of : Option ℕ → Option ℕ → Answer
copy_of (Some v) to = write_of to
copy_of None to = Err missing

-- register r with what another one holds
abbrev pub stored : Option ℕ → List ℕ → ℕ → List ℕ
stored (Some v) s r = slice_set s r v
stored None s r = s

-- the answer to what is asked (a register that is set where it is missing changes nothing)
abbrev pub answered : Ask → List ℕ → Answer
answered (Read r) s = read_of (slice_get s r)
answered (Write r v) s = write_of (slice_get s r)
answered (Copy q r) s = copy_of (slice_get s q) (slice_get s r)

-- the registers after it
abbrev pub left : Ask → List ℕ → List ℕ
left (Read r) s = s
left (Write r v) s = slice_set s r v
left (Copy q r) s = stored (slice_get s q) s r

-- whether it writes register k
abbrev pub written : Ask → ℕ → Bool
written (Read r) k = false
written (Write r v) k = k == r
written (Copy q r) k = k == r

-- whether it concerns register k
abbrev pub concerned : Ask → ℕ → Bool
concerned (Read r) k = k == r
concerned (Write r v) k = k == r
concerned (Copy q r) k = k == q || k == r

-- the calls on registers, whose rows are the registers
abbrev pub register_calls : Calls Call Outcome (Option ℕ) (List ℕ)
register_calls = record {
  row = slice_get;
  outcome = λ c s. record { tag = c.tag; answer = answered c.ask s };
  after = λ c s. left c.ask s;
  writes = λ c k. written c.ask k;
  concerns = λ c k. concerned c.ask k;
}

-- a call is recast when it asks for the same, under any tag
abbrev pub Retagged : Call → Call → Type 0
Retagged c d = c.ask ≡ d.ask

-- two outcomes are the same when they have the same answer, under any tags
abbrev pub SameAnswer : Outcome → Outcome → Type 0
SameAnswer o p = o.answer ≡ p.answer
