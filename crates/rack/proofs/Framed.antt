-- Every answer can be framed.
use Rattle.std.proofs.Common.{◌≡◌, ℕ, ◌<◌, ◌≤◌, Bool, true, false, cond, ltb, List, [], ◌∷◌, ◌++◌, length, IfSome, Some, None, Option, sym, refl, subst, arith, length-append}
use Rattle.std.proofs.lemmas.Bool.{ltb-false}
use Rattle.std.specs.Bool.{then_some}
use Rattle.line.specs.Messages.{Msg, Framable}
use Rattle.table.specs.Rows.{PlainRow}
use Rattle.table.specs.Draws.{row_at}
use Rattle.chain.specs.declared.fault.RackFault.{RackFault}
use Rattle.chain.specs.Faults.{too_long}
use Rattle.chain.specs.Items.{PlainItem, write, read}
use Rattle.chain.specs.Answers.{Values, Answer, answered, answer_from}
use Rattle.promises.specs.Requests.{Setup, Request, short_buffer, unreadable, error_message, other_node, unknown_command}
use Rattle.promises.specs.Requests as request
use Rattle.promises.specs.Replies.{Reply, read_msg, reply_to, write_msg}

-- an answer has 1 to 64 bytes
abbrev Sized : Answer → Type 0
Sized a = (0 < length a.bytes) × (length a.bytes ≤ 64)

sized_when : (b : Bool) (x y : Answer) → Sized x → (b ≡ false → Sized y) → Sized (cond b x y)
sized_when true x y p q = p
sized_when false x y p q = q refl

answer_sized : (rows : List PlainRow) (h : Values) (items : List PlainItem) (bytes : List ℕ) (refusal : Option RackFault) → 0 < length bytes → length bytes ≤ 64 →
    Sized (answer_from rows h bytes items refusal)
answer_sized rows h [] bytes refusal some few = (some, few)
answer_sized rows h (write r i v ∷ items) bytes refusal some few = answer_sized rows h items bytes refusal some few
answer_sized rows h (read q ∷ items) bytes refusal some few =
    let more : List ℕ = bytes ++ answered q (row_at rows q.row).kind (h q.row) in
    let n = length-append bytes (answered q (row_at rows q.row).kind (h q.row)) in
    sized_when (ltb 64 (length more)) (record { bytes = bytes; refusal = Some (too_long q.place) }) (answer_from rows h more items refusal) (some, few)
    (λ t. answer_sized rows h items more refusal (omega arith) (ltb-false 64 (length more) t))

write_framable : (node size : ℕ) (o : Option RackFault) → Framable (write_msg node size o)
write_framable node size None = (omega arith, omega arith)
write_framable node size (Some f) = (omega arith, omega arith)

read_framable : (node : ℕ) (a : Answer) (o : Option RackFault) → Sized a → Framable (read_msg node a.bytes o)
read_framable node a None s = s
read_framable node a (Some f) s = (omega arith, omega arith)

when_framable : (b : Bool) (m : Msg) → Framable m → IfSome (then_some b m) Framable
when_framable true m f = f
when_framable false m f = tt

reply_framable : (s : Setup) (h : Values) (r : Request) → IfSome (reply_to s h r).message Framable
reply_framable s h short_buffer = tt
reply_framable s h (unreadable flaw answered) = when_framable answered _ tt
reply_framable s h error_message = tt
reply_framable s h other_node = tt
reply_framable s h (unknown_command node fault) = (omega arith, omega arith)
reply_framable s h (request.write node answered size w) = when_framable answered _ (write_framable node size _)
reply_framable s h (request.read node w) = read_framable node (answer_from s.rows h (2 ∷ []) w.items w.refusal) _ (answer_sized s.rows h w.items (2 ∷ []) w.refusal (omega arith) (omega arith))

pub told_framable : (s : Setup) (h : Values) (r : Request) (reply : Reply) → reply ≡ reply_to s h r → IfSome reply.message Framable
told_framable s h r reply e = subst (λ (q : Reply). IfSome q.message Framable) (sym e) (reply_framable s h r)
