-- What reading and writing answer where the buffer is long enough.
use Rattle.std.proofs.Common.{◌≡◌, ℕ, ◌≤◌, List, length, drop, Ok, Err, Result, refl, ap, ◌∙◌, arith}
use Rattle.std.proofs.lemmas.List.{take_at}
use Rattle.std.proofs.lemmas.Bool.{le-ltb, cond-false}
use Rattle.line.specs.declared.message.Unpacked.{Unpacked}
use Rattle.line.specs.declared.refusal.Flaw.{Flaw}
use Rattle.line.specs.Messages.{Msg, data_msg, error_msg}
use Rattle.line.specs.Framings.{Rule}
use Rattle.line.specs.Calls.{answer_of, buffer_of, data_bytes, placed, read_answer, read_buffer, starting_with, told}

-- what is told of a message, with its data bytes in the buffer, is that message
placed-told : (s : Msg) (buffer : List ℕ) → placed (told s) (starting_with (data_bytes s) buffer) ≡ s
placed-told (data_msg n bs) buffer = ap (data_msg n) (take_at bs (drop (length bs) buffer) (length bs) refl)
placed-told (error_msg c) buffer = refl

told_of : {Mark : Type 0} (o : Result (Mark × Msg) Flaw) (m : Mark) (u : Unpacked) (buffer after : List ℕ) → Ok (m, u) ≡ answer_of o
    → after ≡ buffer_of o buffer → o ≡ Ok (m, placed u after)
told_of (Err flaw) m u buffer after a b = let z : ◌≡◌ {A = ℕ} 0 1 = cc in absurd (omega arith)
told_of {Mark} (Ok q) m u buffer after a b =
    let l = placed-told q.1 buffer in
    let pair : ◌≡◌ {A = Mark × Unpacked} (m, u) (q.0, told q.1) = cc in
    let i : m ≡ q.0 = ap (λ (x : Mark × Unpacked). x.0) pair in
    let j : u ≡ told q.1 = ap (λ (x : Mark × Unpacked). x.1) pair in
    let k : placed u after ≡ q.1 = cc in
    simp (i, k)

-- what a call read is what the rule reads
pub read_said : {Mark : Type 0} (R : Rule Mark) (frame buffer after : List ℕ) (m : Mark) (u : Unpacked) → 64 ≤ length buffer
    → Ok (m, u) ≡ read_answer R frame buffer → after ≡ read_buffer R frame buffer → R.reads frame ≡ Ok (m, placed u after)
read_said R frame buffer after m u h a b =
    let f = le-ltb (length buffer) 64 h in
    told_of (R.reads frame) m u buffer after (a ∙ cond-false _ _ _ f) (b ∙ cond-false _ _ _ f)
