-- A buffer by its first bytes, as many as an array has.
use Rattle.std.proofs.Common.{◌≡◌, ◌∙◌, ℕ, ◌≤◌, List, ◌++◌, length, take, drop, Ok, Err, Result, inl, inr, true, false, refl, ap, sym, arith, append_assoc}
use Rattle.std.proofs.lemmas.List.{take-append-drop, drop-append-le, length-take-le, take_at, take-take}
use Rattle.std.proofs.lemmas.Bool.{le-ltb, cond-true, cond-false, cases_Bool}
use Rattle.std.proofs.lemmas.Bool.Decides.{nat_tests}
use Rattle.std.specs.List.{refill}
use Rattle.line.specs.declared.refusal.Flaw.{Flaw}
use Rattle.line.specs.Messages.{Msg, data_msg, error_msg, Framable}
use Rattle.line.specs.Framings.{Rule, Laws}
use Rattle.line.specs.Calls.{buffer_of, data_bytes, read_buffer, starting_with, wrong_length, write_answer, write_buffer}
use Rattle.line.specs.Framable.{framable_of}
use Rattle.line.specs.declared.refusal.WriteRefusal.{WriteRefusal}
use Rattle.line.specs.declared.refusal.WriteRefusal.TheVariants.{DataLength}

starting : (n : ℕ) (xs buffer : List ℕ) → length xs ≤ n → n ≤ length buffer → starting_with xs (take n buffer) ++ drop n buffer ≡ starting_with xs buffer
starting n xs buffer h long =
    let l = length-take-le n buffer long in
    let d = drop-append-le (length xs) (take n buffer) (drop n buffer) (omega (arith, h, l)) in
    let t = take-append-drop n buffer in
    Prim.grind (arith, d, t, append_assoc xs (drop (length xs) (take n buffer)) (drop n buffer))

short : (s : Msg) → Framable s → length (data_bytes s) ≤ 64
short (data_msg node bytes) f = f.1
short (error_msg code) f = omega arith

module _ {Mark : Type 0} (R : Rule Mark) (laws : Laws R) (frame buffer : List ℕ) (long : 64 ≤ length buffer) where
  chunk : (o : Result (Mark × Msg) Flaw) → R.reads frame ≡ o → buffer_of o (take 64 buffer) ++ drop 64 buffer ≡ buffer_of o buffer
  chunk (Ok p) e = starting 64 (data_bytes p.1) buffer (short p.1 (laws.reads_framable p.0 p.1 frame e)) long
  chunk (Err flaw) e = take-append-drop 64 buffer

  -- what a frame leaves in a buffer, by what it leaves in the first 64 bytes
  pub in_chunk : buffer_of (R.reads frame) (take 64 buffer) ++ drop 64 buffer ≡ read_buffer R frame buffer
  in_chunk = chunk (R.reads frame) refl ∙ sym (cond-false _ _ _ (le-ltb (length buffer) 64 long))

pub framable : (s : Msg) → wrong_length s ≡ false → Framable s
framable (data_msg node bytes) e = (grind (arith, nat_tests), grind (arith, nat_tests))
framable (error_msg code) e = tt

-- whether a message can be framed, by what is made of it
unfit : (s : Msg) (e : WriteRefusal) → Err e ≡ framable_of s → (e ≡ DataLength) × (wrong_length s ≡ true)
unfit s e is =
    elim (cases_Bool (wrong_length s)) [
      | inl w ↦ let d : ◌≡◌ {A = Result Msg WriteRefusal} (Err e) (Err DataLength) = is ∙ cond-true _ _ _ w in (cc, w)
      | inr w ↦ let d : ◌≡◌ {A = Result Msg WriteRefusal} (Err e) (Ok s) = is ∙ cond-false _ _ _ w in cc
    ]

fit : (s t : Msg) → Ok t ≡ framable_of s → (t ≡ s) × (wrong_length s ≡ false)
fit s t is =
    elim (cases_Bool (wrong_length s)) [
      | inl w ↦ let d : ◌≡◌ {A = Result Msg WriteRefusal} (Ok t) (Err DataLength) = is ∙ cond-true _ _ _ w in cc
      | inr w ↦ let d : ◌≡◌ {A = Result Msg WriteRefusal} (Ok t) (Ok s) = is ∙ cond-false _ _ _ w in (cc, w)
    ]

module _ {Mark : Type 0} (R : Rule Mark) (m : Mark) (s : Msg) (buffer : List ℕ) (long : 138 ≤ length buffer) where
  -- what is answered for a message that can not be framed, and that the buffer stays
  pub unwritten : (e : WriteRefusal) → Err e ≡ framable_of s → (Err e ≡ write_answer R m s buffer) × (buffer ≡ write_buffer R m s buffer)
  unwritten e is =
      let room = le-ltb (length buffer) 138 long in
      let u = unfit s e is in
      (ap (λ (r : WriteRefusal). Err r) u.0 ∙ sym (cond-false _ _ _ room ∙ cond-true _ _ _ u.1), sym (cond-false _ _ _ room ∙ cond-true _ _ _ u.1))

  -- what is answered for a framable message, and what its frame leaves in a buffer, by what it leaves in the first 138 bytes
  pub written_chunk : Laws R → (t : Msg) → Ok t ≡ framable_of s
      → (Ok (length (R.writes m t)) ≡ write_answer R m s buffer)
      × (starting_with (R.writes m t) (take 138 buffer) ++ drop 138 buffer ≡ write_buffer R m s buffer)
  written_chunk laws t is =
      let room = le-ltb (length buffer) 138 long in
      let f = fit s t is in
      let xs : List ℕ = R.writes m s in
      let laid = starting 138 xs buffer (laws.writes_short m s (framable s f.1)) long in (
        ap (λ (r : Msg). Ok (length (R.writes m r))) f.0 ∙ sym (cond-false _ _ _ room ∙ cond-false _ _ _ f.1),
        ap (λ (r : Msg). starting_with (R.writes m r) (take 138 buffer) ++ drop 138 buffer) f.0 ∙ laid
            ∙ sym (cond-false _ _ _ room ∙ cond-false _ _ _ f.1),
      )

-- the frame alone, of a vector with the frame over the start of its elements
pub encoded : (xs bytes rest old new : List ℕ) (n len : ℕ) → len ≡ length xs → length xs ≤ n → new ≡ starting_with xs bytes
    → take len (refill n old (new ++ rest)) ≡ xs
encoded xs bytes rest old new n len is-len h is-new =
    let tail : List ℕ = drop (length (new ++ rest)) old in
    let left : List ℕ = drop (length xs) bytes in
    let whole : (new ++ rest) ++ tail ≡ xs ++ ((left ++ rest) ++ tail) =
    ap (λ (z : List ℕ). (z ++ rest) ++ tail) is-new ∙ ap (λ (z : List ℕ). z ++ tail) (append_assoc xs left rest) ∙ append_assoc xs (left ++ rest) tail in
    take-take len n ((new ++ rest) ++ tail) (omega arith) ∙ ap (take len) whole ∙ take_at xs ((left ++ rest) ++ tail) len (sym is-len)
