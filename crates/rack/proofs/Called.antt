-- One answering call, by what it read, wrote and kept.
use Rattle.std.proofs.Common.{◌≡◌, ℕ, ◌≤◌, ltb, List, length, take, drop, Some, None, Option, sym, refl, ap, ◌∙◌}
use Rattle.std.proofs.lemmas.List.{take_at}
use Rattle.std.proofs.lemmas.Bool.{cond-false, le-ltb}
use Rattle.line.specs.Calls.{starting_with}
use Rattle.line.specs.Framings.{Rule}
use Rattle.line.specs.Messages.{Msg}
use Rattle.table.specs.Tables.{Ruled}
use Rattle.chain.specs.declared.fault.RackFault.{RackFault}
use Rattle.promises.specs.Replies.{kept_items, reply_to}
use Rattle.promises.specs.Requests.{Setup, Request, short_buffer, request_of}
use Rattle.promises.specs.Runs.{CallAnswered, answer_bytes, given}
use Rattle.promises.specs.Stored.{kept_in_store, values_in}
use Rattle.promises.specs.Wires.{Call, call_over}
use Rattle.promises.proofs.Storing.{answered_in_store}
use Rattle.rack.specs.Racks.{frame_asks}
use Rattle.rack.specs.Replies.{frame_for, reply_with}

module _ {Mark : Type 0} (R : Rule Mark) (s : Setup) (frame entry : List ℕ) (held : List (List ℕ)) where
  abbrev call : Call
  call = call_over R frame entry

  abbrev asked : Request
  asked = frame_asks R s frame

  -- the frame that answers
  framed : (o : Option Msg) → frame_for R (R.reads frame) o ≡ answer_bytes call o
  framed None = refl
  framed (Some m) = refl

  -- a buffer with room, at whose start the frame f was written
  pub called : Ruled s.rows s.limits → length held ≡ 128 → 138 ≤ length entry →
      (o : Option Msg) (fault : Option RackFault) (held' : List (List ℕ)) → reply_with o fault ≡ reply_to s (values_in held) asked →
      held' ≡ kept_in_store (kept_items s (values_in held) asked) held →
      (f : List ℕ) (n : ℕ) (exit : List ℕ) → f ≡ frame_for R (R.reads frame) o → n ≡ length f → exit ≡ starting_with f entry →
      CallAnswered s call (values_in held) (record { refusal = None; answer = take n exit; fault = fault }) (values_in held')
  called ruled rows room o fault held' told kept f n exit ef en ex =
      let e : request_of s call ≡ asked = cond-false (ltb (length entry) 138) short_buffer asked (le-ltb (length entry) 138 room) in
      let t : take n exit ≡ answer_bytes call o = ap (take n) ex ∙ take_at f (drop (length f) entry) n (sym en) ∙ ef ∙ framed o in
      answered_in_store s ruled call held held' (record { refusal = None; answer = take n exit; fault = fault }) rows
      (ap (λ (x : List ℕ). record { refusal = None; answer = x; fault = fault }) t ∙ ap (given call) told ∙ ap (λ (q : Request). given call (reply_to s (values_in held) q)) (sym e))
      (kept ∙ ap (λ (q : Request). kept_in_store (kept_items s (values_in held) q) held) (sym e))
