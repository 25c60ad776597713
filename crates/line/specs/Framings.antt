-- What a framing means, and the laws that each one keeps.
use Rattle.std.specs.Prelude.{◌≡◌, ℕ, ◌≤◌, List, [], length, Ok, Option, Result, ◌≢◌}
use Rattle.line.specs.declared.refusal.Flaw.{Flaw}
use Rattle.line.specs.Messages.{Msg, Framable, Bytes, OfBytes}

-- The fixed rules of a framing whose frames carry a mark.
pub record Rule (Mark : Type 0) : Type 0 where
  -- the mark and the message of a frame, or what is wrong with it
  pub reads : List ℕ → Result (Mark × Msg) Flaw
  -- the frame of a message under a mark
  pub writes : Mark → Msg → List ℕ
  -- what the frame keeps of the mark that it is written with
  pub kept_mark : Mark → Msg → Mark
  -- the mark of an error message that answers a request, from the request's mark and node
  pub error_mark : Mark → ℕ → Mark
  -- the mark of error 03 to an unreadable frame, or nothing where that gets no answer
  pub unreadable_mark : Option Mark

pub record Laws {Mark : Type 0} (R : Rule Mark) : Type 0 where
  -- what it writes, it reads as the same message
  pub reads_written : (m : Mark) (s : Msg) → Framable s → OfBytes s → R.reads (R.writes m s) ≡ Ok (R.kept_mark m s, s)
  -- what it reads, it would write so
  pub writes_read : (m : Mark) (s : Msg) (f : List ℕ) → R.reads f ≡ Ok (m, s) → R.writes m s ≡ f
  -- what it reads is a data message of 1 to 64 bytes, or an error message
  pub reads_framable : (m : Mark) (s : Msg) (f : List ℕ) → R.reads f ≡ Ok (m, s) → Framable s
  -- what it reads from bytes is made of bytes
  pub reads_bytes : (m : Mark) (s : Msg) (f : List ℕ) → Bytes f → R.reads f ≡ Ok (m, s) → OfBytes s
  -- what it writes fits 138 bytes
  pub writes_short : (m : Mark) (s : Msg) → Framable s → length (R.writes m s) ≤ 138
  -- no bytes are no frame
  pub empty_unread : (m : Mark) (s : Msg) → R.reads [] ≢ Ok (m, s)
