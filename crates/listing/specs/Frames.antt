-- The frames in received bytes, and the listing of them.
use Rattle.std.specs.Prelude.{◌≡◌, ℕ, zero, suc, ◌+◌, ◌≤◌, Bool, true, false, cond, List, [], ◌∷◌, ◌++◌, length, drop, string_bytes, codes, decimal, Option, ◌==◌, slice_index}
use Rattle.line.specs.Messages.{Msg}
use Rattle.ascii.specs.Frames.{ascii}
use Rattle.binary.specs.Frames.{binary}
use Rattle.finder.specs.declared.Outcome.{Outcome}
use Rattle.finder.specs.declared.Outcome.TheVariants as outcome
use Rattle.finder.specs.First.{Answer}
use Rattle.finder.specs.Search.{found}
use Rattle.listing.specs.declared.frames.Entries.{Entries}
use Rattle.listing.specs.declared.heard.Counts.{Counts}
use Rattle.listing.specs.Hearing.{counted, none_yet}
use Rattle.listing.specs.Words.{message_read, entry_line, counts_words}

-- What a frame says, by the framing that its first byte tells: 3A starts an ASCII frame, any other byte a binary one.
abbrev pub said_in : List ℕ → Option Msg
said_in frame = cond (slice_index frame 0 == 0x3A) (message_read (ascii.reads frame)) (message_read (binary.reads frame))

abbrev pub is_frame : Outcome → Bool
is_frame outcome.Frame = true
is_frame outcome.More = false
is_frame outcome.None = false

-- How many bytes are done with once a frame is found: those passed over and its own.
abbrev pub taken : Answer → ℕ
taken a = a.1 + length a.2

-- The frames in bytes of which the first stands at `place`, one behind the other: the place of each, and what it says.
-- At most `most` are looked for; a frame takes a byte at least, so as many as there are bytes are enough.
abbrev pub frames_in : (most place : ℕ) → List ℕ → List (ℕ × Option Msg)
frames_in zero place bs = []
frames_in (suc most) place bs =
    cond (is_frame (found bs).0)
    ((place + (found bs).1, said_in (found bs).2) ∷ frames_in most (place + taken (found bs)) (drop (taken (found bs)) bs)) []

-- The place behind the last of these frames.
abbrev pub behind : (most place : ℕ) → List ℕ → ℕ
behind zero place bs = place
behind (suc most) place bs =
    cond (is_frame (found bs).0) (behind most (place + taken (found bs)) (drop (taken (found bs)) bs)) place

-- Their lines, numbered from n on.
abbrev pub entry_lines : ℕ → List (ℕ × Option Msg) → List ℕ
entry_lines n [] = []
entry_lines n (h ∷ hs) = entry_line n h.0 h.1 ++ entry_lines (n + 1) hs

abbrev pub counted_all : Counts → List (ℕ × Option Msg) → Counts
counted_all c [] = c
counted_all c (h ∷ hs) = counted_all (counted c h.1) hs

abbrev pub counts_line : Counts → List ℕ
counts_line c = counts_words c ++ codes "\n"

-- What is left behind the last frame: an attempt that more bytes may end, with its place, or nothing that starts one.
abbrev pub left_line : ℕ → Bool → List ℕ
left_line place true = codes "more at " ++ (decimal place ++ codes "\n")
left_line place false = codes "none left\n"

abbrev pub is_more : Outcome → Bool
is_more outcome.Frame = false
is_more outcome.More = true
is_more outcome.None = false

-- The lines behind those of the frames, with what is found behind the last.
abbrev pub closing : Counts → ℕ → Answer → List ℕ
closing counts place left = counts_line counts ++ left_line (place + left.1) (is_more left.0)

module _ (bs : List ℕ) where
  abbrev pub frames : List (ℕ × Option Msg)
  frames = frames_in (length bs) 0 bs

  abbrev pub end : ℕ
  end = behind (length bs) 0 bs

  abbrev pub left : Answer
  left = found (drop end bs)

  -- The whole listing: a line for each frame, one with the counts, one for what is left.
  abbrev pub listed : List ℕ
  listed = entry_lines 1 frames ++ closing (counted_all none_yet frames) end left

-- What is listed of the frames: their lines, their counts, and where the last of them ends.
pub record Listed (bs : List ℕ) (e : Entries) : Type 0 where
  pub lines : string_bytes e.text ≡ entry_lines 1 (frames bs)
  pub counts : e.counts ≡ counted_all none_yet (frames bs)
  pub stops : e.end ≡ end bs
  pub within : e.end ≤ length bs

-- No frame is left out: behind the last one listed, none is found.
abbrev pub NoneLeftOut : Type 0
NoneLeftOut = (bs : List ℕ) → is_frame (left bs).0 ≡ false
