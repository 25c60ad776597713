-- The binary framing: 10 02, the sequence number, the node, the length and what follows it with every 10 doubled, 10 03.
use Rattle.std.specs.Prelude.{ℕ, ◌-◌, Bool, cond, ◌&&◌, List, [], ◌∷◌, ◌++◌, length, take, drop, Some, None, Ok, Err, Option, Result, ◌==◌, nat_le, slice_index}
use Rattle.line.specs.declared.refusal.Flaw.{Flaw}
use Rattle.line.specs.declared.refusal.Flaw.TheVariants.{NotAFrame}
use Rattle.line.specs.Messages.{Msg, data_msg, error_msg}
use Rattle.line.specs.Framings.{Rule}
use Rattle.binary.specs.declared.Mark.{Mark}
use Rattle.binary.specs.Doubling.{doubled, undoubled}

-- What a frame holds: the sequence number, the node, the length, and the data or an error's code.
-- A data message has a node of its own; an error message has that of the mark, and length 0.
abbrev pub content : Mark → Msg → List ℕ
content m (data_msg node bytes) = m.sequence ∷ node ∷ length bytes ∷ bytes
content m (error_msg code) = m.sequence ∷ m.node ∷ 0 ∷ code ∷ []

-- The frame of what it holds.
abbrev pub framed : List ℕ → List ℕ
framed p = 16 ∷ 2 ∷ (doubled p ++ 16 ∷ 3 ∷ [])

-- The frame of a message under a mark.
abbrev pub encode : Mark → Msg → List ℕ
encode m s = framed (content m s)

-- Behind length 0 stands an error's code and no more.
abbrev pub error_of : ℕ → ℕ → List ℕ → Result (Mark × Msg) Flaw
error_of sequence node [] = Err NotAFrame
error_of sequence node (code ∷ []) = Ok (record { sequence = sequence; node = node }, error_msg code)
error_of sequence node (code ∷ more ∷ r) = Err NotAFrame

-- Behind any other length stand as many data bytes, and at most 64. The mark's node then reads as 0.
abbrev pub data_of : ℕ → ℕ → ℕ → List ℕ → Result (Mark × Msg) Flaw
data_of sequence node len bytes =
    cond (len == length bytes && nat_le len 64) (Ok (record { sequence = sequence; node = 0 }, data_msg node bytes)) (Err NotAFrame)

-- The mark and the message of what a frame holds: of at least the sequence number, the node and the length.
abbrev pub opened : Option (List ℕ) → Result (Mark × Msg) Flaw
opened None = Err NotAFrame
opened (Some []) = Err NotAFrame
opened (Some (sequence ∷ [])) = Err NotAFrame
opened (Some (sequence ∷ node ∷ [])) = Err NotAFrame
opened (Some (sequence ∷ node ∷ len ∷ r)) = cond (len == 0) (error_of sequence node r) (data_of sequence node len r)

-- Whether the first two bytes are 10 02 and the last two, apart from them, are 10 03. No more is looked at here:
-- where one more 10 stands before the end, what stands between has a 10 at its end without a second one.
abbrev pub delimited : List ℕ → Bool
delimited frame =
    nat_le 4 (length frame) && slice_index frame 0 == 16 && slice_index frame 1 == 2 && slice_index frame (length frame - 2) == 16
    && slice_index frame (length frame - 1) == 3

-- What stands between 10 02 and 10 03.
abbrev pub inner : List ℕ → Option (List ℕ)
inner frame = cond (delimited frame) (Some (take (length frame - 4) (drop 2 frame))) None

-- The mark and the message of what stands between, once the doubling is undone.
abbrev pub inner_opened : Option (List ℕ) → Result (Mark × Msg) Flaw
inner_opened None = Err NotAFrame
inner_opened (Some text) = opened (undoubled text)

-- The mark and the message of a frame.
abbrev pub decode : List ℕ → Result (Mark × Msg) Flaw
decode frame = inner_opened (inner frame)

-- The frame of a data message does not keep the mark's node.
abbrev pub kept_mark : Mark → Msg → Mark
kept_mark m (data_msg node bytes) = record { sequence = m.sequence; node = 0 }
kept_mark m (error_msg code) = m

-- An error answer has the request's sequence number and node; an unreadable frame gets no answer.
abbrev pub binary : Rule Mark
binary =
    record {
      reads = decode;
      writes = encode;
      kept_mark = kept_mark;
      error_mark = λ m node. record { sequence = m.sequence; node = node };
      unreadable_mark = None;
    }
