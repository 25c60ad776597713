-- The frames of received bytes, one after the other.
use Rattle.std.proofs.Common.{◌≡◌, ℕ, zero, suc, ◌+◌, ◌-◌, ◌<◌, ◌≤◌, Bool, true, false, cond, List, [], ◌∷◌, ◌++◌, length, take, drop, string_bytes, Some, None, Option, sym, refl, ap, ◌∙◌, inl, inr, append_assoc, append-nil, arith}
use Rattle.std.proofs.lemmas.List.{drop_all, drop-drop, take_rest}
use Rattle.std.proofs.lemmas.Bool.{cond-true, cond-false, cases_Bool}
use Rattle.line.specs.Messages.{Msg, data_msg, error_msg}
use Rattle.finder.specs.declared.Outcome.{Outcome}
use Rattle.finder.specs.declared.Outcome.TheVariants.{Frame, More}
use Rattle.finder.specs.declared.Outcome.TheVariants as outcome
use Rattle.finder.specs.Shapes.{Whole, ascii_frame, binary_frame}
use Rattle.finder.specs.First.{Answer, First, first_frame, first_more, first_none}
use Rattle.finder.specs.Search.{found}
use Rattle.finder.proofs.Firsts.{found_first}
use Rattle.listing.specs.declared.frames.Entries.{Entries}
use Rattle.listing.specs.declared.heard.Counts.{Counts}
use Rattle.listing.specs.Words.{entry_line}
use Rattle.listing.specs.Hearing.{counted, none_yet, total}
use Rattle.listing.specs.Frames.{said_in, is_frame, taken, frames_in, behind, frames, end, entry_lines, counted_all, counts_line, left_line, is_more, closing, listed, Listed, NoneLeftOut}

whole_some : {frame : List ℕ} → Whole frame → 0 < length frame
whole_some (ascii_frame body w h) = omega arith
whole_some (binary_frame body d h) = omega arith

-- a frame takes a byte at least
frame_takes : {bs : List ℕ} {a : Answer} → First bs a → is_frame a.0 ≡ true → 0 < taken a
frame_takes (first_frame passed whole rest e) t = let some = whole_some whole in omega arith
frame_takes (first_more passed u) t = let z : ◌≡◌ {A = ℕ} 0 1 = cc in absurd (omega arith)
frame_takes (first_none passed) t = let z : ◌≡◌ {A = ℕ} 0 1 = cc in absurd (omega arith)

-- what `find(&bs[place..])` answers
pub found_from : (bs : List ℕ) (place : ℕ) (o : Outcome) (p : ℕ) (frame : List ℕ) → o ≡ (found (take (length bs - place) (drop place bs))).0
    → p ≡ (found (take (length bs - place) (drop place bs))).1 → frame ≡ (found (take (length bs - place) (drop place bs))).2
    → ◌≡◌ {A = Answer} (o, p, frame) (found (drop place bs))
found_from bs place o p frame is-o is-p is-frame = (λ i. (is-o i, is-p i, is-frame i)) ∙ ap found (take_rest bs place)

-- One turn of the loop, with the answer to the bytes from a place on.
module _ (bs : List ℕ) (place : ℕ) (a : Answer) (is : a ≡ found (drop place bs)) where
  frames_at : (most : ℕ) → frames_in (suc most) place (drop place bs)
      ≡ cond (is_frame a.0) ((place + a.1, said_in a.2) ∷ frames_in most (place + taken a) (drop (place + taken a) bs)) []
  frames_at most =
      ap (λ (x : Answer). cond (is_frame x.0) ((place + x.1, said_in x.2) ∷ frames_in most (place + taken x) (drop (taken x) (drop place bs))) []) (sym is)
      ∙ ap (λ (z : List ℕ). cond (is_frame a.0) ((place + a.1, said_in a.2) ∷ frames_in most (place + taken a) z) []) (drop-drop (taken a) place bs)

  behind_at : (most : ℕ) → behind (suc most) place (drop place bs) ≡ cond (is_frame a.0) (behind most (place + taken a) (drop (place + taken a) bs)) place
  behind_at most =
      ap (λ (x : Answer). cond (is_frame x.0) (behind most (place + taken x) (drop (taken x) (drop place bs))) place) (sym is)
      ∙ ap (λ (z : List ℕ). cond (is_frame a.0) (behind most (place + taken a) z) place) (drop-drop (taken a) place bs)

  frames_end : is_frame a.0 ≡ false → (most : ℕ) → frames_in most place (drop place bs) ≡ []
  frames_end f zero = refl
  frames_end f (suc most) = frames_at most ∙ cond-false _ _ _ f

  behind_end : is_frame a.0 ≡ false → (most : ℕ) → behind most place (drop place bs) ≡ place
  behind_end f zero = refl
  behind_end f (suc most) = behind_at most ∙ cond-false _ _ _ f

total-counted : (c : Counts) (said : Option Msg) → total (counted c said) ≡ total c + 1
total-counted c None = omega arith
total-counted c (Some (data_msg node bytes)) = omega arith
total-counted c (Some (error_msg code)) = omega arith

pub not_frame : (o : Outcome) → (o ≡ Frame → ⊥) → is_frame o ≡ false
not_frame Frame n = absurd (n refl)
not_frame More n = refl
not_frame outcome.None n = refl

-- What the loop has reached: what is listed before a place, with what stands from there on, is the whole.
pub record Reached (bs text : List ℕ) (counts : Counts) (place : ℕ) : Type 0 where
  pub within : place ≤ length bs
  pub few : total counts ≤ place
  lines : text ++ entry_lines (total counts + 1) (frames_in (length bs - total counts) place (drop place bs)) ≡ entry_lines 1 (frames bs)
  tally : counted_all counts (frames_in (length bs - total counts) place (drop place bs)) ≡ counted_all none_yet (frames bs)
  stops : behind (length bs - total counts) place (drop place bs) ≡ end bs

pub at_start : (bs : List ℕ) → Reached bs [] none_yet 0
at_start bs = let n : length bs - 0 ≡ length bs = omega arith in record { within = omega arith; few = omega arith; lines = rw n refl; tally = rw n refl; stops = rw n refl }

module _ (bs text : List ℕ) (counts : Counts) (place : ℕ) (r : Reached bs text counts place) (a : Answer) (is : a ≡ found (drop place bs)) where
  -- a frame more
  pub one_more : (said : Option Msg) (after : List ℕ) (tally : Counts) (next : ℕ) → is_frame a.0 ≡ true → 0 < length a.2 → place + taken a ≤ length bs
      → next ≡ place + taken a → said ≡ said_in a.2 → after ≡ text ++ entry_line (total counts + 1) (place + a.1) said → tally ≡ counted counts said
      → Reached bs after tally next
  one_more said after tally next t some h is-next is-said is-after is-tally =
      let n : ℕ = total counts in
      let most : ℕ = length bs - (n + 1) in
      let fuel : length bs - n ≡ suc most = omega (arith, r.few) in
      let k : total tally ≡ n + 1 = ap total is-tally ∙ total-counted counts said in
      let rest : List (ℕ × Option Msg) = frames_in most (place + taken a) (drop (place + taken a) bs) in
      let line : List ℕ = entry_line (n + 1) (place + a.1) said in
      let fs : (place + a.1, said) ∷ rest ≡ frames_in (length bs - n) place (drop place bs) =
      ap (λ (s : Option Msg). (place + a.1, s) ∷ rest) is-said ∙ sym (ap (λ (x : ℕ). frames_in x place (drop place bs)) fuel ∙ frames_at bs place a is most ∙ cond-true _ _ _ t) in
      let bh = ap (λ (x : ℕ). behind x place (drop place bs)) fuel ∙ behind_at bs place a is most ∙ cond-true _ _ _ t in
      rw is-next
      (record {
        within = h;
        few = omega (arith, r.few);
        lines =
            ap (λ (x : ℕ). after ++ entry_lines (x + 1) (frames_in (length bs - x) (place + taken a) (drop (place + taken a) bs))) k
            ∙ ap (λ (z : List ℕ). z ++ entry_lines (n + 1 + 1) rest) is-after ∙ append_assoc text line (entry_lines (n + 1 + 1) rest)
            ∙ ap (λ (hs : List (ℕ × Option Msg)). text ++ entry_lines (n + 1) hs) fs ∙ r.lines;
        tally =
            ap (λ (x : ℕ). counted_all tally (frames_in (length bs - x) (place + taken a) (drop (place + taken a) bs))) k
            ∙ ap (λ (c : Counts). counted_all c rest) is-tally ∙ ap (counted_all counts) fs ∙ r.tally;
        stops = ap (λ (x : ℕ). behind (length bs - x) (place + taken a) (drop (place + taken a) bs)) k ∙ sym bh ∙ r.stops;
      })

  -- none more
  pub none_more : is_frame a.0 ≡ false → (text ≡ entry_lines 1 (frames bs)) × (counts ≡ counted_all none_yet (frames bs)) × (place ≡ end bs)
  none_more f =
      let none = sym (frames_end bs place a is f (length bs - total counts)) in (
        sym (append-nil text) ∙ ap (λ (hs : List (ℕ × Option Msg)). text ++ entry_lines (total counts + 1) hs) none ∙ r.lines,
        ap (counted_all counts) none ∙ r.tally,
        sym (behind_end bs place a is f (length bs - total counts)) ∙ r.stops,
      )

-- with as many frames looked for as there are bytes, none is left
none_left : (most place : ℕ) (bs : List ℕ) → length bs ≤ place + most → is_frame (found (drop (behind most place (drop place bs)) bs)).0 ≡ false
none_left zero place bs h =
    let e : length bs ≤ place = omega arith in
    ap (λ (z : List ℕ). is_frame (found z).0) (drop_all place bs e)
none_left (suc most) place bs h =
    elim (cases_Bool (is_frame (found (drop place bs)).0)) [
      | inl t ↦
          let some : 0 < taken (found (drop place bs)) = frame_takes (found_first (drop place bs)) t in
          let e = behind_at bs place (found (drop place bs)) refl most ∙ cond-true _ _ _ t in
          ap (λ (n : ℕ). is_frame (found (drop n bs)).0) e ∙ none_left most (place + taken (found (drop place bs))) bs (omega arith)
      | inr f ↦
          let e = behind_at bs place (found (drop place bs)) refl most ∙ cond-false _ _ _ f in
          ap (λ (n : ℕ). is_frame (found (drop n bs)).0) e ∙ f
    ]

pub none_left_out : NoneLeftOut
none_left_out bs = none_left (length bs) 0 bs (omega arith)

pub not_more : (o : Outcome) → (o ≡ More → ⊥) → is_more o ≡ false
not_more Frame n = refl
not_more More n = absurd (n refl)
not_more outcome.None n = refl

-- the counts, then what is left
pub closing_by : (before : List ℕ) (counts : Counts) (place : ℕ) (a b : Answer) (more : Bool) → a ≡ b → more ≡ is_more a.0
    → (before ++ counts_line counts) ++ left_line (place + a.1) more ≡ before ++ closing counts place b
closing_by before counts place a b more is-a is-more =
    append_assoc before (counts_line counts) (left_line (place + a.1) more)
    ∙ ap (λ (m : Bool). before ++ (counts_line counts ++ left_line (place + a.1) m)) is-more ∙ ap (λ (x : Answer). before ++ closing counts place x) is-a

-- the lines of all frames, and those behind them
pub closed : (bs : List ℕ) (e : Entries) → Listed bs e → string_bytes e.text ++ closing e.counts e.end (found (drop e.end bs)) ≡ listed bs
closed bs e l =
    ap (λ (z : List ℕ). z ++ closing e.counts e.end (found (drop e.end bs))) l.lines
    ∙ ap (λ (c : Counts). entry_lines 1 (frames bs) ++ closing c e.end (found (drop e.end bs))) l.counts
    ∙ ap (λ (n : ℕ). entry_lines 1 (frames bs) ++ closing (counted_all none_yet (frames bs)) n (found (drop n bs))) l.stops
