-- The laws of the binary framing: what it writes it reads, and what it reads it would write so.
use Rattle.std.specs.Prelude.{◌≡◌, ℕ, suc, ◌+◌, ◌-◌, ◌≤◌, true, ◌&&◌, List, [], ◌∷◌, ◌++◌, length, take, drop, Some, None, Ok, Err, Option, Result, ◌==◌, ◌≢◌, nat_le, slice_index, slice_index_or, refl}
use Rattle.std.proofs.Common.{sym, ◌∙◌, ap, subst, inl, inr, arith, length-append}
use Rattle.std.proofs.lemmas.List.{take_at, get_or_at, get_or-append-add}
use Rattle.std.proofs.lemmas.Bool.{eq-eqb, ne_eqb, eqb-true, eqb-false, le-leb, leb-true, cond-true, cond-false, cases_Bool, and_parts, and_from}
use Rattle.std.proofs.lemmas.Bool.Decides.{nat_tests}
use Rattle.line.specs.declared.refusal.Flaw.{Flaw}
use Rattle.line.specs.declared.refusal.Flaw.TheVariants.{NotAFrame}
use Rattle.line.specs.Messages.{Msg, data_msg, error_msg, Bytes, Framable, OfBytes}
use Rattle.line.specs.Framings.{Laws}
use Rattle.line.proofs.Ends.{last-two}
use Rattle.binary.specs.declared.Mark.{Mark}
use Rattle.binary.specs.Doubling.{doubled, undoubled}
use Rattle.binary.specs.Frames.{content, framed, encode, error_of, data_of, opened, delimited, inner, inner_opened, decode, kept_mark, binary}
use Rattle.binary.specs.DoublingLemmas.{inverse, length-doubled}

-- Start and end

is_delimited : (f : List ℕ) → 4 ≤ length f → slice_index f 0 ≡ 16 → slice_index f 1 ≡ 2 → slice_index f (length f - 2) ≡ 16 → slice_index f (length f - 1) ≡ 3
    → delimited f ≡ true
is_delimited f n a b c d = grind (arith, nat_tests)

delimited_of : (f : List ℕ) → delimited f ≡ true
    → (4 ≤ length f) × (slice_index f 0 ≡ 16) × (slice_index f 1 ≡ 2) × (slice_index f (length f - 2) ≡ 16) × (slice_index f (length f - 1) ≡ 3)
delimited_of f t = (grind (arith, nat_tests), grind (arith, nat_tests), grind (arith, nat_tests), grind (arith, nat_tests), grind (arith, nat_tests))

inner-delimited : (d : List ℕ) → inner (16 ∷ 2 ∷ (d ++ 16 ∷ 3 ∷ [])) ≡ Some d
inner-delimited d =
    let n = length-append d (16 ∷ 3 ∷ []) in
    let f : List ℕ = 16 ∷ 2 ∷ (d ++ 16 ∷ 3 ∷ []) in
    let i : length f - 2 ≡ suc (suc (length d)) = omega arith in
    let j : length f - 1 ≡ suc (suc (length d + 1)) = omega arith in
    let k : length f - 4 ≡ length d = omega arith in
    let dle : slice_index_or f (length f - 2) 0 ≡ 16 = ap (λ (m : ℕ). slice_index f m) i ∙ get_or_at d 16 (3 ∷ []) 0 (length d) refl in
    let etx : slice_index_or f (length f - 1) 0 ≡ 3 = ap (λ (m : ℕ). slice_index f m) j ∙ get_or-append-add d (16 ∷ 3 ∷ []) 1 0 in
    cond-true (delimited f) _ _ (is_delimited f (omega arith) refl refl dle etx)
    ∙ ap (λ (m : ℕ). Some (take m (d ++ 16 ∷ 3 ∷ []))) k ∙ ap (λ (z : List ℕ). Some z) (take_at d (16 ∷ 3 ∷ []) (length d) refl)

-- a list with its first two and its last two elements apart
apart : (f : List ℕ) → 4 ≤ length f
    → slice_index f 0 ∷ slice_index f 1 ∷ (take (length f - 4) (drop 2 f) ++ slice_index f (length f - 2) ∷ slice_index f (length f - 1) ∷ []) ≡ f
apart [] h = absurd (omega arith)
apart (x ∷ []) h = absurd (omega arith)
apart (x ∷ y ∷ r) h =
    let two : 2 ≤ length r = omega arith in
    let a : suc (suc (length r)) - 4 ≡ length r - 2 = omega arith in
    let b : suc (suc (length r)) - 2 ≡ suc (suc (length r - 2)) = omega arith in
    let c : suc (suc (length r)) - 1 ≡ suc (suc (length r - 1)) = omega arith in
    ap (λ (m : ℕ). x ∷ y ∷ (take m r ++ slice_index (x ∷ y ∷ r) (suc (suc (length r)) - 2) ∷ slice_index (x ∷ y ∷ r) (suc (suc (length r)) - 1) ∷ [])) a
    ∙ ap (λ (m : ℕ). x ∷ y ∷ (take (length r - 2) r ++ slice_index (x ∷ y ∷ r) m ∷ slice_index (x ∷ y ∷ r) (suc (suc (length r)) - 1) ∷ [])) b
    ∙ ap (λ (m : ℕ). x ∷ y ∷ (take (length r - 2) r ++ slice_index r (length r - 2) ∷ slice_index (x ∷ y ∷ r) m ∷ [])) c
    ∙ ap (λ (z : List ℕ). x ∷ y ∷ z) (last-two r two)

inner_of : (f d : List ℕ) → inner f ≡ Some d → 16 ∷ 2 ∷ (d ++ 16 ∷ 3 ∷ []) ≡ f
inner_of f d e =
    elim (cases_Bool (delimited f)) [
      | inl t ↦
          let ends = delimited_of f t in
          let g : ◌≡◌ {A = Option (List ℕ)} (Some (take (length f - 4) (drop 2 f))) (Some d) = sym (cond-true (delimited f) _ _ t) ∙ e in
          let g' : take (length f - 4) (drop 2 f) ≡ d = cc in
          simp (g', ends.1, ends.2, ends.3, ends.4) at (apart f ends.0)
      | inr t ↦
          let g : ◌≡◌ {A = Option (List ℕ)} None (Some d) = sym (cond-false (delimited f) _ _ t) ∙ e in
          cc
    ]

-- Lengths and messages

no_frame : (m : Mark) (s : Msg) → ◌≡◌ {A = Result (Mark × Msg) Flaw} (Err NotAFrame) (Ok (m, s)) → ⊥
no_frame m s e = cc

-- What is read from `p` is a message that can be framed, and `p` is what its frame holds.
record Held (p : List ℕ) (m : Mark) (s : Msg) : Type 0 where
  whole : content m s ≡ p
  framable : Framable s

held : (p : List ℕ) (x y : Mark × Msg) → ◌≡◌ {A = Result (Mark × Msg) Flaw} (Ok x) (Ok y) → content x.0 x.1 ≡ p → Framable x.1
    → Held p y.0 y.1
held p x y e w h =
    let f : x ≡ y = cc in
    record {
      whole = ap (λ (q : Mark × Msg). content q.0 q.1) (sym f) ∙ w;
      framable = subst (λ (q : Mark × Msg). Framable q.1) f h;
    }

error_of_lem : (sequence node : ℕ) (r : List ℕ) (m : Mark) (s : Msg) → error_of sequence node r ≡ Ok (m, s) → Held (sequence ∷ node ∷ 0 ∷ r) m s
error_of_lem sequence node [] m s e = absurd (no_frame m s e)
error_of_lem sequence node (code ∷ []) m s e = held _ (record { sequence = sequence; node = node }, error_msg code) (m, s) e refl tt
error_of_lem sequence node (code ∷ more ∷ r) m s e = absurd (no_frame m s e)

data_of_lem : (sequence node len : ℕ) (r : List ℕ) (m : Mark) (s : Msg) → (len ≢ 0) → data_of sequence node len r ≡ Ok (m, s)
    → Held (sequence ∷ node ∷ len ∷ r) m s
data_of_lem sequence node len r m s some e =
    elim (cases_Bool (len == length r && nat_le len 64)) [
      | inl t ↦
          let b = and_parts _ _ t in
          let is-len : len ≡ length r = eqb-true len (length r) b.0 in
          let top : len ≤ 64 = leb-true len 64 b.1 in
          held _ (record { sequence = sequence; node = 0 }, data_msg node r) (m, s) (sym (cond-true _ _ _ t) ∙ e)
          (ap (λ (k : ℕ). sequence ∷ node ∷ k ∷ r) (sym is-len)) (omega arith, omega arith)
      | inr t ↦ absurd (no_frame m s (sym (cond-false _ _ _ t) ∙ e))
    ]

opened_of : (o : Option (List ℕ)) (m : Mark) (s : Msg) → opened o ≡ Ok (m, s) → (o ≡ Some (content m s)) × Framable s
opened_of None m s e = absurd (no_frame m s e)
opened_of (Some []) m s e = absurd (no_frame m s e)
opened_of (Some (sequence ∷ [])) m s e = absurd (no_frame m s e)
opened_of (Some (sequence ∷ node ∷ [])) m s e = absurd (no_frame m s e)
opened_of (Some (sequence ∷ node ∷ len ∷ r)) m s e =
    let h : Held (sequence ∷ node ∷ len ∷ r) m s =
    elim (cases_Bool (len == 0)) [
      | inl t ↦
          subst (λ (k : ℕ). Held (sequence ∷ node ∷ k ∷ r) m s) (sym (eqb-true len 0 t))
          (error_of_lem sequence node r m s (sym (cond-true _ _ _ t) ∙ e))
      | inr t ↦ data_of_lem sequence node len r m s (eqb-false len 0 t) (sym (cond-false _ _ _ t) ∙ e)
    ] in
    (ap (λ (z : List ℕ). Some z) (sym h.whole), h.framable)

-- What a frame reads as has that frame, and can be framed.
record Decoded (f : List ℕ) (m : Mark) (s : Msg) : Type 0 where
  written : encode m s ≡ f
  framable : Framable s

inner_decoded : (o : Option (List ℕ)) (f : List ℕ) (m : Mark) (s : Msg) → inner f ≡ o → inner_opened o ≡ Ok (m, s) → Decoded f m s
inner_decoded None f m s i e = absurd (no_frame m s e)
inner_decoded (Some d) f m s i e =
    let g = opened_of (undoubled d) m s e in
    record {
      written = ap (λ (z : List ℕ). 16 ∷ 2 ∷ (z ++ 16 ∷ 3 ∷ [])) (inverse.doubles d (content m s) g.0) ∙ inner_of f d i;
      framable = g.1;
    }

decode_of : (f : List ℕ) (m : Mark) (s : Msg) → decode f ≡ Ok (m, s) → Decoded f m s
decode_of f m s e = inner_decoded (inner f) f m s refl e

opened-content : (m : Mark) (s : Msg) → Framable s → opened (Some (content m s)) ≡ Ok (kept_mark m s, s)
opened-content m (data_msg node bytes) h =
    cond-false _ _ _ (ne_eqb (length bytes) 0 (λ e. omega (arith, h.0)))
    ∙ cond-true _ _ _ (and_from _ _ (eq-eqb (length bytes) (length bytes) refl) (le-leb (length bytes) 64 h.1))
opened-content m (error_msg code) h = refl

decode-encode : (m : Mark) (s : Msg) → Framable s → decode (encode m s) ≡ Ok (kept_mark m s, s)
decode-encode m s h =
    ap inner_opened (inner-delimited (doubled (content m s))) ∙ ap opened (inverse.undoes (content m s)) ∙ opened-content m s h

length-framed : (p : List ℕ) → length p ≤ 67 → length (framed p) ≤ 138
length-framed p h = omega (arith, length-doubled p, length-append (doubled p) (16 ∷ 3 ∷ []))

length-encode : (m : Mark) (s : Msg) → Framable s → length (encode m s) ≤ 138
length-encode m (data_msg node bytes) h = length-framed (content m (data_msg node bytes)) (omega (arith, h.1))
length-encode m (error_msg code) h = length-framed (content m (error_msg code)) (omega arith)

-- Bytes of a frame and bytes of its message

front_bytes : (a b : List ℕ) → Bytes (a ++ b) → Bytes a
front_bytes [] b h = tt
front_bytes (x ∷ a) b h = (h.0, front_bytes a b h.1)

doubled_bytes : (p : List ℕ) → Bytes (doubled p) → Bytes p
doubled_bytes [] h = tt
doubled_bytes (x ∷ p) h = (
  h.0,
  elim (cases_Bool (x == 16)) [
    | inl t ↦ doubled_bytes p (subst Bytes (cond-true (x == 16) (16 ∷ doubled p) (doubled p) t) h.1).1
    | inr t ↦ doubled_bytes p (subst Bytes (cond-false (x == 16) (16 ∷ doubled p) (doubled p) t) h.1)
  ],
)

content_bytes : (m : Mark) (s : Msg) → Bytes (content m s) → OfBytes s
content_bytes m (data_msg node bytes) h = (h.1.0, h.1.1.1)
content_bytes m (error_msg code) h = h.1.1.1.0

decode_bytes : (f : List ℕ) (m : Mark) (s : Msg) → Bytes f → decode f ≡ Ok (m, s) → OfBytes s
decode_bytes f m s h e =
    let g : Bytes (encode m s) = subst Bytes (sym (decode_of f m s e).written) h in
    content_bytes m s (doubled_bytes (content m s) (front_bytes (doubled (content m s)) (16 ∷ 3 ∷ []) g.1.1))

pub binary_laws : Laws binary
binary_laws =
    record {
      reads_written = λ m s h _. decode-encode m s h;
      writes_read = λ m s f e. (decode_of f m s e).written;
      reads_framable = λ m s f e. (decode_of f m s e).framable;
      reads_bytes = λ m s f h e. decode_bytes f m s h e;
      writes_short = λ m s h. length-encode m s h;
      empty_unread = λ m s e. no_frame m s e;
    }
