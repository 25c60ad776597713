-- The laws of the ASCII framing: what it writes it reads, and what it reads it would write so.
use Rattle.std.specs.Prelude.{◌≡◌, ℕ, suc, ◌+◌, ◌-◌, ◌*◌, ◌/◌, ◌%◌, ◌<◌, ◌≤◌, true, List, [], ◌∷◌, ◌++◌, length, take, drop, Some, None, Ok, Err, Option, Result, ◌==◌, nat_lt, slice_index, slice_index_or, refl}
use Rattle.std.proofs.Common.{sym, ◌∙◌, ap, subst, inl, inr, arith, length-append}
use Rattle.std.proofs.lemmas.List.{take_at, get_or_at, get_or-append-add}
use Rattle.std.proofs.lemmas.Bool.{eq-eqb, eqb-true, cond-true, cond-false, cases_Bool, ltb-false, le-ltb}
use Rattle.std.proofs.lemmas.Bool.Decides.{nat_tests}
use Rattle.line.specs.declared.refusal.Flaw.{Flaw}
use Rattle.line.specs.declared.refusal.Flaw.TheVariants.{NotAFrame}
use Rattle.line.specs.Messages.{Msg, data_msg, error_msg, Bytes, Framable, OfBytes}
use Rattle.line.specs.Framings.{Laws}
use Rattle.line.proofs.Ends.{last-two}
use Rattle.ascii.specs.Hex.{digit, hexes, value, paired, spelled}
use Rattle.ascii.specs.Frames.{counted, encode, message, opened, delimited, inner, digits_opened, decode, ascii}
use Rattle.ascii.specs.Digits.{length-hexes}

-- Digits and bytes

value-digit : (v : ℕ) → v < 16 → value (digit v) ≡ Some v
value-digit v h = grind (arith, nat_tests)

digit-value : (c v : ℕ) → value c ≡ Some v → (v < 16) × (digit v ≡ c)
digit-value c v e = grind (arith, nat_tests)

spelled-hexes : (p : List ℕ) → Bytes p → spelled (hexes p) ≡ Some p
spelled-hexes [] h = refl
spelled-hexes (x ∷ p) h =
    let rest = spelled-hexes p h.1 in
    let high = value-digit (x / 16) (omega (arith, h.0)) in
    let low = value-digit (x % 16) (omega arith) in
    let sum : 16 * (x / 16) + x % 16 ≡ x = omega arith in
    simp (high, low, rest) (ap (λ (y : ℕ). Some (y ∷ p)) sum)

record Paired (x y : Option ℕ) (z : Option (List ℕ)) (p : List ℕ) : Type 0 where
  h : ℕ
  l : ℕ
  q : List ℕ
  is_x : x ≡ Some h
  is_y : y ≡ Some l
  is_z : z ≡ Some q
  is_p : p ≡ (16 * h + l) ∷ q

paired_of : (x y : Option ℕ) (z : Option (List ℕ)) (p : List ℕ) → paired x y z ≡ Some p → Paired x y z p
paired_of None y z p e = cc
paired_of (Some h) None z p e = cc
paired_of (Some h) (Some l) None p e = cc
paired_of (Some h) (Some l) (Some q) p e = record { h = h; l = l; q = q; is_x = refl; is_y = refl; is_z = refl; is_p = cc }

pub hexes-spelled : (r p : List ℕ) → spelled r ≡ Some p → (hexes p ≡ r) × Bytes p
hexes-spelled [] p e = let w : [] ≡ p = cc in subst (λ (z : List ℕ). (hexes z ≡ []) × Bytes z) w (refl, tt)
hexes-spelled (a ∷ []) p e = cc
hexes-spelled (a ∷ b ∷ r) p e =
    let f = paired_of (value a) (value b) (spelled r) p e in
    let high = digit-value a f.h f.is_x in
    let low = digit-value b f.l f.is_y in
    let rest = hexes-spelled r f.q f.is_z in
    let i : (16 * f.h + f.l) / 16 ≡ f.h = omega (arith, low.0) in
    let j : (16 * f.h + f.l) % 16 ≡ f.l = omega (arith, low.0) in
    let small : 16 * f.h + f.l < 256 = omega (arith, low.0, high.0) in
    (simp (f.is_p, i, j, high.1, low.1, rest.0), subst Bytes (sym f.is_p) (small, rest.1))

-- Start and end

is_delimited : (f : List ℕ) → 3 ≤ length f → slice_index f 0 ≡ 58 → slice_index f (length f - 2) ≡ 13 → slice_index f (length f - 1) ≡ 10 → delimited f ≡ true
is_delimited f n a b c = grind (arith, nat_tests)

delimited_of : (f : List ℕ) → delimited f ≡ true
    → (3 ≤ length f) × (slice_index f 0 ≡ 58) × (slice_index f (length f - 2) ≡ 13) × (slice_index f (length f - 1) ≡ 10)
delimited_of f t = (grind (arith, nat_tests), grind (arith, nat_tests), grind (arith, nat_tests), grind (arith, nat_tests))

inner-delimited : (d : List ℕ) → inner (58 ∷ (d ++ 13 ∷ 10 ∷ [])) ≡ Some d
inner-delimited d =
    let n = length-append d (13 ∷ 10 ∷ []) in
    let f : List ℕ = 58 ∷ (d ++ 13 ∷ 10 ∷ []) in
    let i : length f - 2 ≡ suc (length d) = omega arith in
    let j : length f - 1 ≡ suc (length d + 1) = omega arith in
    let k : length f - 3 ≡ length d = omega arith in
    let cr : slice_index_or f (length f - 2) 0 ≡ 13 = ap (λ (m : ℕ). slice_index f m) i ∙ get_or_at d 13 (10 ∷ []) 0 (length d) refl in
    let lf : slice_index_or f (length f - 1) 0 ≡ 10 = ap (λ (m : ℕ). slice_index f m) j ∙ get_or-append-add d (13 ∷ 10 ∷ []) 1 0 in
    cond-true (delimited f) _ _ (is_delimited f (omega arith) refl cr lf)
    ∙ ap (λ (m : ℕ). Some (take m (d ++ 13 ∷ 10 ∷ []))) k ∙ ap (λ (z : List ℕ). Some z) (take_at d (13 ∷ 10 ∷ []) (length d) refl)

-- a list with its first and its last two elements apart
apart : (f : List ℕ) → 3 ≤ length f
    → slice_index f 0 ∷ (take (length f - 3) (drop 1 f) ++ slice_index f (length f - 2) ∷ slice_index f (length f - 1) ∷ []) ≡ f
apart [] h = absurd (omega arith)
apart (x ∷ r) h =
    let two : 2 ≤ length r = omega arith in
    let a : suc (length r) - 3 ≡ length r - 2 = omega arith in
    let b : suc (length r) - 2 ≡ suc (length r - 2) = omega arith in
    let c : suc (length r) - 1 ≡ suc (length r - 1) = omega arith in
    ap (λ (m : ℕ). x ∷ (take m r ++ slice_index (x ∷ r) (suc (length r) - 2) ∷ slice_index (x ∷ r) (suc (length r) - 1) ∷ [])) a
    ∙ ap (λ (m : ℕ). x ∷ (take (length r - 2) r ++ slice_index (x ∷ r) m ∷ slice_index (x ∷ r) (suc (length r) - 1) ∷ [])) b
    ∙ ap (λ (m : ℕ). x ∷ (take (length r - 2) r ++ slice_index r (length r - 2) ∷ slice_index (x ∷ r) m ∷ [])) c
    ∙ ap (λ (z : List ℕ). x ∷ z) (last-two r two)

inner_of : (f d : List ℕ) → inner f ≡ Some d → 58 ∷ (d ++ 13 ∷ 10 ∷ []) ≡ f
inner_of f d e =
    elim (cases_Bool (delimited f)) [
      | inl t ↦
          let ends = delimited_of f t in
          let g : ◌≡◌ {A = Option (List ℕ)} (Some (take (length f - 3) (drop 1 f))) (Some d) = sym (cond-true (delimited f) _ _ t) ∙ e in
          let g' : take (length f - 3) (drop 1 f) ≡ d = cc in
          simp (sym g', sym ends.1, sym ends.2, sym ends.3) (apart f ends.0)
      | inr t ↦
          let g : ◌≡◌ {A = Option (List ℕ)} None (Some d) = sym (cond-false (delimited f) _ _ t) ∙ e in
          cc
    ]

-- Lengths and messages

message_of_lem : (q : List ℕ) (s : Msg) → message q ≡ Ok (tt, s) → (q ≡ counted s) × Framable s
message_of_lem [] s e = cc
message_of_lem (x ∷ []) s e =
    let f : ◌≡◌ {A = Unit {0} × Msg} (tt, error_msg x) (tt, s) = cc in
    let g : error_msg x ≡ s = ap (λ (z : Unit {0} × Msg). z.1) f in
    (ap counted g, subst Framable g tt)
message_of_lem (x ∷ y ∷ r) s e =
    elim (cases_Bool (nat_lt 64 (length (y ∷ r)))) [
      | inl t ↦
          let f : ◌≡◌ {A = Result (Unit {0} × Msg) Flaw} (Err NotAFrame) (Ok (tt, s)) = sym (cond-true _ _ _ t) ∙ e in
          cc
      | inr t ↦
          let f : ◌≡◌ {A = Result (Unit {0} × Msg) Flaw} (Ok (tt, data_msg x (y ∷ r))) (Ok (tt, s)) = sym (cond-false _ _ _ t) ∙ e in
          let f' : ◌≡◌ {A = Unit {0} × Msg} (tt, data_msg x (y ∷ r)) (tt, s) = cc in
          let g : data_msg x (y ∷ r) ≡ s = ap (λ (z : Unit {0} × Msg). z.1) f' in
          let n : length (y ∷ r) ≤ 64 = ltb-false 64 (length (y ∷ r)) t in
          (ap counted g, subst Framable g (omega arith, n))
    ]

opened_of : (o : Option (List ℕ)) (s : Msg) → opened o ≡ Ok (tt, s) → (o ≡ Some (length (counted s) ∷ counted s)) × Framable s
opened_of None s e = cc
opened_of (Some []) s e = cc
opened_of (Some (l ∷ q)) s e =
    elim (cases_Bool (l == length q)) [
      | inl t ↦
          let f = message_of_lem q s (sym (cond-true _ _ _ t) ∙ e) in
          let i : l ≡ length q = eqb-true l (length q) t in
          (simp (i, f.0), f.1)
      | inr t ↦
          let f : ◌≡◌ {A = Result (Unit {0} × Msg) Flaw} (Err NotAFrame) (Ok (tt, s)) = sym (cond-false _ _ _ t) ∙ e in
          cc
    ]

of_bytes : (s : Msg) → Bytes (counted s) → OfBytes s
of_bytes (data_msg node bytes) b = b
of_bytes (error_msg code) b = b.0

-- What a frame reads as has that frame, and is a message of bytes that can be framed.
record Decoded (f : List ℕ) (s : Msg) : Type 0 where
  written : encode s ≡ f
  framable : Framable s
  bytes : OfBytes s

digits_of : (o : Option (List ℕ)) (f : List ℕ) (s : Msg) → inner f ≡ o → digits_opened o ≡ Ok (tt, s) → Decoded f s
digits_of None f s i e = cc
digits_of (Some d) f s i e =
    let g = opened_of (spelled d) s e in
    let u = hexes-spelled d (length (counted s) ∷ counted s) g.0 in
    record {
      written = ap (λ (z : List ℕ). 58 ∷ (z ++ 13 ∷ 10 ∷ [])) u.0 ∙ inner_of f d i;
      framable = g.1;
      bytes = of_bytes s u.1.1;
    }

decode_of : (f : List ℕ) (s : Msg) → decode f ≡ Ok (tt, s) → Decoded f s
decode_of f s e = digits_of (inner f) f s refl e

message-counted : (s : Msg) → Framable s → message (counted s) ≡ Ok (tt, s)
message-counted (data_msg n []) h = absurd (omega (arith, h.0))
message-counted (data_msg n (b ∷ bs)) h = cond-false _ _ _ (le-ltb 64 (length (b ∷ bs)) h.1)
message-counted (error_msg c) h = refl

bytes_counted : (s : Msg) → Framable s → OfBytes s → Bytes (length (counted s) ∷ counted s)
bytes_counted (data_msg n bs) h b = (omega (arith, h.1), (b.0, b.1))
bytes_counted (error_msg c) h b = (omega arith, (b, tt))

length-encode : (s : Msg) → Framable s → length (encode s) ≤ 138
length-encode (data_msg n bs) h = omega (arith, h.1, length-append (hexes bs) (13 ∷ 10 ∷ []), length-hexes bs)
length-encode (error_msg c) h = omega arith

decode-encode : (s : Msg) → Framable s → OfBytes s → decode (encode s) ≡ Ok (tt, s)
decode-encode s h b =
    ap digits_opened (inner-delimited (hexes (length (counted s) ∷ counted s)))
    ∙ ap opened (spelled-hexes (length (counted s) ∷ counted s) (bytes_counted s h b))
    ∙ cond-true _ _ _ (eq-eqb (length (counted s)) (length (counted s)) refl) ∙ message-counted s h

pub ascii_laws : Laws ascii
ascii_laws =
    record {
      reads_written = λ _ s h b. decode-encode s h b;
      writes_read = λ _ s f e. (decode_of f s e).written;
      reads_framable = λ _ s f e. (decode_of f s e).framable;
      reads_bytes = λ _ s f _ e. (decode_of f s e).bytes;
      writes_short = λ _ s h. length-encode s h;
      empty_unread = λ _ s e. cc;
    }
