-- What an attempt comes to says the shape of the bytes.
use Rattle.std.proofs.Common.{◌≡◌, ℕ, suc, ◌+◌, ◌-◌, ◌<◌, ◌≤◌, eqb, ltb, ◌⊎◌, List, [], ◌∷◌, ◌++◌, length, take, drop, sym, refl, ap, ◌∙◌, subst, inl, inr, append_assoc, arith, length-append, take-append-drop}
use Rattle.std.proofs.lemmas.List.{take_all, length-take}
use Rattle.std.proofs.lemmas.Bool.{cond_both, ltb-true, eqb-true, eqb-false}
use Rattle.finder.specs.declared.Attempt.{Attempt}
use Rattle.finder.specs.declared.Attempt.TheVariants.{Ends, Restarts, Fails, Open}
use Rattle.finder.specs.declared.Inside.{Inside}
use Rattle.finder.specs.declared.Inside.TheVariants.{Byte, Ten, End, Start, Wrong}
use Rattle.finder.specs.Shapes.{Without, Doubled, no_bytes, plain, pair, Whole, ascii_frame, binary_frame, Unfinished, in_ascii, last_ten, in_binary, in_pair, InnerStart, inner}
use Rattle.finder.specs.Search.{unended, ascii, ascii_attempt, judged, binary, binary_attempt, ten_attempt, attempt}

-- The shape that an attempt's result says of the bytes.
abbrev pub Shaped : List ℕ → Attempt → Type 0
Shaped bs (Ends n) = (frame rest : List ℕ) × Whole frame × (bs ≡ frame ++ rest) × (n ≡ length frame)
Shaped bs (Restarts k) = InnerStart k bs
Shaped bs Open = Unfinished bs
Shaped bs Fails = Unit {0}

-- A window whose bytes are `body`, then `mark`, then `rest`.
joint : (m : ℕ) (bs body mark rest : List ℕ) → take m bs ≡ body ++ (mark ++ rest) → bs ≡ (body ++ mark) ++ (rest ++ drop m bs)
joint m bs body mark rest e =
    sym (take-append-drop m bs) ∙ ap (λ (x : List ℕ). x ++ drop m bs) (e ∙ sym (append_assoc body mark rest)) ∙ append_assoc (body ++ mark) rest (drop m bs)

fits : (m : ℕ) (bs body more : List ℕ) → take m bs ≡ body ++ more → length body + length more ≤ m
fits m bs body more e =
    let a : length (body ++ more) ≡ length body + length more = length-append body more in
    let l : length (take m bs) ≡ length (body ++ more) = ap length e in
    let t = length-take m bs in
    omega arith

-- an ASCII window has a first 0A, or no 0A

abbrev Lined : ℕ → List ℕ → Attempt → Attempt → Type 0
Lined n bs o a =
    ((body rest : List ℕ) × Without 0x0A body × (bs ≡ body ++ 0x0A ∷ rest) × (a ≡ Ends (n + length body + 1))) ⊎ (Without 0x0A bs × (a ≡ o))

lined_on : (n b : ℕ) (bs : List ℕ) (o a : Attempt) → (b ≡ 0x0A → ⊥) → Lined (n + 1) bs o a → Lined n (b ∷ bs) o a
lined_on n b bs o a ne (inl h) =
    inl (b ∷ h.0, h.1, (ne, h.2), ap (λ (x : List ℕ). b ∷ x) h.3, h.4 ∙ ap Ends (omega arith))
lined_on n b bs o a ne (inr h) = inr ((ne, h.0), h.1)

lined : (n : ℕ) (bs : List ℕ) (o : Attempt) → Lined n bs o (ascii n bs o)
lined n [] o = inr (tt, refl)
lined n (b ∷ bs) o =
    cond_both (eqb b 0x0A) (Ends (n + 1)) (ascii (n + 1) bs o) (Lined n (b ∷ bs) o)
    (λ e. inl ([], bs, tt, ap (λ (x : ℕ). x ∷ bs) (eqb-true b 0x0A e), ap Ends (omega arith)))
    (λ e. lined_on n b bs o _ (eqb-false b 0x0A e) (lined (n + 1) bs o))

-- without an end, fewer bytes than the window's leave the attempt open
unended_shaped : (window : ℕ) (bs : List ℕ) → (length bs < window → Unfinished bs) → Shaped bs (unended window bs)
unended_shaped window bs h = cond_both (ltb (length bs) window) Open Fails (Shaped bs) (λ t. h (ltb-true (length bs) window t)) (λ _. tt)

module _ (m : ℕ) (bs : List ℕ) (z : m ≡ 134) where
  lined_shaped : (a : Attempt) → Lined 1 (take m bs) (unended (suc m) (0x3A ∷ bs)) a → Shaped (0x3A ∷ bs) a
  lined_shaped a (inl h) =
      let body = h.0 in
      let f = fits m bs body (0x0A ∷ h.1) h.3 in
      let l : length (body ++ 0x0A ∷ []) ≡ length body + 1 = length-append body (0x0A ∷ []) in
      subst (Shaped (0x3A ∷ bs)) (sym h.4)
      (0x3A ∷ (body ++ 0x0A ∷ []), h.1 ++ drop m bs, ascii_frame body h.2 (omega arith), ap (λ (x : List ℕ). 0x3A ∷ x) (joint m bs body (0x0A ∷ []) h.1 h.3), omega arith)
  lined_shaped a (inr h) =
      subst (Shaped (0x3A ∷ bs)) (sym h.1)
      (unended_shaped (suc m) (0x3A ∷ bs) (λ l. in_ascii bs (subst (Without 0x0A) (take_all m bs (omega arith)) h.0) (omega arith)))

-- a binary window, read pair by pair, comes to an end, an inner start, a wrong pair, or its own end

data Paired (n : ℕ) (bs : List ℕ) (o a : Attempt) : Type 0 where
  to_end : (body rest : List ℕ) → Doubled body → bs ≡ body ++ 0x10 ∷ 0x03 ∷ rest → a ≡ Ends (n + length body + 2) → Paired n bs o a
  to_start : (body rest : List ℕ) → Doubled body → bs ≡ body ++ 0x10 ∷ 0x02 ∷ rest → a ≡ Restarts (n + length body) → Paired n bs o a
  to_wrong : a ≡ Fails → Paired n bs o a
  through : Doubled bs → a ≡ o → Paired n bs o a
  to_ten : (body : List ℕ) → Doubled body → bs ≡ body ++ 0x10 ∷ [] → a ≡ o → Paired n bs o a

module _ (n : ℕ) (pre : List ℕ) (more : (xs : List ℕ) → Doubled xs → Doubled (pre ++ xs)) (bs : List ℕ) (o a : Attempt) where
  further : (body tail : List ℕ) → bs ≡ body ++ tail → pre ++ bs ≡ (pre ++ body) ++ tail
  further body tail e = ap (λ (x : List ℕ). pre ++ x) e ∙ sym (append_assoc pre body tail)

  paired_on : Paired (n + length pre) bs o a → Paired n (pre ++ bs) o a
  paired_on (to_end body rest d e q) =
      let l = length-append pre body in
      to_end (pre ++ body) rest (more body d) (further body (0x10 ∷ 0x03 ∷ rest) e) (q ∙ ap Ends (omega arith))
  paired_on (to_start body rest d e q) =
      let l = length-append pre body in
      to_start (pre ++ body) rest (more body d) (further body (0x10 ∷ 0x02 ∷ rest) e) (q ∙ ap Restarts (omega arith))
  paired_on (to_wrong q) = to_wrong q
  paired_on (through d q) = through (more bs d) q
  paired_on (to_ten body d e q) = to_ten (pre ++ body) (more body d) (further body (0x10 ∷ []) e) q

paired : (n : ℕ) (bs : List ℕ) (o : Attempt) → Paired n bs o (binary 0 n bs o)
paired n [] o = through no_bytes refl
paired n (b ∷ []) o =
    cond_both (eqb b 0x10) Byte Byte (λ x. Paired n (b ∷ []) o (judged x n (λ k. binary (k - 1) (n + 1) [] o)))
    (λ e. to_ten [] no_bytes (ap (λ (x : ℕ). x ∷ []) (eqb-true b 0x10 e)) refl) (λ e. through (plain (eqb-false b 0x10 e) no_bytes) refl)
paired n (b ∷ c ∷ bs) o =
    let P : Inside → Type 0 = λ x. Paired n (b ∷ c ∷ bs) o (judged x n (λ k. binary (k - 1) (n + 1) (c ∷ bs) o)) in
    cond_both (eqb b 0x10) _ Byte P
    (λ e.
    let t : b ≡ 0x10 = eqb-true b 0x10 e in
    cond_both (eqb c 0x03) End _ P
    (λ f. to_end [] bs no_bytes (ap (λ (x : ℕ). x ∷ c ∷ bs) t ∙ ap (λ (x : ℕ). 0x10 ∷ x ∷ bs) (eqb-true c 0x03 f)) (ap Ends (omega arith)))
    (λ _. cond_both (eqb c 0x02) Start _ P
    (λ f. to_start [] bs no_bytes (ap (λ (x : ℕ). x ∷ c ∷ bs) t ∙ ap (λ (x : ℕ). 0x10 ∷ x ∷ bs) (eqb-true c 0x02 f)) (ap Restarts (omega arith)))
    (λ _. cond_both (eqb c 0x10) Ten Wrong P
    (λ f.
    let two : n + 1 + 1 ≡ n + 2 = omega arith in
    paired_on n (b ∷ c ∷ [])
    (λ xs d. subst (λ (x : ℕ). Doubled (x ∷ c ∷ xs)) (sym t) (subst (λ (x : ℕ). Doubled (0x10 ∷ x ∷ xs)) (sym (eqb-true c 0x10 f)) (pair d)))
    bs o _ (subst (λ (m : ℕ). Paired m bs o (binary 0 (n + 1 + 1) bs o)) two (paired (n + 1 + 1) bs o)))
    (λ _. to_wrong refl))))
    (λ e. paired_on n (b ∷ []) (λ xs. plain (eqb-false b 0x10 e)) (c ∷ bs) o _ (paired (n + 1) (c ∷ bs) o))

module _ (m : ℕ) (bs : List ℕ) (z : m ≡ 136) where
  paired_shaped : (a : Attempt) → Paired 2 (take m bs) (unended (suc (suc m)) (0x10 ∷ 0x02 ∷ bs)) a → Shaped (0x10 ∷ 0x02 ∷ bs) a
  paired_shaped a (to_end body rest d e q) =
      let f = fits m bs body (0x10 ∷ 0x03 ∷ rest) e in
      let l : length (body ++ 0x10 ∷ 0x03 ∷ []) ≡ length body + 2 = length-append body (0x10 ∷ 0x03 ∷ []) in
      subst (Shaped (0x10 ∷ 0x02 ∷ bs)) (sym q)
      (0x10 ∷ 0x02 ∷ (body ++ 0x10 ∷ 0x03 ∷ []), rest ++ drop m bs, binary_frame body d (omega arith), ap (λ (x : List ℕ). 0x10 ∷ 0x02 ∷ x) (joint m bs body (0x10 ∷ 0x03 ∷ []) rest e), omega arith)
  paired_shaped a (to_start body rest d e q) =
      let f = fits m bs body (0x10 ∷ 0x02 ∷ rest) e in
      let b : bs ≡ body ++ 0x10 ∷ 0x02 ∷ (rest ++ drop m bs) =
      joint m bs body (0x10 ∷ 0x02 ∷ []) rest e ∙ append_assoc body (0x10 ∷ 0x02 ∷ []) (rest ++ drop m bs) in
      let k : length body + 2 ≡ 2 + length body = omega arith in
      subst (Shaped (0x10 ∷ 0x02 ∷ bs)) (sym q)
      (subst (λ (n : ℕ). InnerStart n (0x10 ∷ 0x02 ∷ bs)) k
      (subst (λ (x : List ℕ). InnerStart (length body + 2) (0x10 ∷ 0x02 ∷ x)) (sym b) (inner body (rest ++ drop m bs) d (omega arith))))
  paired_shaped a (to_wrong q) = subst (Shaped (0x10 ∷ 0x02 ∷ bs)) (sym q) tt
  paired_shaped a (through d q) =
      subst (Shaped (0x10 ∷ 0x02 ∷ bs)) (sym q)
      (unended_shaped (suc (suc m)) (0x10 ∷ 0x02 ∷ bs) (λ l. in_binary bs (subst Doubled (take_all m bs (omega arith)) d) (omega arith)))
  paired_shaped a (to_ten body d e q) =
      subst (Shaped (0x10 ∷ 0x02 ∷ bs)) (sym q)
      (unended_shaped (suc (suc m)) (0x10 ∷ 0x02 ∷ bs)
      (λ l.
      let f = length-append body (0x10 ∷ []) in
      let b : body ++ 0x10 ∷ [] ≡ bs = sym e ∙ take_all m bs (omega arith) in
      let n : length (body ++ 0x10 ∷ []) ≡ length bs = ap length b in
      subst (λ (x : List ℕ). Unfinished (0x10 ∷ 0x02 ∷ x)) b (in_pair body d (omega arith))))

ten_shaped : (bs : List ℕ) → Shaped (0x10 ∷ bs) (ten_attempt bs)
ten_shaped [] = last_ten
ten_shaped (b ∷ bs) =
    cond_both (eqb b 0x02) (binary_attempt 138 (0x10 ∷ b ∷ bs)) Fails (Shaped (0x10 ∷ b ∷ bs))
    (λ e. subst (λ (x : ℕ). Shaped (0x10 ∷ x ∷ bs) (binary_attempt 138 (0x10 ∷ x ∷ bs))) (sym (eqb-true b 0x02 e))
    (paired_shaped 136 bs refl _ (paired 2 (take 136 bs) _)))
    (λ _. tt)

pub attempt_shaped : (bs : List ℕ) → Shaped bs (attempt bs)
attempt_shaped [] = tt
attempt_shaped (b ∷ bs) =
    cond_both (eqb b 0x3A) (ascii_attempt 135 (b ∷ bs)) _ (Shaped (b ∷ bs))
    (λ e. subst (λ (x : ℕ). Shaped (x ∷ bs) (ascii_attempt 135 (x ∷ bs))) (sym (eqb-true b 0x3A e))
    (lined_shaped 134 bs refl _ (lined 1 (take 134 bs) _)))
    (λ _. cond_both (eqb b 0x10) (ten_attempt bs) Fails (Shaped (b ∷ bs))
    (λ e. subst (λ (x : ℕ). Shaped (x ∷ bs) (ten_attempt bs)) (sym (eqb-true b 0x10 e)) (ten_shaped bs)) (λ _. tt))
