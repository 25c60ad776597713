-- An attempt that is not open stays what it is when more bytes come behind.
use Rattle.std.proofs.Common.{◌≡◌, ℕ, zero, suc, ◌+◌, ◌-◌, ◌<◌, ◌≤◌, Bool, true, false, cond, eqb, ◌⊎◌, List, [], ◌∷◌, ◌++◌, length, take, sym, refl, ap, ◌∙◌, subst, inl, inr, ⊎_elim, arith, length-append}
use lib.Seq.{take-append-add}
use Rattle.std.proofs.lemmas.List.{take_all, take-append-le}
use Rattle.std.proofs.lemmas.Bool.{cases_lt, lt-ltb, le-ltb, cond-true, cond-false}
use Rattle.finder.specs.declared.Attempt.{Attempt}
use Rattle.finder.specs.declared.Attempt.TheVariants.{Fails, Open}
use Rattle.finder.specs.declared.Inside.{Inside}
use Rattle.finder.specs.declared.Inside.TheVariants.{Byte, Ten, End, Start, Wrong}
use Rattle.finder.specs.Search.{unended, ascii, inside, judged, binary, ten_attempt, attempt}

abbrev pub Kept : Attempt → Attempt → Type 0
Kept x y = (x ≡ Open) ⊎ (y ≡ x)

kept_cond : (b : Bool) (x y x' y' : Attempt) → Kept x x' → Kept y y' → Kept (cond b x y) (cond b x' y')
kept_cond true x y x' y' p q = p
kept_cond false x y x' y' p q = q

ascii_kept : (n : ℕ) (bs more : List ℕ) (o : Attempt) → Kept (ascii n bs Open) (ascii n (bs ++ more) o)
ascii_kept n [] more o = inl refl
ascii_kept n (b ∷ bs) more o = kept_cond (eqb b 0x0A) _ _ _ _ (inr refl) (ascii_kept (n + 1) bs more o)

judged_kept : (n : ℕ) (f g : ℕ → Attempt) → ((k : ℕ) → Kept (f k) (g k)) → (x : Inside) → Kept (judged x n f) (judged x n g)
judged_kept n f g h Byte = h 1
judged_kept n f g h Ten = h 2
judged_kept n f g h End = inr refl
judged_kept n f g h Start = inr refl
judged_kept n f g h Wrong = inr refl

-- at the last byte, a 10 or not, the attempt is open
last_open : (n : ℕ) (t : Bool) → judged (cond t Byte Byte) n (λ k. binary (k - 1) (n + 1) [] Open) ≡ Open
last_open n true = refl
last_open n false = refl

binary_kept : (k n : ℕ) (bs more : List ℕ) (o : Attempt) → Kept (binary k n bs Open) (binary k n (bs ++ more) o)
binary_kept k n [] more o = inl refl
binary_kept (suc k) n (b ∷ bs) more o = binary_kept k (n + 1) bs more o
binary_kept zero n (b ∷ []) more o = inl (last_open n (eqb b 0x10))
binary_kept zero n (b ∷ c ∷ bs) more o =
    judged_kept n (λ k. binary (k - 1) (n + 1) (c ∷ bs) Open) (λ k. binary (k - 1) (n + 1) (c ∷ (bs ++ more)) o)
    (λ k. binary_kept (k - 1) (n + 1) (c ∷ bs) more o) (inside (b ∷ c ∷ bs))

-- the same of a reading within a window
module _ (reads : List ℕ → Attempt → Attempt) (window : ℕ) where
  pub window_short : (bs : List ℕ) → length bs < window → reads (take window bs) (unended window bs) ≡ reads bs Open
  window_short bs l =
      ap (λ (x : List ℕ). reads x (unended window bs)) (take_all window bs (omega arith)) ∙ ap (reads bs) (cond-true _ Open Fails (lt-ltb (length bs) window l))

  window_full : (bs : List ℕ) → window ≤ length bs → reads (take window bs) (unended window bs) ≡ reads (take window bs) Fails
  window_full bs l = ap (reads (take window bs)) (cond-false _ Open Fails (le-ltb (length bs) window l))

  window_kept : ((bs more : List ℕ) (o : Attempt) → Kept (reads bs Open) (reads (bs ++ more) o)) → (bs more : List ℕ)
      → Kept (reads (take window bs) (unended window bs)) (reads (take window (bs ++ more)) (unended window (bs ++ more)))
  window_kept kept bs more =
      ⊎_elim
      (λ (l : length bs < window).
      let w : length bs + (window - length bs) ≡ window = omega arith in
      let some = take (window - length bs) more in
      let cut : take window (bs ++ more) ≡ bs ++ some = ap (λ (m : ℕ). take m (bs ++ more)) (sym w) ∙ take-append-add bs more (window - length bs) in
      let u = unended window (bs ++ more) in
      subst (λ (x : Attempt). Kept x (reads (take window (bs ++ more)) u)) (sym (window_short bs l))
      (subst (λ (x : List ℕ). Kept (reads bs Open) (reads x u)) (sym cut) (kept bs some u)))
      (λ (l : window ≤ length bs).
      let a : length (bs ++ more) ≡ length bs + length more = length-append bs more in
      inr (window_full (bs ++ more) (omega arith) ∙ ap (λ (x : List ℕ). reads x Fails) (take-append-le window bs more l) ∙ sym (window_full bs l)))
      (cases_lt (length bs) window)

ten_kept : (bs more : List ℕ) → Kept (ten_attempt bs) (ten_attempt (bs ++ more))
ten_kept [] more = inl refl
ten_kept (b ∷ bs) more = kept_cond (eqb b 0x02) _ _ _ _ (window_kept (binary 2 0) 138 (binary_kept 2 0) (0x10 ∷ b ∷ bs) more) (inr refl)

pub attempt_kept : (b : ℕ) (bs more : List ℕ) → Kept (attempt (b ∷ bs)) (attempt (b ∷ (bs ++ more)))
attempt_kept b bs more =
    kept_cond (eqb b 0x3A) _ _ _ _ (window_kept (ascii 0) 135 (ascii_kept 0) (b ∷ bs) more)
    (kept_cond (eqb b 0x10) _ _ _ _ (ten_kept bs more) (inr refl))
