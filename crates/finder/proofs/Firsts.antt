-- The answer is the first, and only it is.
use Rattle.std.proofs.Common.{◌≡◌, ℕ, ◌+◌, ◌-◌, ◌<◌, ◌≤◌, List, [], ◌∷◌, ◌++◌, length, take, drop, sym, refl, ap, ◌∙◌, subst, add-zero, arith, length-append, length-drop}
use Rattle.std.proofs.lemmas.List.{drop-drop, take_at}
use Rattle.finder.specs.declared.Outcome.TheVariants.{Frame, More, None}
use Rattle.finder.specs.declared.Attempt.TheVariants.{Ends, Open}
use Rattle.finder.specs.Shapes.{Unfinished, in_ascii, last_ten, in_binary, in_pair, InnerStart, NoStart}
use Rattle.finder.specs.First.{Answer, Passed, at_first, over_one, to_inner, First, first_frame, first_more, first_none}
use Rattle.finder.specs.Search.{attempt, shifted, found}
use Rattle.finder.specs.Laws.{OnlyOne, WholeFound}
use Rattle.finder.proofs.Shapes.{Shaped, attempt_shaped}
use Rattle.finder.proofs.Runs.{whole_ends, unfinished_open, inner_restarts, passes_one, fails_no_start}
use Rattle.finder.proofs.Turns.{frame_within, more_frame, none_frame, Passes, fails, restarts, passes_within, shifted_none, shifted_twice, From, found_passes, found_ends, found_open, from_passes, from_ends, from_open, from_end, along}

frame_taken : (bs frame rest : List ℕ) → bs ≡ frame ++ rest → take (length frame) bs ≡ frame
frame_taken bs frame rest e = ap (take (length frame)) e ∙ take_at frame rest (length frame) refl

pub whole_found : WholeFound
whole_found frame more w = found_ends (frame ++ more) (length frame) (whole_ends w more) ∙ ap (λ (x : List ℕ). (Frame, 0, x)) (frame_taken (frame ++ more) frame more refl)

module _ (ws : List ℕ) where
  -- From a place to which everything is passed over, the answer at these bytes, told from there, is the first.
  abbrev Onward : List ℕ → Type 0
  Onward bs = (i : ℕ) → bs ≡ drop i ws → i ≤ length ws → Passed ws i → First ws (shifted i (found bs))

  at_end : Onward []
  at_end i e l p =
      let n : length (drop i ws) ≡ length ws - i = length-drop i ws in
      let z : length {A = ℕ} [] ≡ length (drop i ws) = ap length e in
      let q : i ≡ length ws = omega arith in
      subst (First ws) (ap (λ (m : ℕ). (None, m, [])) (sym q ∙ sym (add-zero i))) (first_none (subst (Passed ws) q p))

  at_frame : (bs : List ℕ) (n : ℕ) → attempt bs ≡ Ends n → Onward bs
  at_frame bs n a i e l p =
      let s : Shaped bs (Ends n) = subst (Shaped bs) a (attempt_shaped bs) in
      let t : take n bs ≡ s.0 = ap (λ (m : ℕ). take m bs) s.4 ∙ frame_taken bs s.0 s.1 s.3 in
      subst (First ws) (ap (λ (m : ℕ). (Frame, m, s.0)) (sym (add-zero i)) ∙ ap (λ (x : List ℕ). (Frame, i + 0, x)) (sym t) ∙ ap (shifted i) (sym (found_ends bs n a)))
      (first_frame p s.2 s.1 (sym e ∙ s.3))

  at_open : (bs : List ℕ) → attempt bs ≡ Open → Onward bs
  at_open bs a i e l p =
      subst (First ws) (ap (λ (m : ℕ). (More, m, [])) (sym (add-zero i)) ∙ ap (shifted i) (sym (found_open bs a)))
      (first_more p (subst Unfinished e (subst (Shaped bs) a (attempt_shaped bs))))

  passed : (bs : List ℕ) (i : ℕ) → bs ≡ drop i ws → Passed ws i → (k : ℕ) → Passes bs k → Passed ws (i + k)
  passed bs i e p k (fails l a) =
      let n : length bs ≡ length ws - i = ap length e ∙ length-drop i ws in
      over_one p (omega arith) (subst NoStart e (fails_no_start bs a))
  passed bs i e p k (restarts a) = to_inner p (subst (InnerStart k) e (subst (Shaped bs) a (attempt_shaped bs)))

  at_passed : (bs : List ℕ) (k : ℕ) → Passes bs k → Onward (drop k bs) → Onward bs
  at_passed bs k q ih i e l p =
      let w = passes_within bs q in
      let n : length bs ≡ length ws - i = ap length e ∙ length-drop i ws in
      subst (First ws) (sym (ap (shifted i) (found_passes bs k q) ∙ shifted_twice i k (found (drop k bs))))
      (ih (i + k) (ap (drop k) e ∙ drop-drop k i ws) (omega arith) (passed bs i e p k q))

pub found_first : (bs : List ℕ) → First bs (found bs)
found_first bs =
    subst (First bs) (sym (shifted_none (found bs)))
    (along (Onward bs) (at_end bs) (at_frame bs) (at_open bs) (at_passed bs) bs 0 refl (omega arith) at_first)

-- A place to which everything is passed over is one that the search comes to.
reached : (bs : List ℕ) {i : ℕ} → Passed bs i → From bs i
reached bs at_first = (shifted_none (found bs), omega arith)
reached bs (over_one {i} p l n) = let m = length-drop i bs in from_passes bs i (reached bs p) 1 (fails (omega arith) (passes_one (drop i bs) n))
reached bs (to_inner {i} {k} p s) = from_passes bs i (reached bs p) k (restarts (inner_restarts s))

pub only_one : OnlyOne
only_one bs a (first_frame {p} {frame} q w rest e) =
    sym (from_ends bs p (reached bs q) (length frame) (ap attempt e ∙ whole_ends w rest) ∙ ap (λ (x : List ℕ). (Frame, p, x)) (frame_taken (drop p bs) frame rest e))
only_one bs a (first_more {p} q u) = sym (from_open bs p (reached bs q) (unfinished_open u))
only_one bs a (first_none q) = sym (from_end bs (length bs) (reached bs q) (omega arith))

unfinished_few : {bs : List ℕ} → Unfinished bs → length bs < 138
unfinished_few (in_ascii body w l) = omega arith
unfinished_few last_ten = omega arith
unfinished_few (in_binary body d l) = omega arith
unfinished_few (in_pair body d l) = let n = length-append body (0x10 ∷ []) in omega arith

-- how many bytes an answer has, and how many it leaves
module _ (bs : List ℕ) where
  pub within : {a : Answer} → First bs a → a.1 + length a.2 ≤ length bs
  within (first_frame {p} {frame} q w rest e) =
      let l = ap length e ∙ length-append frame rest in
      let d = length-drop p bs in
      let i = (reached bs q).1 in
      omega arith
  within (first_more {p} q u) = let i = (reached bs q).1 in omega arith
  within (first_none q) = omega arith

  pub filled : {a : Answer} → First bs a → a.0 ≡ Frame → 0 < length a.2
  filled (first_frame q w rest e) f = frame_within w
  filled (first_more q u) f = absurd (more_frame f)
  filled (first_none q) f = absurd (none_frame f)

  pub few : {a : Answer} → First bs a → (a.0 ≡ Frame → ⊥) → length bs < a.1 + 138
  few (first_frame p w rest e) n = absurd (n refl)
  few (first_more {p} q u) n = let l = unfinished_few u in let d = length-drop p bs in omega arith
  few (first_none q) n = omega arith
