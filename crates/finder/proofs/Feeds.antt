-- Noise in front, and more bytes behind.
use Rattle.std.proofs.Common.{◌≡◌, ℕ, ◌+◌, ◌<◌, ◌≤◌, ◌⊎◌, List, [], ◌∷◌, ◌++◌, length, drop, sym, refl, ap, ◌∙◌, inl, inr, ⊎_elim, append_assoc, append-nil, arith, length-append}
use Rattle.std.proofs.lemmas.List.{drop-drop, drop-append-le, take-append-le}
use Rattle.std.proofs.lemmas.Bool.{ne_eqb, cond-false}
use Rattle.finder.specs.declared.Outcome.{Outcome}
use Rattle.finder.specs.declared.Outcome.TheVariants.{Frame, More, None}
use Rattle.finder.specs.declared.Attempt.TheVariants.{Ends, Restarts, Fails, Open}
use Rattle.finder.specs.First.{Answer}
use Rattle.finder.specs.Search.{attempt, shifted, found}
use Rattle.finder.specs.Laws.{NoiseShifts, FrameStays, RestSuffices, unless_frame, fed, joined, PiecesAlike}
use Rattle.finder.proofs.Runs.{decided}
use Rattle.finder.proofs.Turns.{more_frame, none_frame, Passes, fails, restarts, passes_within, attempt-within, shifted_none, shifted_twice, found_passes, found_ends, found_open, along}

pub noise_shifts : NoiseShifts
noise_shifts [] bs s t = shifted_none (found bs)
noise_shifts (b ∷ noise) bs s t =
    let a : attempt (b ∷ (noise ++ bs)) ≡ Fails = cond-false _ _ _ (ne_eqb b 0x3A s.0) ∙ cond-false _ _ _ (ne_eqb b 0x10 t.0) in
    let e : 1 + length noise ≡ length (b ∷ noise) = omega arith in
    found_passes (b ∷ (noise ++ bs)) 1 (fails (omega arith) a) ∙ ap (shifted 1) (noise_shifts noise bs s.1 t.1)
    ∙ shifted_twice 1 (length noise) (found bs) ∙ ap (λ (m : ℕ). shifted m (found bs)) e

-- what is found in all the bytes, by what is found in the first of them
module _ (more : List ℕ) where
  abbrev After : List ℕ → Type 0
  After bs =
      (((found bs).0 ≡ Frame) × (found (bs ++ more) ≡ found bs))
      ⊎ (((found bs).0 ≡ Frame → ⊥) × (found (bs ++ more) ≡ shifted (found bs).1 (found (drop (found bs).1 bs ++ more))))

  after_ends : (bs : List ℕ) (n : ℕ) → attempt bs ≡ Ends n → After bs
  after_ends bs n e =
      let w : (0 < n) × (n ≤ length bs) = attempt-within bs (Ends n) e in
      let f = found_ends bs n e in
      inl (
        ap (λ (x : Answer). x.0) f,
        found_ends (bs ++ more) n (decided bs more (Ends n) tt e (omega arith))
            ∙ ap (λ (x : List ℕ). (Frame, 0, x)) (take-append-le n bs more w.1) ∙ sym f,
      )

  after_open : (bs : List ℕ) → attempt bs ≡ Open → After bs
  after_open bs e =
      let f = found_open bs e in
      inr (
        λ g. more_frame (sym (ap (λ (x : Answer). x.0) f) ∙ g),
        shifted_none (found (bs ++ more)) ∙ ap (λ (m : ℕ). shifted m (found (drop m bs ++ more))) (sym (ap (λ (x : Answer). x.1) f)),
      )

  passes_more : (bs : List ℕ) (k : ℕ) → Passes bs k → Passes (bs ++ more) k
  passes_more bs k (fails l e) =
      let n = length-append bs more in
      fails (omega arith) (decided bs more Fails tt e l)
  passes_more bs k (restarts e) =
      let w : (0 < k) × (k ≤ length bs) = attempt-within bs (Restarts k) e in
      restarts (decided bs more (Restarts k) tt e (omega arith))

  module _ (bs : List ℕ) (k : ℕ) (p : Passes bs k) where
    here : found bs ≡ shifted k (found (drop k bs))
    here = found_passes bs k p

    there : found (bs ++ more) ≡ shifted k (found (drop k bs ++ more))
    there =
        found_passes (bs ++ more) k (passes_more bs k p)
        ∙ ap (λ (x : List ℕ). shifted k (found x)) (drop-append-le k bs more (passes_within bs p).1)

    after_passes : After (drop k bs) → After bs
    after_passes (inl h) = inl (ap (λ (x : Answer). x.0) here ∙ h.0, there ∙ ap (shifted k) h.1 ∙ sym here)
    after_passes (inr h) =
        let q = (found (drop k bs)).1 in
        inr (
          λ f. h.0 (sym (ap (λ (x : Answer). x.0) here) ∙ f),
          there ∙ ap (shifted k) h.1 ∙ shifted_twice k q (found (drop q (drop k bs) ++ more))
              ∙ ap (λ (x : List ℕ). shifted (k + q) (found (x ++ more))) (drop-drop q k bs)
              ∙ ap (λ (m : ℕ). shifted m (found (drop m bs ++ more))) (sym (ap (λ (x : Answer). x.1) here)),
        )

  after_none : After []
  after_none = inr (none_frame, shifted_none (found more))

  after : (bs : List ℕ) → After bs
  after = along After after_none after_ends after_open after_passes

pub frame_stays : FrameStays
frame_stays bs more f = ⊎_elim (λ h. h.1) (λ h. absurd (h.0 f)) (after more bs)

pub rest_suffices : RestSuffices
rest_suffices bs more n = ⊎_elim (λ h. absurd (n h.0)) (λ h. h.1) (after more bs)

-- in pieces

module _ (past : ℕ) (kept piece rest : List ℕ) (later : Answer)
    (ih : later ≡ shifted (past + (found kept).1) (found ((drop (found kept).1 kept ++ piece) ++ rest))) where
  resumed : ((found kept).0 ≡ Frame → ⊥) → later ≡ shifted past (found (kept ++ (piece ++ rest)))
  resumed n =
      let p = (found kept).1 in
      ih ∙ ap (λ (x : List ℕ). shifted (past + p) (found x)) (append_assoc (drop p kept) piece rest)
      ∙ sym (shifted_twice past p (found (drop p kept ++ (piece ++ rest)))) ∙ ap (shifted past) (sym (rest_suffices kept (piece ++ rest) n))

  by-outcome : (o : Outcome) → (found kept).0 ≡ o → unless_frame o (shifted past (found kept)) later ≡ shifted past (found (kept ++ (piece ++ rest)))
  by-outcome Frame e = ap (shifted past) (sym (frame_stays kept (piece ++ rest) e))
  by-outcome More e = resumed (λ f. more_frame (sym e ∙ f))
  by-outcome None e = resumed (λ f. none_frame (sym e ∙ f))

fed_all : (past : ℕ) (kept : List ℕ) (pieces : List (List ℕ)) → fed past kept pieces ≡ shifted past (found (kept ++ joined pieces))
fed_all past kept [] = ap (λ (x : List ℕ). shifted past (found x)) (sym (append-nil kept))
fed_all past kept (piece ∷ pieces) =
    by-outcome past kept piece (joined pieces) (fed (past + (found kept).1) (drop (found kept).1 kept ++ piece) pieces)
    (fed_all (past + (found kept).1) (drop (found kept).1 kept ++ piece) pieces) (found kept).0 refl

pub pieces_alike : PiecesAlike
pieces_alike pieces = fed_all 0 [] pieces ∙ sym (shifted_none (found (joined pieces)))
