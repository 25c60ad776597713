-- One turn of the search, and induction along it.
use Rattle.std.proofs.Common.{◌≡◌, ℕ, zero, suc, ◌+◌, ◌-◌, ◌<◌, ◌≤◌, List, [], ◌∷◌, length, take, drop, sym, refl, ap, ◌∙◌, subst, add-zero, zero-add, arith, length-append, length-drop}
use Rattle.std.proofs.lemmas.List.{drop-drop, drop_all, take_rest}
use Rattle.finder.specs.declared.Outcome.TheVariants.{Frame, More, None}
use Rattle.finder.specs.declared.Attempt.{Attempt}
use Rattle.finder.specs.declared.Attempt.TheVariants.{Ends, Restarts, Fails, Open}
use Rattle.finder.specs.Shapes.{Whole, ascii_frame, binary_frame, InnerStart, inner}
use Rattle.finder.specs.First.{Answer}
use Rattle.finder.specs.Search.{attempt, shifted, answered, seek, found}
use Rattle.finder.proofs.Shapes.{Shaped, attempt_shaped}

pub more_frame : More ≡ Frame → ⊥
more_frame e = let z : ◌≡◌ {A = ℕ} 0 1 = cc in omega arith

pub none_frame : None ≡ Frame → ⊥
none_frame e = let z : ◌≡◌ {A = ℕ} 0 1 = cc in omega arith

pub shifted_none : (a : Answer) → a ≡ shifted 0 a
shifted_none a = ap (λ (p : ℕ). (a.0, p, a.2)) (sym (zero-add a.1))

pub shifted_twice : (m n : ℕ) (a : Answer) → shifted m (shifted n a) ≡ shifted (m + n) a
shifted_twice m n a = ap (λ (p : ℕ). (a.0, p, a.2)) (omega arith)

skipped : (k : ℕ) (bs : List ℕ) → k ≤ length bs → seek k bs ≡ shifted k (found (drop k bs))
skipped zero bs h = shifted_none (found bs)
skipped (suc k) [] h = absurd (omega arith)
skipped (suc k) (b ∷ bs) h =
    let e : 1 + k ≡ suc k = omega arith in
    ap (shifted 1) (skipped k bs (omega arith)) ∙ shifted_twice 1 k (found (drop k bs)) ∙ ap (λ (m : ℕ). shifted m (found (drop k bs))) e

pub frame_within : {frame : List ℕ} → Whole frame → 0 < length frame
frame_within (ascii_frame body w l) = omega arith
frame_within (binary_frame body d l) = omega arith

inner-within : {k : ℕ} {bs : List ℕ} → InnerStart k bs → (0 < k) × (k ≤ length bs)
inner-within (inner body rest d l) = let n = length-append body (0x10 ∷ 0x02 ∷ rest) in (omega arith, omega arith)

module _ (bs : List ℕ) where
  -- The search goes on k bytes further.
  pub data Passes : ℕ → Type 0 where
    fails : 0 < length bs → attempt bs ≡ Fails → Passes 1
    restarts : {k : ℕ} → attempt bs ≡ Restarts k → Passes k

  abbrev Within : Attempt → Type 0
  Within (Ends n) = (0 < n) × (n ≤ length bs)
  Within (Restarts k) = (0 < k) × (k ≤ length bs)
  Within Fails = Unit {0}
  Within Open = Unit {0}

  shaped_within : (a : Attempt) → Shaped bs a → Within a
  shaped_within (Ends n) s =
      let f = frame_within s.2 in
      let l = ap length s.3 ∙ length-append s.0 s.1 in
      (omega (arith, s.4), omega (arith, s.4))
  shaped_within (Restarts k) s = inner-within s
  shaped_within Fails s = tt
  shaped_within Open s = tt

  pub attempt-within : (a : Attempt) → attempt bs ≡ a → Within a
  attempt-within a e = subst Within e (shaped_within (attempt bs) (attempt_shaped bs))

  pub passes_within : {k : ℕ} → Passes k → (0 < k) × (k ≤ length bs)
  passes_within (fails l e) = (omega arith, omega arith)
  passes_within (restarts {k} e) = attempt-within (Restarts k) e

goes_on : (b : ℕ) (bs : List ℕ) (k : ℕ) → 0 < k → k ≤ length (b ∷ bs) → shifted 1 (seek (k - 1) bs) ≡ shifted k (found (drop k (b ∷ bs)))
goes_on b bs zero l h = absurd (omega arith)
goes_on b bs (suc k) l h = let e : suc k - 1 ≡ k = omega arith in ap (λ (m : ℕ). shifted 1 (seek m bs)) e ∙ skipped (suc k) (b ∷ bs) h

turn : (b : ℕ) (bs : List ℕ) (a : Attempt) → attempt (b ∷ bs) ≡ a → found (b ∷ bs) ≡ answered a (b ∷ bs) (λ k. shifted 1 (seek (k - 1) bs))
turn b bs a e = ap (λ (x : Attempt). answered x (b ∷ bs) (λ k. shifted 1 (seek (k - 1) bs))) e

pub found_passes : (bs : List ℕ) (k : ℕ) → Passes bs k → found bs ≡ shifted k (found (drop k bs))
found_passes [] k p = let w = passes_within [] p in absurd (omega arith)
found_passes (b ∷ bs) k p = let w = passes_within (b ∷ bs) p in of k p ∙ goes_on b bs k w.0 w.1
  where
    of : (k : ℕ) → Passes (b ∷ bs) k → found (b ∷ bs) ≡ shifted 1 (seek (k - 1) bs)
    of k (fails l e) = turn b bs Fails e
    of k (restarts e) = turn b bs (Restarts k) e

pub found_ends : (bs : List ℕ) (n : ℕ) → attempt bs ≡ Ends n → found bs ≡ (Frame, 0, take n bs)
found_ends [] n e = let z : ◌≡◌ {A = ℕ} 0 1 = cc in absurd (omega arith)
found_ends (b ∷ bs) n e = turn b bs (Ends n) e

pub found_open : (bs : List ℕ) → attempt bs ≡ Open → found bs ≡ (More, 0, [])
found_open [] e = let z : ◌≡◌ {A = ℕ} 0 1 = cc in absurd (omega arith)
found_open (b ∷ bs) e = turn b bs Open e

-- A turn at a place: what is found is what is found from there.
abbrev pub From : List ℕ → ℕ → Type 0
From bs i = (found bs ≡ shifted i (found (drop i bs))) × (i ≤ length bs)

module _ (bs : List ℕ) (i : ℕ) (from : From bs i) where
  pub from_passes : (k : ℕ) → Passes (drop i bs) k → From bs (i + k)
  from_passes k p =
      let w = passes_within (drop i bs) p in
      let n = length-drop i bs in
      let m = from.1 in (
        from.0 ∙ ap (shifted i) (found_passes (drop i bs) k p) ∙ shifted_twice i k (found (drop k (drop i bs))) ∙ ap (λ (x : List ℕ). shifted (i + k) (found x)) (drop-drop k i bs),
        omega arith,
      )

  pub from_ends : (n : ℕ) → attempt (drop i bs) ≡ Ends n → found bs ≡ (Frame, i, take n (drop i bs))
  from_ends n e = from.0 ∙ ap (shifted i) (found_ends (drop i bs) n e) ∙ ap (λ (m : ℕ). (Frame, m, take n (drop i bs))) (add-zero i)

  pub from_open : attempt (drop i bs) ≡ Open → found bs ≡ (More, i, [])
  from_open e = from.0 ∙ ap (shifted i) (found_open (drop i bs) e) ∙ ap (λ (m : ℕ). (More, m, [])) (add-zero i)

  pub from_end : length bs ≤ i → found bs ≡ (None, i, [])
  from_end l = from.0 ∙ ap (λ (x : List ℕ). shifted i (found x)) (drop_all i bs l) ∙ ap (λ (m : ℕ). (None, m, [])) (add-zero i)

-- what `&received[i..]` gives the attempt
pub at_rest : (bs : List ℕ) (i : ℕ) (a : Attempt) → a ≡ attempt (take (length bs - i) (drop i bs)) → attempt (drop i bs) ≡ a
at_rest bs i a e = sym (e ∙ ap attempt (take_rest bs i))

-- Induction along the search.
module _ (P : List ℕ → Type 0) (nothing : P []) (ends : (bs : List ℕ) (n : ℕ) → attempt bs ≡ Ends n → P bs) (open-end : (bs : List ℕ) → attempt bs ≡ Open → P bs)
    (passes : (bs : List ℕ) (k : ℕ) → Passes bs k → P (drop k bs) → P bs) where
  by : (b : ℕ) (bs : List ℕ) → ((k : ℕ) → 0 < k → P (drop k (b ∷ bs))) → (a : Attempt) → attempt (b ∷ bs) ≡ a → P (b ∷ bs)
  by b bs ih (Ends n) e = ends (b ∷ bs) n e
  by b bs ih (Restarts k) e = passes (b ∷ bs) k (restarts e) (ih k (attempt-within (b ∷ bs) (Restarts k) e).0)
  by b bs ih Fails e = passes (b ∷ bs) 1 (fails (omega arith) e) (ih 1 (omega arith))
  by b bs ih Open e = open-end (b ∷ bs) e

  within : (fuel : ℕ) (bs : List ℕ) → length bs ≤ fuel → P bs
  within fuel [] h = nothing
  within zero (b ∷ bs) h = absurd (omega arith)
  within (suc fuel) (b ∷ bs) h =
      by b bs (λ k l. let n = length-drop k (b ∷ bs) in within fuel (drop k (b ∷ bs)) (omega arith)) (attempt (b ∷ bs)) refl

  pub along : (bs : List ℕ) → P bs
  along bs = within (length bs) bs (omega arith)
