-- What pairs of digits spell, pair by pair.
use Rattle.std.proofs.Common.{◌≡◌, ℕ, zero, suc, ◌+◌, ◌*◌, ◌%◌, ◌<◌, ◌≤◌, List, [], ◌∷◌, ◌++◌, length, get_or, take, drop, set, Some, None, Option, sym, refl, ap, ◌∙◌, append_assoc, append-nil, arith}
use Rattle.std.proofs.lemmas.List.{drop_all, take_more_set}
use Rattle.std.specs.Option.{option_map}
use Rattle.std.specs.Simd.{first_chunks}
use Rattle.ascii.specs.Hex.{value, paired, spelled}

-- what is spelled, behind bytes that are there already
abbrev pub behind : List ℕ → Option (List ℕ) → Option (List ℕ)
behind bytes more = option_map (λ p. bytes ++ p) more

pub behind_nothing : (o : Option (List ℕ)) → o ≡ behind [] o
behind_nothing None = refl
behind_nothing (Some p) = refl

behind-paired : (bytes : List ℕ) (h l : ℕ) (q : Option (List ℕ)) → behind bytes (paired (Some h) (Some l) q) ≡ behind (bytes ++ (16 * h + l) ∷ []) q
behind-paired bytes h l None = refl
behind-paired bytes h l (Some p) = ap (λ (z : List ℕ). Some z) (sym (append_assoc bytes ((16 * h + l) ∷ []) p))

paired_none : (x y : Option ℕ) → None ≡ paired x y None
paired_none None y = refl
paired_none (Some h) None = refl
paired_none (Some h) (Some l) = refl

-- a digit is left over
pub spelled_odd : (r : List ℕ) → (length r % 2 ≡ 0 → ⊥) → None ≡ spelled r
spelled_odd [] h = absurd (h refl)
spelled_odd (a ∷ []) h = refl
spelled_odd (a ∷ b ∷ r) h =
    paired_none (value a) (value b)
    ∙ ap (paired (value a) (value b)) (spelled_odd r (λ e. let f : length (a ∷ b ∷ r) % 2 ≡ 0 = omega arith in h f))

-- the pair at a place, and the digits behind it
pair_apart : (k i : ℕ) (r : List ℕ) → i < k → 2 * k ≤ length r
    → drop (2 * i) r ≡ get_or (get_or (first_chunks 2 k r) i []) 0 0 ∷ get_or (get_or (first_chunks 2 k r) i []) 1 0 ∷ drop (2 * (i + 1)) r
pair_apart zero i r h l = absurd (omega arith)
pair_apart (suc k) i [] h l = absurd (omega arith)
pair_apart (suc k) i (a ∷ []) h l = absurd (omega arith)
pair_apart (suc k) zero (a ∷ b ∷ r) h l = refl
pair_apart (suc k) (suc i) (a ∷ b ∷ r) h l =
    let e : 2 * suc i ≡ suc (suc (2 * i)) = omega arith in
    let f : suc (suc (2 * (i + 1))) ≡ 2 * (suc i + 1) = omega arith in
    let pair : List ℕ = get_or (first_chunks 2 k r) i [] in
    ap (λ (j : ℕ). drop j (a ∷ b ∷ r)) e ∙ pair_apart k i r (omega arith) (omega arith)
    ∙ ap (λ (j : ℕ). get_or pair 0 0 ∷ get_or pair 1 0 ∷ drop j (a ∷ b ∷ r)) f

-- one more of the pairs
module _ (digits bytes : List ℕ) (pairs : List (List ℕ)) (k n : ℕ) (inv : spelled digits ≡ behind (take n bytes) (spelled (drop (2 * n) digits)))
    (cut : pairs ≡ first_chunks 2 k digits) (h : n < k) (all : 2 * k ≤ length digits) where
  step : spelled digits
      ≡ behind (take n bytes)
      (paired (value (get_or (get_or pairs n []) 0 0)) (value (get_or (get_or pairs n []) 1 0)) (spelled (drop (2 * (n + 1)) digits)))
  step = rw cut (inv ∙ ap (λ (z : List ℕ). behind (take n bytes) (spelled z)) (pair_apart k n digits h all))

  pub no_high : None ≡ value (get_or (get_or pairs n []) 0 0) → None ≡ spelled digits
  no_high is-h = sym (simp (sym is-h) at step)

  module _ (high : ℕ) (is-h : Some high ≡ value (get_or (get_or pairs n []) 0 0)) where
    pub no_low : None ≡ value (get_or (get_or pairs n []) 1 0) → None ≡ spelled digits
    no_low is-l = sym (simp (sym is-h, sym is-l) at step)

    pub one_more : (low : ℕ) → Some low ≡ value (get_or (get_or pairs n []) 1 0) → n < length bytes
        → spelled digits ≡ behind (take (n + 1) (set bytes n (16 * high + low))) (spelled (drop (2 * (n + 1)) digits))
    one_more low is-l room =
        (simp (sym is-h, sym is-l) at step) ∙ behind-paired (take n bytes) high low (spelled (drop (2 * (n + 1)) digits))
        ∙ ap (λ (z : List ℕ). behind z (spelled (drop (2 * (n + 1)) digits))) (sym (take_more_set bytes n (16 * high + low) room))

pub all_spelled : (digits bytes : List ℕ) (n : ℕ) → spelled digits ≡ behind (take n bytes) (spelled (drop (2 * n) digits)) → length digits ≤ 2 * n
    → Some (take n bytes) ≡ spelled digits
all_spelled digits bytes n inv h =
    sym (inv ∙ ap (λ (z : List ℕ). behind (take n bytes) (spelled z)) (drop_all (2 * n) digits h) ∙ ap (λ (z : List ℕ). Some z) (append-nil (take n bytes)))
