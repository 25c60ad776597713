-- Places of a list and of the list without its k-th element: `skip k` goes from a place of the shorter list to that of the longer
-- one, `back k` the other way, and `moved k f` takes place k to the front and the others where f takes them, one place further.
use Rattle.std.proofs.Common.{◌≡◌, ℕ, zero, suc, ◌<◌, ◌≤◌, ◌⊎◌, List, [], ◌∷◌, ◌++◌, length, get_or, refl, ap, inl, inr, ⊎_elim, arith}

pub skip : ℕ → ℕ → ℕ
skip zero j = suc j
skip (suc k) zero = zero
skip (suc k) (suc j) = suc (skip k j)

pub back : ℕ → ℕ → ℕ
back zero zero = zero
back zero (suc j) = j
back (suc k) zero = zero
back (suc k) (suc j) = suc (back k j)

pub moved : ℕ → (ℕ → ℕ) → ℕ → ℕ
moved zero f zero = zero
moved zero f (suc i) = suc (f i)
moved (suc k) f zero = suc (f zero)
moved (suc k) f (suc i) = moved k (λ j. f (suc j)) i

pub skip_is : (k j : ℕ) → ((j < k) × (skip k j ≡ j)) ⊎ ((k ≤ j) × (skip k j ≡ suc j))
unfolding skip
skip_is zero j = inr (omega arith, refl)
skip_is (suc k) zero = inl (omega arith, refl)
skip_is (suc k) (suc j) = ⊎_elim (λ h. inl (omega arith, omega arith)) (λ h. inr (omega arith, omega arith)) (skip_is k j)

pub back_is : (k j : ℕ) → (j ≡ k → ⊥) → ((j < k) × (back k j ≡ j)) ⊎ ((k < j) × (suc (back k j) ≡ j))
unfolding back
back_is zero zero n = absurd (n refl)
back_is zero (suc j) n = inr (omega arith, refl)
back_is (suc k) zero n = inl (omega arith, refl)
back_is (suc k) (suc j) n =
    ⊎_elim (λ h. inl (omega arith, omega arith)) (λ h. inr (omega arith, omega arith)) (back_is k j (λ e. n (ap suc e)))

pub moved_is : (k : ℕ) (f : ℕ → ℕ) (i : ℕ) → ((i ≡ k) × (moved k f i ≡ zero)) ⊎ ((i ≡ k → ⊥) × (moved k f i ≡ suc (f (back k i))))
unfolding moved back
moved_is zero f zero = inl (refl, refl)
moved_is zero f (suc i) = inr (omega arith, refl)
moved_is (suc k) f zero = inr (omega arith, refl)
moved_is (suc k) f (suc i) =
    ⊎_elim (λ h. inl (ap suc h.0, h.1)) (λ h. inr (λ e. h.0 (omega arith), h.1)) (moved_is k (λ j. f (suc j)) i)

pub skip_other : (k j : ℕ) → skip k j ≡ k → ⊥
skip_other k j e = let h = skip_is k j in omega arith

pub back_skip : (k j : ℕ) → back k (skip k j) ≡ j
back_skip k j = let h = skip_is k j in let g = back_is k (skip k j) (skip_other k j) in omega arith

pub skip_back : (k j : ℕ) → (j ≡ k → ⊥) → skip k (back k j) ≡ j
skip_back k j n = let h = back_is k j n in let g = skip_is k (back k j) in omega arith

-- what stands at j, read in the list without the element after p
pub get_or_gap : {X : Type 0} (p q : List X) (y x : X) (j : ℕ) → (j ≡ length p → ⊥) → get_or (p ++ y ∷ q) j x ≡ get_or (p ++ q) (back (length p) j) x
unfolding back
get_or_gap [] q y x zero n = absurd (n refl)
get_or_gap [] q y x (suc j) n = refl
get_or_gap (a ∷ p) q y x zero n = refl
get_or_gap (a ∷ p) q y x (suc j) n = get_or_gap p q y x j (λ e. n (ap suc e))
