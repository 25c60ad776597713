-- The limit of a feed, and a new one.
use Rattle.std.proofs.Common.{◌≡◌, ℕ, zero, suc, ◌-◌, ◌*◌, ◌<◌, ◌≤◌, Bool, true, false, cond, ◌&&◌, leb, ◌≢◌, List, ◌∷◌, length, set, Some, None, unwrap_or, sym, refl, ap, ◌∙◌, subst, ⊎_elim, arith, length-set, get_or-set_other, get_or-set_same}
use Rattle.std.proofs.lemmas.List.{get_or_past}
use Rattle.std.proofs.lemmas.Bool.{cases_eq, and_cases, and_parts, leb-true, leb-false, le-leb}
use Rattle.table.specs.Rows.{PlainRow}
use Rattle.table.specs.Draws.{limit_of, draw, within, default_numbers}
use Rattle.table.specs.Tables.{Capped, Supplied, Ruled}

pick : (b : Bool) (n : ℕ) → (b ≡ false → n ≡ 0) → unwrap_or (cond b (Some n) None) 0 ≡ n
pick true n h = refl
pick false n h = sym (h refl)

outside : (limits : List ℕ) (f : ℕ) → length limits ≡ 8 → (leb 1 f && leb f 8) ≡ false → limit_of limits f ≡ 0
outside limits f e h =
    ⊎_elim
    (λ (k : leb 1 f ≡ false). let z : f ≡ 0 = omega (arith, leb-false 1 f k) in ap (limit_of limits) z)
    (λ (k : leb f 8 ≡ false). get_or_past (0 ∷ limits) f 0 (omega (arith, leb-false f 8 k)))
    (and_cases (leb 1 f) (leb f 8) h)

-- a feed outside 1 to 8 has the limit 0
pub limit_or : (limits : List ℕ) (f : ℕ) → length limits ≡ 8 → unwrap_or (cond (leb 1 f && leb f 8) (Some (limit_of limits f)) None) 0 ≡ limit_of limits f
limit_or limits f e = pick (leb 1 f && leb f 8) (limit_of limits f) (outside limits f e)

same_feed : (limits : List ℕ) (f n : ℕ) → 1 ≤ f → f ≤ length limits → limit_of (set limits (f - 1) n) f ≡ n
same_feed limits zero n p l = absurd (omega arith)
same_feed limits (suc k) n p l = let e : suc k - 1 ≡ k = omega arith in let h : k < length limits = omega arith in rw (e, get_or-set_same)

other_feed : (limits : List ℕ) (f g n : ℕ) → 1 ≤ f → g ≢ f → limit_of (set limits (f - 1) n) g ≡ limit_of limits g
other_feed limits f zero n p d = refl
other_feed limits f (suc k) n p d = let ne : k ≢ f - 1 = (λ e. d (omega arith)) in rw get_or-set_other

capped_set : (limits : List ℕ) (f n : ℕ) → 1 ≤ f → f ≤ length limits → n ≤ 1000000 → Capped limits → Capped (set limits (f - 1) n)
capped_set limits f n p l h c g =
    ⊎_elim
    (λ (e : g ≡ f). subst (λ (x : ℕ). limit_of (set limits (f - 1) n) x ≤ 1000000) (sym e) (omega (arith, same_feed limits f n p l)))
    (λ (d : g ≡ f → ⊥). omega (arith, other_feed limits f g n p d, c g))
    (cases_eq g f)

supplied_set : (rows : List PlainRow) (limits : List ℕ) (f n : ℕ) → 1 ≤ f → f ≤ length limits → draw f rows (default_numbers rows) ≤ n * 32000 → Supplied rows limits → Supplied rows (set limits (f - 1) n)
supplied_set rows limits f n p l h s g a b =
    ⊎_elim
    (λ (e : g ≡ f). subst (λ (x : ℕ). within x rows (set limits (f - 1) n) (default_numbers rows) ≡ true) (sym e) (le-leb _ _ (subst (λ (x : ℕ). draw f rows (default_numbers rows) ≤ x * 32000) (sym (same_feed limits f n p l)) h)))
    (λ (d : g ≡ f → ⊥). ap (λ (x : ℕ). leb (draw g rows (default_numbers rows)) (x * 32000)) (other_feed limits f g n p d) ∙ s g a b)
    (cases_eq g f)

-- where the limit of a feed is kept
pub placed : (f p : ℕ) → cond (leb 1 f && leb f 8) (Some (f - 1)) None ≡ Some p → (1 ≤ f) × (f ≤ 8) × (f - 1 ≡ p)
placed f p e = by (leb 1 f && leb f 8) refl e
  where
    by : (b : Bool) → (leb 1 f && leb f 8) ≡ b → cond b (Some (f - 1)) None ≡ Some p → (1 ≤ f) × (f ≤ 8) × (f - 1 ≡ p)
    by true q h = let a = and_parts (leb 1 f) (leb f 8) q in (leb-true 1 f a.0, leb-true f 8 a.1, cc)
    by false q h = let z : ◌≡◌ {A = ℕ} 0 1 = cc in absurd (omega arith)

-- a limit that is not refused leaves a table to its rules
pub ruled_limited : (rows : List PlainRow) (limits : List ℕ) (f limit : ℕ) → Ruled rows limits → 1 ≤ f → f ≤ 8 → limit ≤ 1000000 → draw f rows (default_numbers rows) ≤ limit * 32000 →
    Ruled rows (set limits (f - 1) limit)
ruled_limited rows limits f limit r p l h d =
    let in_list : f ≤ length limits = omega (arith, r.eight) in
    record {
      some = r.some;
      few = r.few;
      first = r.first;
      lawful = r.lawful;
      distinct = r.distinct;
      eight = simp length-set r.eight;
      capped = capped_set limits f limit p in_list h r.capped;
      supplied = supplied_set rows limits f limit p in_list d r.supplied;
      octets = r.octets;
    }
