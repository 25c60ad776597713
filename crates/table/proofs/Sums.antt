-- The draw: the loops, and that each row counts once.
use Rattle.std.proofs.Common.{◌≡◌, ℕ, zero, suc, ◌+◌, ◌*◌, ◌^◌, ◌<◌, ◌≤◌, Bool, true, false, cond, eqb, ◌≢◌, List, [], ◌∷◌, map, length, get_or, drop, set, sym, refl, ap, ◌∙◌, arith, get_or-set_other, get_or-set_same, below_more}
use lib.Dec.{eqb-zero-suc, eqb-suc-zero, eqb-suc-suc}
use Rattle.std.proofs.lemmas.List.{length-map, get_or-map}
use Rattle.table.specs.declared.Row.{Row}
use Rattle.table.specs.Rows.{PlainRow, plain, reset_row}
use Rattle.table.specs.Draws.{row_at, amount, draw, with_value, CountsEachOnce, number_of, default_bytes, default_numbers}
use Rattle.table.proofs.Places.{next_row, no_row}

-- only the values of the rows count
pub draw_same : (f : ℕ) (rows : List PlainRow) (v w : ℕ → ℕ) → ((k : ℕ) → k < length rows → v k ≡ w k) → draw f rows v ≡ draw f rows w
draw_same f [] v w h = refl
draw_same f (r ∷ rs) v w h =
    let a : amount f r (v 0) ≡ amount f r (w 0) = ap (amount f r) (h 0 (omega arith)) in
    let b = draw_same f rs (λ k. v (suc k)) (λ k. w (suc k)) (λ k l. h (suc k) (omega arith)) in
    cc

draw-none : (f : ℕ) (rows : List PlainRow) → draw f rows (λ _. 0) ≡ 0
draw-none f [] = refl
draw-none f (r ∷ rs) = let a : amount f r 0 ≡ 0 = no_amount (eqb r.feed f) r.flow in let h = draw-none f rs in omega arith
  where
    no_amount : (b : Bool) (n : ℕ) → cond b (0 * n) 0 ≡ 0
    no_amount true n = omega arith
    no_amount false n = refl

draw-one : (f : ℕ) (rows : List PlainRow) (v : ℕ → ℕ) (i x : ℕ) → i < length rows →
    draw f rows (with_value v i x) + amount f (row_at rows i) (v i) ≡ draw f rows v + amount f (row_at rows i) x
draw-one f [] v i x l = absurd (omega arith)
draw-one f (r ∷ rs) v zero x l =
    let e = draw_same f rs (λ k. with_value v 0 x (suc k)) (λ k. v (suc k)) (λ k _. ap (λ (b : Bool). cond b x (v (suc k))) (eqb-suc-zero k)) in
    omega arith
draw-one f (r ∷ rs) v (suc i) x l =
    let a : amount f r (with_value v (suc i) x 0) ≡ amount f r (v 0) = ap (λ (b : Bool). amount f r (cond b x (v 0))) (eqb-zero-suc i) in
    let e = draw_same f rs (λ k. with_value v (suc i) x (suc k)) (with_value (λ k. v (suc k)) i x) (λ k _. ap (λ (b : Bool). cond b x (v (suc k))) (eqb-suc-suc k i)) in
    let h = draw-one f rs (λ k. v (suc k)) i x (omega arith) in
    omega arith

pub counts_each_once : (rows : List PlainRow) → CountsEachOnce rows
counts_each_once rows = record { none = λ f. draw-none f rows; one = λ f v i x l. draw-one f rows v i x l }

-- the loop that adds the rows' draws
module _ (f : ℕ) (rows : List Row) (v : ℕ → ℕ) (i sum : ℕ) (inv : (sum + draw f (map plain (drop i rows)) (λ k. v (i + k)) ≡ draw f (map plain rows) v) × (sum ≤ i * 2 ^ 48)) where
  turn : (x : Row) → x ≡ get_or rows i x → i < length rows →
      draw f (map plain (drop i rows)) (λ k. v (i + k)) ≡ amount f (plain x) (v i) + draw f (map plain (drop (i + 1) rows)) (λ k. v (i + 1 + k))
  turn x e h =
      let n : draw f (map plain (drop i rows)) (λ k. v (i + k)) ≡ amount f (plain x) (v (i + 0)) + draw f (map plain (drop (i + 1) rows)) (λ k. v (i + suc k)) = ap (λ (rs : List PlainRow). draw f rs (λ k. v (i + k))) (next_row rows i x e h) in
      let a : amount f (plain x) (v (i + 0)) ≡ amount f (plain x) (v i) = ap (λ (k : ℕ). amount f (plain x) (v k)) (omega arith) in
      let s = draw_same f (map plain (drop (i + 1) rows)) (λ k. v (i + suc k)) (λ k. v (i + 1 + k)) (λ k _. ap v (omega arith)) in
      cc

  pub row_counted : (x : Row) (a : ℕ) → x ≡ get_or rows i x → i < length rows → a ≡ amount f (plain x) (v i) → a < 2 ^ 48 →
      (sum + a + draw f (map plain (drop (i + 1) rows)) (λ k. v (i + 1 + k)) ≡ draw f (map plain rows) v) × (sum + a ≤ (i + 1) * 2 ^ 48)
  row_counted x a e h q b = let t = turn x e h in (omega arith, omega arith)

  pub all_counted : length rows ≤ i → sum ≡ draw f (map plain rows) v
  all_counted h = let n = ap (λ (rs : List PlainRow). draw f rs (λ k. v (i + k))) (no_row rows i h) in omega arith

pub none-counted : (f : ℕ) (rows : List PlainRow) (v : ℕ → ℕ) → 0 + draw f rows (λ k. v (0 + k)) ≡ draw f rows v
none-counted f rows v = let s = draw_same f rows (λ k. v (0 + k)) v (λ k _. ap v (omega arith)) in omega arith

-- the default of a row as the code reads it
pub default_at : (rows : List Row) (i : ℕ) (x : Row) → x ≡ get_or rows i x → i < length rows → number_of (default_bytes (plain x)) ≡ default_numbers (map plain rows) i
default_at rows i x e h = sym (ap (λ (r : PlainRow). number_of (default_bytes r)) (get_or-map plain rows i x reset_row h ∙ ap plain (sym e)))

pub numbers_more : (xs : List ℕ) (w : ℕ → ℕ) (i y : ℕ) → i < length xs → y ≡ w i → ((k : ℕ) → k < i → get_or xs k 0 ≡ w k) → (k : ℕ) → k < i + 1 → get_or (set xs i y) k 0 ≡ w k
numbers_more xs w i y l e h =
    below_more (λ k. get_or (set xs i y) k 0 ≡ w k) i (λ k b. let ne : k ≢ i = omega arith in rw get_or-set_other (h k b)) (rw get_or-set_same e)

pub draw-defaults : (f : ℕ) (rows : List Row) (numbers : List ℕ) → ((k : ℕ) → k < length rows → get_or numbers k 0 ≡ default_numbers (map plain rows) k) →
    draw f (map plain rows) (λ k. get_or numbers k 0) ≡ draw f (map plain rows) (default_numbers (map plain rows))
draw-defaults f rows numbers h = draw_same f (map plain rows) (λ k. get_or numbers k 0) (default_numbers (map plain rows)) (λ k l. h k (omega (arith, length-map rows plain)))
