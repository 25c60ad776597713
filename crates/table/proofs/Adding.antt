-- A row that passes the tests may be added.
use Rattle.std.proofs.Common.{◌≡◌, ℕ, suc, ◌+◌, ◌*◌, ◌<◌, ◌≤◌, Bool, true, false, cond, not, ◌||◌, eqb, leb, List, [], ◌∷◌, ◌++◌, map, length, Some, None, Ok, Err, Option, sym, refl, ap, ◌∙◌, subst, arith, length-append}
use Rattle.std.proofs.lemmas.List.{get_or_append_left, get_or_push, length-map, map_push}
use Rattle.std.proofs.lemmas.Bool.{and_parts, and_from, or_parts, ne_eqb, eqb-true, le-leb, leb-true, leb-false}
use Rattle.table.specs.declared.Row.{Row}
use Rattle.table.specs.Rows.{PlainRow, plain, keeps_rules, has_pair, reset_row}
use Rattle.table.specs.Draws.{row_at, amount, draw, number_of, default_bytes, default_numbers, limit_of, within}
use Rattle.table.specs.Tables.{pair_taken, apart, all_keep_rules, Supplied, Ruled}
use Rattle.table.specs.Refusals.{added, has_room, first_failed, add_refusal, answer, after}
use Rattle.table.proofs.Facts.{all_bytes}
use Rattle.table.proofs.Sums.{draw_same}

ruled_added : (rows : List PlainRow) (r : PlainRow) → all_keep_rules rows ≡ true → keeps_rules r ≡ true → all_keep_rules (added rows r) ≡ true
ruled_added [] r a e = and_from (keeps_rules r) true e refl
ruled_added (x ∷ xs) r a e = let p = and_parts (keeps_rules x) (all_keep_rules xs) a in and_from _ _ p.0 (ruled_added xs r p.1 e)

has_flip : (x r : PlainRow) → has_pair r.process r.parameter x ≡ has_pair x.process x.parameter r
has_flip x r = grind arith

taken-added : (p q : ℕ) (rows : List PlainRow) (r : PlainRow) → has_pair p q r ≡ false → pair_taken p q (added rows r) ≡ pair_taken p q rows
taken-added p q [] r e = ap (λ (b : Bool). b || false) e
taken-added p q (x ∷ xs) r e = ap (λ (b : Bool). has_pair p q x || b) (taken-added p q xs r e)

apart-added : (rows : List PlainRow) (r : PlainRow) → apart rows ≡ true → pair_taken r.process r.parameter rows ≡ false → apart (added rows r) ≡ true
apart-added [] r a e = refl
apart-added (x ∷ xs) r a e =
    let f = or_parts (has_pair r.process r.parameter x) (pair_taken r.process r.parameter xs) e in
    let p = and_parts (not (pair_taken x.process x.parameter xs)) (apart xs) a in
    and_from _ _ (ap not (taken-added x.process x.parameter xs r (sym (has_flip x r) ∙ f.0)) ∙ p.0) (apart-added xs r p.1 f.1)

-- one more row in the draw
draw_push : (f : ℕ) (rows : List PlainRow) (r : PlainRow) (v : ℕ → ℕ) → draw f (added rows r) v ≡ draw f rows v + amount f r (v (length rows))
draw_push f [] r v = omega arith
draw_push f (x ∷ xs) r v = let h = draw_push f xs r (λ k. v (suc k)) in omega arith

draw-added : (f : ℕ) (rows : List PlainRow) (r : PlainRow) → draw f (added rows r) (default_numbers (added rows r)) ≡ draw f rows (default_numbers rows) + amount f r (number_of (default_bytes r))
draw-added f rows r =
    let a = draw_push f rows r (default_numbers (added rows r)) in
    let b = draw_same f rows (default_numbers (added rows r)) (default_numbers rows) (λ k l. ap (λ (x : PlainRow). number_of (default_bytes x)) (get_or_append_left rows (r ∷ []) reset_row k l)) in
    let c : amount f r (default_numbers (added rows r) (length rows)) ≡ amount f r (number_of (default_bytes r)) = ap (λ (x : PlainRow). amount f r (number_of (default_bytes x))) (get_or_push rows r reset_row (length rows) refl) in
    omega arith

-- the room that the code computes
pub room_is : (rows : List PlainRow) (limits : List ℕ) (r : PlainRow) → (r.feed ≡ 0 → ⊥) →
    leb (draw r.feed rows (default_numbers rows) + amount r.feed r (number_of (default_bytes r))) (limit_of limits r.feed * 32000) ≡ has_room rows limits r
room_is rows limits r n =
    ap (λ (x : ℕ). leb x (limit_of limits r.feed * 32000)) (sym (draw-added r.feed rows r))
    ∙ sym (ap (λ (b : Bool). b || within r.feed (added rows r) limits (default_numbers (added rows r))) (ne_eqb r.feed 0 n))

supplied_by : (b : Bool) (rows : List PlainRow) (limits : List ℕ) (r : PlainRow) (f : ℕ) → eqb r.feed f ≡ b → Supplied rows limits → has_room rows limits r ≡ true → 1 ≤ f → f ≤ 8 →
    within f (added rows r) limits (default_numbers (added rows r)) ≡ true
supplied_by true rows limits r f q s h p l =
    let e : r.feed ≡ f = eqb-true _ _ q in
    let n : eqb r.feed 0 ≡ false = ne_eqb _ _ (λ z. omega arith) in
    subst (λ (g : ℕ). within g (added rows r) limits (default_numbers (added rows r)) ≡ true) e (sym (ap (λ (b : Bool). b || within r.feed (added rows r) limits (default_numbers (added rows r))) n) ∙ h)
supplied_by false rows limits r f q s h p l =
    let a : amount f r (number_of (default_bytes r)) ≡ 0 = ap (λ (b : Bool). cond b (number_of (default_bytes r) * r.flow) 0) q in
    let t : draw f rows (default_numbers rows) ≤ limit_of limits f * 32000 = leb-true _ _ (s f p l) in
    le-leb _ _ (omega (arith, draw-added f rows r))

supplied_added : (rows : List PlainRow) (limits : List ℕ) (r : PlainRow) → Supplied rows limits → has_room rows limits r ≡ true → Supplied (added rows r) limits
supplied_added rows limits r s h f p l = supplied_by (eqb r.feed f) rows limits r f refl s h p l

-- what no refusal tells
passes_all : (ruled full taken room : Bool) → None ≡ first_failed ruled full taken room → (ruled ≡ true) × (full ≡ false) × (taken ≡ false) × (room ≡ true)
passes_all false b c d e = let z : ◌≡◌ {A = ℕ} 0 1 = cc in absurd (omega arith)
passes_all true true c d e = let z : ◌≡◌ {A = ℕ} 0 1 = cc in absurd (omega arith)
passes_all true false true d e = let z : ◌≡◌ {A = ℕ} 0 1 = cc in absurd (omega arith)
passes_all true false false false e = let z : ◌≡◌ {A = ℕ} 0 1 = cc in absurd (omega arith)
passes_all true false false true e = (refl, refl, refl, refl)

-- a row that is not refused leaves a table to its rules
module _ (rows : List Row) (limits : List ℕ) (r : Row) (t : Ruled (map plain rows) limits) (e : None ≡ add_refusal (map plain rows) limits (plain r)) where
  pub place_free : length rows < 128
  place_free = omega (arith, length-map rows plain, leb-false 128 (length (map plain rows)) (passes_all _ _ _ _ e).1)

  pub ruled_more : Ruled (map plain (rows ++ r ∷ [])) limits
  ruled_more =
      let p = passes_all (keeps_rules (plain r)) (leb 128 (length (map plain rows))) (pair_taken r.process r.parameter (map plain rows)) (has_room (map plain rows) limits (plain r)) e in
      let more = λ (P : List PlainRow → Type 0) (h : P (added (map plain rows) (plain r))). subst P (sym (map_push plain rows r)) h in
      record {
        some = simp (length-map, length-append) (omega arith);
        few = simp (length-map, length-append) (omega (arith, place_free));
        first = more (λ rs. row_at rs 0 ≡ reset_row) (get_or_append_left (map plain rows) (plain r ∷ []) reset_row 0 t.some ∙ t.first);
        lawful = more (λ rs. all_keep_rules rs ≡ true) (ruled_added (map plain rows) (plain r) t.lawful p.0);
        distinct = more (λ rs. apart rs ≡ true) (apart-added (map plain rows) (plain r) t.distinct p.2);
        eight = t.eight;
        capped = t.capped;
        supplied = more (λ rs. Supplied rs limits) (supplied_added (map plain rows) limits (plain r) t.supplied p.3);
        octets = all_bytes (rows ++ r ∷ []);
      }

-- what a call answers, and what then stands
pub not_refused : {E : Type 0} {x : Unit {0}} (o : Option E) → Ok x ≡ answer o → None ≡ o
not_refused None e = refl
not_refused (Some r) e = let z : ◌≡◌ {A = ℕ} 0 1 = cc in absurd (omega arith)

pub stays : {E X : Type 0} {x : E} (o : Option E) (new old : X) → Err x ≡ answer o → old ≡ after o new old
stays None new old e = let z : ◌≡◌ {A = ℕ} 0 1 = cc in absurd (omega arith)
stays (Some r) new old e = refl

pub changes : {E X : Type 0} (o : Option E) (new old : X) → None ≡ o → new ≡ after o new old
changes o new old e = ap (λ (x : Option _). after x new old) e
