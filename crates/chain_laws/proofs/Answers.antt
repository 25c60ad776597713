-- The answer to a read, and room for it.
use Rattle.std.proofs.Common.{◌≡◌, ℕ, ◌+◌, ◌<◌, ◌≤◌, true, false, ltb, List, [], ◌∷◌, ◌++◌, length, Some, Option, sym, refl, ap, ◌∙◌, subst, ⊎_elim, arith, length-append}
use Rattle.std.proofs.lemmas.Bool.{cases_Bool, cases_lt, cond-true, cond-false, cond_both, le-ltb, ltb-false}
use Rattle.table.specs.Rows.{PlainRow}
use Rattle.table.specs.Draws.{row_at}
use Rattle.chain.specs.declared.access.Access.TheVariants.{Read}
use Rattle.chain.specs.declared.fault.RackFault.{RackFault}
use Rattle.chain.specs.declared.item.Query.{Query}
use Rattle.chain.specs.Faults.{too_long, rack_place}
use Rattle.chain.specs.Items.{PlainItem, write, read}
use Rattle.chain.specs.Chains.{read_reading}
use Rattle.chain.specs.Answers.{Values, Answer, answered, answer_from, read_answer, whole_from}
use Rattle.chain_laws.specs.Places.{Ascend, item_places, PlacesLieInside}
use Rattle.chain_laws.specs.Answers.{AnswersLieOver}
use Rattle.chain_laws.proofs.Places.{chain_placed}

module _ (rows : List PlainRow) (h : Values) where
  -- an answer with one query more
  abbrev grown : List ℕ → Query → List ℕ
  grown bytes q = bytes ++ answered q (row_at rows q.row).kind (h q.row)

  whole_grows : (items : List PlainItem) (bytes : List ℕ) → length bytes ≤ length (whole_from rows h bytes items)
  whole_grows [] bytes = omega arith
  whole_grows (write r i v ∷ items) bytes = whole_grows items bytes
  whole_grows (read q ∷ items) bytes =
      let l : length bytes ≤ length (grown bytes q) = omega (arith, length-append bytes (answered q (row_at rows q.row).kind (h q.row))) in
      let m = whole_grows items (grown bytes q) in omega arith

  same_from : (items : List PlainItem) (bytes : List ℕ) (o : Option RackFault) → length (whole_from rows h bytes items) ≤ 64 →
      answer_from rows h bytes items o ≡ record { bytes = whole_from rows h bytes items; refusal = o }
  same_from [] bytes o l = refl
  same_from (write r i v ∷ items) bytes o l = same_from items bytes o l
  same_from (read q ∷ items) bytes o l =
      let m : length (grown bytes q) ≤ length (whole_from rows h (grown bytes q) items) = whole_grows items (grown bytes q) in
      cond-false (ltb 64 (length (grown bytes q))) (record { bytes = bytes; refusal = Some (too_long q.place) }) (answer_from rows h (grown bytes q) items o)
      (le-ltb 64 (length (grown bytes q)) (omega arith)) ∙
      same_from items (grown bytes q) o l

  -- an answer that is too long is refused at the place of an item
  abbrev FullBefore : ℕ → ℕ → Option RackFault → Type 0
  FullBefore from stop o = (i : ℕ) × (from ≤ i) × (i < stop) × (o ≡ Some (too_long i))

  later : (from from' stop : ℕ) (o : Option RackFault) → from ≤ from' → FullBefore from' stop o → FullBefore from stop o
  later from from' stop o l f = (f.0, omega (arith, f.1), f.2, f.3)

  full_from : (from stop : ℕ) (items : List PlainItem) (bytes : List ℕ) (o : Option RackFault) → Ascend from stop (item_places items) → length bytes ≤ 64 →
      64 < length (whole_from rows h bytes items) → FullBefore from stop (answer_from rows h bytes items o).refusal
  full_from from stop [] bytes o a l m = absurd (omega arith)
  full_from from stop (write r i v ∷ items) bytes o a l m =
      later from (i + 1) stop (answer_from rows h bytes items o).refusal (omega (arith, a.0)) (full_from (i + 1) stop items bytes o a.2 l m)
  full_from from stop (read q ∷ items) bytes o a l m =
      ⊎_elim
      (λ (b : ltb 64 (length (grown bytes q)) ≡ true). (
        q.place,
        a.0,
        a.1,
        ap (λ (x : Answer). x.refusal) (cond-true (ltb 64 (length (grown bytes q))) (record { bytes = bytes; refusal = Some (too_long q.place) }) (answer_from rows h (grown bytes q) items o) b),
      ))
      (λ (b : ltb 64 (length (grown bytes q)) ≡ false).
      let k : length (grown bytes q) ≤ 64 = ltb-false 64 (length (grown bytes q)) b in
      let e = cond-false (ltb 64 (length (grown bytes q))) (record { bytes = bytes; refusal = Some (too_long q.place) }) (answer_from rows h (grown bytes q) items o) b in
      later from (q.place + 1) stop (answer_from rows h bytes (read q ∷ items) o).refusal (omega (arith, a.0))
      (subst (λ (x : Answer). FullBefore (q.place + 1) stop x.refusal) (sym e) (full_from (q.place + 1) stop items (grown bytes q) o a.2 k m)))
      (cases_Bool (ltb 64 (length (grown bytes q))))

  fits_from : (items : List PlainItem) (bytes : List ℕ) (o : Option RackFault) → length bytes ≤ 64 → length (answer_from rows h bytes items o).bytes ≤ 64
  fits_from [] bytes o l = l
  fits_from (write r i v ∷ items) bytes o l = fits_from items bytes o l
  fits_from (read q ∷ items) bytes o l =
      cond_both (ltb 64 (length (grown bytes q))) (record { bytes = bytes; refusal = Some (too_long q.place) }) (answer_from rows h (grown bytes q) items o)
      (λ (x : Answer). length x.bytes ≤ 64) (λ _. l) (λ b. fits_from items (grown bytes q) o (ltb-false 64 (length (grown bytes q)) b))

pub answers_lie_over : AnswersLieOver
answers_lie_over rows h bs =
    let p = chain_placed Read rows bs in
    record {
      same = same_from rows h (read_reading rows bs).items (0x02 ∷ []) (read_reading rows bs).refusal;
      full = λ l.
          let f = full_from rows h 1 (1 + length bs) (read_reading rows bs).items (0x02 ∷ []) (read_reading rows bs).refusal p.items (omega arith) l in (
            f.0,
            f.3,
            λ g e.
                let k = full_from rows h 1 (rack_place g) (read_reading rows bs).items (0x02 ∷ []) (read_reading rows bs).refusal (p.items_before g e) (omega arith) l in
                let s = sym k.3 ∙ f.3 in
                let t : k.0 ≡ f.0 = cc in omega (arith, k.2),
          );
      fits = fits_from rows h (read_reading rows bs).items (0x02 ∷ []) (read_reading rows bs).refusal (omega arith);
    }

-- what refuses an answer: what refuses the reading, or an item for which there is no room
answer-placed : (rows : List PlainRow) (bs : List ℕ) (h : Values) (g : RackFault) → (read_answer rows h (read_reading rows bs)).refusal ≡ Some g → (1 ≤ rack_place g) × (rack_place g ≤ 1 + length bs)
answer-placed rows bs h g e =
    let p = chain_placed Read rows bs in
    ⊎_elim
    (λ (l : 64 < length (whole_from rows h (0x02 ∷ []) (read_reading rows bs).items)).
    let f = full_from rows h 1 (1 + length bs) (read_reading rows bs).items (0x02 ∷ []) (read_reading rows bs).refusal p.items (omega arith) l in
    let s = sym f.3 ∙ e in
    let t : too_long f.0 ≡ g = cc in
    let u : f.0 ≡ rack_place g = ap rack_place t in
    (omega (arith, f.1), omega (arith, f.2)))
    (λ (l : length (whole_from rows h (0x02 ∷ []) (read_reading rows bs).items) ≤ 64).
    p.refusal g (sym (ap (λ (x : Answer). x.refusal) ((answers_lie_over rows h bs).same l)) ∙ e))
    (cases_lt 64 (length (whole_from rows h (0x02 ∷ []) (read_reading rows bs).items)))

pub places_lie_inside : PlacesLieInside
places_lie_inside rows bs = (λ access. chain_placed access rows bs, answer-placed rows bs)
