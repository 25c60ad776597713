-- The turns of the loop that puts the answer to a read together.
use Rattle.std.proofs.Common.{◌≡◌, ℕ, ◌<◌, Bool, true, false, cond, ltb, List, [], ◌∷◌, ◌++◌, length, Some, None, Ok, Err, Option, Result, IsErrAnd, sym, refl, ap, ◌∙◌, subst, arith}
use Rattle.std.proofs.lemmas.Bool.{cond-true, cond-false}
use Rattle.std.specs.List.{AllByRecursion}
use Rattle.table.specs.Rows.{PlainRow}
use Rattle.table.specs.Draws.{row_at}
use Rattle.chain.specs.declared.access.Access.TheVariants.{Read}
use Rattle.chain.specs.declared.answer.ReadAnswer.{ReadAnswer}
use Rattle.chain.specs.declared.fault.ChainFault.{ChainFault}
use Rattle.chain.specs.declared.fault.ChainFault.TheVariants.{AnswerTooLong}
use Rattle.chain.specs.declared.fault.RackFault.{RackFault}
use Rattle.chain.specs.declared.fault.RackFault.TheVariants.{Chain}
use Rattle.chain.specs.declared.item.Query.{Query}
use Rattle.chain.specs.Answers.{Values, Answer, answered, put_answer, put_bytes, answer_from}
use Rattle.chain.specs.Faults.{too_long}
use Rattle.chain.specs.Items.{PlainItem, write, read, row_of}
use Rattle.chain.specs.Reader.{chain_of, given, left}
use Rattle.chain.specs.Walks.{Walked}
use Rattle.chain.proofs.Turns.{left_refusal, item_given, end-given, refusal_given}
use Rattle.chain_laws.proofs.Rows.{rows_found_stand}
use Rattle.readout.specs.Told.{answer_of, result_of}

-- the items of a read are for rows of the table
pub rows_of_table : (rows : List PlainRow) (bs : List ℕ) → AllByRecursion (λ x. row_of x < length rows) (chain_of Read rows bs).items
rows_of_table rows [] = tt
rows_of_table rows (command ∷ bs) = (rows_found_stand Read rows bs).items_stand

-- where an item is given, it and those left have what all had
pub all_given : (P : PlainItem → Type 0) (w : Walked) (x : PlainItem) → Ok (Some x) ≡ given w → AllByRecursion P w.items → P x × AllByRecursion P (left w).items
all_given P w x e a = subst (AllByRecursion P) (item_given w x e) a

put_in : (b : Bool) (f : ChainFault) → ◌≡◌ {A = Result (Unit {0}) ChainFault} (Ok tt) (cond b (Err f) (Ok tt)) → b ≡ false
put_in true f e = grind arith
put_in false f e = refl

put_refused : (b : Bool) (f k : ChainFault) → ◌≡◌ {A = Result (Unit {0}) ChainFault} (Err f) (cond b (Err k) (Ok tt)) → (b ≡ true) × (f ≡ k)
put_refused true f k e = (refl, (cc))
put_refused false f k e = grind arith

-- `?` hands a refusal on
pub told_err : (r : Result ReadAnswer RackFault) (f : RackFault) → IsErrAnd r (λ g. g ≡ f) → answer_of r ≡ Err f
told_err (Ok a) f e = absurd e
told_err (Err g) f e = ap (λ (h : RackFault). Err h) e

-- What is left of the chain, w, gives the whole answer, behind the bytes that are put together.
module _ (rows : List PlainRow) (h : Values) (whole : Answer) (bytes : List ℕ) (w : Walked)
    (inv : answer_from rows h bytes w.items w.refusal ≡ whole) where
  from_items : (items : List PlainItem) → w.items ≡ items → answer_from rows h bytes items w.refusal ≡ whole
  from_items items i = sym (ap (λ (xs : List PlainItem). answer_from rows h bytes xs w.refusal) i) ∙ inv

  told_so : (o : Option RackFault) → (w.items ≡ []) × (w.refusal ≡ o) → result_of (record { bytes = bytes; refusal = o }) ≡ result_of whole
  told_so o r = sym (ap (λ (x : Option RackFault). result_of (record { bytes = bytes; refusal = x })) r.1) ∙ ap result_of (from_items [] r.0)

  -- the chain is at its end, or refused
  pub at_end : Ok None ≡ given w → Ok bytes ≡ result_of whole
  at_end e = told_so None (end-given w e)

  pub at_refusal : (f : RackFault) → Err f ≡ given w → Err f ≡ result_of whole
  at_refusal f e = told_so (Some f) (refusal_given w f e)

  -- a write would add nothing
  pub passed_over : (r i : ℕ) (v : List ℕ) (w' : Walked) → Ok (Some (write r i v)) ≡ given w → w' ≡ left w →
      answer_from rows h bytes w'.items w'.refusal ≡ whole
  passed_over r i v w' e l =
      ap (λ (x : Walked). answer_from rows h bytes x.items x.refusal) l
      ∙ ap (answer_from rows h bytes (left w).items) (left_refusal w)
      ∙ from_items (write r i v ∷ (left w).items) (item_given w (write r i v) e)

  module _ (q : Query) (e : Ok (Some (read q)) ≡ given w) where
    abbrev more : List ℕ
    more = bytes ++ answered q (row_at rows q.row).kind (h q.row)

    asked : cond (ltb 64 (length more)) (record { bytes = bytes; refusal = Some (too_long q.place) }) (answer_from rows h more (left w).items w.refusal) ≡ whole
    asked = from_items (read q ∷ (left w).items) (item_given w (read q) e)

    -- a query's value is put behind the others
    pub put_behind : (bytes' : List ℕ) (w' : Walked) → w' ≡ left w →
        Ok tt ≡ put_answer q (row_at rows q.row).kind (h q.row) bytes → bytes' ≡ put_bytes q (row_at rows q.row).kind (h q.row) bytes →
        answer_from rows h bytes' w'.items w'.refusal ≡ whole
    put_behind bytes' w' l a b =
        let room = put_in (ltb 64 (length more)) (AnswerTooLong q.place) a in
        let m : bytes' ≡ more = b ∙ cond-false (ltb 64 (length more)) bytes more room in
        ap (λ (x : Walked). answer_from rows h bytes' x.items x.refusal) l
        ∙ ap (λ (bs : List ℕ). answer_from rows h bs (left w).items (left w).refusal) m
        ∙ ap (answer_from rows h more (left w).items) (left_refusal w)
        ∙ sym (cond-false (ltb 64 (length more)) (record { bytes = bytes; refusal = Some (too_long q.place) }) (answer_from rows h more (left w).items w.refusal) room)
        ∙ asked

    -- with it the answer is too long
    pub at_too_long : (f : ChainFault) → Err f ≡ put_answer q (row_at rows q.row).kind (h q.row) bytes → Err (Chain f) ≡ result_of whole
    at_too_long f a =
        let r = put_refused (ltb 64 (length more)) f (AnswerTooLong q.place) a in
        ap (λ (x : ChainFault). Err (Chain x)) r.1
        ∙ ap result_of (sym (cond-true (ltb 64 (length more)) (record { bytes = bytes; refusal = Some (too_long q.place) }) (answer_from rows h more (left w).items w.refusal) r.0) ∙ asked)
