use Rattle.std.proofs.Common.{◌≡◌, ℕ, ◌<◌, List, length, Some, Ok, Option, sym, ap, ◌∙◌, subst, arith}
use Rattle.std.specs.List.{AllByRecursion}
use Rattle.table.specs.Held.{rows_of}
use Rattle.chain.specs.declared.access.Access.TheVariants.{Read}
use Rattle.chain.specs.declared.fault.RackFault.TheVariants.{Chain}
use Rattle.chain.specs.declared.item.Item.{Item}
use Rattle.chain.specs.Answers.{Values, Answer, answer_from, read_answer}
use Rattle.chain.specs.Built.{built}
use Rattle.chain.specs.Items.{PlainItem, plain_item, row_of}
use Rattle.chain.specs.Reader.{chain_of, given, remaining, told}
use Rattle.chain.specs.Walks.{Walked}
use Rattle.chain.proofs.Turns.{item_given}
use Rattle.promises.specs.Stored.{values_in}
use Rattle.readout.proofs.Turns.{told_err, rows_of_table, all_given, at_end, at_refusal, passed_over, put_behind, at_too_long}
use Rattle.readout.proofs.read.Given as over
use Rattle.readout.proofs.read.Goals as goal
use Rattle.readout.proofs.read.Goals.{In-Some}

-- the item of a turn is the first of those left
item_told : (g : over.Over) (c : goal.In-Some g) → Ok (Some (plain_item c.in-Some.item)) ≡ given (remaining c.loop-item.chain)
item_told g c = ap (λ (o : Option Item). told (Ok o)) (sym c.in-Some.is) ∙ c.in_ok-item.ensures.item

one_fewer : (g : over.Over) (c : goal.In-Some g) → length (remaining c.next.new.self).items < length (remaining c.loop-item.chain).items
one_fewer g c =
    let i = item_given (remaining c.loop-item.chain) (plain_item c.in-Some.item) (item_told g c) in
    omega (arith, ap length i, ap (λ (w : Walked). length w.items) c.in_ok-item.ensures.rest)

-- it and those behind it are for rows of the table
abbrev OfTable : (g : over.Over) → goal.In-Some g → PlainItem → Type 0
OfTable g c x = row_of x < length (rows_of c.args.table.now)

of_table : (g : over.Over) (c : goal.In-Some g) → OfTable g c (plain_item c.in-Some.item) × AllByRecursion (OfTable g c) (remaining c.next.new.self).items
of_table g c =
    let a = all_given (OfTable g c) (remaining c.loop-item.chain) (plain_item c.in-Some.item) (item_told g c) c.loop-item.invariant.1 in
    (a.0, subst (λ (w : Walked). AllByRecursion (OfTable g c) w.items) (sym c.in_ok-item.ensures.rest) a.1)

abbrev values_of : (g : over.Over) → goal.In-Some g → Values
values_of g c = values_in (g.S.Store.held c.args.store.now)

abbrev whole_of : (g : over.Over) → goal.In-Some g → Answer
whole_of g c = read_answer (rows_of c.args.table.now) (values_of g c) (chain_of Read (rows_of c.args.table.now) c.args.message.now)

pub loop-item-init : goal.loop-item-init
loop-item-init g c =
    let rows = rows_of c.args.table.now in
    let h = values_in (g.S.Store.held c.args.store.now) in (
      ap (λ (bs : List ℕ). answer_from rows h bs (remaining c.new-chain.result).items (remaining c.new-chain.result).refusal) c.new-answer.ensures
          ∙ ap (read_answer rows h) c.new-chain.ensures,
      subst (λ (w : Walked). AllByRecursion (λ x. row_of x < length rows) w.items) (sym c.new-chain.ensures) (rows_of_table rows c.args.message.now),
    )

pub returns-in_err-item : goal.returns-in_err-item
returns-in_err-item g c =
    told_err c.from_residual.result c.in_err-item.field-0.0 c.from_residual.ensures.1
    ∙ at_refusal (rows_of c.args.table.now) (values_in (g.S.Store.held c.args.store.now)) _ (built c.loop-item.answer) (remaining c.loop-item.chain) c.loop-item.invariant.0
    c.in_err-item.field-0.0 c.in_err-item.ensures.item

pub put_row-requires : goal.put_row-requires
put_row-requires g c =
    let i = (goal.at.put_row-requires g c).In-Some in
    subst (λ (x : Item). OfTable g i (plain_item x)) c.in-Read.is (of_table g i).0

pub loop-item-smaller-in-Continue-branch-3 : goal.loop-item-smaller-in-Continue-branch-3
loop-item-smaller-in-Continue-branch-3 g c = one_fewer g (goal.at.loop-item-smaller-in-Continue-branch-3 g c).In-Some

pub loop-item-preserved-in-Continue-branch-3 : goal.loop-item-preserved-in-Continue-branch-3
loop-item-preserved-in-Continue-branch-3 g c =
    let i = (goal.at.loop-item-preserved-in-Continue-branch-3 g c).In-Some in (
      put_behind (rows_of c.args.table.now) (values_of g i) (whole_of g i) (built c.loop-item.answer) (remaining c.loop-item.chain) c.loop-item.invariant.0
          c.in-Read.query (sym (ap (λ (x : Item). Ok (Some (plain_item x))) c.in-Read.is) ∙ item_told g i)
          (built c.put_row.new.answer) (remaining c.next.new.self) c.in_ok-item.ensures.rest
          c.in_ok-put_row.ensures.answer c.in_ok-put_row.ensures.after,
      (of_table g i).1,
    )

pub returns-in_err-put_row : goal.returns-in_err-put_row
returns-in_err-put_row g c =
    let i = (goal.at.returns-in_err-put_row g c).In-Some in
    told_err c.from_residual-in_err-put_row.result (Chain c.in_err-put_row.field-0.0) c.from_residual-in_err-put_row.ensures.1
    ∙ at_too_long (rows_of c.args.table.now) (values_of g i) (whole_of g i) (built c.loop-item.answer) (remaining c.loop-item.chain) c.loop-item.invariant.0
    c.in-Read.query (sym (ap (λ (x : Item). Ok (Some (plain_item x))) c.in-Read.is) ∙ item_told g i)
    c.in_err-put_row.field-0.0 c.in_err-put_row.ensures.answer

pub loop-item-smaller : goal.loop-item-smaller
loop-item-smaller g c = one_fewer g (goal.at.loop-item-smaller g c).In-Some

pub loop-item-preserved : goal.loop-item-preserved
loop-item-preserved g c =
    let i = (goal.at.loop-item-preserved g c).In-Some in (
      passed_over (rows_of c.args.table.now) (values_of g i) (whole_of g i) (built c.loop-item.answer) (remaining c.loop-item.chain) c.loop-item.invariant.0
          _ _ _ (remaining c.next.new.self) (sym (ap (λ (x : Item). Ok (Some (plain_item x))) c.in_default-item.is) ∙ item_told g i) c.in_ok-item.ensures.rest,
      (of_table g i).1,
    )

pub returns : goal.returns
returns g c =
    at_end (rows_of c.args.table.now) (values_in (g.S.Store.held c.args.store.now)) _ (built c.loop-item.answer) (remaining c.loop-item.chain) c.loop-item.invariant.0
    (ap (λ (o : Option Item). told (Ok o)) (sym c.in_default.is) ∙ c.in_ok-item.ensures.item)
