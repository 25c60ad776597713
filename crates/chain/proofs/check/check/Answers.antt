use Rattle.std.proofs.Common.{length, Ok, Err, Option, sym, ap, ◌∙◌, arith}
use Rattle.std.proofs.lemmas.Result.{err_from_is_err_and}
use Rattle.chain.specs.declared.fault.RackFault.{RackFault}
use Rattle.chain.specs.declared.item.Item.{Item}
use Rattle.chain.specs.Items.{plain_item}
use Rattle.chain.specs.Walks.{Walked}
use Rattle.chain.specs.Reader.{checked, remaining, told}
use Rattle.chain.proofs.Turns.{left_refusal, item_given, end-given, refusal_given}
use Rattle.chain.proofs.check.check.Goals as goal

pub returns-in_err-_item : goal.returns-in_err-_item
returns-in_err-_item c =
    let p = err_from_is_err_and c.from_residual.result c.from_residual.ensures.1 in
    let r = refusal_given (remaining c.loop-item.chain) c.in_err-_item.field-0.0 c.in_err-_item.ensures.item in
    p.1 ∙ ap (λ (f : RackFault). Err f) p.2
    ∙ ap checked (sym r.1 ∙ c.loop-item.invariant ∙ ap (λ (w : Walked). w.refusal) c.new-chain.ensures)

pub loop-item-smaller : goal.loop-item-smaller
loop-item-smaller c =
    let e = ap (λ (o : Option Item). told (Ok o)) (sym c.in-Some.is) ∙ c.in_ok-_item.ensures.item in
    let i = item_given (remaining c.loop-item.chain) (plain_item c.in-Some._item) e in
    omega (arith, ap length i, ap (λ (w : Walked). length w.items) c.in_ok-_item.ensures.rest)

pub loop-item-preserved : goal.loop-item-preserved
loop-item-preserved c = ap (λ (w : Walked). w.refusal) c.in_ok-_item.ensures.rest ∙ left_refusal (remaining c.loop-item.chain) ∙ c.loop-item.invariant

pub returns : goal.returns
returns c =
    let e = ap (λ (o : Option Item). told (Ok o)) (sym c.in_default.is) ∙ c.in_ok-_item.ensures.item in
    let r = end-given (remaining c.loop-item.chain) e in
    ap checked (sym r.1 ∙ c.loop-item.invariant ∙ ap (λ (w : Walked). w.refusal) c.new-chain.ensures)
