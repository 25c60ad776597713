use Rattle.std.proofs.Common.{◌≡◌, Some, Ok, Err, Option, sym, ap, ◌∙◌}
use Rattle.std.proofs.lemmas.Result.{err_from_is_err_and}
use Rattle.chain.specs.declared.fault.RackFault.{RackFault}
use Rattle.chain.specs.declared.reader.Chain.{Chain}
use Rattle.chain.specs.declared.reader.Start.{Start}
use Rattle.chain.specs.Walks.{Walked}
use Rattle.chain.specs.Reader.{from_item, from_start, remaining, told}
use Rattle.chain.proofs.Steps.{item_given, item_left, item_refused}
use Rattle.chain.proofs.reader.Chain.next.Goals as goal

-- the item that is seen is the first of what is left
seen : (c : Chain) (o : Option Start) (s : Start) (w : Walked) → o ≡ Some s → from_start c (Ok o) ≡ w → from_item c s ≡ w
seen c o s w p e = ap (λ (x : Option Start). from_start c (Ok x)) (sym p) ∙ e

pub returns-in_err-item : goal.returns-in_err-item
returns-in_err-item c =
    let self = c.args.self.now in
    let begun = seen self _ c.in-Some.start (remaining self) c.in-Some.is c.in_ok-start.ensures in
    let p = err_from_is_err_and c.from_residual-in_err-item.result c.from_residual-in_err-item.ensures.1 in
    let o = item_refused self c.in-Some.start (remaining self) begun c.in_err-item.field-0.0 c.in_err-item.ensures.0 in
    record { item = ap told p.1 ∙ ap (λ (f : RackFault). Err f) p.2 ∙ o.0; rest = o.1 }

pub returns : goal.returns
returns c =
    let self = c.args.self.now in
    let begun = seen self _ c.in-Some.start (remaining self) c.in-Some.is c.in_ok-start.ensures in
    let tells = c.in_ok-item.ensures in
    record {
      item = item_given self c.in-Some.start (remaining self) begun _ _ tells.0;
      rest = item_left self c.in-Some.start (remaining self) begun c.in_ok-item.behind _ _ tells.0 tells.1 c.ahead_of-self.ensures;
    }
