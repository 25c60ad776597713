use Rattle.std.proofs.Common.{rules}
use Rattle.std.proofs.lemmas.List.{take_all}
use Rattle.std.proofs.lemmas.Iterator.Search.{find_from_yields_List}
use Rattle.std.proofs.lemmas.Iterator.Adapters.{YieldsList-from_rev_slice}
use borrow.Author.Tests.{tests}
use Rattle.store.proofs.Latest.{for_row, latest_found}
use Rattle.store.proofs.changes.list.latest.Goals as goal

pub returns : goal.returns
returns c =
    let row = c.args.row in
    let xs = c.args.changes.now in
    latest_found row xs c.find-newest.result c.empty.result c.map_or.result c.requires
    (find_from_yields_List (for_row row) _ _ _ c.find-newest.ensures.ran (YieldsList-from_rev_slice xs (search (rules, take_all))) (λ x b q k. search (rules, tests)))
    (search rules) c.empty.ensures
