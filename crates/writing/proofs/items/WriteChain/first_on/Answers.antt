use Rattle.std.proofs.Common.{◌≡◌, ap, ◌∙◌, rules}
use Rattle.std.proofs.lemmas.Iterator.Search.{find_from_yields_List}
use Rattle.std.proofs.lemmas.Iterator.Consumers.{YieldsList-from_first}
use Rattle.std.specs.Option.{option_map}
use borrow.Author.Tests.{tests}
use Rattle.table.specs.Held.{rows_of}
use Rattle.chain.specs.Items.{place_of, plain_item}
use Rattle.writing.specs.Items.{items_left, items_of}
use Rattle.writing.proofs.Firsts.{first_found, on_feed}
use Rattle.writing.proofs.items.WriteChain.first_on.Goals as goal

pub returns : goal.returns
returns c =
    let rows = rows_of c.args.self.now.table.now in
    let all = items_of c.args.self.now in
    let e = YieldsList-from_first plain_item items_left all c.items.ensures in
    let found = find_from_yields_List (on_feed rows c.args.feed) c.find.new.self _ c.find.result c.find.ensures.ran e (λ x b q k. search (rules, tests)) in
    let told : c.map.result ≡ option_map place_of (option_map plain_item c.find.result) = search (rules, tests) in
    told ∙ ap (option_map place_of) found ∙ first_found rows c.args.feed all
