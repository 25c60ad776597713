use Rattle.table.specs.Held.{rows_of}
use Rattle.chain.specs.Cursors.{rest}
use Rattle.chain.proofs.Steps.{item_seen}
use Rattle.chain.proofs.reader.Chain.start_in.Goals as goal

pub returns : goal.returns
returns c =
    let self = c.args.self.now in
    item_seen self.access (rows_of self.table.now) _ _ c.args.group _ c.args.first (rest c.args.cursor) (rest c.in-Some.behind) c.at.ensures c.in-Some.ensures.0
