use Rattle.std.specs.Iterator.{YieldsFirstBy}
use Rattle.chain.specs.Items.{plain_item}
use Rattle.chain.specs.Reader.{remaining}
use Rattle.writing.specs.Items.{items_left}
use Rattle.writing.proofs.Giving.{first_given, fewer_left}
use Rattle.writing.proofs.items.ItemsIterator.next.Goals as goal
use Rattle.writing.proofs.items.ItemsIterator.next.Goals.{After-flatten}

gives_first : (c : After-flatten) → YieldsFirstBy plain_item items_left c.args.self.now c.flatten.result (record { chain = c.next.new.self })
gives_first c =
    rw (c.flatten.ensures, c.ok.ensures.value) (first_given (remaining c.args.self.now.chain) (remaining c.next.new.self) c.next.result c.next.ensures.item c.next.ensures.rest)

pub returns-clause-steps : goal.returns-clause-steps
returns-clause-steps c = gives_first c

pub returns-clause-goes : goal.returns-clause-goes
returns-clause-goes c = fewer_left c.args.self.now _ c.flatten.result (gives_first c)
