use Rattle.std.proofs.Common.{ap, ◌∙◌, arith}
use Rattle.table.proofs.Facts.{table_ruled}
use Rattle.chain.specs.Reader.{checked}
use Rattle.promises.specs.Stored.{values_in}
use Rattle.writing.specs.Items.{items_of}
use Rattle.writing.specs.Setups.{setup_of}
use Rattle.writing.specs.Numbers.{over_at}
use Rattle.writing.proofs.Limits.{same_refusal, feed_refuses, feed_passes, feeds_pass}
use Rattle.writing.proofs.Whole.{handed_on}
use Rattle.writing.proofs.items.WriteChain.check_feeds.Goals as goal

pub loop-feed-init : goal.loop-feed-init
loop-feed-init g c =
    let table = c.args.self.now.table.now in
    same_refusal (setup_of table) (values_in (g.S.Store.held c.args.store.now)) (items_of c.args.self.now) c.held_numbers-numbers.result c.lay_over.new.numbers
    (omega (arith, (table_ruled table).few, c.lay_over.array_long)) c.lay_over.ensures c.held_numbers-numbers.ensures

pub returns-in_err-check_feed : goal.returns-in_err-check_feed
returns-in_err-check_feed g c =
    let check = over_at (setup_of c.args.self.now.table.now) c.lay_over.new.numbers (items_of c.args.self.now) in
    handed_on c.from_residual.result c.in_err-check_feed.field-0.0 c.from_residual.ensures.1
    ∙ feed_refuses check c.loop-feed.feed (omega arith) (omega arith) c.in_err-check_feed.field-0.0 c.in_err-check_feed.ensures
    ∙ ap checked c.loop-feed.invariant

pub loop-feed-preserved : goal.loop-feed-preserved
loop-feed-preserved g c =
    let check = over_at (setup_of c.args.self.now.table.now) c.lay_over.new.numbers (items_of c.args.self.now) in
    feed_passes check c.loop-feed.feed (omega arith) (omega arith) c.in_ok-check_feed.ensures ∙ c.loop-feed.invariant

pub returns : goal.returns
returns g c =
    let check = over_at (setup_of c.args.self.now.table.now) c.lay_over.new.numbers (items_of c.args.self.now) in
    feeds_pass check c.loop-feed.feed (omega arith) ∙ ap checked c.loop-feed.invariant
