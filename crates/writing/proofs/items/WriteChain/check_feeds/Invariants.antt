use Rattle.std.proofs.Common.{◌≡◌, ◌-◌, drop}
use Rattle.promises.specs.Replies.{feeds, first_refusal, overdrawn}
use Rattle.promises.specs.Stored.{values_in}
use Rattle.writing.specs.Items.{items_of}
use Rattle.writing.specs.Setups.{setup_of}
use Rattle.writing.specs.Numbers.{over_at}
use Rattle.writing.proofs.items.WriteChain.check_feeds.Given as goal

-- the feeds that are still to be checked refuse what all of them do
abbrev pub invariant-loop-feed : goal.invariant-loop-feed
invariant-loop-feed g l =
    let s = setup_of l.self.table.now in
    first_refusal (over_at s l.numbers (items_of l.self)) (drop (l.feed - 1) feeds) ≡ overdrawn s (values_in (g.S.Store.held l.store)) (items_of l.self)
