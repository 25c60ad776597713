use Rattle.std.proofs.Common.{◌∙◌}
use Rattle.promises.specs.Stored.{values_in}
use Rattle.writing.specs.Setups.{setup_of}
use Rattle.writing.proofs.Whole.{handed_on, chain_refuses, feeds_refuse}
use Rattle.writing.proofs.items.WriteChain.check.Goals as goal

pub returns-in_err-check : goal.returns-in_err-check
returns-in_err-check g c =
    handed_on c.from_residual.result c.in_err-check.field-0.0 c.from_residual.ensures.1
    ∙ chain_refuses (setup_of c.args.self.now.table.now) (values_in (g.S.Store.held c.args.store.now)) c.args.self.now.message.now c.is_unlocked.result c.is_unlocked.ensures
    c.in_err-check.field-0.0 c.in_err-check.ensures

pub returns : goal.returns
returns g c =
    c.check_feeds.ensures
    ∙ feeds_refuse (setup_of c.args.self.now.table.now) (values_in (g.S.Store.held c.args.store.now)) c.args.self.now.message.now c.is_unlocked.result c.is_unlocked.ensures c.in_ok-check.ensures
