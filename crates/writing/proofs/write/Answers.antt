use Rattle.std.proofs.Common.{true}
use Rattle.table.specs.Held.{rows_of}
use Rattle.chain.specs.declared.access.Access.TheVariants.{Write}
use Rattle.chain.specs.Reader.{chain_of}
use Rattle.promises.specs.Replies.{write_refusal}
use Rattle.promises.specs.Stored.{values_in}
use Rattle.writing.specs.Setups.{setup_of}
use Rattle.writing.proofs.Whole.{none_kept, all_kept}
use Rattle.writing.proofs.write.Goals as goal

pub returns-in_err-check-clause-after : goal.returns-in_err-check-clause-after
returns-in_err-check-clause-after g c =
    let held = g.S.Store.held c.args.store.now in
    let w = chain_of (Write true) (rows_of c.args.table.now) c.args.message.now in
    none_kept (write_refusal (setup_of c.args.table.now) (values_in held) w) c.in_err-check.field-0.0 w.items held c.in_err-check.ensures

pub returns-clause-after : goal.returns-clause-after
returns-clause-after g c =
    let held = g.S.Store.held c.args.store.now in
    let w = chain_of (Write true) (rows_of c.args.table.now) c.args.message.now in
    all_kept (write_refusal (setup_of c.args.table.now) (values_in held) w) w.items held (g.S.Store.held c.keep_in.new.store) c.in_ok-check.ensures c.keep_in.ensures
