use Rattle.std.proofs.Common.{length, Some, None, refl, ap, ◌∙◌}
use Rattle.line.specs.Messages.{Msg}
use Rattle.table.specs.Held.{rows_of}
use Rattle.promises.specs.Stored.{values_in}
use Rattle.rack.specs.Racks.{setup_of}
use Rattle.rack.specs.Replies.{reply_with}
use Rattle.rack.proofs.Indexes.{small_write}
use Rattle.rack.proofs.Served.{write_done, write_refused}
use Rattle.rack.proofs.rack.Rack.serve_write.Goals as goal

pub refused-requires : goal.refused-requires
refused-requires g c =
    let self = c.args.self.now in
    let m = c.args.message in
    small_write (setup_of self) (values_in (g.S.Store.held self.store)) (rows_of self.table) m.bytes.now m.short c.in-Err.fault c.in-Err.ensures.answer

pub returns-in-Ok : goal.returns-in-Ok
returns-in-Ok g c =
    let m = c.args.message in
    record {
      told = c.answered.ensures ∙ ap (λ (z : Msg). reply_with (Some z) None) c.status.ensures ∙ write_done m.node (length m.bytes.now) _ _ c.in-Ok.ensures.answer;
      kept = c.write.ensures.after;
      same_node = refl;
      same_table = refl;
    }

pub returns-in-Err : goal.returns-in-Err
returns-in-Err g c =
    let m = c.args.message in
    record { told = c.refused.ensures ∙ write_refused m.node (length m.bytes.now) _ _ c.in-Err.ensures.answer; kept = c.write.ensures.after; same_node = refl; same_table = refl }
