use Rattle.std.proofs.Common.{List, None, sym, refl, ap, ◌∙◌, subst}
use Rattle.chain.specs.declared.access.Command.TheVariants.{Write, WriteUnanswered}
use Rattle.chain.specs.Items.{PlainItem}
use Rattle.promises.specs.Replies.{Reply}
use Rattle.promises.specs.Requests.{Request}
use Rattle.promises.specs.Stored.{kept_in_store, values_in}
use Rattle.rack.specs.Racks.{Serves, setup_of}
use Rattle.rack.specs.Replies.{reply_of, reply_with}
use Rattle.rack.proofs.Served.{commanded, no_command}
use Rattle.rack.proofs.rack.Rack.serve.Goals as goal

pub returns-in-Ok-Write : goal.returns-in-Ok-Write
returns-in-Ok-Write g c =
    let self = c.args.self.now in
    let m = c.args.message in
    subst (λ (r : Request). Serves g.S.Store.held self r (reply_of c.serve_write.result) c.serve_write.new.self)
    (sym (commanded (setup_of self) m.node Write m.bytes.now (rw c.in-Ok-Write.field-0-is at c.in-Ok-Write.ensures.command)))
    c.serve_write.ensures

pub returns-in-Ok-WriteUnanswered : goal.returns-in-Ok-WriteUnanswered
returns-in-Ok-WriteUnanswered g c =
    let self = c.args.self.now in
    let m = c.args.message in
    let done = c.serve_write-in-Ok-WriteUnanswered in
    subst (λ (r : Request). Serves g.S.Store.held self r (reply_of c.unanswered.result) done.new.self)
    (sym (commanded (setup_of self) m.node WriteUnanswered m.bytes.now (rw c.in-Ok-WriteUnanswered.field-0-is at c.in-Ok-WriteUnanswered.ensures.command)))
    (record {
      told = c.unanswered.ensures ∙ ap (λ (r : Reply). reply_with None r.fault) done.ensures.told;
      kept = done.ensures.kept;
      same_node = done.ensures.same_node;
      same_table = done.ensures.same_table;
    })

pub returns-in-Err : goal.returns-in-Err
returns-in-Err g c =
    let self = c.args.self.now in
    let held = g.S.Store.held self.store in
    let m = c.args.message in
    let r = no_command (setup_of self) m.node (values_in held) c.in-Err.fault m.bytes.now c.in-Err.ensures.command in
    record { told = c.no_command.ensures ∙ r.told; kept = ap (λ (items : List PlainItem). kept_in_store items held) r.kept; same_node = refl; same_table = refl }
