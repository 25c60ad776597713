use Rattle.table.proofs.Facts.{table_ruled}
use Rattle.promises.specs.Stored.{values_in}
use Rattle.promises.proofs.Running.{promises}
use Rattle.rack.specs.Racks.{frame_asks, setup_of}
use Rattle.rack.specs.Replies.{frame_of, marked_msg, marked_reply}
use Rattle.rack.proofs.Called.{called}
use Rattle.rack.proofs.Framed.{told_framable}
use Rattle.rack.proofs.rack.Rack.answer.Goals as goal

pub returns-then-buffer-lt-MAX_FRAME-clause-promises : goal.returns-then-buffer-lt-MAX_FRAME-clause-promises
returns-then-buffer-lt-MAX_FRAME-clause-promises g c = let self = c.args.self.now in promises (setup_of self) (table_ruled self.table)

pub send-len-requires-clause-framable : goal.send-len-requires-clause-framable
send-len-requires-clause-framable g c =
    let self = c.args.self.now in
    let s = setup_of self in
    let served = c.serve_frame-served in
    told_framable s (values_in (g.S.Store.held self.store)) (frame_asks (g.F.Framing.rule c.args.framing.now) s c.args.frame.now) (marked_reply served.result) served.ensures.served.told

pub returns-clause-answered : goal.returns-clause-answered
returns-clause-answered g c =
    let self = c.args.self.now in
    let R = g.F.Framing.rule c.args.framing.now in
    let served = c.serve_frame-served in
    let a = served.result.answer in
    called R (setup_of self) c.args.frame.now c.args.buffer.now (g.S.Store.held self.store) (table_ruled self.table) (g.met.S.Store.sound self.store).rows c.if-buffer-lt-MAX_FRAME.false
    (marked_msg a) served.result.fault (g.S.Store.held served.new.self.store) served.ensures.served.told served.ensures.served.kept
    (frame_of R a) c.send-len.result c.send-len.new.buffer served.ensures.framed c.send-len.ensures.len c.send-len.ensures.after

pub returns-clause-promises : goal.returns-clause-promises
returns-clause-promises g c = let self = c.args.self.now in promises (setup_of self) (table_ruled self.table)
