use Rattle.line.proofs.Chunks.{in_chunk}
use Rattle.line.proofs.framing.Framing.read.Goals as goal

pub returns-in_err-decode-clause-after : goal.returns-in_err-decode-clause-after
returns-in_err-decode-clause-after g c =
    let chunk = c.in-Some.ensures.cases in
    let e = in_chunk (g.Self.Framing.rule c.args.self.now) (g.met.Self.Framing.lawful c.args.self.now) c.args.frame.now c.args.buffer.now chunk.enough in
    rw (c.decode.ensures.after, chunk.same) e

pub returns-clause-after : goal.returns-clause-after
returns-clause-after g c =
    let chunk = c.in-Some.ensures.cases in
    let e = in_chunk (g.Self.Framing.rule c.args.self.now) (g.met.Self.Framing.lawful c.args.self.now) c.args.frame.now c.args.buffer.now chunk.enough in
    rw (c.decode.ensures.after, chunk.same) e
