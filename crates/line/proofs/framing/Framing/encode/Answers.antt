use Rattle.std.proofs.Common.{◌∙◌, arith}
use Rattle.line.specs.Calls.{said}
use Rattle.line.proofs.Chunks.{framable, encoded}
use Rattle.line.proofs.framing.Framing.encode.Goals as goal

pub returns : goal.returns
returns g c =
    let s = said c.args.message.message in
    let short = (g.met.Self.Framing.lawful c.args.self.now).writes_short c.args.mark s (framable s c.args.message.fits) in
    c.truncate.ensures.items
    ∙ encoded ((g.Self.Framing.rule c.args.self.now).writes c.args.mark s) c.in-Some.bytes.now _ _ c.encode_into-len.new.frame _ c.encode_into-len.result
    c.encode_into-len.ensures.answer (omega (arith, short, c.from_array_in-frame.ensures.len)) c.encode_into-len.ensures.after
