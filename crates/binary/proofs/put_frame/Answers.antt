use Rattle.std.proofs.Common.{arith}
use Rattle.binary.proofs.Laying.{frame_laid, frame_end}
use Rattle.binary.proofs.put_frame.Goals as goal

pub returns : goal.returns
returns c =
    let s = c.put_doubled-start in
    let e = c.put_doubled-end in
    record {
      end = frame_end c.args.head c.args.rest.now s.result e.result s.ensures.end e.ensures.end;
      laid =
          frame_laid c.args.frame.now s.new.frame e.new.frame c.args.head c.args.rest.now
          s.result e.result (omega arith) c.requires.0 c.requires.1 s.ensures.laid s.ensures.end e.ensures.laid e.ensures.end;
    }
