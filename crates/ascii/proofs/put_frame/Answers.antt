use Rattle.std.proofs.Common.{◌+◌, length, arith}
use Rattle.ascii.proofs.Digits.{frame_laid, length-framed}
use Rattle.ascii.proofs.put_frame.Goals as goal

pub returns : goal.returns
returns c =
    let s = c.put_hex-start in
    let e = c.put_hex-end in
    record {
      end = let l = length-framed c.args.first c.args.rest.now in omega arith;
      laid =
          frame_laid c.args.frame.now s.new.frame e.new.frame c.args.rest.now (length c.args.rest.now + 1) c.args.first
          s.result e.result (omega arith) c.requires.0 c.requires.1 s.ensures.laid s.ensures.end e.ensures.laid e.ensures.end;
    }
