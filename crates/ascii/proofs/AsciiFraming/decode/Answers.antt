use Rattle.ascii.proofs.Opening.{decode-long}
use Rattle.ascii.proofs.AsciiFraming.decode.Goals as goal

pub returns-then-digits : goal.returns-then-digits
returns-then-digits c =
    let between = rw c.in_ok-digits.ensures.ok_part at c.inner_digits.ensures in
    let long = decode-long c.args.frame.now c.in_ok-digits.digits.now between c.if-digits.true in
    record { answer = simp long; after = simp long }
