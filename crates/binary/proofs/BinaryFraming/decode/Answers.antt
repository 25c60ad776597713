use Rattle.binary.proofs.Opening.{decode-long}
use Rattle.binary.proofs.BinaryFraming.decode.Goals as goal

pub returns-then-text-gt-MAX_INNER : goal.returns-then-text-gt-MAX_INNER
returns-then-text-gt-MAX_INNER c =
    let between = rw c.in_ok-text.ensures.ok_part at c.inner_bytes.ensures in
    let long = decode-long c.args.frame.now c.in_ok-text.text.now between c.if-text-gt-MAX_INNER.true in
    record { answer = simp long; after = simp long }
