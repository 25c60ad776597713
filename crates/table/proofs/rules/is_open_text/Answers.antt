use Rattle.table.proofs.Texts.{is_open}
use Rattle.table.proofs.rules.is_open_text.Goals as goal

pub returns-then-bytes-le-MAX_LEN : goal.returns-then-bytes-le-MAX_LEN
returns-then-bytes-le-MAX_LEN c = is_open c.args.bytes.now _ c.contains.ensures.cases c.if-bytes-le-MAX_LEN.true
