use Rattle.promises.proofs.Framings.{typed_bytes}
use Rattle.promises.proofs.calls_stand.Goals as goal

pub returns : goal.returns
returns g c = (c.framing_stands.ensures, typed_bytes c.args.frame.now c.type_inv.frame)
