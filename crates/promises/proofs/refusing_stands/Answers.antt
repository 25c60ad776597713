use Rattle.promises.specs.Wires.{call_over}
use Rattle.promises.proofs.Refusing.{refusing}
use Rattle.promises.proofs.refusing_stands.Goals as goal

pub returns : goal.returns
returns g c = refusing (call_over (g.F.Framing.rule c.args.f.now) c.args.frame.now c.args.buffer.now)
