use Rattle.promises.proofs.Framings.{lawful_wire}
use Rattle.promises.proofs.framing_stands.Goals as goal

pub returns : goal.returns
returns g c = lawful_wire (g.F.Framing.rule c.args.f.now) (g.met.F.Framing.lawful c.args.f.now)
