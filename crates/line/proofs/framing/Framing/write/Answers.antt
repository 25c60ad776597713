use Rattle.std.proofs.Common.{◌≡◌, ◌∙◌, Err, rules, ℕ, Result}
use Rattle.std.proofs.lemmas.List.{take-append-drop}
use Rattle.line.specs.declared.refusal.WriteRefusal.{WriteRefusal}
use Rattle.line.specs.Calls.{said}
use Rattle.line.proofs.Chunks.{unwritten, written_chunk}
use Rattle.line.proofs.framing.Framing.write.Goals as goal

pub returns-in_err-new-clause-answer : goal.returns-in_err-new-clause-answer
returns-in_err-new-clause-answer g c =
    let chunk = c.in-Some.ensures.cases in
    let e = unwritten (g.Self.Framing.rule c.args.self.now) c.args.mark (said c.args.message) c.args.frame.now chunk.enough c.in_err-new.field-0.0 c.in_err-new.ensures in
    let same : ◌≡◌ {A = Result ℕ WriteRefusal} c.from_residual.result (Err c.in_err-new.field-0.0) = search rules in
    same ∙ e.0

pub returns-in_err-new-clause-after : goal.returns-in_err-new-clause-after
returns-in_err-new-clause-after g c =
    let chunk = c.in-Some.ensures.cases in
    let e = unwritten (g.Self.Framing.rule c.args.self.now) c.args.mark (said c.args.message) c.args.frame.now chunk.enough c.in_err-new.field-0.0 c.in_err-new.ensures in
    rw chunk.same (take-append-drop 138 c.args.frame.now ∙ e.1)

pub returns-clause-answer : goal.returns-clause-answer
returns-clause-answer g c =
    let chunk = c.in-Some.ensures.cases in
    let e = written_chunk (g.Self.Framing.rule c.args.self.now) c.args.mark (said c.args.message) c.args.frame.now chunk.enough (g.met.Self.Framing.lawful c.args.self.now) (said c.in_ok-new.field-0.message) c.in_ok-new.ensures in
    rw c.encode_into.ensures.answer e.0

pub returns-clause-after : goal.returns-clause-after
returns-clause-after g c =
    let chunk = c.in-Some.ensures.cases in
    let e = written_chunk (g.Self.Framing.rule c.args.self.now) c.args.mark (said c.args.message) c.args.frame.now chunk.enough (g.met.Self.Framing.lawful c.args.self.now) (said c.in_ok-new.field-0.message) c.in_ok-new.ensures in
    rw (c.encode_into.ensures.after, chunk.same) e.1
