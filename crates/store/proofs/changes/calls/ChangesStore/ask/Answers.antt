use Rattle.std.proofs.Common.{rules}
use Rattle.store.specs.ChangesHeld.{list_of}
use Rattle.store.proofs.Replays.{asked_counts}
use Rattle.store.proofs.changes.calls.ChangesStore.ask.Goals as goal

pub returns-clause-newest : goal.returns-clause-newest
returns-clause-newest c = asked_counts c.args.row (list_of c.args.self.now) _ c.args.buffer.now c.write_value.new.buffer c.write_value.result (search rules) (search rules) c.write_value.ensures.answer c.write_value.ensures.after
