use Rattle.std.proofs.Common.{rules}
use Rattle.store.proofs.Replays.{replay_push, replay-with_room}
use Rattle.store.proofs.Pigeonhole.{paced}
use Rattle.store.proofs.changes.calls.ChangesStore.keep.Goals as goal

pub returns-clause-after : goal.returns-clause-after
returns-clause-after c = search (rules, replay_push, replay-with_room)

pub returns-clause-room : goal.returns-clause-room
returns-clause-room c = paced c.args.self.now.entries.items _ _ c.add.ensures
