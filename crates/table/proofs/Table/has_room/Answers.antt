use Rattle.table.specs.Rows.{plain}
use Rattle.table.specs.Held.{rows_of, limits_of}
use Rattle.table.proofs.Adding.{room_is}
use Rattle.table.proofs.Table.has_room.Goals as goal

pub returns-else-feed-eq0 : goal.returns-else-feed-eq0
returns-else-feed-eq0 c = let e = room_is (rows_of c.args.self.now) (limits_of c.args.self.now) (plain c.args.row.now) c.if-feed-eq0.false in cc
