use Rattle.table.specs.Held.{rows_of}
use Rattle.promises.specs.Stored.{values_in}
use Rattle.rack.proofs.Indexes.{small_read}
use Rattle.rack.proofs.rack.Rack.serve_read.Goals as goal

pub refused-requires : goal.refused-requires
refused-requires g c =
    let self = c.args.self.now in
    let m = c.args.message in
    small_read (rows_of self.table) (values_in (g.S.Store.held self.store)) m.bytes.now m.short c.in-Err.fault c.in-Err.ensures
