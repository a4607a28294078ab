use Rattle.std.proofs.Common.{◌<◌, length, drop, length-drop, arith, inr}
use Rattle.wal.proofs.log.Wal.flush.Goals as goal

pub returns-clause-any_moment : goal.returns-clause-any_moment
returns-clause-any_moment g c = λ told batches settled.
    let some : 0 < length (drop 4 c.args.self.now.buffer.items) =
    omega (arith, length-drop 4 c.args.self.now.buffer.items, c.args.self.now.length_room) in
    inr (some, c.flush_waiting.ensures.any_moment told batches settled)
