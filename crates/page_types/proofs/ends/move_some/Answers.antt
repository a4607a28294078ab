use Rattle.std.proofs.Common.{slice_range}
use Rattle.page_types.proofs.Cutting.{each_moves}
use Rattle.page_types.proofs.ends.move_some.Goals as goal

pub move_ends-requires : goal.move_ends-requires
move_ends-requires c = rw c.deref_mut.ensures.value
    (each_moves c.args.from c.args.to (slice_range c.args.ends.now.items c.args.low c.args.high) c.requires.fits)
