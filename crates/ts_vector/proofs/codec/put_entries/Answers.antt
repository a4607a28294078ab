use Rattle.std.proofs.Common.{arith}
use Rattle.ts_vector.proofs.Counts.{length-le-content}
use Rattle.ts_vector.proofs.codec.put_entries.Goals as goal

pub overflow_cast-len : goal.overflow_cast-len
overflow_cast-len c =
    omega (arith, c.len.ensures, length-le-content c.args.entries.now c.requires.normal.entries, c.requires.limit)
