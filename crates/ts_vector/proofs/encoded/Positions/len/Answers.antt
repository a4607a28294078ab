use Rattle.std.proofs.Common.{arith, ap, length}
use Rattle.ts_vector.proofs.Told.{places_count}
use Rattle.ts_vector.proofs.encoded.Positions.len.Goals as goal

pub returns : goal.returns
returns c = omega (arith, places_count c.self.inside.rest.now c.self.invariant, ap length c.self.view_is)
