use Rattle.ts_vector.proofs.Told.{checked_are, checked_encodes}
use Rattle.ts_vector.proofs.encoded.VectorBytes.new.Goals as goal

pub invariant_of-result : goal.invariant_of-result
invariant_of-result c = checked_are c.args.bytes.now c.in-Ok.count c.in-Ok.entries.now c.in-Ok.ensures.ok

pub returns-in-Ok-clause-value : goal.returns-in-Ok-clause-value
returns-in-Ok-clause-value c = checked_encodes c.args.bytes.now c.in-Ok.count c.in-Ok.entries.now c.in-Ok.ensures.ok
