use Rattle.std.proofs.Common.{List, take}
use Rattle.ts_base.specs.Inner.Leads.{Leads}
use Rattle.ts_vector.specs.Text.{Written, IsVectorText}
use Rattle.ts_base.specs.Inner.Machine.{RestAt}
use Rattle.ts_vector.specs.Inner.Shape.{shape, VectorRest}
use Rattle.ts_vector.proofs.reader.read.Given as goal

abbrev pub invariant-loop-i : goal.invariant-loop-i
invariant-loop-i l =
    Leads (List Written) IsVectorText (take l.i l.text) (RestAt (List Written) (VectorRest (shape l.reader)) l.i)
