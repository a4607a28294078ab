use Rattle.std.proofs.Common.{take}
use Rattle.gin_vacuum.specs.Inner.Unlinked.{HaveMet}
use Rattle.gin_vacuum.proofs.unlinked.note_rows.Given as goal

abbrev pub invariant-loop-k : goal.invariant-loop-k
invariant-loop-k l = HaveMet (take l.k l.rows) l.dead l.initial.met.items l.met.items
