use Rattle.std.proofs.Common.{refl, arith}
use Rattle.gin_vacuum.specs.Inner.Unlinked.{HasNoted}
use Rattle.gin_vacuum.proofs.unlinked.Walk.note.Goals as goal

pub returns : goal.returns
returns c =
    HasNoted.rows c.in-Pending.rows c.in-Pending.is c.in_ok-note_rows.ensures refl (omega (arith, c.requires))

pub returns-in_default : goal.returns-in_default
returns-in_default c = HasNoted.none (λ rows is. c.in_default.not-Pending rows is)
