-- What has no linked row is taken out where the list could not be cleaned.
use Rattle.engine.proofs.Stopped.{rest_by, told_full}
use Rattle.engine.proofs.vacuuming.take_rest.Goals as goal

pub returns-clause-rest : goal.returns-clause-rest
returns-clause-rest g c =
    rest_by g.D.Disk c.args.frames.now c.take_unlinked-taken.new.frames c.take_unlinked-taken.result
    c.full_or_fault.result c.full_or_fault.ensures.fault.1 c.full_or_fault.ensures.memory.1
    c.take_unlinked-taken.ensures.out c.take_unlinked-taken.ensures.cause

pub returns-clause-fault : goal.returns-clause-fault
returns-clause-fault g c =
    told_full g.D.Disk c.args.frames.now c.take_unlinked-taken.new.frames c.take_unlinked-taken.result
    c.full_or_fault.result c.full_or_fault.ensures.either c.full_or_fault.ensures.fault.1
    c.full_or_fault.ensures.fault.0
    c.take_unlinked-taken.ensures.fine c.take_unlinked-taken.ensures.fault
