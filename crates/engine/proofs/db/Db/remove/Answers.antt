-- The document of a name is marked, where one is given.
use Rattle.engine.proofs.Doing.{marked, unmarked, none_done}
use Rattle.engine.proofs.LawfulWork.{mark_tells}
use Rattle.engine.proofs.db.Db.remove.Goals as goal

pub returns-in-Some-clause-done : goal.returns-in-Some-clause-done
returns-in-Some-clause-done g c =
    marked g.D.Disk c.args.self.now c.mark.new.self c.mark.new.pass c.args.work c.args.deletes c.in-Some.name
    c.mark.result c.in-Some.is c.mark.ensures.marked c.mark.ensures.goes c.mark.ensures.there

pub returns-in-Some-clause-cause : goal.returns-in-Some-clause-cause
returns-in-Some-clause-cause g c =
    unmarked g.D.Disk c.args.self.now c.mark.new.self c.mark.new.pass c.args.work c.args.deletes c.in-Some.name
    c.mark.result c.in-Some.is c.mark.ensures.cause

pub returns-in-Some-clause-lawful : goal.returns-in-Some-clause-lawful
returns-in-Some-clause-lawful g c =
    mark_tells g.D.Disk c.args.self.now c.args.work c.args.deletes c.in-Some.name c.in-Some.is c.mark.result
    c.mark.ensures.lawful

pub returns-in-None-clause-done : goal.returns-in-None-clause-done
returns-in-None-clause-done g c =
    none_done g.D.Disk c.args.self.now c.args.self.now c.args.pass.now c.args.work c.args.deletes c.in-None.is
    c.requires.changed
