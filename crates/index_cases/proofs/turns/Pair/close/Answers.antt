-- The end of the scan leaves the task what it was.
use Rattle.std.proofs.Common.{◌∙◌}
use Rattle.index_cases.proofs.TurnSteps.{task_waits_end}
use Rattle.index_cases.proofs.turns.Pair.close.Goals as goal

pub returns-clause-other : goal.returns-clause-other
returns-clause-other g c =
    (task_waits_end g.D.Disk c.args.self.scan.core c.args.frames.now c.finish.new.frames c.args.pass.now
    c.finish.new.pass c.args.other.now c.args.self.upkeep c.finish.ensures.ends
    c.requires.scans.scanning.is_pass c.requires.keeps).may

pub returns-clause-room : goal.returns-clause-room
returns-clause-room g c = c.finish.ensures.ends.keeps.room ∙ c.requires.scans.room
