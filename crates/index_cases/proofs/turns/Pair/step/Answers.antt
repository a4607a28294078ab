-- A step of the scan leaves the task what it was, and one of the task the scan.
use Rattle.std.proofs.Common.{◌∙◌, sym, subst}
use Rattle.gin_scan.specs.Scanning.{IsAtEnd}
use Rattle.gin_scan.specs.declared.scan_core.ScanCore.{ScanCore}
use Rattle.index_cases.proofs.TurnSteps.{task_waits}
use Rattle.index_cases.proofs.turns.Pair.step.Goals as goal

pub returns-clause-scans : goal.returns-clause-scans
returns-clause-scans g c =
    let e = c.step-2.ensures in
    let was = c.requires.scans.idle in
    record {
      scanning = c.in_ok-more.ensures.scanning;
      query = c.in_ok-more.ensures.query;
      walk = c.in_ok-more.ensures.walk;
      idle = (e.reads.keeps.xid ∙ was.0, e.reads.keeps.work ∙ was.1);
      room = e.reads.keeps.room ∙ c.requires.scans.room;
    }

pub returns-clause-keeps : goal.returns-clause-keeps
returns-clause-keeps g c =
    task_waits g.D.Disk c.args.frames.now c.step-2.new.frames c.args.pass.now c.step-2.new.pass c.args.other.now
    c.args.self.now.upkeep c.step-2.ensures.reads c.requires.keeps

pub returns-clause-end : goal.returns-clause-end
returns-clause-end g c = λ e.
    subst (λ (s : ScanCore). IsAtEnd s) (sym (c.in_ok-more.ensures.stays e)) (c.in_ok-more.ensures.end.0 e)

pub returns-then-is_beside-clause-scans : goal.returns-then-is_beside-clause-scans
returns-then-is_beside-clause-scans g c =
    c.in_ok-step.ensures.scans c.args.pass.now c.args.self.now.scan c.requires.scans
