-- A step of the machine at work leaves it at work, and scans go on.
use Rattle.std.proofs.Common.{subst}
use Rattle.index_cases.specs.Turns.{IsAt}
use Rattle.index_cases.specs.declared.upkeep.Stage.{Stage}
use Rattle.index_cases.proofs.TurnSteps.{on_ok, cleans_may, vacuums_may, cleans_scan, vacuums_scan}
use Rattle.index_cases.proofs.upkeep.Upkeep.work.Goals as goal

pub returns-in-Cleaning-clause-keeps : goal.returns-in-Cleaning-clause-keeps
returns-in-Cleaning-clause-keeps g c =
    let was = c.requires.keeps in
    let at = subst (λ (s : Stage). IsAt g.D.Disk c.args.frames.now c.args.pass.now c.args.self.now.dead s)
    c.in-Cleaning.is was.at in
    let h = c.step.ensures at.0 at.1 in
    on_ok c.step.result _ (record {
      silent = was.silent;
      may = cleans_may g.D.Disk c.args.frames.now c.step.new.frames c.args.pass.now c.step.new.pass was.may
          h.none_held h.works.0 h.works.2;
      at = (at.0, h.cleaning);
    })

pub returns-in-Cleaning-clause-scans : goal.returns-in-Cleaning-clause-scans
returns-in-Cleaning-clause-scans g c =
    let at = subst (λ (s : Stage). IsAt g.D.Disk c.args.frames.now c.args.pass.now c.args.self.now.dead s)
    c.in-Cleaning.is c.requires.keeps.at in
    let h = c.step.ensures at.0 at.1 in
    on_ok c.step.result _ (cleans_scan g.D.Disk c.scans_go_on.ensures c.args.frames.now c.step.new.frames
    c.args.pass.now c.step.new.pass h.works.0 h.works.2)

pub returns-in-Sweeping-clause-scans : goal.returns-in-Sweeping-clause-scans
returns-in-Sweeping-clause-scans g c =
    let h = c.step-in-Sweeping.ensures.swept in
    on_ok c.step-in-Sweeping.result _ (vacuums_scan g.D.Disk c.scans_go_on.ensures c.args.frames.now
    c.step-in-Sweeping.new.frames c.args.pass.now c.step-in-Sweeping.new.pass h.works.0 h.works.3)

pub returns-in-Freeing-clause-keeps : goal.returns-in-Freeing-clause-keeps
returns-in-Freeing-clause-keeps g c =
    let was = c.requires.keeps in
    let at = subst (λ (s : Stage). IsAt g.D.Disk c.args.frames.now c.args.pass.now c.args.self.now.dead s)
    c.in-Freeing.is was.at in
    let h = c.step-in-Freeing.ensures at.0 at.1 in
    on_ok c.step-in-Freeing.result _ (record {
      silent = was.silent;
      may = vacuums_may g.D.Disk c.args.frames.now c.step-in-Freeing.new.frames c.args.pass.now
          c.step-in-Freeing.new.pass was.may h.none_held h.works.0 h.works.3;
      at = (at.0, h.freeing);
    })

pub returns-in-Freeing-clause-scans : goal.returns-in-Freeing-clause-scans
returns-in-Freeing-clause-scans g c =
    let at = subst (λ (s : Stage). IsAt g.D.Disk c.args.frames.now c.args.pass.now c.args.self.now.dead s)
    c.in-Freeing.is c.requires.keeps.at in
    let h = c.step-in-Freeing.ensures at.0 at.1 in
    on_ok c.step-in-Freeing.result _ (vacuums_scan g.D.Disk c.scans_go_on.ensures c.args.frames.now
    c.step-in-Freeing.new.frames c.args.pass.now c.step-in-Freeing.new.pass h.works.0 h.works.3)
