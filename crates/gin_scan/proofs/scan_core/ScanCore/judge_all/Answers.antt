-- All items that were met are judged.
use Rattle.std.proofs.Common.{length, refl, subst, ◌∙◌, inl, arith}
use Rattle.std.proofs.lemmas.Result.{err_from_is_err_and}
use Rattle.buffer_frames.specs.declared.frame_error.FrameError.TheVariants.{OutOfMemory}
use Rattle.gin_opclass.specs.Class.{meaning}
use Rattle.gin_scan.specs.Reaching.{IsReached}
use Rattle.gin_scan.specs.declared.scan_core.ScanCore.{ScanCore}
use Rattle.gin_scan.specs.declared.stage.Stage.TheVariants as stage
use Rattle.gin_scan.specs.Ways.{IsGoingDown}
use Rattle.gin_scan.proofs.ListSteps.{keys_asked}
use Rattle.gin_scan.proofs.JudgedList.{JudgesAll}
use Rattle.gin_scan.proofs.ReadCalls.{still_reads, still_calm}
use Rattle.gin_scan.proofs.ListCauses.{step_cause}
use Rattle.gin_scan.proofs.StepsOf.{goes, lacks}
use Rattle.gin_scan.specs.Scanning.{sought_in}
use Rattle.gin_scan.proofs.StepsTaken.{scan_as, stepped_by}
use Rattle.gin_scan.proofs.Counted.{counts_by}
use Rattle.gin_scan.proofs.TreeCalls.{all_left}
use Rattle.gin_scan.proofs.TreeCounted.{judged_counted}
use Rattle.gin_scan.proofs.TreeReached.{judged_reached}
use Rattle.gin_scan.proofs.TreeSteps.{judge_step, judged_lower}
use Rattle.gin_scan.proofs.scan_core.ScanCore.judge_all.Goals as goal

pub judge_met-requires : goal.judge_met-requires
judge_met-requires g c =
    let s = c.args.self.now in
    let is = c.requires.may.scanning.is_scan in
    let keys = keys_asked _ c.args.query.now s c.requires.may.asks in record {
      serves = c.requires.serves;
      pending = (c.put_in_order.ensures.lists ∙ is.pending ∙ keys, c.put_in_order.ensures.in_order);
      main = (c.put_in_order-2.ensures.lists ∙ is.main ∙ keys, c.put_in_order-2.ensures.in_order);
      any = c.put_in_order.ensures.any refl;
    }

pub returns-in_err-judge_met : goal.returns-in_err-judge_met
returns-in_err-judge_met g c =
    let p = err_from_is_err_and c.from_residual.result c.from_residual.ensures.1 in
    let is = c.requires.may.scanning in
    let f = c.args.frames.now in
    let s = c.args.self.now in
    let at = c.requires.stage in
    let new : ScanCore = record s {
      pending = c.put_in_order.new.self;
      main = c.put_in_order-2.new.self;
      kept = c.judge_met.new.kept;
    } in record {
      serves = c.judge_met.ensures.serves;
      is_step = lacks g.D.Disk _ c.args.query.now f c.args.pass.now s f c.args.pass.now new c.from_residual.result
          p.0 p.1
          p.2 refl (still_reads g.D.Disk f c.args.pass.now is.is_pass is.held) (still_calm g.D.Disk f.journal)
          (step_cause f s (stage.Down (length (sought_in s)) at.0 at.1) OutOfMemory at.2 (inl refl));
    }

pub returns : goal.returns
returns g c =
    let f = c.args.frames.now in
    let s = c.args.self.now in
    let may = c.requires.may in
    let is = may.scanning.is_scan in
    let at = c.requires.stage in
    let new : ScanCore = record s {
      pending = c.put_in_order.new.self;
      main = c.put_in_order-2.new.self;
      kept = c.judge_met.new.kept;
      stage = stage.Heads 0;
    } in
    let judges : JudgesAll (meaning g.W.Meaning.asked g.W.Meaning.all g.W.Meaning.satisfies g.W.Meaning.judged)
    c.args.query.now s new = record {
      pending_order = c.put_in_order.ensures.in_order;
      pending_same = c.put_in_order.ensures.same;
      pending_count = c.put_in_order.ensures.lists;
      main_order = c.put_in_order-2.ensures.in_order;
      main_same = c.put_in_order-2.ensures.same;
      main_count = c.put_in_order-2.ensures.lists;
      judged = c.in_ok-judge_met.ensures.judged;
      rest = refl;
    } in
    let left_is = all_left s at.0 at.1 at.2 is.within in
    let reads = still_reads g.D.Disk f c.args.pass.now may.scanning.is_pass may.scanning.held in record {
      serves = c.judge_met.ensures.serves;
      is_step = goes g.D.Disk _ c.args.query.now f c.args.pass.now s f c.args.pass.now new _ refl
          (stepped_by g.D.Disk _ c.args.query.now f f c.args.pass.now c.args.pass.now s new may
          reads
          (scan_as s new is refl refl c.put_in_order.ensures.lists c.put_in_order-2.ensures.lists (omega arith)) refl
          refl
          (judged_lower s new at.0 at.1 at.2 refl
          (omega (arith, c.judge_met.new.kept.ok.0, c.judge_met.new.kept.ok.1, c.judge_met.new.kept.small)))
          (λ R pin known pinned o. judge_step g.D.Disk _ c.args.query.now f s new is may.asks R pin known o
          g.met.J.Judge.sound at.0 at.1 at.2 judges)
          (λ r. judged_reached _ g.met.J.Judge.sound c.args.query.now f s new at.1
          (IsGoingDown at.0) may.asks
          (subst (IsReached (meaning g.W.Meaning.asked g.W.Meaning.all g.W.Meaning.satisfies g.W.Meaning.judged)
          c.args.query.now f s) at.2 r) judges)
          (counts_by s new c.args.pass.now.holds c.args.pass.now.holds (λ before had. had)
          (judged_counted s new at.0 at.1 c.args.pass.now.holds at.2 left_is refl refl))) reads
          (still_calm g.D.Disk f.journal);
    }
