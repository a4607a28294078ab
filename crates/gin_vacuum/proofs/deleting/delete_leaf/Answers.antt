use Rattle.std.proofs.Common.{[], ◌∷◌}
use Rattle.core_vacuum.proofs.FirstLeaves.{leaves_hold}
use Rattle.core_vacuum.proofs.Logging.{delete_post_may}
use Rattle.gin_place.specs.Causes.{Finds}
use Rattle.gin_place.specs.Faults.{MetNoFault, FaultBy}
use Rattle.gin_place.specs.Holding.{ReadsOn}
use Rattle.gin_place.proofs.Carrying.{reads_in_turn, right_on}
use Rattle.gin_place.proofs.Faults.{fine_then, told_then}
use Rattle.gin_place.proofs.Exits.{on_ok, on_err, if_err}
use Rattle.gin_vacuum.specs.Stepping.{IsCause}
use Rattle.gin_vacuum.specs.Inner.Deleting.{around_pages, IsDeleteStep, IsBadAround, LogsDelete}
use Rattle.gin_vacuum.specs.Inner.Logging.{LogsMade, CannotLog}
use Rattle.gin_vacuum.proofs.AroundHeld.{found_on}
use Rattle.gin_vacuum.proofs.DeleteSteps.{may_delete}
use Rattle.gin_vacuum.proofs.Made.{in_ok}
use Rattle.gin_vacuum.proofs.SweepCauses.{log_cause}
use Rattle.gin_vacuum.proofs.deleting.delete_leaf.Goals as goal

pub hold_around-requires : goal.hold_around-requires
hold_around-requires g c = record {
  pass = c.requires.pass;
  right = c.requires.right;
  holding = c.requires.holding;
  found = c.requires.found;
}

pub returns-in-Err : goal.returns-in-Err
returns-in-Err g c =
    let e = c.in-Err.ensures in
    record {
      none_held = e.still;
      logged = tt;
      refused = c.hold_around.ensures.reads;
      cause = e.cause;
      fine = tt;
      fault = e.fault;
    }

pub delete_step-made-requires : goal.delete_step-made-requires
delete_step-made-requires g c =
    let around = c.in-Ok.ensures.around in
    record {
      leaf = around.leaf;
      before = around.before;
      high = c.requires.high;
      fits = c.requires.without.fits;
    }

pub log_around-requires : goal.log_around-requires
log_around-requires g c =
    let f = c.args.frames.now in
    let p = c.args.pass.now in
    let f1 = c.hold_around.new.frames in
    let p1 = c.hold_around.new.pass in
    let e = c.in-Ok.ensures in
    let a = c.in-Ok.around in
    let works = c.hold_around.ensures.reads.works in
    let right = right_on g.D.Disk f f1 p p1 [] c.requires.right works in
    record {
      is_pass = works.is_pass;
      right = right;
      holding = e.holding;
      may = λ step is.
          may_delete g.D.Disk f1 p1 works.is_pass right c.args.empty c.args.parent a e.around e.holding
          c.args.without c.requires.without step
          (in_ok c.delete_step-made.result step (IsDeleteStep c.args.empty a c.args.without) is
          c.delete_step-made.ensures.step)
          (found_on g.D.Disk f f1 p p1 c.requires.right c.requires.pass works (c.args.parent ∷ []) c.requires.holding
          c.args.empty c.requires.found) delete_post_may leaves_hold;
    }

pub returns : goal.returns
returns g c =
    let f = c.args.frames.now in
    let p = c.args.pass.now in
    let f1 = c.hold_around.new.frames in
    let p1 = c.hold_around.new.pass in
    let f2 = c.log_around.new.frames in
    let p2 = c.log_around.new.pass in
    let a = c.in-Ok.around in
    let e = c.log_around.ensures in
    let made = c.delete_step-made.result in
    let fine = c.in-Ok.ensures.fine in
    let bad = IsBadAround g.D.Disk c.args.empty in
    record {
      none_held = e.none_held;
      logged = on_ok c.log_around.result (LogsMade g.D.Disk f1 p1 (around_pages a) made f2 p2)
          (LogsDelete g.D.Disk f p c.args.empty c.args.parent c.args.without f2 p2)
          (λ l. record {
            frames_held = f1;
            pass_held = p1;
            reads = c.hold_around.ensures.reads;
            around = a;
            is_around = c.in-Ok.ensures.around;
            step = l.step;
            is_step = in_ok made l.step (IsDeleteStep c.args.empty a c.args.without) l.made_is
                c.delete_step-made.ensures.step;
            logged = l.logged;
          }) e.logged;
      refused = on_err c.log_around.result (ReadsOn g.D.Disk f1 p1 f2 p2) (ReadsOn g.D.Disk f p f2 p2)
          (reads_in_turn g.D.Disk f f1 f2 p p1 p2 c.hold_around.ensures.reads) e.refused;
      cause = if_err c.log_around.result (λ x. CannotLog g.D.Disk f2 x f1 p1)
          (λ x. Finds g.D.Disk f p (IsCause g.D.Disk bad f2 x))
          (λ x why. (f1, p1, c.hold_around.ensures.reads.works, fine, log_cause g.D.Disk bad f2 x f1 p1 why)) e.cause;
      fine = on_ok c.log_around.result (MetNoFault g.D.Disk f1 f2) (MetNoFault g.D.Disk f f2)
          (fine_then g.D.Disk f f1 f2 fine) e.fine;
      fault = if_err c.log_around.result (λ x. FaultBy g.D.Disk f1 f2 x) (λ x. FaultBy g.D.Disk f f2 x)
          (λ x. told_then g.D.Disk f f1 f2 x fine) e.fault;
    }
