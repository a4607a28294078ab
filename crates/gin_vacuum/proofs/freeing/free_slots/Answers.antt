use Rattle.std.proofs.Common.{◌≡◌, [], ◌++◌, false, rules}
use Rattle.std.proofs.lemmas.Result.{err_from_is_err_and}
use Rattle.core_state.proofs.LawsHold.{documents}
use Rattle.gin_place.specs.Faults.{FaultBy, MetNoFault}
use Rattle.gin_place.specs.declared.error.PlaceError.{PlaceError}
use Rattle.gin_place.specs.declared.error.PlaceError.TheVariants.{OutOfMemory}
use Rattle.gin_place.proofs.Carrying.{reads_still, same_added}
use Rattle.gin_place.proofs.Causing.{at_exit, finds_now}
use Rattle.gin_place.proofs.Faults.{fine_still, fine_then, told_then}
use Rattle.gin_place.proofs.Exits.{no_ok}
use Rattle.gin_vacuum.specs.Vacuum.{AreFreedSince}
use Rattle.gin_vacuum.specs.Ending.{VacuumMeets, NeverBad}
use Rattle.gin_vacuum.specs.Freeing.{IsFreeKind, CannotFree}
use Rattle.gin_vacuum.proofs.Endings.{never_bad, meets_by}
use Rattle.gin_vacuum.proofs.Freed.{begun, freed_since}
use Rattle.gin_vacuum.proofs.InTurn.{all_then, vacuums_in_turn, vacuum_right}
use Rattle.gin_vacuum.proofs.Logs.{reads_vacuum}
use Rattle.gin_vacuum.proofs.freeing.free_slots.Goals as goal

pub loop-init : goal.loop-init
loop-init g c =
    let f = c.args.frames.now in
    let p = c.args.pass.now in
    record {
      works = (
        [],
        tt,
        reads_vacuum g.D.Disk f f p p
            (reads_still g.D.Disk f p c.requires.pass (same_added g.D.Disk f)).works,
      );
      none_held = c.requires.none;
      freeing = begun g.D.Disk f p c.args.dead.now c.begin-freeing.result c.begin-freeing.ensures c.requires.out;
      met = fine_still g.D.Disk f;
    }

pub step-requires : goal.step-requires
step-requires g c =
    let was = c.loop.invariant in
    record {
      pass = was.works.2.is_pass;
      right = vacuum_right g.D.Disk c.args.frames.now c.loop.frames c.args.pass.now c.loop.pass was.works.0
          c.requires.right was.works.2;
      none = was.none_held;
      freeing = (c.args.pass.now.seen, was.freeing);
    }

pub loop-preserved : goal.loop-preserved
loop-preserved g c =
    let was = c.loop.invariant in
    let h = c.in_ok-more.ensures c.args.pass.now.seen was.freeing in
    record {
      works = (
        was.works.0 ++ h.works.0,
        all_then IsFreeKind was.works.0 h.works.0 was.works.1 h.works.2,
        vacuums_in_turn g.D.Disk c.args.frames.now c.loop.frames c.step.new.frames
            c.args.pass.now c.loop.pass c.step.new.pass was.works.0 h.works.0 was.works.2 h.works.3,
      );
      none_held = h.none_held;
      freeing = h.freeing;
      met = fine_then g.D.Disk c.args.frames.now c.loop.frames c.step.new.frames was.met h.fine;
    }

-- ── no item is left ──

pub returns-then-not-more : goal.returns-then-not-more
returns-then-not-more g c = record {
  freed = let h = c.in_ok-more.ensures c.args.pass.now.seen c.loop.invariant.freeing in
      let no : c.in_ok-more.more ≡ false = search (rules, c.if-not-more.true) in
      freed_since g.D.Disk documents c.step.new.frames c.step.new.pass c.args.pass.now.seen
      c.args.dead.now c.step.new.self h.works.3.is_pass (h.ends.0 no) h.freeing;
  works = let was = c.loop.invariant in
      let h = c.in_ok-more.ensures c.args.pass.now.seen was.freeing in (
        was.works.0 ++ h.works.0,
        all_then IsFreeKind was.works.0 h.works.0 was.works.1 h.works.2,
        vacuums_in_turn g.D.Disk c.args.frames.now c.loop.frames c.step.new.frames
            c.args.pass.now c.loop.pass c.step.new.pass was.works.0 h.works.0 was.works.2 h.works.3,
      );
  none_held = (c.in_ok-more.ensures c.args.pass.now.seen c.loop.invariant.freeing).none_held;
  fine = let was = c.loop.invariant in
      let h = c.in_ok-more.ensures c.args.pass.now.seen was.freeing in
      fine_then g.D.Disk c.args.frames.now c.loop.frames c.step.new.frames was.met h.fine;
  cause = tt;
  lawful = tt;
  fault = tt;
}

-- ── a step is refused ──

pub returns-in_err-more : goal.returns-in_err-more
returns-in_err-more g c =
    let out = c.from_residual.result in
    let why = err_from_is_err_and out c.from_residual.ensures.1 in
    record {
      freed =
          no_ok out why.0 (AreFreedSince g.D.Disk c.args.pass.now.seen c.args.dead.now c.step.new.frames) why.1;
      works = let was = c.loop.invariant in
          let h = c.in_err-more.ensures c.args.pass.now.seen was.freeing in (
            was.works.0 ++ h.works.0,
            all_then IsFreeKind was.works.0 h.works.0 was.works.1 h.works.2,
            vacuums_in_turn g.D.Disk c.args.frames.now c.loop.frames c.step.new.frames
                c.args.pass.now c.loop.pass c.step.new.pass was.works.0 h.works.0 was.works.2 h.works.3,
          );
      none_held = (c.in_err-more.ensures c.args.pass.now.seen c.loop.invariant.freeing).none_held;
      fine =
          no_ok out why.0 (MetNoFault g.D.Disk c.args.frames.now c.step.new.frames) why.1;
      cause = let was = c.loop.invariant in
          let f = c.args.frames.now in
          let p = c.args.pass.now in
          let n = c.step.new.frames in
          let h = c.in_err-more.ensures p.seen was.freeing in
          let w : PlaceError = c.in_err-more.field-0.0 in
          at_exit (λ x. VacuumMeets g.D.Disk f p n (CannotFree g.D.Disk n x)) out why.0 w why.1 why.2
          (meets_by g.D.Disk f c.loop.frames n p c.loop.pass was.works.0
          (CannotFree g.D.Disk n w) was.works.2 was.met h.refused.added h.cause);
      lawful = let was = c.loop.invariant in
          let h = c.in_err-more.ensures c.args.pass.now.seen was.freeing in
          let w : PlaceError = c.in_err-more.field-0.0 in
          at_exit (λ x. NeverBad g.D.Disk c.args.frames.now x) out why.0 w why.1 why.2
          (never_bad g.D.Disk c.args.frames.now c.loop.frames c.args.pass.now c.loop.pass was.works.0 w was.works.2
          was.met
          h.lawful);
      fault = let was = c.loop.invariant in
          let h = c.in_err-more.ensures c.args.pass.now.seen was.freeing in
          let w : PlaceError = c.in_err-more.field-0.0 in
          at_exit (λ x. FaultBy g.D.Disk c.args.frames.now c.step.new.frames x) out why.0 w why.1 why.2
          (told_then g.D.Disk c.args.frames.now c.loop.frames c.step.new.frames w was.met h.fault);
    }

-- ── there were too many steps ──

pub returns : goal.returns
returns g c = record {
  freed = tt;
  works = c.loop.invariant.works;
  none_held = c.loop.invariant.none_held;
  fine = tt;
  cause = let was = c.loop.invariant in
      let f = c.args.frames.now in
      let p = c.args.pass.now in
      let n = c.loop.frames in
      meets_by g.D.Disk f n n p c.loop.pass was.works.0
      (CannotFree g.D.Disk n OutOfMemory) was.works.2 was.met (same_added g.D.Disk n)
      (finds_now g.D.Disk n c.loop.pass (CannotFree g.D.Disk n OutOfMemory) was.works.2.is_pass tt);
  lawful = tt;
  fault = c.loop.invariant.met;
}
