use Rattle.std.proofs.Common.{◌≡◌, [], true, false, ◌∙◌}
use Rattle.std.proofs.lemmas.Result.{err_from_is_err_and}
use Rattle.gin_place.proofs.Causing.{at_exit}
use Rattle.gin_place.proofs.Faults.{fine_still, fine_then, told_then}
use Rattle.gin_place.proofs.Exits.{no_ok}
use Rattle.gin_place.specs.Faults.{MetNoFault, FaultBy}
use Rattle.gin_vacuum.proofs.WalkCode.{not_empty}
use Rattle.gin_vacuum.specs.Vacuum.{AreSwept}
use Rattle.gin_vacuum.specs.Ending.{VacuumMeets, NeverBad}
use Rattle.gin_vacuum.specs.Stepping.{IsCause, IsBadIn, steps_left}
use Rattle.gin_vacuum.proofs.InTurn.{vacuum_right}
use Rattle.gin_vacuum.proofs.ReadHeap.{nearer_end}
use Rattle.gin_vacuum.proofs.SweepEnds.{sweep_begins, nothing_done, swept_more, sweep_cause, sweep_lawful, sweep_ends}
use Rattle.gin_vacuum.proofs.sweeping.sweep.Goals as goal

pub loop-more-init : goal.loop-more-init
loop-more-init g c =
    record {
      works =
          ([], tt, nothing_done g.D.Disk c.args.frames.now c.args.pass.now c.requires.pass);
      none_held = c.requires.none;
      fine = fine_still g.D.Disk c.args.frames.now;
      sweeping = sweep_begins g.D.Disk c.args.frames.now c.args.pass.now c.args.dead.now c.begin-sweeping.result
          c.begin-sweeping.ensures c.requires.dead;
      ended = λ no. absurd (let z : true ≡ false = no in let y : ⊥ = cc in y);
    }

pub step-requires : goal.step-requires
step-requires g c =
    let was = c.loop-more.invariant in
    record {
      pass = was.works.2.is_pass;
      right =
          vacuum_right g.D.Disk c.args.frames.now c.loop-more.frames c.args.pass.now c.loop-more.pass was.works.0
          c.requires.right was.works.2;
      none = was.none_held;
      sweeping = was.sweeping;
    }

pub loop-more-preserved : goal.loop-more-preserved
loop-more-preserved g c =
    let was = c.loop-more.invariant in
    let e = c.in_ok-more.ensures in
    record {
      works = swept_more g.D.Disk c.args.frames.now c.loop-more.frames c.step.new.frames
          c.args.pass.now c.loop-more.pass c.step.new.pass c.args.dead.now was.works was.fine c.loop-more.sweeping
          c.step.new.self _ e.swept;
      none_held = e.swept.none_held;
      fine = fine_then g.D.Disk c.args.frames.now c.loop-more.frames c.step.new.frames was.fine e.swept.fine;
      sweeping = e.swept.sweeping;
      ended = λ no. e.ends.0 no;
    }

pub loop-more-smaller : goal.loop-more-smaller
loop-more-smaller g c =
    nearer_end c.loop-more.more c.in_ok-more.more (steps_left c.loop-more.sweeping) (steps_left c.step.new.self)
    c.loop-more-test.true (λ more. c.in_ok-more.ensures.lower more)

pub returns-then-is_empty-clause-works : goal.returns-then-is_empty-clause-works
returns-then-is_empty-clause-works g c =
    ([], tt, nothing_done g.D.Disk c.args.frames.now c.args.pass.now c.requires.pass)

pub returns-then-is_empty-clause-fine : goal.returns-then-is_empty-clause-fine
returns-then-is_empty-clause-fine g c = fine_still g.D.Disk c.args.frames.now

pub returns-in_err-more : goal.returns-in_err-more
returns-in_err-more g c =
    let out = c.from_residual.result in
    let why = err_from_is_err_and out c.from_residual.ensures.1 in
    record {
      swept =
          no_ok out why.0 (AreSwept g.D.Disk c.step.new.frames c.step.new.pass c.args.dead.now) why.1;
      dead = c.in_err-more.ensures.swept.sweeping.leave;
      none_held = c.in_err-more.ensures.swept.none_held;
      works = let was = c.loop-more.invariant in
          swept_more g.D.Disk c.args.frames.now c.loop-more.frames c.step.new.frames
          c.args.pass.now c.loop-more.pass c.step.new.pass c.args.dead.now was.works was.fine c.loop-more.sweeping
          c.step.new.self _ c.in_err-more.ensures.swept;
      nothing = λ none.
          absurd (not_empty c.items.result.now c.is_empty.result c.is_empty.ensures c.if-is_empty.false
          (c.items.ensures.items ∙ none));
      cause = let was = c.loop-more.invariant in
          let w = c.in_err-more.field-0.0 in
          at_exit (λ x. VacuumMeets g.D.Disk c.args.frames.now c.args.pass.now c.step.new.frames
          (IsCause g.D.Disk (IsBadIn g.D.Disk) c.step.new.frames x)) out why.0 w why.1 why.2
          (sweep_cause g.D.Disk c.args.frames.now c.loop-more.frames c.step.new.frames
          c.args.pass.now c.loop-more.pass c.step.new.pass c.args.dead.now was.works was.fine c.loop-more.sweeping
          c.step.new.self w c.in_err-more.ensures.swept);
      lawful = let was = c.loop-more.invariant in
          let w = c.in_err-more.field-0.0 in
          at_exit (NeverBad g.D.Disk c.args.frames.now) out why.0 w why.1 why.2
          (sweep_lawful g.D.Disk c.args.frames.now c.loop-more.frames c.step.new.frames
          c.args.pass.now c.loop-more.pass c.step.new.pass c.args.dead.now was.works was.fine c.loop-more.sweeping
          c.step.new.self w c.in_err-more.ensures.swept);
      fine =
          no_ok out why.0 (MetNoFault g.D.Disk c.args.frames.now c.step.new.frames) why.1;
      fault =
          at_exit (λ y. FaultBy g.D.Disk c.args.frames.now c.step.new.frames y) out why.0 c.in_err-more.field-0.0
          why.1 why.2
          (told_then g.D.Disk c.args.frames.now c.loop-more.frames c.step.new.frames c.in_err-more.field-0.0
          c.loop-more.invariant.fine c.in_err-more.ensures.swept.fault);
    }

pub returns : goal.returns
returns g c = record {
  swept = let x = c.loop-more.invariant in
      sweep_ends g.D.Disk c.loop-more.frames c.loop-more.pass c.args.dead.now c.loop-more.sweeping
      (x.ended c.loop-more-test.false) x.sweeping;
  dead = c.loop-more.invariant.sweeping.leave;
  none_held = c.loop-more.invariant.none_held;
  works = c.loop-more.invariant.works;
  nothing = λ none.
      absurd (not_empty c.items.result.now c.is_empty.result c.is_empty.ensures c.if-is_empty.false
      (c.items.ensures.items ∙ none));
  cause = tt;
  lawful = tt;
  fine = c.loop-more.invariant.fine;
  fault = tt;
}
