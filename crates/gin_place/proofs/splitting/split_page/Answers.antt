use Rattle.std.proofs.Common.{[], ◌∷◌, subst}
use Rattle.std.proofs.lemmas.Result.{err_from_is_err_and}
use Rattle.page_types.specs.Records.{kind_number}
use Rattle.page_types.specs.declared.record.Kind.{Kind}
use Rattle.core_maintenance.proofs.TreePages.{split_pages_serve}
use Rattle.core_maintenance.proofs.TreeSteps.{split_may}
use Rattle.buffer_frames.proofs.Exits.{on_refusal}
use Rattle.gin_place.specs.Going.{WorksOn}
use Rattle.gin_place.specs.Causes.{Finds, IsBadRoom, HadPage, IsWhy, CannotLog}
use Rattle.gin_place.specs.Holding.{ReadsOn}
use Rattle.gin_place.specs.Inner.Logging.{LogsStep}
use Rattle.gin_place.proofs.Carrying.{reads_in_turn, works_in_turn, right_on}
use Rattle.gin_place.proofs.Causing.{at_exit, log_why}
use Rattle.gin_place.proofs.Exits.{on_ok, on_err, if_err, no_ok}
use Rattle.gin_place.proofs.Dividing.{split_may_log}
use Rattle.gin_place.proofs.SplitCauses.{split_why, split_fault}
use Rattle.gin_place.specs.Faults.{MetNoFault, FaultBy}
use Rattle.gin_place.proofs.Faults.{calm_fine, fine_then, told_then}
use Rattle.gin_place.proofs.splitting.split_page.Goals as goal

pub hold_three-requires : goal.hold_three-requires
hold_three-requires g c = record { pass = c.requires.pass; right = c.requires.right; none = c.requires.none }

pub returns-in_err-three : goal.returns-in_err-three
returns-in_err-three g c =
    let r = c.from_residual.result in
    let p = err_from_is_err_and r c.from_residual.ensures.1 in
    let w = c.in_err-three.field-0.0 in
    let e = c.in_err-three.ensures in
    let f = c.args.frames.now in
    let last = c.hold_three.new.frames in
    record {
      none_held = e.still;
      divided = no_ok r p.0 (WorksOn g.D.Disk f c.args.pass.now last c.hold_three.new.pass (17 ∷ [])) p.1;
      took = no_ok r p.0 (HadPage g.D.Disk f c.args.pass.now) p.1;
      refused = on_refusal _ r c.hold_three.ensures.reads;
      cause = λ other. at_exit (λ x. Finds g.D.Disk f c.args.pass.now
          (IsWhy g.D.Disk (IsBadRoom c.args.sought c.args.parent c.args.page) last x)) r p.0 w p.1 p.2
          (e.cause c.args.sought other);
      fine = no_ok r p.0 (MetNoFault g.D.Disk f last) p.1;
      fault = at_exit (λ x. FaultBy g.D.Disk f last x) r p.0 w p.1 p.2 e.fault;
    }

-- ── the step is logged ──

pub log_three-requires : goal.log_three-requires
log_three-requires g c =
    let t = c.in_ok-three.three in
    let low = c.in-Ok.ensures.low in
    split_may_log g.D.Disk c.hold_three.new.frames c.hold_three.new.pass c.args.sought t.page t.new t.parent
    c.in-Ok.step c.in-Ok.ensures.step c.in_ok-three.ensures.holding c.in-Ok.ensures.step.split.was low
    c.hold_three.ensures.reads.works.is_pass
    (right_on g.D.Disk c.args.frames.now c.hold_three.new.frames c.args.pass.now c.hold_three.new.pass []
    c.requires.right c.hold_three.ensures.reads.works) split_may
    split_pages_serve c.pages_may_be_logged.ensures.split c.pages_may_be_logged-2.ensures.split
    c.in_ok-three.ensures.new

pub returns-in-Ok : goal.returns-in-Ok
returns-in-Ok g c =
    let t = c.in_ok-three.three in
    let s = c.in-Ok.step in
    let r = c.log_three.result in
    let e = c.log_three.ensures in
    let f = c.args.frames.now in
    let at = c.hold_three.new.frames in
    let held = c.hold_three.new.pass in
    let last = c.log_three.new.frames in
    let pass = c.log_three.new.pass in
    let reads = c.hold_three.ensures.reads in
    let fine = c.in_ok-three.ensures.fine in
    let Logs = LogsStep g.D.Disk at held (t.new ∷ t.page ∷ t.parent ∷ []) s last pass in
    let Bad = IsBadRoom c.args.sought c.args.parent c.args.page in
    record {
      none_held = e.none_held;
      divided = on_ok r Logs (WorksOn g.D.Disk f c.args.pass.now last pass (17 ∷ []))
          (λ l. subst (λ (k : Kind). WorksOn g.D.Disk f c.args.pass.now last pass (kind_number k ∷ []))
          c.in-Ok.ensures.step.kind_is
          (works_in_turn g.D.Disk f at last c.args.pass.now held pass [] (kind_number s.kind ∷ []) reads.works l.works))
          e.logged;
      took = on_ok r Logs (HadPage g.D.Disk f c.args.pass.now) (λ l. c.in_ok-three.ensures.took) e.logged;
      refused = on_err r (ReadsOn g.D.Disk at held last pass) (ReadsOn g.D.Disk f c.args.pass.now last pass)
          (λ x. reads_in_turn g.D.Disk f at last c.args.pass.now held pass reads x) e.refused;
      cause = λ other. if_err r (λ x. CannotLog g.D.Disk last x at held)
          (λ x. Finds g.D.Disk f c.args.pass.now (IsWhy g.D.Disk Bad last x))
          (λ x why. (at, held, reads.works, fine, log_why g.D.Disk Bad last x at held why)) e.cause;
      fine = on_ok r (MetNoFault g.D.Disk at last) (MetNoFault g.D.Disk f last) (fine_then g.D.Disk f at last fine)
          e.fine;
      fault = if_err r (λ x. FaultBy g.D.Disk at last x) (λ x. FaultBy g.D.Disk f last x)
          (λ x told. told_then g.D.Disk f at last x fine told) e.fault;
    }

-- ── no step is made ──

pub give_back-requires : goal.give_back-requires
give_back-requires g c = record {
  pass = c.hold_three.ensures.reads.works.is_pass;
  right = right_on g.D.Disk c.args.frames.now c.hold_three.new.frames c.args.pass.now c.hold_three.new.pass []
      c.requires.right c.hold_three.ensures.reads.works;
  holding = c.in_ok-three.ensures.holding;
}

pub returns-in-Err : goal.returns-in-Err
returns-in-Err g c =
    let t = c.in_ok-three.three in
    let f = c.args.frames.now in
    let at = c.hold_three.new.frames in
    let last = c.give_back.new.frames in
    record {
      none_held = c.give_back.ensures.none_held;
      divided = tt;
      took = tt;
      refused = reads_in_turn g.D.Disk f at last c.args.pass.now c.hold_three.new.pass c.give_back.new.pass
          c.hold_three.ensures.reads c.give_back.ensures.reads;
      cause = λ other. split_why g.D.Disk f c.args.pass.now last c.args.sought c.args.parent c.args.page t.page t.parent
          c.requires.pass c.in_ok-three.ensures.numbers c.in_ok-three.ensures.lies other c.in-Err.error
          c.in-Err.ensures.cause;
      fine = tt;
      fault = split_fault g.D.Disk f last c.args.sought t.page t.parent c.in-Err.error
          (fine_then g.D.Disk f at last c.in_ok-three.ensures.fine
          (calm_fine g.D.Disk at last c.give_back.ensures.calm)) c.in-Err.ensures.cause;
    }
