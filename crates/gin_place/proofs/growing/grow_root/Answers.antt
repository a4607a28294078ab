use Rattle.std.proofs.Common.{ℕ, [], ◌∷◌, ◌∙◌, refl, sym, subst, arith}
use Rattle.std.proofs.lemmas.Result.{err_from_is_err_and}
use Rattle.page_types.specs.Records.{kind_number}
use Rattle.page_types.specs.declared.record.Kind.{Kind}
use Rattle.core_maintenance.proofs.TreePages.{grown_pages_serve}
use Rattle.core_maintenance.proofs.TreeSteps.{grow_root_may}
use Rattle.buffer_frames.specs.Frames.{Lies}
use Rattle.buffer_frames.proofs.AtHand.{none_held}
use Rattle.buffer_frames.proofs.Exits.{on_refusal}
use Rattle.gin_place.specs.Going.{WorksOn}
use Rattle.gin_place.specs.Causes.{Finds, CanGrow, IsBadNew, IsBadRoom, HadPage, IsWhy, CannotLog}
use Rattle.gin_place.specs.Holding.{ReadsOn}
use Rattle.gin_place.specs.Inner.Logging.{LogsStep}
use Rattle.gin_place.specs.Trees.{root_of}
use Rattle.gin_place.specs.Faults.{MetNoFault, FaultBy}
use Rattle.gin_place.proofs.Carrying.{reads_in_turn, works_in_turn, right_on}
use Rattle.gin_place.proofs.Causing.{at_exit, weaker, had_page, finds_now, finds_after, finds_as, hold_why, log_why}
use Rattle.gin_place.proofs.Causing.{why_as, why_later}
use Rattle.gin_place.proofs.Exits.{on_ok, on_err, if_err, no_ok}
use Rattle.gin_place.proofs.Faults.{calm_then, calm_fine, fine_then, told_then, told_back}
use Rattle.gin_place.proofs.GrowSteps.{grow_may_log}
use Rattle.gin_place.proofs.SplitCauses.{grow_why, taken_fault}
use Rattle.gin_place.proofs.growing.grow_root.Goals as goal

pub hold_page-requires : goal.hold_page-requires
hold_page-requires g c =
    record { pass = c.requires.pass; right = c.requires.right; few = omega (arith, c.requires.none) }

pub returns-in_err-root : goal.returns-in_err-root
returns-in_err-root g c =
    let t = c.args.sought in
    let at = c.root.result in
    let p = err_from_is_err_and c.from_residual.result c.from_residual.ensures.1 in
    let w = c.in_err-root.field-0.0 in
    record {
      none_held = c.in_err-root.ensures.still.held ∙ c.requires.none;
      grown = no_ok c.from_residual.result p.0 (WorksOn g.D.Disk c.args.frames.now c.args.pass.now
          c.hold_page.new.frames c.hold_page.new.pass (16 ∷ [])) p.1;
      took = no_ok c.from_residual.result p.0 (HadPage g.D.Disk c.args.frames.now c.args.pass.now) p.1;
      refused = on_refusal _ c.from_residual.result c.hold_page.ensures.reads;
      cause = λ parent. at_exit (λ x. Finds g.D.Disk c.args.frames.now c.args.pass.now
          (IsWhy g.D.Disk (IsBadRoom t parent (root_of t)) c.hold_page.new.frames x))
          c.from_residual.result p.0 w p.1 p.2
          (finds_now g.D.Disk c.args.frames.now c.args.pass.now
          (IsWhy g.D.Disk (IsBadRoom t parent (root_of t)) c.hold_page.new.frames w) c.requires.pass
          (hold_why g.D.Disk (IsBadRoom t parent (root_of t)) at c.hold_page.new.frames w c.args.frames.now
          c.args.pass.now (λ bad. IsBadRoom.root refl c.root.ensures (weaker c.args.frames.now (CanGrow t) at bad))
          c.in_err-root.ensures.cause));
      fine = no_ok c.from_residual.result p.0 (MetNoFault g.D.Disk c.args.frames.now c.hold_page.new.frames) p.1;
      fault = at_exit (λ x. FaultBy g.D.Disk c.args.frames.now c.hold_page.new.frames x) c.from_residual.result p.0 w
          p.1 p.2 c.in_err-root.ensures.fault;
    }

pub hold_new-requires : goal.hold_new-requires
hold_new-requires g c =
    let works = c.hold_page.ensures.reads.works in
    let h1 = c.in_ok-root.ensures.holding []
    (none_held g.D.Disk c.args.frames.now c.args.pass.now c.requires.pass c.requires.none) in
    record {
      pass = works.is_pass;
      right = right_on g.D.Disk c.args.frames.now c.hold_page.new.frames c.args.pass.now c.hold_page.new.pass []
          c.requires.right works;
      few = omega (arith, h1.all);
      holding = (c.in_ok-root.root ∷ [], h1);
    }

-- ── no new page is had ──

pub release-requires : goal.release-requires
release-requires g c =
    let r2 = reads_in_turn g.D.Disk c.args.frames.now c.hold_page.new.frames c.hold_new.new.frames c.args.pass.now
    c.hold_page.new.pass c.hold_new.new.pass c.hold_page.ensures.reads c.hold_new.ensures.reads in
    let h1 = c.in_ok-root.ensures.holding []
    (none_held g.D.Disk c.args.frames.now c.args.pass.now c.requires.pass c.requires.none) in
    record {
      pass = r2.works.is_pass;
      right = right_on g.D.Disk c.args.frames.now c.hold_new.new.frames c.args.pass.now c.hold_new.new.pass []
          c.requires.right r2.works;
      holding = ([], c.in-Err.ensures.still.holding (c.in_ok-root.root ∷ []) h1);
    }

pub returns-in-Err : goal.returns-in-Err
returns-in-Err g c =
    let t = c.args.sought in
    let w = c.in-Err.error in
    let r2 = reads_in_turn g.D.Disk c.args.frames.now c.hold_page.new.frames c.hold_new.new.frames c.args.pass.now
    c.hold_page.new.pass c.hold_new.new.pass c.hold_page.ensures.reads c.hold_new.ensures.reads in
    let h1 = c.in_ok-root.ensures.holding []
    (none_held g.D.Disk c.args.frames.now c.args.pass.now c.requires.pass c.requires.none) in
    let h2 = c.in-Err.ensures.still.holding (c.in_ok-root.root ∷ []) h1 in
    record {
      none_held = sym (c.release.ensures.holding [] h2).all;
      grown = tt;
      took = tt;
      refused = reads_in_turn g.D.Disk c.args.frames.now c.hold_new.new.frames c.release.new.frames c.args.pass.now
          c.hold_new.new.pass c.release.new.pass r2 c.release.ensures.reads;
      cause = λ parent. finds_after g.D.Disk c.args.frames.now c.hold_page.new.frames c.args.pass.now
          c.hold_page.new.pass (IsWhy g.D.Disk (IsBadRoom t parent (root_of t)) c.release.new.frames w)
          c.hold_page.ensures.reads.works c.in_ok-root.ensures.fine
          (finds_as g.D.Disk c.hold_page.new.frames c.hold_page.new.pass
          (IsWhy g.D.Disk IsBadNew c.hold_new.new.frames w)
          (IsWhy g.D.Disk (IsBadRoom t parent (root_of t)) c.release.new.frames w)
          (λ f q why. why_as g.D.Disk IsBadNew (IsBadRoom t parent (root_of t)) c.release.new.frames w f q
          (λ n bad. IsBadRoom.new bad)
          (why_later g.D.Disk IsBadNew c.hold_new.new.frames c.release.new.frames w c.release.ensures.faults f q why))
          c.in-Err.ensures.cause);
      fine = tt;
      fault = told_back g.D.Disk c.args.frames.now c.hold_new.new.frames c.release.new.frames w
          (told_then g.D.Disk c.args.frames.now c.hold_page.new.frames c.hold_new.new.frames w
          c.in_ok-root.ensures.fine c.in-Err.ensures.fault) c.release.ensures.calm c.release.ensures.at_rest;
    }

-- ── the step is logged ──

pub log_two-requires : goal.log_two-requires
log_two-requires g c =
    let r2 = reads_in_turn g.D.Disk c.args.frames.now c.hold_page.new.frames c.hold_new.new.frames c.args.pass.now
    c.hold_page.new.pass c.hold_new.new.pass c.hold_page.ensures.reads c.hold_new.ensures.reads in
    let h1 = c.in_ok-root.ensures.holding []
    (none_held g.D.Disk c.args.frames.now c.args.pass.now c.requires.pass c.requires.none) in
    let h2 = c.in-Ok.ensures.holding (c.in_ok-root.root ∷ []) h1 in
    let t = c.args.sought in
    let e = c.in-Ok-grow_step.ensures in
    grow_may_log g.D.Disk c.hold_new.new.frames c.hold_new.new.pass t c.in_ok-root.root c.in-Ok.new
    c.in-Ok-grow_step.step e.step h2 e.can.0 e.can.1 (c.in_ok-root.ensures.number ∙ c.root.ensures)
    (r2.roots t c.requires.root) e.low.0 e.low.1 r2.works.is_pass
    (right_on g.D.Disk c.args.frames.now c.hold_new.new.frames c.args.pass.now c.hold_new.new.pass [] c.requires.right
    r2.works) grow_root_may grown_pages_serve c.pages_may_be_logged.ensures.grown
    c.pages_may_be_logged-2.ensures.grown c.in-Ok.ensures.new

pub returns-in-Ok-grow_step : goal.returns-in-Ok-grow_step
returns-in-Ok-grow_step g c =
    let t = c.args.sought in
    let s = c.in-Ok-grow_step.step in
    let e = c.log_two.ensures in
    let r2 = reads_in_turn g.D.Disk c.args.frames.now c.hold_page.new.frames c.hold_new.new.frames c.args.pass.now
    c.hold_page.new.pass c.hold_new.new.pass c.hold_page.ensures.reads c.hold_new.ensures.reads in
    let two = fine_then g.D.Disk c.args.frames.now c.hold_page.new.frames c.hold_new.new.frames
    c.in_ok-root.ensures.fine c.in-Ok.ensures.fine in
    record {
      none_held = e.none_held;
      grown = on_ok c.log_two.result (LogsStep g.D.Disk c.hold_new.new.frames c.hold_new.new.pass
          (c.in-Ok.new ∷ c.in_ok-root.root ∷ []) s c.log_two.new.frames c.log_two.new.pass)
          (WorksOn g.D.Disk c.args.frames.now c.args.pass.now c.log_two.new.frames c.log_two.new.pass (16 ∷ []))
          (λ l. subst (λ (k : Kind). WorksOn g.D.Disk c.args.frames.now c.args.pass.now c.log_two.new.frames
          c.log_two.new.pass (kind_number k ∷ [])) c.in-Ok-grow_step.ensures.step.kind_is
          (works_in_turn g.D.Disk c.args.frames.now c.hold_new.new.frames c.log_two.new.frames c.args.pass.now
          c.hold_new.new.pass c.log_two.new.pass [] (kind_number s.kind ∷ []) r2.works l.works)) e.logged;
      took = on_ok c.log_two.result (LogsStep g.D.Disk c.hold_new.new.frames c.hold_new.new.pass
          (c.in-Ok.new ∷ c.in_ok-root.root ∷ []) s c.log_two.new.frames c.log_two.new.pass)
          (HadPage g.D.Disk c.args.frames.now c.args.pass.now)
          (λ l. had_page g.D.Disk c.args.frames.now c.hold_new.new.frames c.args.pass.now c.hold_new.new.pass
          c.in-Ok.new.page r2.works c.in-Ok.ensures.taken) e.logged;
      refused = on_err c.log_two.result
          (ReadsOn g.D.Disk c.hold_new.new.frames c.hold_new.new.pass c.log_two.new.frames c.log_two.new.pass)
          (ReadsOn g.D.Disk c.args.frames.now c.args.pass.now c.log_two.new.frames c.log_two.new.pass)
          (reads_in_turn g.D.Disk c.args.frames.now c.hold_new.new.frames c.log_two.new.frames c.args.pass.now
          c.hold_new.new.pass c.log_two.new.pass r2) e.refused;
      cause = λ parent. if_err c.log_two.result
          (λ x. CannotLog g.D.Disk c.log_two.new.frames x c.hold_new.new.frames c.hold_new.new.pass)
          (λ x. Finds g.D.Disk c.args.frames.now c.args.pass.now
          (IsWhy g.D.Disk (IsBadRoom t parent (root_of t)) c.log_two.new.frames x))
          (λ x why. (
            c.hold_new.new.frames,
            c.hold_new.new.pass,
            r2.works,
            two,
            log_why g.D.Disk (IsBadRoom t parent (root_of t)) c.log_two.new.frames x c.hold_new.new.frames
                c.hold_new.new.pass why,
          )) e.cause;
      fine = on_ok c.log_two.result (MetNoFault g.D.Disk c.hold_new.new.frames c.log_two.new.frames)
          (MetNoFault g.D.Disk c.args.frames.now c.log_two.new.frames)
          (fine_then g.D.Disk c.args.frames.now c.hold_new.new.frames c.log_two.new.frames two) e.fine;
      fault = if_err c.log_two.result (λ x. FaultBy g.D.Disk c.hold_new.new.frames c.log_two.new.frames x)
          (λ x. FaultBy g.D.Disk c.args.frames.now c.log_two.new.frames x)
          (λ x told. told_then g.D.Disk c.args.frames.now c.hold_new.new.frames c.log_two.new.frames x two told)
          e.fault;
    }

-- ── no step is made ──

pub release-requires-in-Err-grow_step : goal.release-requires-in-Err-grow_step
release-requires-in-Err-grow_step g c =
    let r2 = reads_in_turn g.D.Disk c.args.frames.now c.hold_page.new.frames c.hold_new.new.frames c.args.pass.now
    c.hold_page.new.pass c.hold_new.new.pass c.hold_page.ensures.reads c.hold_new.ensures.reads in
    let h1 = c.in_ok-root.ensures.holding []
    (none_held g.D.Disk c.args.frames.now c.args.pass.now c.requires.pass c.requires.none) in
    record {
      pass = r2.works.is_pass;
      right = right_on g.D.Disk c.args.frames.now c.hold_new.new.frames c.args.pass.now c.hold_new.new.pass []
          c.requires.right r2.works;
      holding = (c.in_ok-root.root ∷ [], c.in-Ok.ensures.holding (c.in_ok-root.root ∷ []) h1);
    }

pub release-requires-in-Err-grow_step-2 : goal.release-requires-in-Err-grow_step-2
release-requires-in-Err-grow_step-2 g c =
    let r2 = reads_in_turn g.D.Disk c.args.frames.now c.hold_page.new.frames c.hold_new.new.frames c.args.pass.now
    c.hold_page.new.pass c.hold_new.new.pass c.hold_page.ensures.reads c.hold_new.ensures.reads in
    let back = c.release-in-Err-grow_step in
    let r3 = reads_in_turn g.D.Disk c.args.frames.now c.hold_new.new.frames back.new.frames c.args.pass.now
    c.hold_new.new.pass back.new.pass r2 back.ensures.reads in
    let h1 = c.in_ok-root.ensures.holding []
    (none_held g.D.Disk c.args.frames.now c.args.pass.now c.requires.pass c.requires.none) in
    let h2 = c.in-Ok.ensures.holding (c.in_ok-root.root ∷ []) h1 in
    record {
      pass = r3.works.is_pass;
      right = right_on g.D.Disk c.args.frames.now back.new.frames c.args.pass.now back.new.pass [] c.requires.right
          r3.works;
      holding = ([], back.ensures.holding (c.in_ok-root.root ∷ []) h2);
    }

pub returns-in-Err-grow_step : goal.returns-in-Err-grow_step
returns-in-Err-grow_step g c =
    let t = c.args.sought in
    let root = c.in_ok-root.root in
    let w = c.in-Err-grow_step.error in
    let back = c.release-in-Err-grow_step in
    let last = c.release-in-Err-grow_step-2 in
    let r2 = reads_in_turn g.D.Disk c.args.frames.now c.hold_page.new.frames c.hold_new.new.frames c.args.pass.now
    c.hold_page.new.pass c.hold_new.new.pass c.hold_page.ensures.reads c.hold_new.ensures.reads in
    let r3 = reads_in_turn g.D.Disk c.args.frames.now c.hold_new.new.frames back.new.frames c.args.pass.now
    c.hold_new.new.pass back.new.pass r2 back.ensures.reads in
    let h1 = c.in_ok-root.ensures.holding []
    (none_held g.D.Disk c.args.frames.now c.args.pass.now c.requires.pass c.requires.none) in
    let h2 = c.in-Ok.ensures.holding (root ∷ []) h1 in
    record {
      none_held = sym (last.ensures.holding [] (back.ensures.holding (root ∷ []) h2)).all;
      grown = tt;
      took = tt;
      refused = reads_in_turn g.D.Disk c.args.frames.now back.new.frames last.new.frames c.args.pass.now back.new.pass
          last.new.pass r3 last.ensures.reads;
      cause = λ parent. grow_why g.D.Disk c.args.frames.now c.args.pass.now last.new.frames t parent root
          c.requires.pass (c.in_ok-root.ensures.number ∙ c.root.ensures)
          (subst (λ (n : ℕ). Lies c.args.frames.now n root.content) (sym c.in_ok-root.ensures.number)
          c.in_ok-root.ensures.lies) w c.in-Err-grow_step.ensures.cause;
      fine = tt;
      fault = taken_fault g.D.Disk c.args.frames.now last.new.frames (CanGrow t) root w
          (fine_then g.D.Disk c.args.frames.now c.hold_page.new.frames last.new.frames c.in_ok-root.ensures.fine
          (fine_then g.D.Disk c.hold_page.new.frames c.hold_new.new.frames last.new.frames c.in-Ok.ensures.fine
          (calm_fine g.D.Disk c.hold_new.new.frames last.new.frames
          (calm_then g.D.Disk c.hold_new.new.frames back.new.frames last.new.frames back.ensures.calm
          last.ensures.calm)))) c.in-Err-grow_step.ensures.cause;
    }
