use Rattle.std.proofs.Common.{ℕ, List, [], ◌∷◌, sym, subst, arith}
use Rattle.std.proofs.lemmas.Result.{err_from_is_err_and}
use Rattle.page_types.specs.Records.{kind_number}
use Rattle.page_types.specs.declared.record.Kind.{Kind}
use Rattle.core_maintenance.proofs.TreePages.{tree_pages_serve}
use Rattle.core_maintenance.proofs.TreeSteps.{make_tree_may}
use Rattle.buffer_frames.proofs.Exits.{on_refusal}
use Rattle.gin_place.specs.Going.{WorksOn}
use Rattle.gin_place.specs.Placing.{IsOnWay}
use Rattle.gin_place.specs.Causes.{Finds, IsBadNew, HadPage, IsWhy}
use Rattle.gin_place.specs.Faults.{MetNoFault, FaultBy}
use Rattle.gin_place.specs.Inner.Reading.{IsLongAt}
use Rattle.gin_place.specs.declared.error.PlaceError.TheVariants.{OutOfMemory}
use Rattle.gin_place.specs.declared.sought.Sought.TheVariants as sought
use Rattle.gin_place.proofs.Carrying.{reads_in_turn, works_in_turn, right_on}
use Rattle.gin_place.proofs.Causing.{at_exit, had_page, finds_as, finds_now, log_why, why_later}
use Rattle.gin_place.proofs.Exits.{no_ok, none_ok}
use Rattle.gin_place.proofs.Faults.{calm_then, calm_fine, fine_then, told_then, told_back}
use Rattle.gin_place.proofs.RootingSteps.{tree_may_log, tree_named}
use Rattle.gin_place.proofs.rooting.make_tree.Goals as goal

pub hold_new-requires : goal.hold_new-requires
hold_new-requires g c = record {
  pass = c.requires.pass;
  right = c.requires.right;
  few = omega (arith, c.requires.holding.all);
  holding = (c.args.held ∷ [], c.requires.holding);
}

-- ── no new page is had ──

pub release-requires : goal.release-requires
release-requires g c =
    let works = c.hold_new.ensures.reads.works in
    record {
      pass = works.is_pass;
      right = right_on g.D.Disk c.args.frames.now c.hold_new.new.frames c.args.pass.now c.hold_new.new.pass []
          c.requires.right works;
      holding = ([], c.in-Err.ensures.still.holding (c.args.held ∷ []) c.requires.holding);
    }

pub returns-in-Err : goal.returns-in-Err
returns-in-Err g c =
    let w = c.in-Err.error in
    record {
      none_held = sym (c.release.ensures.holding []
          (c.in-Err.ensures.still.holding (c.args.held ∷ []) c.requires.holding)).all;
      works = tt;
      named = tt;
      took = tt;
      refused = reads_in_turn g.D.Disk c.args.frames.now c.hold_new.new.frames c.release.new.frames c.args.pass.now
          c.hold_new.new.pass c.release.new.pass c.hold_new.ensures.reads c.release.ensures.reads;
      cause = finds_as g.D.Disk c.args.frames.now c.args.pass.now (IsWhy g.D.Disk IsBadNew c.hold_new.new.frames w)
          (IsWhy g.D.Disk IsBadNew c.release.new.frames w)
          (λ f q why.
          why_later g.D.Disk IsBadNew c.hold_new.new.frames c.release.new.frames w c.release.ensures.faults f q why)
          c.in-Err.ensures.cause;
      fine = tt;
      fault = told_back g.D.Disk c.args.frames.now c.hold_new.new.frames c.release.new.frames w
          c.in-Err.ensures.fault c.release.ensures.calm c.release.ensures.at_rest;
    }

-- ── the step is logged, or not ──

pub log_two-requires : goal.log_two-requires
log_two-requires g c =
    let r = c.hold_new.ensures.reads in
    let hold = c.in-Ok.ensures.holding (c.args.held ∷ []) c.requires.holding in
    let made = c.in-Ok-tree_step.ensures.step in
    let low = c.in-Ok-tree_step.ensures.low in
    tree_may_log g.D.Disk c.hold_new.new.frames c.hold_new.new.pass c.args.held c.in-Ok.new c.args.place
    c.in-Ok-tree_step.step made hold low.0 low.1 r.works.is_pass
    (right_on g.D.Disk c.args.frames.now c.hold_new.new.frames c.args.pass.now c.hold_new.new.pass [] c.requires.right
    r.works) make_tree_may tree_pages_serve c.pages_may_be_logged.ensures.first
    c.in-Ok.ensures.new

pub returns-in_err-log_two-in-Ok-tree_step : goal.returns-in_err-log_two-in-Ok-tree_step
returns-in_err-log_two-in-Ok-tree_step g c =
    let r = c.from_residual.result in
    let p = err_from_is_err_and r c.from_residual.ensures.1 in
    let e = c.in_err-log_two-in-Ok-tree_step.ensures in
    let w = c.in_err-log_two-in-Ok-tree_step.field-0.0 in
    let f = c.args.frames.now in
    let last = c.log_two.new.frames in
    record {
      none_held = c.log_two.ensures.none_held;
      works = no_ok r p.0 (WorksOn g.D.Disk f c.args.pass.now last c.log_two.new.pass (14 ∷ [])) p.1;
      named = none_ok r p.0 (λ root. (key : List ℕ) (item : ℕ) → IsLongAt c.args.held.content key c.args.place
          → IsOnWay g.D.Disk last c.log_two.new.pass key (sought.Item root item) root) p.1;
      took = no_ok r p.0 (HadPage g.D.Disk f c.args.pass.now) p.1;
      refused = on_refusal _ r
          (reads_in_turn g.D.Disk f c.hold_new.new.frames last c.args.pass.now c.hold_new.new.pass c.log_two.new.pass
          c.hold_new.ensures.reads e.refused);
      cause = at_exit (λ x. Finds g.D.Disk f c.args.pass.now (IsWhy g.D.Disk IsBadNew last x)) r p.0 w p.1 p.2 (
        c.hold_new.new.frames,
        c.hold_new.new.pass,
        c.hold_new.ensures.reads.works,
        c.in-Ok.ensures.fine,
        log_why g.D.Disk IsBadNew last w c.hold_new.new.frames c.hold_new.new.pass e.cause,
      );
      fine = no_ok r p.0 (MetNoFault g.D.Disk f last) p.1;
      fault = at_exit (λ x. FaultBy g.D.Disk f last x) r p.0 w p.1 p.2
          (told_then g.D.Disk f c.hold_new.new.frames last w c.in-Ok.ensures.fine e.fault);
    }

pub returns-in_ok-log_two-in-Ok-tree_step : goal.returns-in_ok-log_two-in-Ok-tree_step
returns-in_ok-log_two-in-Ok-tree_step g c =
    let s = c.in-Ok-tree_step.step in
    let e = c.in_ok-log_two-in-Ok-tree_step.ensures in
    let f = c.args.frames.now in
    let last = c.log_two.new.frames in
    record {
      none_held = c.log_two.ensures.none_held;
      works = subst (λ (k : Kind). WorksOn g.D.Disk f c.args.pass.now last c.log_two.new.pass (kind_number k ∷ []))
          c.in-Ok-tree_step.ensures.step.kind_is
          (works_in_turn g.D.Disk f c.hold_new.new.frames last c.args.pass.now c.hold_new.new.pass c.log_two.new.pass
          [] (kind_number s.kind ∷ []) c.hold_new.ensures.reads.works e.logged.works);
      named = λ key item long.
          let hold = c.in-Ok.ensures.holding (c.args.held ∷ []) c.requires.holding in
          let low = c.in-Ok-tree_step.ensures.low in
          subst (λ (n : ℕ). IsOnWay g.D.Disk last c.log_two.new.pass key (sought.Item n item) n)
          (sym c.number-root.ensures.value)
          (tree_named g.D.Disk c.hold_new.new.frames c.hold_new.new.pass c.args.held c.in-Ok.new c.args.place s
          c.in-Ok-tree_step.ensures.step hold low.0 low.1 last c.log_two.new.pass e.logged key item long);
      took = had_page g.D.Disk f c.hold_new.new.frames c.args.pass.now c.hold_new.new.pass c.in-Ok.new.page
          c.hold_new.ensures.reads.works c.in-Ok.ensures.taken;
      refused = tt;
      cause = tt;
      fine = fine_then g.D.Disk f c.hold_new.new.frames last c.in-Ok.ensures.fine e.fine;
      fault = tt;
    }

-- ── no step is made ──

pub release-requires-in-Err-tree_step : goal.release-requires-in-Err-tree_step
release-requires-in-Err-tree_step g c =
    let works = c.hold_new.ensures.reads.works in
    record {
      pass = works.is_pass;
      right = right_on g.D.Disk c.args.frames.now c.hold_new.new.frames c.args.pass.now c.hold_new.new.pass []
          c.requires.right works;
      holding = (c.args.held ∷ [], c.in-Ok.ensures.holding (c.args.held ∷ []) c.requires.holding);
    }

pub release-requires-in-Err-tree_step-2 : goal.release-requires-in-Err-tree_step-2
release-requires-in-Err-tree_step-2 g c =
    let back = c.release-in-Err-tree_step in
    let r2 = reads_in_turn g.D.Disk c.args.frames.now c.hold_new.new.frames back.new.frames c.args.pass.now
    c.hold_new.new.pass back.new.pass c.hold_new.ensures.reads back.ensures.reads in
    record {
      pass = r2.works.is_pass;
      right = right_on g.D.Disk c.args.frames.now back.new.frames c.args.pass.now back.new.pass [] c.requires.right
          r2.works;
      holding = (
        [],
        back.ensures.holding (c.args.held ∷ []) (c.in-Ok.ensures.holding (c.args.held ∷ []) c.requires.holding),
      );
    }

pub returns-in-Err-tree_step : goal.returns-in-Err-tree_step
returns-in-Err-tree_step g c =
    let f = c.args.frames.now in
    let back = c.release-in-Err-tree_step in
    let last = c.release-in-Err-tree_step-2 in
    let r2 = reads_in_turn g.D.Disk f c.hold_new.new.frames back.new.frames c.args.pass.now c.hold_new.new.pass
    back.new.pass c.hold_new.ensures.reads back.ensures.reads in
    let hold = c.in-Ok.ensures.holding (c.args.held ∷ []) c.requires.holding in
    record {
      none_held = sym (last.ensures.holding [] (back.ensures.holding (c.args.held ∷ []) hold)).all;
      works = tt;
      named = tt;
      took = tt;
      refused = reads_in_turn g.D.Disk f back.new.frames last.new.frames c.args.pass.now back.new.pass last.new.pass r2
          last.ensures.reads;
      cause = finds_now g.D.Disk f c.args.pass.now (IsWhy g.D.Disk IsBadNew last.new.frames OutOfMemory)
          c.requires.pass tt;
      fine = tt;
      fault = fine_then g.D.Disk f c.hold_new.new.frames last.new.frames c.in-Ok.ensures.fine
          (calm_fine g.D.Disk c.hold_new.new.frames last.new.frames
          (calm_then g.D.Disk c.hold_new.new.frames back.new.frames last.new.frames back.ensures.calm
          last.ensures.calm));
    }
