use Rattle.std.proofs.Common.{[], sym, ap, subst, ◌∙◌, Err}
use Rattle.std.proofs.lemmas.Result.{err_from_is_err_and}
use Rattle.page_types.specs.Pages.{IsPage}
use Rattle.page_types.specs.declared.page.Page.{Page}
use Rattle.gin_place.proofs.Carrying.{right_on}
use Rattle.gin_cleanup.specs.Inner.Shifting.{IsFate}
use Rattle.gin_cleanup.specs.Inner.Stepping.{StepEnds}
use Rattle.gin_cleanup.proofs.FirstHeld.{has_first}
use Rattle.gin_cleanup.proofs.ShiftEnds.{may, unlogged, shifted, again, unshifted}
use Rattle.gin_cleanup.proofs.Shifts.{gone}
use Rattle.gin_cleanup.proofs.Worked.{refused}
use Rattle.gin_cleanup.proofs.cleanup.Cleanup.shift.Goals as goal

pub hold_first-requires : goal.hold_first-requires
hold_first-requires g c = record {
  pass = c.requires.pass;
  right = c.requires.right;
  none = c.requires.none;
  some = has_first g.D.Disk c.args.frames.now c.args.pass.now c.requires.cleaning.0 c.args.self.now c.requires.left
      c.requires.stage c.requires.cleaning.1;
}

pub noted-requires : goal.noted-requires
noted-requires g c =
    (gone g.D.Disk c.args.frames.now c.args.pass.now c.requires.cleaning.0 c.args.self.now c.requires.stage
    c.requires.cleaning.1).0

pub returns-in_err-first : goal.returns-in_err-first
returns-in_err-first g c =
    let p = err_from_is_err_and c.from_residual.result c.from_residual.ensures.1 in
    let e = c.in_err-first.ensures in
    subst (StepEnds g.D.Disk c.args.frames.now c.args.pass.now c.hold_first.new.frames c.hold_first.new.pass
    c.args.self.now c.args.self.now) (sym (p.1 ∙ ap Err p.2))
    (refused g.D.Disk c.args.frames.now c.hold_first.new.frames c.args.pass.now c.hold_first.new.pass c.requires.pass
    c.requires.right c.requires.none c.hold_first.ensures.reads c.args.self.now c.in_err-first.field-0.0 e.still e.cause
    e.fault)

pub log_shift-requires : goal.log_shift-requires
log_shift-requires g c =
    let e = c.in_ok-first.ensures in
    let fate = subst (IsFate c.in_ok-first.first.meta c.in_ok-first.first.page c.noted.result c.args.self.now.turns)
    c.in-Ok-Some.field-0-is c.in-Ok-Some.ensures.fate in
    may g.D.Disk c.args.frames.now c.hold_first.new.frames c.args.pass.now c.hold_first.new.pass c.requires.pass
    c.requires.right c.requires.none c.hold_first.ensures.reads e.fine c.args.self.now c.requires.stage
    c.in_ok-first.first e.holds c.requires.cleaning.0 c.requires.cleaning.1 c.noted.result c.noted.ensures
    c.in-Ok-Some.step fate.0 fate.1

pub returns-in_err-log_shift-in-Ok-Some : goal.returns-in_err-log_shift-in-Ok-Some
returns-in_err-log_shift-in-Ok-Some g c =
    let r = c.from_residual-in_err-log_shift-in-Ok-Some in
    let p = err_from_is_err_and r.result r.ensures.1 in
    let e = c.in_ok-first.ensures in
    let l = c.in_err-log_shift-in-Ok-Some in
    subst (StepEnds g.D.Disk c.args.frames.now c.args.pass.now c.log_shift.new.frames c.log_shift.new.pass
    c.args.self.now c.args.self.now) (sym (p.1 ∙ ap Err p.2))
    (unlogged g.D.Disk c.args.frames.now c.hold_first.new.frames c.args.pass.now c.hold_first.new.pass c.requires.pass
    c.requires.right c.requires.none c.hold_first.ensures.reads e.fine c.args.self.now c.requires.stage
    c.in_ok-first.first e.holds c.log_shift.new.frames c.log_shift.new.pass l.field-0.0 l.ensures.refused
    l.ensures.none_held l.ensures.cause l.ensures.fault)

pub page_gone-requires : goal.page_gone-requires
page_gone-requires g c = record {
  left = c.requires.left;
  gone = (gone g.D.Disk c.args.frames.now c.args.pass.now c.requires.cleaning.0 c.args.self.now c.requires.stage
      c.requires.cleaning.1).0;
}

pub returns-in_ok-log_shift-in-Ok-Some : goal.returns-in_ok-log_shift-in-Ok-Some
returns-in_ok-log_shift-in-Ok-Some g c =
    let e = c.in_ok-first.ensures in
    let l = c.in_ok-log_shift-in-Ok-Some.ensures in
    let fate = subst (IsFate c.in_ok-first.first.meta c.in_ok-first.first.page c.noted.result c.args.self.now.turns)
    c.in-Ok-Some.field-0-is c.in-Ok-Some.ensures.fate in
    shifted g.D.Disk c.args.frames.now c.hold_first.new.frames c.args.pass.now c.hold_first.new.pass c.requires.pass
    c.requires.right c.requires.none c.hold_first.ensures.reads e.fine c.args.self.now c.requires.stage
    c.in_ok-first.first e.holds c.log_shift.new.frames c.log_shift.new.pass c.requires.cleaning c.noted.result
    c.noted.ensures c.in-Ok-Some.step fate.0 fate.1 l.logged l.none_held l.fine c.requires.left c.page_gone.new.self
    c.page.result.now.right (ap (λ (x : Page). x.right) c.page.ensures.value) c.page_gone.ensures

pub give_back-requires : goal.give_back-requires
give_back-requires g c =
    let works = c.hold_first.ensures.reads.works in
    record {
      pass = works.is_pass;
      right = right_on g.D.Disk c.args.frames.now c.hold_first.new.frames c.args.pass.now c.hold_first.new.pass []
          c.requires.right works;
      holding = c.in_ok-first.ensures.holds.holding;
    }

pub read_again-requires : goal.read_again-requires
read_again-requires g c =
    (subst (IsFate c.in_ok-first.first.meta c.in_ok-first.first.page c.noted.result c.args.self.now.turns)
    c.in-Ok-None.field-0-is c.in-Ok-None.ensures.fate).1

pub returns-in-Ok-None : goal.returns-in-Ok-None
returns-in-Ok-None g c =
    let e = c.in_ok-first.ensures in
    let b = c.give_back.ensures in
    let fate = subst (IsFate c.in_ok-first.first.meta c.in_ok-first.first.page c.noted.result c.args.self.now.turns)
    c.in-Ok-None.field-0-is c.in-Ok-None.ensures.fate in
    again g.D.Disk c.args.frames.now c.hold_first.new.frames c.args.pass.now c.hold_first.new.pass c.requires.pass
    c.requires.right c.requires.none c.hold_first.ensures.reads e.fine c.args.self.now c.requires.stage
    c.in_ok-first.first e.holds c.give_back.new.frames c.give_back.new.pass b.reads b.none_held b.calm fate.1
    c.read_again.new.self c.number-number.result c.number-number.ensures.value c.read_again.ensures

pub give_back-requires-in-Err : goal.give_back-requires-in-Err
give_back-requires-in-Err g c =
    let works = c.hold_first.ensures.reads.works in
    record {
      pass = works.is_pass;
      right = right_on g.D.Disk c.args.frames.now c.hold_first.new.frames c.args.pass.now c.hold_first.new.pass []
          c.requires.right works;
      holding = c.in_ok-first.ensures.holds.holding;
    }

pub returns-in-Err : goal.returns-in-Err
returns-in-Err g c =
    let e = c.in_ok-first.ensures in
    let b = c.give_back-in-Err.ensures in
    unshifted g.D.Disk c.args.frames.now c.hold_first.new.frames c.args.pass.now c.hold_first.new.pass c.requires.pass
    c.requires.right c.requires.none c.hold_first.ensures.reads e.fine c.args.self.now c.requires.stage
    c.in_ok-first.first e.holds c.give_back-in-Err.new.frames c.give_back-in-Err.new.pass b.reads b.none_held b.calm
    c.in-Err.error c.in-Err.ensures.none (e.bad (subst IsPage c.page.ensures.value c.page.ensures.is_page))
