use Rattle.std.proofs.Common.{refl, sym, ap, subst, ◌∙◌, Err, false, ◌≡◌, ◌<◌, ◌↔◌, Bool, true}
use Rattle.std.proofs.lemmas.Result.{err_from_is_err_and}
use Rattle.core_maintenance.proofs.WaysLead.{ways_hold}
use Rattle.gin_place.proofs.Exits.{none_ok}
use Rattle.gin_place.proofs.Stepped.{true_false}
use Rattle.gin_vacuum.specs.Stepping.{HasSwept, IsNext, steps_left}
use Rattle.gin_vacuum.specs.declared.sweeping.Stage.TheVariants as stage
use Rattle.gin_vacuum.proofs.NotHeld.{not_held, holds_next}
use Rattle.gin_vacuum.proofs.ParentHeld.{no_some}
use Rattle.gin_vacuum.proofs.SweepEnds.{swept_done, ends_none}
use Rattle.gin_vacuum.proofs.SweptOn.{swept_as, swept_to}
use Rattle.gin_vacuum.proofs.sweeping.Sweeping.step.Goals as goal

pub returns-in_default : goal.returns-in_default
returns-in_default g c = record {
  swept = swept_done g.D.Disk c.args.frames.now c.args.pass.now c.args.dead.now c.args.self.now false c.requires.pass
      c.requires.none c.requires.sweeping;
  ends = (λ e. no_some c.next.result _ c.in_default.not-Some c.next.ensures.done, λ e. refl);
  lower = λ more. absurd {A = steps_left c.args.self.now < steps_left c.args.self.now} (true_false (sym more));
}

pub hold_next-requires : goal.hold_next-requires
hold_next-requires g c = record { pass = c.requires.pass; right = c.requires.right; none = c.requires.none }

pub returns-in_err-held : goal.returns-in_err-held
returns-in_err-held g c =
    let out = c.from_residual.result in
    let why = err_from_is_err_and out c.from_residual.ensures.1 in
    record {
      swept = let e = c.in_err-held.ensures in
          let s = c.in-Some.ensures in
          subst (HasSwept g.D.Disk c.args.frames.now c.args.pass.now c.hold_next.new.frames c.hold_next.new.pass
          c.args.dead.now c.args.self.now c.args.self.now) (sym (why.1 ∙ ap Err why.2))
          (not_held g.D.Disk ways_hold c.args.frames.now c.hold_next.new.frames c.args.pass.now
          c.hold_next.new.pass c.requires.right c.requires.pass c.requires.none c.hold_next.ensures.reads
          c.args.dead.now
          c.args.self.now c.requires.sweeping c.in-Some.page s.page c.in-Some.before s.left c.in_err-held.field-0.0
          e.still
          e.cause (λ n same. c.hold_next.ensures.bad n (c.in_err-held.was ∙ ap Err same)) e.fault);
      ends =
          none_ok out why.0 (λ (more : Bool). (more ≡ false) ↔ (c.args.self.now.stage ≡ stage.Done)) why.1;
      lower =
          none_ok out why.0 (λ (more : Bool). more ≡ true → steps_left c.args.self.now < steps_left
          c.args.self.now) why.1;
    }

pub work-requires : goal.work-requires
work-requires g c =
    let e = c.in_ok-held.ensures in
    let s = c.in-Some.ensures in
    record {
      not_done = s.some;
      next = subst (IsNext c.args.self.now.stage) (sym e.number) s.page;
      held = holds_next g.D.Disk ways_hold c.args.frames.now c.hold_next.new.frames c.args.pass.now
          c.hold_next.new.pass c.requires.right c.requires.pass c.requires.none c.hold_next.ensures.reads
          c.args.dead.now c.args.self.now c.requires.sweeping c.in-Some.page s.page c.in-Some.before s.left
          c.in_ok-held.held c.in_ok-held.left e.number e.lies e.holding e.seen e.told e.left e.lower e.fine;
    }

pub returns-in_err-work : goal.returns-in_err-work
returns-in_err-work g c =
    let out = c.from_residual-in_err-work.result in
    let why = err_from_is_err_and out c.from_residual-in_err-work.ensures.1 in
    record {
      swept = let m = c.args.self.now in
          let dead = c.args.dead.now in
          let e = c.in_ok-held.ensures in
          let s = c.in-Some.ensures in
          let w = holds_next g.D.Disk ways_hold c.args.frames.now c.hold_next.new.frames c.args.pass.now
          c.hold_next.new.pass c.requires.right c.requires.pass c.requires.none c.hold_next.ensures.reads dead m
          c.requires.sweeping c.in-Some.page s.page c.in-Some.before s.left c.in_ok-held.held c.in_ok-held.left e.number
          e.lies e.holding e.seen e.told e.left e.lower e.fine in
          subst (HasSwept g.D.Disk c.args.frames.now c.args.pass.now c.work.new.frames c.work.new.pass dead m
          c.work.new.self)
          (sym (why.1 ∙ ap Err why.2))
          (swept_as g.D.Disk c.args.frames.now c.work.new.frames c.args.pass.now c.work.new.pass dead m c.work.new.self
          c.in_err-work.field-0.0
          (subst (HasSwept g.D.Disk c.args.frames.now c.args.pass.now c.work.new.frames c.work.new.pass dead m
          c.work.new.self) c.in_err-work.was (c.work.ensures.swept w)));
      ends =
          none_ok out why.0 (λ (more : Bool). (more ≡ false) ↔ (c.work.new.self.stage ≡ stage.Done)) why.1;
      lower =
          none_ok out why.0 (λ (more : Bool). more ≡ true → steps_left c.work.new.self < steps_left
          c.args.self.now) why.1;
    }

pub returns : goal.returns
returns g c = record {
  swept = let m = c.args.self.now in
      let dead = c.args.dead.now in
      let e = c.in_ok-held.ensures in
      let s = c.in-Some.ensures in
      let w = holds_next g.D.Disk ways_hold c.args.frames.now c.hold_next.new.frames c.args.pass.now
      c.hold_next.new.pass c.requires.right c.requires.pass c.requires.none c.hold_next.ensures.reads dead m
      c.requires.sweeping c.in-Some.page s.page c.in-Some.before s.left c.in_ok-held.held c.in_ok-held.left e.number
      e.lies e.holding e.seen e.told e.left e.lower e.fine in
      swept_to g.D.Disk c.args.frames.now c.work.new.frames c.args.pass.now c.work.new.pass dead m c.work.new.self
      c.in_ok-work.field-0 _
      (subst (HasSwept g.D.Disk c.args.frames.now c.args.pass.now c.work.new.frames c.work.new.pass dead m
      c.work.new.self) c.in_ok-work.was (c.work.ensures.swept w));
  ends = ends_none c.next-2.result c.is_some.result _ c.is_some.ensures c.next-2.ensures.some c.next-2.ensures.done;
  lower = λ more. c.in_ok-work.ensures.lower;
}
