-- A cleanup, or a vacuum, by a pass that has the right of maintenance.
use Rattle.std.proofs.Common.{◌≡◌, true, false, Bool, sym, subst, ◌∙◌}
use Rattle.engine.specs.Inner.Vacuumed.{AreKindsOf, Ends}
use Rattle.engine.proofs.Cleanups.{index_kinds, through_as}
use Rattle.engine.proofs.ReadSteps.{if_err}
use Rattle.engine.proofs.maintaining.work_on.Goals as goal

pub returns-then-vacuums-clause-through : goal.returns-then-vacuums-clause-through
returns-then-vacuums-clause-through g c =
    let v = c.vacuum_list.ensures.through in
    (v.0, subst (λ (b : Bool). AreKindsOf b v.0) (sym c.if-vacuums.true) v.1, v.2)

pub returns-then-vacuums-clause-vacuumed : goal.returns-then-vacuums-clause-vacuumed
returns-then-vacuums-clause-vacuumed g c = λ is. c.vacuum_list.ensures.vacuumed

pub returns-then-vacuums-clause-cause : goal.returns-then-vacuums-clause-cause
returns-then-vacuums-clause-cause g c =
    if_err c.vacuum_list.result
    (λ e. subst (λ (b : Bool). Ends g.D.Disk b c.args.frames.now c.vacuum_list.new.frames e) (sym c.if-vacuums.true))
    c.vacuum_list.ensures.cause

pub returns-else-vacuums-clause-through : goal.returns-else-vacuums-clause-through
returns-else-vacuums-clause-through g c =
    let v = c.clean_list.ensures.through in (
      v.0,
      subst (λ (b : Bool). AreKindsOf b v.0) (sym c.if-vacuums.false) v.1.are,
      through_as g.D.Disk c.args.frames.now c.clean_list.new.frames c.args.pass.now c.clean_list.new.pass v.0
          (index_kinds v.0 v.1.are) v.1,
    )

pub returns-else-vacuums-clause-vacuumed : goal.returns-else-vacuums-clause-vacuumed
returns-else-vacuums-clause-vacuumed g c = λ is.
    let z : false ≡ true = sym c.if-vacuums.false ∙ is in absurd (let y : ⊥ = cc in y)

pub returns-else-vacuums-clause-cause : goal.returns-else-vacuums-clause-cause
returns-else-vacuums-clause-cause g c =
    if_err c.clean_list.result
    (λ e. subst (λ (b : Bool). Ends g.D.Disk b c.args.frames.now c.clean_list.new.frames e) (sym c.if-vacuums.false))
    c.clean_list.ensures.cause
