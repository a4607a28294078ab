-- A page is held, and then a new one, or none.
use Rattle.std.proofs.Common.{◌≡◌, [], ◌∷◌, refl, sym, subst, ◌∙◌, arith}
use Rattle.std.specs.Prelude.{Result, Err, IfErr, OnErr}
use Rattle.std.proofs.lemmas.Result.{err_from_is_err_and}
use Rattle.core_state.specs.Allowed.{Sheet}
use Rattle.engine.specs.Inner.Choosing.{CannotHoldWithNew}
use Rattle.engine.specs.declared.error.DbError.{DbError}
use Rattle.engine.proofs.Carrying.{carries_on, holds_none, keeps_on}
use Rattle.engine.proofs.ListEnds.{told_given}
use Rattle.engine.proofs.Paths.{goes_still, time_of, none_in_turn, told_in_turn}
use Rattle.engine.proofs.Running.{told_again}
use Rattle.engine.proofs.db.Db.hold_with_new.Goals as goal

pub returns-in_err-old-clause-still : goal.returns-in_err-old-clause-still
returns-in_err-old-clause-still g c =
    let p = err_from_is_err_and c.from_residual.result c.from_residual.ensures.1 in
    subst (λ (r : Result (Sheet × Sheet) DbError). OnErr r (c.hold_page.new.pass.held ≡ 0)) (sym p.1)
    (c.in_err-old.ensures.held ∙ c.requires.none)

pub returns-in_err-old-clause-cause : goal.returns-in_err-old-clause-cause
returns-in_err-old-clause-cause g c =
    let p = err_from_is_err_and c.from_residual.result c.from_residual.ensures.1 in
    let Why = CannotHoldWithNew g.D.Disk c.args.self.now c.args.page in
    subst (λ (r : Result (Sheet × Sheet) DbError). IfErr r Why) (sym p.1)
    (subst Why (sym p.2) (CannotHoldWithNew.old c.in_err-old.ensures.cause))

pub hold_new_page-requires-clause-few : goal.hold_new_page-requires-clause-few
hold_new_page-requires-clause-few g c =
    let held = c.in_ok-old.ensures.holding []
    (holds_none g.D.Disk c.args.self.now c.args.pass.now c.requires.pass c.requires.none) in
    omega (arith, held.all)

pub hold_new_page-requires-clause-holding : goal.hold_new_page-requires-clause-holding
hold_new_page-requires-clause-holding g c = (
  c.in_ok-old.old ∷ [],
  c.in_ok-old.ensures.holding []
      (holds_none g.D.Disk c.args.self.now c.args.pass.now c.requires.pass c.requires.none),
)

pub returns-in-Ok-clause-both : goal.returns-in-Ok-clause-both
returns-in-Ok-clause-both g c = record {
  number = c.in_ok-old.ensures.number;
  lies = c.in_ok-old.ensures.lies;
  holding = c.in-Ok.ensures.holding (c.in_ok-old.old ∷ []) (c.in_ok-old.ensures.holding []
      (holds_none g.D.Disk c.args.self.now c.args.pass.now c.requires.pass c.requires.none));
  is_new = c.in-Ok.ensures.is_new;
}

pub returns-in-Ok-clause-carries : goal.returns-in-Ok-clause-carries
returns-in-Ok-clause-carries g c =
    carries_on g.D.Disk c.args.self.now c.hold_page.new.self c.hold_new_page.new.self c.args.pass.now
    c.hold_page.new.pass c.hold_new_page.new.pass (c.hold_page.ensures.keeps).xid c.hold_page.ensures.carries
    c.hold_new_page.ensures.on.carries

pub returns-in-Ok-clause-goes : goal.returns-in-Ok-clause-goes
returns-in-Ok-clause-goes g c = goes_still g.D.Disk c.hold_page.ensures.goes c.hold_new_page.ensures.on.goes

pub returns-in-Ok-clause-keeps : goal.returns-in-Ok-clause-keeps
returns-in-Ok-clause-keeps g c =
    keeps_on c.args.pass.now c.hold_page.new.pass c.hold_new_page.new.pass c.hold_page.ensures.keeps
    c.hold_new_page.ensures.on.keeps

pub returns-in-Ok-clause-fault : goal.returns-in-Ok-clause-fault
returns-in-Ok-clause-fault g c = none_in_turn g.D.Disk c.in_ok-old.ensures.fault c.in-Ok.ensures.fault

-- ── no new page is held ──

pub give_back-requires-clause-holding : goal.give_back-requires-clause-holding
give_back-requires-clause-holding g c =
    let held = c.in_ok-old.ensures.holding []
    (holds_none g.D.Disk c.args.self.now c.args.pass.now c.requires.pass c.requires.none) in
    ([], c.in-Err.ensures.still (c.in_ok-old.old ∷ []) held)

pub returns-in-Err-clause-carries : goal.returns-in-Err-clause-carries
returns-in-Err-clause-carries g c =
    let h = c.hold_page.ensures in
    let n = c.hold_new_page.ensures.on in
    carries_on g.D.Disk c.args.self.now c.hold_page.new.self c.give_back.new.self c.args.pass.now
    c.hold_page.new.pass c.give_back.new.pass (h.keeps).xid h.carries
    (carries_on g.D.Disk c.hold_page.new.self c.hold_new_page.new.self c.give_back.new.self c.hold_page.new.pass
    c.hold_new_page.new.pass c.give_back.new.pass (n.keeps).xid n.carries c.give_back.ensures.carries)

pub returns-in-Err-clause-goes : goal.returns-in-Err-clause-goes
returns-in-Err-clause-goes g c =
    goes_still g.D.Disk (goes_still g.D.Disk c.hold_page.ensures.goes c.hold_new_page.ensures.on.goes)
    c.give_back.ensures.goes

pub returns-in-Err-clause-keeps : goal.returns-in-Err-clause-keeps
returns-in-Err-clause-keeps g c =
    keeps_on c.args.pass.now c.hold_new_page.new.pass c.give_back.new.pass
    (keeps_on c.args.pass.now c.hold_page.new.pass c.hold_new_page.new.pass c.hold_page.ensures.keeps
    c.hold_new_page.ensures.on.keeps) c.give_back.ensures.keeps

pub returns-in-Err-clause-fault : goal.returns-in-Err-clause-fault
returns-in-Err-clause-fault g c =
    let a = c.args.self.now in
    let b = c.hold_page.new.self in
    let m = c.hold_new_page.new.self in
    let r : Result Sheet DbError = Err c.in-Err.error in
    let q : Result (Sheet × Sheet) DbError = Err c.in-Err.error in
    told_given g.D.Disk a m c.give_back.new.self c.hold_new_page.new.pass c.give_back.new.pass (c.in_ok-old.old ∷ []) q
    (told_in_turn g.D.Disk a b m q (time_of g.D.Disk c.hold_page.ensures.goes) c.in_ok-old.ensures.fault
    (told_again g.D.Disk b m c.in-Err.error r q refl refl c.in-Err.ensures.fault))
    c.give_back.ensures

pub returns-in-Err-clause-still : goal.returns-in-Err-clause-still
returns-in-Err-clause-still g c =
    let held = c.in_ok-old.ensures.holding []
    (holds_none g.D.Disk c.args.self.now c.args.pass.now c.requires.pass c.requires.none) in
    sym (c.give_back.ensures.holding [] (c.in-Err.ensures.still (c.in_ok-old.old ∷ []) held)).all

pub returns-in-Err-clause-cause : goal.returns-in-Err-clause-cause
returns-in-Err-clause-cause g c =
    CannotHoldWithNew.new c.hold_page.new.self c.hold_new_page.new.self c.hold_page.ensures.goes
    (c.in_ok-old.ensures.fault).down c.hold_new_page.ensures.on.goes c.in-Err.ensures.cause
