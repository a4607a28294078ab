-- A new page is held at the first try that finds it new.
use Rattle.std.proofs.Common.{ℕ, refl, sym, subst, inl, inr, arith}
use Rattle.std.specs.Prelude.{Result, IfOk, IfErr, OnErr}
use Rattle.std.proofs.lemmas.Result.{err_from_is_err_and}
use Rattle.core_state.specs.Allowed.{Sheet}
use Rattle.engine.specs.Inner.Choosing.{HoldsNoMore, HoldsNew, CannotTake}
use Rattle.engine.specs.declared.error.DbError.{DbError}
use Rattle.engine.specs.declared.error.DbError.TheVariants as store
use Rattle.engine.proofs.Choosing.{works_still, works_in_turn, no_more_in_turn, new_in_turn, take_in_turn, told_from}
use Rattle.engine.proofs.Paths.{fault_stays, none_in_turn, time_of}
use Rattle.engine.proofs.db.Db.hold_new_page.Goals as goal

pub loop-init : goal.loop-init
loop-init g c = record {
  works = works_still g.D.Disk c.args.self.now c.args.pass.now c.requires.pass;
  met = fault_stays g.D.Disk c.args.self.now;
  no_more = record { holding = λ held h. h; held = refl };
  last = inl refl;
}

pub take_page-requires-clause-pass : goal.take_page-requires-clause-pass
take_page-requires-clause-pass g c = c.loop.invariant.works.is_pass

pub take_page-requires-clause-few : goal.take_page-requires-clause-few
take_page-requires-clause-few g c = omega (arith, c.loop.invariant.no_more.held, c.requires.few)

pub take_page-requires-clause-holding : goal.take_page-requires-clause-holding
take_page-requires-clause-holding g c =
    (c.requires.holding.0, c.loop.invariant.no_more.holding c.requires.holding.0 c.requires.holding.1)

pub loop-preserved : goal.loop-preserved
loop-preserved g c =
    let was = c.loop.invariant in
    let e = c.in_ok-held.ensures in
    let old = subst (λ (r : Result Sheet ℕ). OnErr r
    (HoldsNoMore g.D.Disk c.loop.self c.loop.pass c.take_page.new.self c.take_page.new.pass)) c.in-Err.is e.old in
    let used = subst (λ (r : Result Sheet ℕ). IfErr r
    (λ p. CannotTake g.D.Disk c.loop.self c.take_page.new.self (store.BadPage p))) c.in-Err.is e.used in
    record {
      works = works_in_turn g.D.Disk c.args.self.now c.loop.self c.take_page.new.self c.args.pass.now c.loop.pass
          c.take_page.new.pass was.works e.on;
      met = none_in_turn g.D.Disk was.met e.fault;
      no_more = no_more_in_turn g.D.Disk c.args.self.now c.loop.self c.take_page.new.self c.args.pass.now c.loop.pass
          c.take_page.new.pass was.no_more old;
      last = inr (take_in_turn g.D.Disk c.args.self.now c.loop.self c.take_page.new.self (store.BadPage c.in-Err.page)
          was.met was.works.goes used);
    }

pub returns-in-Ok : goal.returns-in-Ok
returns-in-Ok g c =
    let was = c.loop.invariant in
    let e = c.in_ok-held.ensures in
    let works = works_in_turn g.D.Disk c.args.self.now c.loop.self c.take_page.new.self c.args.pass.now c.loop.pass
    c.take_page.new.pass was.works e.on in
    let here = subst (λ (r : Result Sheet ℕ). IfOk r
    (HoldsNew g.D.Disk c.loop.self c.loop.pass c.take_page.new.self c.take_page.new.pass)) c.in-Ok.is e.new in
    let new = new_in_turn g.D.Disk c.args.self.now c.loop.self c.take_page.new.self c.args.pass.now c.loop.pass
    c.take_page.new.pass c.in-Ok.held was.works was.no_more here in
    record {
      on = works;
      holding = new.holding;
      lies = new.lies;
      taken = new.taken;
      unused = new.unused;
      is_new = new.is_new;
      fault = none_in_turn g.D.Disk was.met e.fault;
      still = tt;
      held = tt;
      cause = tt;
    }

pub returns : goal.returns
returns g c =
    let was = c.loop.invariant in
    record {
      on = was.works;
      holding = λ held h. tt;
      lies = tt;
      taken = tt;
      unused = tt;
      is_new = tt;
      fault = was.met;
      still = was.no_more.holding;
      held = was.no_more.held;
      cause = elim was.last [ inl none ↦ absurd (omega arith) | inr used ↦ used ];
    }

pub returns-in_err-held-clause-on : goal.returns-in_err-held-clause-on
returns-in_err-held-clause-on g c =
    works_in_turn g.D.Disk c.args.self.now c.loop.self c.take_page.new.self c.args.pass.now c.loop.pass
    c.take_page.new.pass c.loop.invariant.works c.take_page.ensures.on

pub returns-in_err-held-clause-fault : goal.returns-in_err-held-clause-fault
returns-in_err-held-clause-fault g c =
    let p = err_from_is_err_and c.from_residual.result c.from_residual.ensures.1 in
    let was = c.loop.invariant in
    told_from g.D.Disk c.args.self.now c.loop.self c.take_page.new.self c.take_page.result c.from_residual.result _ p.0
    c.in_err-held.was p.1 p.2 (time_of g.D.Disk was.works.goes) was.met c.take_page.ensures.fault

pub returns-in_err-held-clause-cause : goal.returns-in_err-held-clause-cause
returns-in_err-held-clause-cause g c =
    let p = err_from_is_err_and c.from_residual.result c.from_residual.ensures.1 in
    let was = c.loop.invariant in
    let why = take_in_turn g.D.Disk c.args.self.now c.loop.self c.take_page.new.self _ was.met was.works.goes
    c.in_err-held.ensures.cause in
    subst (λ (r : Result Sheet DbError). IfErr r (CannotTake g.D.Disk c.args.self.now c.take_page.new.self)) (sym p.1)
    (subst (CannotTake g.D.Disk c.args.self.now c.take_page.new.self) (sym p.2) why)
