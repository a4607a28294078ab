use Rattle.std.proofs.Common.{[], ◌∷◌, sym, inl, inr}
use Rattle.core_vacuum.proofs.Logging.{free_slots_may}
use Rattle.gin_place.specs.Causes.{Finds}
use Rattle.gin_place.proofs.Causing.{finds_now}
use Rattle.gin_place.proofs.Exits.{on_ok, if_err}
use Rattle.gin_place.proofs.Faults.{calm_fine}
use Rattle.gin_vacuum.specs.Freeing.{CannotFree}
use Rattle.gin_vacuum.specs.Inner.Freeing.{IsFreeStep, LogsFree}
use Rattle.gin_vacuum.specs.Inner.Logging.{LogsMade, CannotLog}
use Rattle.gin_vacuum.proofs.FreeCauses.{log_free_cause}
use Rattle.gin_vacuum.proofs.FreeSteps.{may_free}
use Rattle.gin_vacuum.proofs.Made.{in_ok}
use Rattle.gin_vacuum.proofs.freeing.free_all.Goals as goal

pub free_step-requires : goal.free_step-requires
free_step-requires g c = c.requires.heap

pub release-requires : goal.release-requires
release-requires g c =
    record { pass = c.requires.pass; right = c.requires.right; holding = ([], c.requires.holding) }

pub returns-in_default : goal.returns-in_default
returns-in_default g c = record {
  none_held = sym (c.release.ensures.holding [] c.requires.holding).all;
  logged = inl (c.release.ensures.reads, c.in_default.ensures.none);
  refused = tt;
  cause = tt;
  fine = calm_fine g.D.Disk c.args.frames.now c.release.new.frames c.release.ensures.calm;
  fault = tt;
}

pub log_one-requires : goal.log_one-requires
log_one-requires g c = record {
  is_pass = c.requires.pass;
  right = c.requires.right;
  holding = c.requires.holding;
  may = λ step is.
      may_free g.D.Disk c.args.frames.now c.args.pass.now c.requires.pass c.requires.right c.args.heap step
      c.args.items.now c.requires.holding
      (in_ok c.in-Some.made step (IsFreeStep c.args.heap c.args.items.now) is c.in-Some.ensures.step) c.requires.page
      c.requires.bare c.requires.out free_slots_may;
}

pub returns : goal.returns
returns g c =
    let f = c.args.frames.now in
    let p = c.args.pass.now in
    let h = c.log_one.new.frames in
    let q = c.log_one.new.pass in
    let heap = c.args.heap in
    let items = c.args.items.now in
    let made = c.in-Some.made in
    let e = c.log_one.ensures in
    record {
      none_held = e.none_held;
      logged = on_ok c.log_one.result (LogsMade g.D.Disk f p (heap ∷ []) made h q) (LogsFree g.D.Disk f p heap h q
          items)
          (λ l. inr (l.step, in_ok made l.step (IsFreeStep heap items) l.made_is c.in-Some.ensures.step, l.logged))
          e.logged;
      refused = e.refused;
      cause = if_err c.log_one.result (λ x. CannotLog g.D.Disk h x f p) (λ x. Finds g.D.Disk f p (CannotFree
          g.D.Disk h x))
          (λ x why. finds_now g.D.Disk f p (CannotFree g.D.Disk h x) c.requires.pass
          (log_free_cause g.D.Disk h x f p why)) e.cause;
      fine = e.fine;
      fault = e.fault;
    }
