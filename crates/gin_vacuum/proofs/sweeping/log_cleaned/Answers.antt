use Rattle.std.proofs.Common.{◌≡◌, ◌<◌, ℕ, List, [], ◌∷◌, sym, subst}
use Rattle.page_types.specs.Numbers.{page_limit}
use Rattle.core_vacuum.proofs.Logging.{remove_items_may}
use Rattle.gin_place.proofs.Exits.{on_ok}
use Rattle.gin_place.proofs.Faults.{calm_fine}
use Rattle.gin_vacuum.specs.Inner.Logging.{MayLogStep, LogsMade}
use Rattle.gin_vacuum.specs.Inner.Sweeping.{IsRemoval, HasCleaned}
use Rattle.gin_vacuum.proofs.Made.{in_ok, on_made}
use Rattle.gin_vacuum.proofs.Removals.{removal_step, removal_logged, removal_may_log, none_cleaned}
use Rattle.gin_vacuum.proofs.sweeping.log_cleaned.Goals as goal

pub release-requires : goal.release-requires
release-requires g c =
    let r = c.requires.removal.1 in
    record { pass = r.is_pass; right = r.right; holding = ([], r.holding) }

pub returns-in_default : goal.returns-in_default
returns-in_default g c =
    let f = c.args.frames.now in
    let h = c.release.new.frames in
    let reads = c.release.ensures.reads in
    record {
      none_held = sym (c.release.ensures.holding [] (c.requires.removal.1).holding).all;
      cleaned = λ dead r.
          none_cleaned g.D.Disk f h c.args.pass.now c.release.new.pass c.args.held c.args.cleaned c.in_default.not-Some
          reads;
      refused = tt;
      cause = tt;
      fine = calm_fine g.D.Disk f h c.release.ensures.calm;
      fault = tt;
    }

pub log_one-requires : goal.log_one-requires
log_one-requires g c =
    let f = c.args.frames.now in
    let p = c.args.pass.now in
    let r = c.requires.removal in
    let x = subst (IsRemoval g.D.Disk f p r.0 c.args.held) c.in-Some.is r.1 in
    let made = c.one_step-made.result in
    record {
      is_pass = x.is_pass;
      right = x.right;
      holding = x.holding;
      may = λ step is.
          subst (MayLogStep g.D.Disk f p (c.args.held ∷ []))
          (sym (in_ok made step (λ s. s ≡ removal_step c.args.held.page c.in-Some.page) is
          c.one_step-made.ensures.step))
          (removal_may_log g.D.Disk f p r.0 c.args.held c.in-Some.page x
          (on_made made step (c.args.held.page < page_limit) is c.one_step-made.ensures.low) remove_items_may
          c.left_leaf_may_be_logged.ensures);
    }

pub returns : goal.returns
returns g c =
    let f = c.args.frames.now in
    let p = c.args.pass.now in
    let h = c.log_one.new.frames in
    let q = c.log_one.new.pass in
    let held = c.args.held in
    let cleaned = c.args.cleaned in
    let made = c.one_step-made.result in
    let e = c.log_one.ensures in
    record {
      none_held = e.none_held;
      cleaned = on_ok c.log_one.result (LogsMade g.D.Disk f p (held ∷ []) made h q)
          ((dead : List ℕ) → IsRemoval g.D.Disk f p dead held cleaned → HasCleaned g.D.Disk f p h q held cleaned)
          (λ l dead r.
          subst (HasCleaned g.D.Disk f p h q held) (sym c.in-Some.is)
          (removal_logged g.D.Disk f p held c.in-Some.page made c.one_step-made.ensures.step h q l)) e.logged;
      refused = e.refused;
      cause = e.cause;
      fine = e.fine;
      fault = e.fault;
    }
