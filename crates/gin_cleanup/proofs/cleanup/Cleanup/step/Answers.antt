use Rattle.std.proofs.Common.{[], false, not, nat_eq, Err, refl, sym, ap, subst, ◌∙◌, arith}
use Rattle.std.proofs.lemmas.Result.{err_from_is_err_and}
use Rattle.gin_place.proofs.Carrying.{reads_still, same_added}
use Rattle.gin_place.proofs.Faults.{fine_still}
use Rattle.gin_cleanup.specs.Going.{HasCleaned}
use Rattle.gin_cleanup.specs.Measure.{ComesNearer}
use Rattle.gin_cleanup.proofs.Causes.{lawful_cause}
use Rattle.gin_cleanup.proofs.Cleaned.{cleans_by}
use Rattle.gin_cleanup.proofs.Saying.{not_zero, says}
use Rattle.gin_cleanup.proofs.Tests.{not_both}
use Rattle.gin_cleanup.proofs.cleanup.Cleanup.step.Goals as goal

pub returns-then-self-eq0 : goal.returns-then-self-eq0
returns-then-self-eq0 g c = λ from was.
    let f = c.args.frames.now in
    let p = c.args.pass.now in
    record {
      cleaning = was;
      ends = says g.D.Disk f p from c.args.self.now false was (λ e. c.if-self-eq0.true, λ e. refl);
      none_held = c.requires.none;
      works = (
        [],
        omega arith,
        cleans_by g.D.Disk f f p p []
            (reads_still g.D.Disk f p c.requires.pass (same_added g.D.Disk f)).works,
      );
      refused = tt;
      lower = λ e. absurd {A = ComesNearer f f c.args.self.now c.args.self.now} (not_both false e refl);
      cause = tt;
      lawful = tt;
      fine = fine_still g.D.Disk f;
      fault = tt;
    }

pub go_on-requires : goal.go_on-requires
go_on-requires g c = record {
  pass = c.requires.pass;
  right = c.requires.right;
  none = c.requires.none;
  left = omega (arith, c.if-self-eq0.false);
  cleaning = c.requires.cleaning;
}

pub returns-in_err-go_on : goal.returns-in_err-go_on
returns-in_err-go_on g c = λ from was.
    let r = err_from_is_err_and c.from_residual.result c.from_residual.ensures.1 in
    let w = c.in_err-go_on.field-0.0 in
    subst (HasCleaned g.D.Disk c.args.frames.now c.args.pass.now c.go_on.new.frames c.go_on.new.pass from
    c.args.self.now c.go_on.new.self) (sym (r.1 ∙ ap Err r.2)) (record {
      cleaning = c.go_on.ensures.cleaning from was;
      ends = tt;
      none_held = c.go_on.ensures.none_held;
      works = c.in_err-go_on.ensures.works;
      refused = c.in_err-go_on.ensures.refused;
      lower = tt;
      cause = c.in_err-go_on.ensures.cause;
      lawful = lawful_cause g.D.Disk c.go_on.new.frames w c.args.frames.now
          c.args.pass.now c.in_err-go_on.ensures.cause;
      fine = tt;
      fault = c.in_err-go_on.ensures.fault;
    })

pub returns : goal.returns
returns g c = λ from was.
    let then = c.go_on.ensures.cleaning from was in
    record {
      cleaning = then;
      ends = says g.D.Disk c.go_on.new.frames c.go_on.new.pass from c.go_on.new.self
          (not (nat_eq c.go_on.new.self.left 0)) then (not_zero c.go_on.new.self.left);
      none_held = c.go_on.ensures.none_held;
      works = c.in_ok-go_on.ensures.works;
      refused = tt;
      lower = λ e. c.in_ok-go_on.ensures.lower;
      cause = tt;
      lawful = tt;
      fine = c.in_ok-go_on.ensures.fine;
      fault = tt;
    }
