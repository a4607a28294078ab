use Rattle.std.proofs.Common.{◌≤◌, ◌∙◌, ℕ, List, [], length, refl, sym, ap, subst, arith, Err}
use Rattle.std.proofs.lemmas.Bool.{ltb-false, le-ltb}
use Rattle.std.proofs.lemmas.Result.{err_from_is_err_and}
use Rattle.gin_place.proofs.Carrying.{reads_still, same_added}
use Rattle.gin_place.proofs.Faults.{fine_still}
use Rattle.gin_place.proofs.Stepped.{true_false}
use Rattle.gin_vacuum.specs.Freeing.{IsFreeing, ComesNearer, HasFreed}
use Rattle.gin_vacuum.proofs.FreeCauses.{lawful_cause}
use Rattle.gin_vacuum.proofs.Logs.{reads_vacuum}
use Rattle.gin_vacuum.proofs.freeing.Freeing.step.Goals as goal

pub returns-then-self-items : goal.returns-then-self-items
returns-then-self-items g c = λ began x.
    let f = c.args.frames.now in
    let p = c.args.pass.now in
    let still = reads_vacuum g.D.Disk f f p p
    (reads_still g.D.Disk f p c.requires.pass (same_added g.D.Disk f)).works in
    record {
      freeing = x;
      ends = (
        λ e. subst (λ (is : List ℕ). length is ≤ c.args.self.now.from) c.items-items.ensures.items c.if-self-items.true,
        λ e. refl,
      );
      none_held = c.requires.none;
      works = ([], omega arith, tt, still);
      refused = tt;
      lower = λ e. absurd {A = ComesNearer f f c.args.dead.now c.args.self.now c.args.self.now} (true_false (sym e));
      cause = tt;
      lawful = tt;
      fine = fine_still g.D.Disk f;
      fault = tt;
    }

pub go_on-requires-clause-freeing : goal.go_on-requires-clause-freeing
go_on-requires-clause-freeing g c = (
  c.requires.freeing.0,
  subst (λ (is : List ℕ). IsFreeing g.D.Disk c.args.frames.now c.args.pass.now c.requires.freeing.0 is c.args.self.now)
      (sym c.items-items.ensures.items) c.requires.freeing.1,
)

pub returns-in_err-go_on : goal.returns-in_err-go_on
returns-in_err-go_on g c = λ began x.
    let f = c.args.frames.now in
    let p = c.args.pass.now in
    let h = c.go_on.new.frames in
    let r = c.go_on.new.pass in
    let e = c.items-items.ensures.items in
    let z = err_from_is_err_and c.from_residual.result c.from_residual.ensures.1 in
    let w = c.in_err-go_on.field-0.0 in
    subst (HasFreed g.D.Disk f p h r began c.args.dead.now c.args.self.now c.go_on.new.self) (sym (z.1 ∙ ap Err z.2))
    (record {
      freeing = subst (λ (is : List ℕ). IsFreeing g.D.Disk h r began is c.go_on.new.self) e
          (c.go_on.ensures.freeing began
          (subst (λ (is : List ℕ). IsFreeing g.D.Disk f p began is c.args.self.now) (sym e) x));
      ends = tt;
      none_held = c.go_on.ensures.none_held;
      works = ([], omega arith, tt, c.in_err-go_on.ensures.refused);
      refused = c.in_err-go_on.ensures.refused;
      lower = tt;
      cause = c.in_err-go_on.ensures.cause;
      lawful = lawful_cause g.D.Disk h w f p c.in_err-go_on.ensures.cause;
      fine = tt;
      fault = c.in_err-go_on.ensures.fault;
    })

pub returns : goal.returns
returns g c = λ began x.
    let f = c.args.frames.now in
    let p = c.args.pass.now in
    let h = c.go_on.new.frames in
    let r = c.go_on.new.pass in
    let new = c.go_on.new.self in
    let e = c.items-items.ensures.items in
    let same = λ (is : List ℕ). length is ≤ new.from in
    record {
      freeing = subst (λ (is : List ℕ). IsFreeing g.D.Disk h r began is new) e
          (c.go_on.ensures.freeing began
          (subst (λ (is : List ℕ). IsFreeing g.D.Disk f p began is c.args.self.now) (sym e) x));
      ends = (
        λ no. subst same e (ltb-false new.from (length c.items-items.result.now) no),
        λ le. le-ltb new.from (length c.items-items.result.now) (subst same (sym e) le),
      );
      none_held = c.go_on.ensures.none_held;
      works = c.in_ok-go_on.ensures.works;
      refused = tt;
      lower = λ more.
          subst (λ (is : List ℕ). ComesNearer f h is c.args.self.now new) e c.in_ok-go_on.ensures.lower;
      cause = tt;
      lawful = tt;
      fine = c.in_ok-go_on.ensures.fine;
      fault = tt;
    }
