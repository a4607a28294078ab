use Rattle.std.proofs.Common.{◌≡◌, ◌↔◌, ◌<◌, ℕ, List, Bool, true, false, refl, sym, subst, subst₂}
use Rattle.std.proofs.lemmas.Result.{err_from_is_err_and}
use Rattle.std.specs.Prelude.{Option, None}
use Rattle.core_state.proofs.LawsHold.{steady}
use Rattle.gin_place.specs.Causes.{Finds, NoBadPage}
use Rattle.gin_place.specs.Faults.{MetNoFault, FaultBy}
use Rattle.gin_place.proofs.Carrying.{reads_still, same_added}
use Rattle.gin_place.proofs.Causing.{at_exit, finds_now}
use Rattle.gin_place.proofs.Exits.{no_ok, none_ok}
use Rattle.gin_place.proofs.Faults.{fine_still}
use Rattle.gin_place.proofs.Stepped.{true_false}
use Rattle.gin_place.specs.declared.error.PlaceError.TheVariants.{OutOfMemory}
use Rattle.gin_vacuum.specs.Causes.{CannotRead}
use Rattle.gin_vacuum.specs.Finding.{IsFindingAt, left_from, pages_left}
use Rattle.gin_vacuum.proofs.HeapCauses.{lawful_read}
use Rattle.gin_vacuum.proofs.ReadHeap.{found_still, fewer, some_ends, none_is}
use Rattle.gin_vacuum.proofs.finding.Finding.step.Goals as goal

-- ── no page is left ──

pub returns-in_default : goal.returns-in_default
returns-in_default g c =
    let f = c.args.frames.now in
    let m = c.args.self.now in
    record {
      finding = λ from floor was. was;
      ends = (λ e. none_is m.next c.in_default.not-Some, λ e. refl);
      lower = λ more. absurd {A = pages_left m < pages_left m} (true_false (sym more));
      reads = reads_still g.D.Disk f c.args.pass.now c.requires.pass (same_added g.D.Disk f);
      none_held = c.requires.none;
      cause = tt;
      lawful = tt;
      fine = fine_still g.D.Disk f;
      fault = tt;
    }

pub read_dead-requires : goal.read_dead-requires
read_dead-requires g c =
    let found = c.requires.finding in
    let items = c.args.self.now.items.items in
    record {
      pass = c.requires.pass;
      right = c.requires.right;
      none = c.requires.none;
      finding = (
        found.0,
        found.1,
        items,
        subst (λ (n : Option ℕ). IsFindingAt g.D.Disk c.args.frames.now c.args.pass.now found.0 found.1 n items)
            c.in-Some.is found.2,
      );
    }

-- ── the page is not read ──

pub returns-in_err-dead : goal.returns-in_err-dead
returns-in_err-dead g c =
    let x = c.from_residual.result in
    let r = err_from_is_err_and x c.from_residual.ensures.1 in
    let w = c.in_err-dead.field-0.0 in
    let f = c.args.frames.now in
    let p = c.args.pass.now in
    let l = c.read_dead.new.frames in
    let m = c.args.self.now in
    let e = c.in_err-dead.ensures in
    record {
      finding = λ from floor was.
          found_still g.D.Disk steady f l p c.read_dead.new.pass c.requires.pass c.requires.right c.requires.none
          c.read_dead.ensures.reads from floor m.next m.items.items was;
      ends = none_ok x r.0 (λ (more : Bool). (more ≡ false) ↔ (m.next ≡ None)) r.1;
      lower = none_ok x r.0 (λ (more : Bool). more ≡ true → pages_left m < pages_left m) r.1;
      reads = c.read_dead.ensures.reads;
      none_held = c.read_dead.ensures.none_held;
      cause = at_exit (λ y. Finds g.D.Disk f p (CannotRead g.D.Disk l y)) x r.0 w r.1 r.2 e.cause;
      lawful = at_exit (NoBadPage g.D.Disk f) x r.0 w r.1 r.2 (lawful_read g.D.Disk l w f p e.cause);
      fine = no_ok x r.0 (MetNoFault g.D.Disk f l) r.1;
      fault = at_exit (λ y. FaultBy g.D.Disk f l y) x r.0 w r.1 r.2 e.fault;
    }

-- ── what is dead on it is not noted ──

pub returns-in_err-take : goal.returns-in_err-take
returns-in_err-take g c =
    let x = c.from_residual-in_err-take.result in
    let r = err_from_is_err_and x c.from_residual-in_err-take.ensures.1 in
    let f = c.args.frames.now in
    let p = c.args.pass.now in
    let l = c.read_dead.new.frames in
    let q = c.read_dead.new.pass in
    let m = c.args.self.now in
    let new = c.take.new.self in
    let kept = c.in_err-take.ensures.kept in
    record {
      finding = λ from floor was.
          subst₂ (λ (n : Option ℕ) (is : List ℕ). IsFindingAt g.D.Disk l q from floor n is) (sym kept.next)
          (sym kept.items)
          (found_still g.D.Disk steady f l p q c.requires.pass c.requires.right c.requires.none
          c.read_dead.ensures.reads from floor m.next m.items.items was);
      ends = none_ok x r.0 (λ (more : Bool). (more ≡ false) ↔ (new.next ≡ None)) r.1;
      lower = none_ok x r.0 (λ (more : Bool). more ≡ true → pages_left new < pages_left m) r.1;
      reads = c.read_dead.ensures.reads;
      none_held = c.read_dead.ensures.none_held;
      cause = at_exit (λ y. Finds g.D.Disk f p (CannotRead g.D.Disk l y)) x r.0 OutOfMemory r.1 r.2
          (finds_now g.D.Disk f p (CannotRead g.D.Disk l OutOfMemory) c.requires.pass tt);
      lawful = at_exit (NoBadPage g.D.Disk f) x r.0 OutOfMemory r.1 r.2 tt;
      fine = no_ok x r.0 (MetNoFault g.D.Disk f l) r.1;
      fault = at_exit (λ y. FaultBy g.D.Disk f l y) x r.0 OutOfMemory r.1 r.2 c.in_ok-dead.ensures.fine;
    }

-- ── it is ──

pub returns : goal.returns
returns g c =
    let f = c.args.frames.now in
    let p = c.args.pass.now in
    let l = c.read_dead.new.frames in
    let q = c.read_dead.new.pass in
    let items = c.args.self.now.items.items in
    let taken = c.in_ok-take.ensures.taken in
    let e = c.in_ok-dead.ensures in
    record {
      finding = λ from floor was.
          subst₂ (λ (n : Option ℕ) (is : List ℕ). IsFindingAt g.D.Disk l q from floor n is) (sym taken.next)
          (sym taken.items)
          (e.dead from floor items
          (subst (λ (n : Option ℕ). IsFindingAt g.D.Disk f p from floor n items) c.in-Some.is was));
      ends = some_ends c.take.new.self.next c.is_some.result c.is_some.ensures;
      lower = λ more.
          subst₂ (λ (n was : Option ℕ). left_from n < left_from was) (sym taken.next) (sym c.in-Some.is)
          (fewer c.in-Some.page c.in_ok-dead.dead.next e.on.0 e.on.1);
      reads = c.read_dead.ensures.reads;
      none_held = c.read_dead.ensures.none_held;
      cause = tt;
      lawful = tt;
      fine = e.fine;
      fault = tt;
    }
