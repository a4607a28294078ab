use Rattle.std.proofs.Common.{◌≤◌, ℕ, [], sym}
use Rattle.std.proofs.lemmas.Result.{err_from_is_err_and}
use Rattle.gin_place.specs.Causes.{Finds, NoBadPage}
use Rattle.gin_place.specs.Faults.{MetNoFault, FaultBy}
use Rattle.gin_place.proofs.Carrying.{reads_in_turn, right_on}
use Rattle.gin_place.proofs.Causing.{at_exit}
use Rattle.gin_place.proofs.Exits.{no_ok, none_ok}
use Rattle.gin_place.proofs.Faults.{calm_fine, fine_then}
use Rattle.gin_cleanup.specs.Cleaning.{IsCleaning}
use Rattle.gin_cleanup.specs.Going.{IsCause}
use Rattle.gin_cleanup.proofs.Cleanings.{begun}
use Rattle.gin_cleanup.proofs.Causes.{lawful_cause}
use Rattle.gin_cleanup.proofs.cleanup.Cleanup.begin.Goals as goal

pub hold_meta-requires : goal.hold_meta-requires
hold_meta-requires g c = record { pass = c.requires.pass; right = c.requires.right; none = c.requires.none }

pub returns-in_err-meta : goal.returns-in_err-meta
returns-in_err-meta g c =
    let f = c.args.frames.now in
    let p = c.args.pass.now in
    let last = c.hold_meta.new.frames in
    let pass = c.hold_meta.new.pass in
    let r = c.from_residual.result in
    let x = err_from_is_err_and r c.from_residual.ensures.1 in
    let w = c.in_err-meta.field-0.0 in
    let e = c.in_err-meta.ensures in
    record {
      cleaning = none_ok r x.0 (λ y. (from : ℕ) × (p.seen ≤ from) × IsCleaning g.D.Disk last pass from y) x.1;
      reads = c.hold_meta.ensures.reads;
      none_held = e.still;
      cause = at_exit (λ y. Finds g.D.Disk f p (IsCause g.D.Disk last y)) r x.0 w x.1 x.2 e.cause;
      lawful = at_exit (NoBadPage g.D.Disk f) r x.0 w x.1 x.2 (lawful_cause g.D.Disk last w f p e.cause);
      fine = no_ok r x.0 (MetNoFault g.D.Disk f last) x.1;
      fault = at_exit (λ y. FaultBy g.D.Disk f last y) r x.0 w x.1 x.2 e.fault;
    }

pub release-requires : goal.release-requires
release-requires g c =
    let works = c.hold_meta.ensures.reads.works in
    record {
      pass = works.is_pass;
      right = right_on g.D.Disk c.args.frames.now c.hold_meta.new.frames c.args.pass.now c.hold_meta.new.pass []
          c.requires.right works;
      holding = ([], c.in_ok-meta.ensures.holding);
    }

pub returns : goal.returns
returns g c =
    let f = c.args.frames.now in
    let p = c.args.pass.now in
    let at = c.hold_meta.new.frames in
    let by = c.hold_meta.new.pass in
    let m = c.in_ok-meta in
    let reads = c.hold_meta.ensures.reads in
    let b = c.release.ensures in
    record {
      cleaning = (
        by.seen,
        reads.works.rises.seen,
        begun g.D.Disk at c.release.new.frames by c.release.new.pass m.meta m.ensures.holding reads.works.is_pass
            (right_on g.D.Disk f at p by [] c.requires.right reads.works) b.reads.works m.names.first m.names.last
            m.names.pages m.ensures.number m.ensures.names m.ensures.seen _ c.new.result c.new-3.result c.new-2.result
            c.new.ensures.items c.new-3.ensures.items c.new-2.ensures,
      );
      reads = reads_in_turn g.D.Disk f at c.release.new.frames p by c.release.new.pass reads b.reads;
      none_held = sym (b.holding [] m.ensures.holding).all;
      cause = tt;
      lawful = tt;
      fine = fine_then g.D.Disk f at c.release.new.frames m.ensures.fine
          (calm_fine g.D.Disk at c.release.new.frames b.calm);
      fault = tt;
    }
