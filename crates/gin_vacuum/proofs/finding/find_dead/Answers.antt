use Rattle.std.proofs.Common.{◌≡◌, ℕ, [], sym, subst, true, false}
use Rattle.std.proofs.lemmas.Result.{err_from_is_err_and}
use Rattle.gin_place.specs.Causes.{Finds, NoBadPage}
use Rattle.gin_place.specs.Faults.{MetNoFault, FaultBy}
use Rattle.gin_place.proofs.Carrying.{reads_in_turn, right_on}
use Rattle.gin_place.proofs.Causing.{at_exit, finds_after, lawful_before}
use Rattle.gin_place.proofs.Exits.{no_ok, none_ok}
use Rattle.gin_place.proofs.Faults.{fine_then, told_then}
use Rattle.gin_vacuum.specs.Causes.{CannotRead}
use Rattle.gin_vacuum.specs.Finding.{IsFloor, HasFoundDead, pages_left}
use Rattle.gin_vacuum.proofs.ReadHeap.{nearer_end}
use Rattle.gin_vacuum.proofs.Begun.{zero_floor}
use Rattle.gin_vacuum.proofs.HeapCauses.{found_dead}
use Rattle.gin_vacuum.proofs.finding.find_dead.Goals as goal

pub begin-requires : goal.begin-requires
begin-requires g c = record { pass = c.requires.pass; right = c.requires.right; none = c.requires.none }

pub returns-in_err-finding : goal.returns-in_err-finding
returns-in_err-finding g c =
    let x = c.from_residual.result in
    let r = err_from_is_err_and x c.from_residual.ensures.1 in
    let w = c.in_err-finding.field-0.0 in
    let f = c.args.frames.now in
    let p = c.args.pass.now in
    let l = c.begin.new.frames in
    let q = c.begin.new.pass in
    let e = c.in_err-finding.ensures in
    record {
      dead = none_ok x r.0 (λ s. (floor : ℕ) → IsFloor f floor → HasFoundDead g.D.Disk l q p.seen floor s) r.1;
      reads = c.begin.ensures.reads;
      none_held = c.begin.ensures.none_held;
      cause = at_exit (λ y. Finds g.D.Disk f p (CannotRead g.D.Disk l y)) x r.0 w r.1 r.2 e.cause;
      lawful = at_exit (NoBadPage g.D.Disk f) x r.0 w r.1 r.2 e.lawful;
      fine = no_ok x r.0 (MetNoFault g.D.Disk f l) r.1;
      fault = at_exit (λ y. FaultBy g.D.Disk f l y) x r.0 w r.1 r.2 e.fault;
    }

pub loop-more-init : goal.loop-more-init
loop-more-init g c =
    let e = c.in_ok-finding.ensures in
    record {
      reads = c.begin.ensures.reads;
      none_held = c.begin.ensures.none_held;
      fine = e.fine;
      finding = e.finding;
      ended = λ no. absurd (let z : true ≡ false = no in let y : ⊥ = cc in y);
    }

pub step-requires : goal.step-requires
step-requires g c =
    let was = c.loop-more.invariant in
    record {
      pass = was.reads.works.is_pass;
      right = right_on g.D.Disk c.args.frames.now c.loop-more.frames c.args.pass.now c.loop-more.pass []
          c.requires.right was.reads.works;
      none = was.none_held;
      finding = (c.args.pass.now.seen, 0, was.finding 0 (zero_floor c.args.frames.now));
    }

pub loop-more-preserved : goal.loop-more-preserved
loop-more-preserved g c =
    let was = c.loop-more.invariant in
    let e = c.in_ok-more.ensures in
    record {
      reads =
          reads_in_turn g.D.Disk c.args.frames.now c.loop-more.frames c.step.new.frames c.args.pass.now c.loop-more.pass
          c.step.new.pass was.reads c.step.ensures.reads;
      none_held = c.step.ensures.none_held;
      fine = fine_then g.D.Disk c.args.frames.now c.loop-more.frames c.step.new.frames was.fine e.fine;
      finding = λ floor is. c.step.ensures.finding c.args.pass.now.seen floor (was.finding floor is);
      ended = λ no. e.ends.0 no;
    }

pub loop-more-smaller : goal.loop-more-smaller
loop-more-smaller g c =
    nearer_end c.loop-more.more c.in_ok-more.more (pages_left c.loop-more.finding)
    (pages_left c.step.new.self) c.loop-more-test.true
    (λ more. c.in_ok-more.ensures.lower more)

pub returns-in_err-more : goal.returns-in_err-more
returns-in_err-more g c =
    let x = c.from_residual-in_err-more.result in
    let r = err_from_is_err_and x c.from_residual-in_err-more.ensures.1 in
    let w = c.in_err-more.field-0.0 in
    let f = c.args.frames.now in
    let p = c.args.pass.now in
    let l = c.loop-more.frames in
    let q = c.loop-more.pass in
    let h = c.step.new.frames in
    let was = c.loop-more.invariant in
    let e = c.in_err-more.ensures in
    record {
      dead = none_ok x r.0 (λ s. (floor : ℕ) → IsFloor f floor
          → HasFoundDead g.D.Disk h c.step.new.pass p.seen floor s) r.1;
      reads = reads_in_turn g.D.Disk f l h p q c.step.new.pass was.reads c.step.ensures.reads;
      none_held = c.step.ensures.none_held;
      cause = at_exit (λ y. Finds g.D.Disk f p (CannotRead g.D.Disk h y)) x r.0 w r.1 r.2
          (finds_after g.D.Disk f l p q (CannotRead g.D.Disk h w) was.reads.works was.fine e.cause);
      lawful = at_exit (NoBadPage g.D.Disk f) x r.0 w r.1 r.2
          (lawful_before g.D.Disk f l p q was.reads.works was.fine w e.lawful);
      fine = no_ok x r.0 (MetNoFault g.D.Disk f h) r.1;
      fault = at_exit (λ y. FaultBy g.D.Disk f h y) x r.0 w r.1 r.2 (told_then g.D.Disk f l h w was.fine e.fault);
    }

pub new-requires : goal.new-requires
new-requires g c = (c.loop-more.invariant.finding 0 (zero_floor c.args.frames.now)).are_items

pub returns : goal.returns
returns g c =
    let was = c.loop-more.invariant in
    record {
      dead = λ floor is.
          subst (HasFoundDead g.D.Disk c.loop-more.frames c.loop-more.pass c.args.pass.now.seen floor)
          (sym c.new.ensures)
          (found_dead g.D.Disk c.loop-more.frames c.loop-more.pass c.args.pass.now.seen floor c.loop-more.finding.next
          c.loop-more.finding.items.items (was.ended c.loop-more-test.false) (was.finding floor is));
      reads = was.reads;
      none_held = was.none_held;
      cause = tt;
      lawful = tt;
      fine = was.fine;
      fault = tt;
    }
