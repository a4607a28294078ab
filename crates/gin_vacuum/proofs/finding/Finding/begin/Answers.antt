use Rattle.std.proofs.Common.{ℕ, List, [], sym, subst, ◌∙◌}
use Rattle.std.proofs.lemmas.Result.{err_from_is_err_and}
use Rattle.core_maintenance.proofs.Found.{right_keeps_found}
use Rattle.core_state.proofs.LawsHold.{steady, documents, pages}
use Rattle.buffer_frames.proofs.AtHand.{none_held}
use Rattle.gin_place.specs.Causes.{Finds, NoBadPage}
use Rattle.gin_place.specs.Faults.{MetNoFault, FaultBy}
use Rattle.gin_place.specs.Inner.Refusals.{frame_refusal}
use Rattle.gin_place.specs.declared.error.PlaceError.{PlaceError}
use Rattle.gin_place.proofs.Carrying.{reads_by}
use Rattle.gin_place.proofs.Causing.{at_exit, finds_now, look_down}
use Rattle.gin_place.proofs.Exits.{no_ok, none_ok}
use Rattle.gin_place.proofs.Faults.{calm_fine, fine_still, down_told}
use Rattle.gin_place.proofs.Running.{calm_goes}
use Rattle.gin_vacuum.specs.Causes.{CannotRead}
use Rattle.gin_vacuum.specs.Finding.{IsFloor, IsFinding, IsFindingAt}
use Rattle.gin_vacuum.proofs.Begun.{begun, floor_low}
use Rattle.gin_vacuum.proofs.finding.Finding.begin.Goals as goal

pub returns : goal.returns
returns g c =
    let f = c.args.frames.now in
    let p = c.args.pass.now in
    let l = c.look.new.self in
    let q = c.look.new.pass in
    let e = c.look.ensures in
    let n = c.in_ok-next.ensures in
    let next = c.in_ok-next.next in
    let reads = reads_by g.D.Disk right_keeps_found f l p q c.requires.pass c.requires.right e.added e.sees_on e.rises
    e.pass e.keeps.pin e.keeps.room e.keeps.xid e.keeps.work e.pins
    (calm_goes g.D.Disk e.calm e.state e.added e.runs_on e.begins) in
    record {
      finding = λ floor is.
          subst (λ (items : List ℕ). IsFindingAt g.D.Disk l q p.seen floor next items) (sym c.new.ensures.items)
          (begun g.D.Disk steady documents pages f l p q [] (none_held g.D.Disk f p c.requires.pass c.requires.none)
          c.requires.pass c.requires.right reads.works n.seen next n.answers floor
          (floor_low f l floor q.floor is e.runs_on.flushed e.pins n.floor));
      reads = reads;
      none_held = e.keeps.held ∙ c.requires.none;
      cause = tt;
      lawful = tt;
      fine = calm_fine g.D.Disk f l e.calm;
      fault = tt;
    }

pub returns-in_err-next : goal.returns-in_err-next
returns-in_err-next g c =
    let x = c.from_residual.result in
    let r = err_from_is_err_and x c.from_residual.ensures.1 in
    let w = frame_refusal c.in_err-next.field-0.0 in
    let f = c.args.frames.now in
    let p = c.args.pass.now in
    let l = c.look.new.self in
    let q = c.look.new.pass in
    let e = c.look.ensures in
    let d = look_down g.D.Disk f c.look.result c.in_err-next.field-0.0 c.in_err-next.was e.is_down
    c.in_err-next.ensures.error in
    record {
      finding = none_ok x r.0 (λ m. (floor : ℕ) → IsFloor f floor → IsFinding g.D.Disk l q p.seen floor m) r.1;
      reads = reads_by g.D.Disk right_keeps_found f l p q c.requires.pass c.requires.right e.added e.sees_on e.rises
          e.pass e.keeps.pin e.keeps.room e.keeps.xid e.keeps.work e.pins
          (calm_goes g.D.Disk e.calm e.state e.added e.runs_on e.begins);
      none_held = e.keeps.held ∙ c.requires.none;
      cause = at_exit (λ y. Finds g.D.Disk f p (CannotRead g.D.Disk l y)) x r.0 w r.1 r.2
          (subst (λ (y : PlaceError). Finds g.D.Disk f p (CannotRead g.D.Disk l y)) (sym d.1)
          (finds_now g.D.Disk f p (λ f p. _) c.requires.pass d.2));
      lawful = at_exit (NoBadPage g.D.Disk f) x r.0 w r.1 r.2 (subst (NoBadPage g.D.Disk f) (sym d.1) tt);
      fine = no_ok x r.0 (MetNoFault g.D.Disk f l) r.1;
      fault = at_exit (λ y. FaultBy g.D.Disk f l y) x r.0 w r.1 r.2
          (down_told g.D.Disk f f l w d.0 d.1 (fine_still g.D.Disk f) e.calm d.2);
    }
