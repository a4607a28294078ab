use Rattle.std.proofs.Common.{[], Err, sym, ap, subst, ◌∙◌, ℕ, suc, ◌≡◌}
use Rattle.std.proofs.lemmas.Result.{err_from_is_err_and}
use Rattle.core_state.proofs.LawsHold.{steady, pages}
use Rattle.core_maintenance.proofs.Lists.{line_holds, right_keeps_line}
use Rattle.buffer_frames.specs.Frames.{Lies}
use Rattle.buffer_frames.proofs.AtHand.{none_held}
use Rattle.gin_place.specs.Causes.{Finds, CannotUse}
use Rattle.gin_place.specs.Faults.{FaultBy, MetNoFault}
use Rattle.gin_place.proofs.Carrying.{reads_in_turn, right_on}
use Rattle.gin_place.proofs.Causing.{at_exit, finds_now}
use Rattle.gin_place.proofs.Faults.{calm_fine, fine_then}
use Rattle.gin_place.specs.declared.error.PlaceError.TheVariants.{BadPage, OutOfMemory}
use Rattle.gin_place.proofs.Exits.{no_ok}
use Rattle.gin_vacuum.specs.Inner.Unlinked.{IsWalk}
use Rattle.gin_vacuum.specs.Unlinked.{IsRowPage, CannotList}
use Rattle.gin_vacuum.proofs.ListCauses.{bad_rows, list_cause}
use Rattle.gin_vacuum.proofs.WalkRead.{walk_noted, noted_true, no_rows, one_less}
use Rattle.gin_vacuum.proofs.unlinked.Walk.read.Goals as goal

pub release-requires : goal.release-requires
release-requires g c = record {
  pass = c.hold_seen.ensures.reads.works.is_pass;
  right = right_on g.D.Disk c.args.frames.now c.hold_seen.new.frames c.args.pass.now c.hold_seen.new.pass []
      c.requires.right
      c.hold_seen.ensures.reads.works;
  holding = ([], c.in_ok-held.ensures.holding);
}

pub returns-in_err-held : goal.returns-in_err-held
returns-in_err-held g c =
    let out = c.from_residual.result in
    let why = err_from_is_err_and out c.from_residual.ensures.1 in
    record {
      walk =
          no_ok out why.0 ((from floor : ℕ)
          → IsWalk g.D.Disk c.args.frames.now c.args.pass.now from floor c.args.dead.now c.args.self.now
          → IsWalk g.D.Disk c.hold_seen.new.frames c.hold_seen.new.pass from floor c.args.dead.now c.args.self.now)
          why.1;
      lower =
          no_ok out why.0 (suc c.args.self.now.left ≡ c.args.self.now.left) why.1;
      reads = c.hold_seen.ensures.reads;
      none_held = c.in_err-held.ensures.still;
      cause = let f = c.args.frames.now in
          let p = c.args.pass.now in
          let x = c.requires.walk in
          let page = c.args.self.now.page in
          let w = c.in_err-held.field-0.0 in
          at_exit (λ x. Finds g.D.Disk f p
          (CannotList g.D.Disk c.hold_seen.new.frames x)) out why.0 w why.1 why.2
          (list_cause g.D.Disk c.hold_seen.new.frames IsRowPage page w f p c.requires.pass
          (bad_rows g.D.Disk pages right_keeps_line f p []
          (none_held g.D.Disk f p c.requires.pass c.requires.none) c.requires.pass c.requires.right x.0 x.1
          c.args.dead.now
          page c.args.self.now.left c.args.self.now.met.items x.2 c.requires.some)
          (λ n same. c.hold_seen.ensures.bad n (c.in_err-held.was ∙ ap Err same)) c.in_err-held.ensures.cause);
      fine =
          no_ok out why.0 (MetNoFault g.D.Disk c.args.frames.now c.hold_seen.new.frames) why.1;
      fault = at_exit (λ x. FaultBy g.D.Disk c.args.frames.now c.hold_seen.new.frames x) out why.0
          c.in_err-held.field-0.0 why.1 why.2 c.in_err-held.ensures.fault;
    }

pub returns-in-Ok-true : goal.returns-in-Ok-true
returns-in-Ok-true g c = record {
  walk = λ from floor was.
      walk_noted g.D.Disk steady line_holds c.args.frames.now c.hold_seen.new.frames
      c.release.new.frames c.args.pass.now c.hold_seen.new.pass c.release.new.pass c.in_ok-held.held c.requires.pass
      c.requires.right c.requires.none c.hold_seen.ensures.reads c.in_ok-held.ensures.holding c.release.ensures.reads
      c.in_ok-held.ensures.seen c.args.self.now c.note-noted.new.self c.in_ok-held.ensures.number c.requires.some
      c.page.result.now c.page.ensures.value c.args.dead.now
      (noted_true c.note-noted.result c.page.result.now c.args.dead.now c.args.self.now c.note-noted.new.self
      (cc (c.in-Ok-true.is, c.in-Ok-true.field-0-test)) c.note-noted.ensures) from floor was;
  lower = one_less c.page.result.now c.args.dead.now c.args.self.now c.note-noted.new.self
      (noted_true c.note-noted.result c.page.result.now c.args.dead.now c.args.self.now c.note-noted.new.self
      (cc (c.in-Ok-true.is, c.in-Ok-true.field-0-test)) c.note-noted.ensures);
  reads = reads_in_turn g.D.Disk c.args.frames.now c.hold_seen.new.frames c.release.new.frames c.args.pass.now
      c.hold_seen.new.pass c.release.new.pass c.hold_seen.ensures.reads c.release.ensures.reads;
  none_held = sym (c.release.ensures.holding [] c.in_ok-held.ensures.holding).all;
  cause = tt;
  fine = fine_then g.D.Disk c.args.frames.now c.hold_seen.new.frames c.release.new.frames c.in_ok-held.ensures.fine
      (calm_fine g.D.Disk c.hold_seen.new.frames c.release.new.frames c.release.ensures.calm);
  fault = tt;
}

pub returns-in-Ok-false : goal.returns-in-Ok-false
returns-in-Ok-false g c = record {
  walk = tt;
  lower = tt;
  reads = reads_in_turn g.D.Disk c.args.frames.now c.hold_seen.new.frames c.release.new.frames c.args.pass.now
      c.hold_seen.new.pass c.release.new.pass c.hold_seen.ensures.reads c.release.ensures.reads;
  none_held = sym (c.release.ensures.holding [] c.in_ok-held.ensures.holding).all;
  cause = let f = c.args.frames.now in
      let p = c.args.pass.now in
      let x = c.requires.walk in
      let page = c.args.self.now.page in
      let lies = subst (Lies f page) (sym c.page.ensures.value) c.in_ok-held.ensures.lies in
      finds_now g.D.Disk f p (CannotList g.D.Disk c.release.new.frames (BadPage page)) c.requires.pass
      (bad_rows g.D.Disk pages right_keeps_line f p []
      (none_held g.D.Disk f p c.requires.pass c.requires.none) c.requires.pass c.requires.right x.0 x.1 c.args.dead.now
      page c.args.self.now.left c.args.self.now.met.items x.2 c.requires.some
      (CannotUse.other c.page.result.now c.page.ensures.is_page lies
      (no_rows c.note-noted.result c.page.result.now c.args.dead.now c.args.self.now c.note-noted.new.self
      (cc (c.in-Ok-false.is, c.in-Ok-false.field-0-test)) c.note-noted.ensures)));
  fine = tt;
  fault = fine_then g.D.Disk c.args.frames.now c.hold_seen.new.frames c.release.new.frames c.in_ok-held.ensures.fine
      (calm_fine g.D.Disk c.hold_seen.new.frames c.release.new.frames c.release.ensures.calm);
}

pub returns-in-Err : goal.returns-in-Err
returns-in-Err g c = record {
  walk = tt;
  lower = tt;
  reads = reads_in_turn g.D.Disk c.args.frames.now c.hold_seen.new.frames c.release.new.frames c.args.pass.now
      c.hold_seen.new.pass c.release.new.pass c.hold_seen.ensures.reads c.release.ensures.reads;
  none_held = sym (c.release.ensures.holding [] c.in_ok-held.ensures.holding).all;
  cause = finds_now g.D.Disk c.args.frames.now c.args.pass.now (CannotList g.D.Disk c.release.new.frames OutOfMemory)
      c.requires.pass tt;
  fine = tt;
  fault = fine_then g.D.Disk c.args.frames.now c.hold_seen.new.frames c.release.new.frames c.in_ok-held.ensures.fine
      (calm_fine g.D.Disk c.hold_seen.new.frames c.release.new.frames c.release.ensures.calm);
}
