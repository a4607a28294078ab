use Rattle.std.proofs.Common.{◌≡◌, [], sym, ap, subst, ◌∙◌, Err, ℕ, List}
use Rattle.std.proofs.lemmas.Result.{err_from_is_err_and}
use Rattle.page_types.specs.declared.page.Page.{Page}
use Rattle.page_types.specs.declared.page.Body.TheVariants as body
use Rattle.core_state.proofs.LawsHold.{steady, pages}
use Rattle.core_maintenance.proofs.Lists.{line_holds}
use Rattle.buffer_frames.specs.Frames.{Lies}
use Rattle.gin_place.specs.Causes.{Finds, CannotUse}
use Rattle.gin_place.specs.Faults.{FaultBy, MetNoFault}
use Rattle.gin_place.proofs.Carrying.{reads_in_turn, right_on}
use Rattle.gin_place.proofs.Causing.{at_exit, finds_now}
use Rattle.gin_place.proofs.Faults.{calm_fine, fine_then}
use Rattle.gin_place.specs.declared.error.PlaceError.TheVariants.{BadPage}
use Rattle.gin_place.proofs.Exits.{no_ok, none_ok}
use Rattle.gin_vacuum.specs.Vacuum.{HaveDeadHeads}
use Rattle.gin_vacuum.specs.Unlinked.{IsMetaPage, CannotList}
use Rattle.gin_vacuum.specs.Inner.Unlinked.{IsWalkAt, IsWalk}
use Rattle.gin_vacuum.proofs.ListCauses.{bad_meta, list_cause}
use Rattle.gin_vacuum.proofs.WalkRead.{walk_begun}
use Rattle.gin_vacuum.proofs.unlinked.Walk.begin.Goals as goal

pub returns-in_err-meta : goal.returns-in_err-meta
returns-in_err-meta g c =
    let out = c.from_residual.result in
    let why = err_from_is_err_and out c.from_residual.ensures.1 in
    record {
      walk =
          none_ok out why.0 (λ w. (dead : List ℕ) → HaveDeadHeads g.D.Disk c.args.frames.now c.args.pass.now dead
          → IsWalk g.D.Disk c.hold_seen.new.frames c.hold_seen.new.pass c.args.pass.now.seen c.args.pass.now.floor dead
          w) why.1;
      reads = c.hold_seen.ensures.reads;
      none_held = c.in_err-meta.ensures.still;
      cause = let f = c.args.frames.now in
          let q = c.args.pass.now in
          let w = c.in_err-meta.field-0.0 in
          at_exit (λ x. Finds g.D.Disk f q
          (CannotList g.D.Disk c.hold_seen.new.frames x)) out why.0 w why.1 why.2
          (list_cause g.D.Disk c.hold_seen.new.frames IsMetaPage 0 w f q c.requires.pass
          (bad_meta g.D.Disk pages f q c.requires.pass)
          (λ n same. c.hold_seen.ensures.bad n (c.in_err-meta.was ∙ ap Err same)) c.in_err-meta.ensures.cause);
      fine =
          no_ok out why.0 (MetNoFault g.D.Disk c.args.frames.now c.hold_seen.new.frames) why.1;
      fault = at_exit (λ x. FaultBy g.D.Disk c.args.frames.now c.hold_seen.new.frames x) out why.0
          c.in_err-meta.field-0.0 why.1 why.2 c.in_err-meta.ensures.fault;
    }

pub release-requires : goal.release-requires
release-requires g c = record {
  pass = c.hold_seen.ensures.reads.works.is_pass;
  right = right_on g.D.Disk c.args.frames.now c.hold_seen.new.frames c.args.pass.now c.hold_seen.new.pass []
      c.requires.right
      c.hold_seen.ensures.reads.works;
  holding = ([], c.in_ok-meta.ensures.holding);
}

pub returns-in_default : goal.returns-in_default
returns-in_default g c = record {
  walk = tt;
  reads = reads_in_turn g.D.Disk c.args.frames.now c.hold_seen.new.frames c.release.new.frames c.args.pass.now
      c.hold_seen.new.pass c.release.new.pass c.hold_seen.ensures.reads c.release.ensures.reads;
  none_held = sym (c.release.ensures.holding [] c.in_ok-meta.ensures.holding).all;
  cause = let off : IsMetaPage c.page.result.now → ⊥ = c.in_default.ensures.none in
      let lies = subst (Lies c.args.frames.now 0) (sym c.page.ensures.value) c.in_ok-meta.ensures.lies in
      finds_now g.D.Disk c.args.frames.now c.args.pass.now (CannotList g.D.Disk c.release.new.frames (BadPage 0))
      c.requires.pass
      (bad_meta g.D.Disk pages c.args.frames.now c.args.pass.now c.requires.pass
      (CannotUse.other c.page.result.now c.page.ensures.is_page lies off));
  fine = tt;
  fault = fine_then g.D.Disk c.args.frames.now c.hold_seen.new.frames c.release.new.frames c.in_ok-meta.ensures.fine
      (calm_fine g.D.Disk c.hold_seen.new.frames c.release.new.frames c.release.ensures.calm);
}

pub returns : goal.returns
returns g c = record {
  walk = λ dead heads.
      let first = c.in-Some.page in
      let n = c.in-Some.left in
      let some = c.in-Some.ensures.some in
      subst (IsWalkAt g.D.Disk c.release.new.frames c.release.new.pass c.args.pass.now.seen c.args.pass.now.floor dead
      first n) (sym c.new.ensures.items)
      (walk_begun g.D.Disk steady line_holds c.args.frames.now c.hold_seen.new.frames
      c.release.new.frames c.args.pass.now c.hold_seen.new.pass c.release.new.pass c.in_ok-meta.meta c.requires.pass
      c.requires.right c.requires.none c.hold_seen.ensures.reads c.in_ok-meta.ensures.holding c.release.ensures.reads
      c.in_ok-meta.ensures.seen pages c.in_ok-meta.ensures.number first some.0 n
      (subst (λ (p : Page). p.body ≡ body.Meta first some.0 n) c.page.ensures.value some.1) dead heads);
  reads = reads_in_turn g.D.Disk c.args.frames.now c.hold_seen.new.frames c.release.new.frames c.args.pass.now
      c.hold_seen.new.pass c.release.new.pass c.hold_seen.ensures.reads c.release.ensures.reads;
  none_held = sym (c.release.ensures.holding [] c.in_ok-meta.ensures.holding).all;
  cause = tt;
  fine = fine_then g.D.Disk c.args.frames.now c.hold_seen.new.frames c.release.new.frames c.in_ok-meta.ensures.fine
      (calm_fine g.D.Disk c.hold_seen.new.frames c.release.new.frames c.release.ensures.calm);
  fault = tt;
}
