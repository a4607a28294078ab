use Rattle.std.proofs.Common.{◌≡◌, [], ◌∷◌, sym, subst}
use Rattle.std.proofs.lemmas.Result.{err_from_is_err_and}
use Rattle.page_types.specs.declared.page.Page.{Page}
use Rattle.page_types.specs.declared.page.Body.TheVariants as body
use Rattle.core_state.specs.States.{StateTells}
use Rattle.buffer_frames.specs.Frames.{Lies}
use Rattle.buffer_frames.specs.Passes.{IsHolding, Seen}
use Rattle.buffer_frames.proofs.Exits.{on_refusal}
use Rattle.gin_place.specs.Causes.{Finds, CannotUse}
use Rattle.gin_place.specs.Faults.{MetNoFault, FaultBy}
use Rattle.gin_place.specs.declared.error.PlaceError.TheVariants.{BadPage}
use Rattle.gin_place.proofs.Carrying.{reads_in_turn, right_on}
use Rattle.gin_place.proofs.Causing.{at_exit, finds_now}
use Rattle.gin_place.proofs.Exits.{no_ok, none_ok}
use Rattle.gin_place.proofs.Faults.{calm_fine, fine_then}
use Rattle.gin_cleanup.specs.Going.{IsCause}
use Rattle.gin_cleanup.proofs.Causes.{bad_meta, meta_cause}
use Rattle.gin_cleanup.proofs.first_page.hold_meta.Goals as goal

pub hold_seen-requires : goal.hold_seen-requires
hold_seen-requires g c = record { pass = c.requires.pass; right = c.requires.right; none = c.requires.none }

pub returns-in_err-held : goal.returns-in_err-held
returns-in_err-held g c =
    let r = c.from_residual.result in
    let p = err_from_is_err_and r c.from_residual.ensures.1 in
    let w = c.in_err-held.field-0.0 in
    let e = c.in_err-held.ensures in
    let f = c.args.frames.now in
    let last = c.hold_seen.new.frames in
    let pass = c.hold_seen.new.pass in
    record {
      reads = c.hold_seen.ensures.reads;
      holding = none_ok r p.0 (λ x. IsHolding g.D.Disk last pass (x.0 ∷ [])) p.1;
      number = none_ok r p.0 (λ x. (x.0).page ≡ 0) p.1;
      names = none_ok r p.0 (λ x. (x.0).content.body ≡ body.Meta (x.1).first (x.1).last (x.1).pages) p.1;
      seen = none_ok r p.0 (λ x. Seen g.D.Disk last pass (λ S P. P (x.0).page ≡ (x.0).content)) p.1;
      told = no_ok r p.0 (Seen g.D.Disk last pass (λ S P. StateTells S last.journal.state)) p.1;
      still = on_refusal _ r e.still;
      cause = at_exit (λ x. Finds g.D.Disk f c.args.pass.now (IsCause g.D.Disk last x)) r p.0 w p.1 p.2
          (meta_cause g.D.Disk last w f c.args.pass.now e.cause);
      fine = no_ok r p.0 (MetNoFault g.D.Disk f last) p.1;
      fault = at_exit (λ x. FaultBy g.D.Disk f last x) r p.0 w p.1 p.2 e.fault;
    }

pub returns-in-Some : goal.returns-in-Some
returns-in-Some g c =
    let e = c.in_ok-held.ensures in
    record {
      reads = c.hold_seen.ensures.reads;
      holding = e.holding;
      number = e.number;
      names = subst (λ (p : Page). p.body
          ≡ body.Meta c.in-Some.names.first c.in-Some.names.last c.in-Some.names.pages) c.page.ensures.value
          c.in-Some.ensures.some;
      seen = e.seen;
      told = e.told;
      still = tt;
      cause = tt;
      fine = e.fine;
      fault = tt;
    }

pub release-requires : goal.release-requires
release-requires g c =
    let works = c.hold_seen.ensures.reads.works in
    record {
      pass = works.is_pass;
      right = right_on g.D.Disk c.args.frames.now c.hold_seen.new.frames c.args.pass.now c.hold_seen.new.pass []
          c.requires.right works;
      holding = ([], c.in_ok-held.ensures.holding);
    }

pub returns-in-None : goal.returns-in-None
returns-in-None g c =
    let f = c.args.frames.now in
    let last = c.release.new.frames in
    let lies = subst (Lies f 0) (sym c.page.ensures.value) c.in_ok-held.ensures.lies in
    record {
      reads = reads_in_turn g.D.Disk f c.hold_seen.new.frames last c.args.pass.now c.hold_seen.new.pass
          c.release.new.pass c.hold_seen.ensures.reads c.release.ensures.reads;
      holding = tt;
      number = tt;
      names = tt;
      seen = tt;
      told = tt;
      still = sym (c.release.ensures.holding [] c.in_ok-held.ensures.holding).all;
      cause = finds_now g.D.Disk f c.args.pass.now (IsCause g.D.Disk last (BadPage 0)) c.requires.pass
          (bad_meta g.D.Disk f c.args.pass.now c.requires.pass
          (CannotUse.other c.page.result.now c.page.ensures.is_page lies c.in-None.ensures.none));
      fine = tt;
      fault = fine_then g.D.Disk f c.hold_seen.new.frames last c.in_ok-held.ensures.fine
          (calm_fine g.D.Disk c.hold_seen.new.frames last c.release.ensures.calm);
    }
