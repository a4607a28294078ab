use Rattle.std.proofs.Common.{◌≡◌, ◌∙◌, List, [], ◌∷◌, refl, sym, subst}
use Rattle.std.proofs.lemmas.Result.{err_from_is_err_and}
use Rattle.std.proofs.lemmas.Bool.{false≢true}
use Rattle.core_state.specs.Allowed.{Sheet}
use Rattle.buffer_frames.specs.Frames.{Lies}
use Rattle.buffer_frames.specs.Passes.{IsHolding}
use Rattle.buffer_frames.proofs.Exits.{on_refusal}
use Rattle.gin_place.specs.Causes.{Finds, CannotUse}
use Rattle.gin_place.specs.Faults.{MetNoFault, FaultBy}
use Rattle.gin_place.specs.Holding.{HoldsNoMore}
use Rattle.gin_place.specs.declared.error.PlaceError.TheVariants.{BadPage}
use Rattle.gin_place.proofs.Carrying.{reads_in_turn, right_on}
use Rattle.gin_place.proofs.Causing.{at_exit, finds_now, weaker}
use Rattle.gin_place.proofs.Exits.{no_ok, none_ok}
use Rattle.gin_place.proofs.Faults.{calm_fine, fine_then}
use Rattle.gin_vacuum.specs.Stepping.{IsCause, IsEmptyPage}
use Rattle.gin_vacuum.specs.Inner.Deleting.{IsBadAround}
use Rattle.gin_vacuum.proofs.SweepCauses.{hold_cause}
use Rattle.gin_vacuum.proofs.deleting.hold_empty.Goals as goal

pub hold_page-requires : goal.hold_page-requires
hold_page-requires g c = record { pass = c.requires.pass; right = c.requires.right; few = c.requires.few }

pub returns-in_err-leaf : goal.returns-in_err-leaf
returns-in_err-leaf g c =
    let x = c.from_residual.result in
    let r = err_from_is_err_and x c.from_residual.ensures.1 in
    let w = c.in_err-leaf.field-0.0 in
    let e = c.args.empty in
    let f = c.args.frames.now in
    let p = c.args.pass.now in
    let l = c.hold_page.new.frames in
    let q = c.hold_page.new.pass in
    record {
      reads = c.hold_page.ensures.reads;
      holding = none_ok x r.0 (λ h. (held : List Sheet) → IsHolding g.D.Disk f p held
          → IsHolding g.D.Disk l q (h ∷ held)) r.1;
      leaf = none_ok x r.0 (λ h. (h.page ≡ e.page) × IsEmptyPage e h.content) r.1;
      still = on_refusal (HoldsNoMore g.D.Disk f p l q) x c.in_err-leaf.ensures.still;
      cause = at_exit (λ y. Finds g.D.Disk f p (IsCause g.D.Disk (IsBadAround g.D.Disk e) l y)) x r.0 w r.1 r.2
          (finds_now g.D.Disk f p (IsCause g.D.Disk (IsBadAround g.D.Disk e) l w) c.requires.pass
          (hold_cause g.D.Disk (IsBadAround g.D.Disk e) e.page l w f p
          (λ cannot.
          let bad = weaker f (IsEmptyPage e) e.page cannot in
          IsBadAround.leaf refl bad (c.requires.lawful bad)) c.in_err-leaf.ensures.cause));
      fine = no_ok x r.0 (MetNoFault g.D.Disk f l) r.1;
      fault = at_exit (λ y. FaultBy g.D.Disk f l y) x r.0 w r.1 r.2 c.in_err-leaf.ensures.fault;
    }

pub release-requires : goal.release-requires
release-requires g c =
    let works = c.hold_page.ensures.reads.works in
    record {
      pass = works.is_pass;
      right = right_on g.D.Disk c.args.frames.now c.hold_page.new.frames c.args.pass.now c.hold_page.new.pass []
          c.requires.right works;
      holding = (c.requires.holding.0, c.in_ok-leaf.ensures.holding c.requires.holding.0 c.requires.holding.1);
    }

pub returns-then-not-is_empty_leaf : goal.returns-then-not-is_empty_leaf
returns-then-not-is_empty_leaf g c =
    let e = c.args.empty in
    let f = c.args.frames.now in
    let p = c.args.pass.now in
    let l = c.hold_page.new.frames in
    let h = c.release.new.frames in
    let held = c.requires.holding.0 in
    let was = c.requires.holding.1 in
    let off : IsEmptyPage e c.page.result.now → ⊥ =
    λ is. false≢true (sym c.if-not-is_empty_leaf.true ∙ c.is_empty_leaf.ensures.1 is) in
    let lies = subst (Lies f e.page) (sym c.page.ensures.value) c.in_ok-leaf.ensures.lies in
    let cannot : CannotUse f (IsEmptyPage e) e.page =
    CannotUse.other c.page.result.now c.page.ensures.is_page lies off in
    record {
      reads = reads_in_turn g.D.Disk f l h p c.hold_page.new.pass c.release.new.pass c.hold_page.ensures.reads
          c.release.ensures.reads;
      holding = tt;
      leaf = tt;
      still = record {
        holding = λ other o. c.release.ensures.holding other (c.in_ok-leaf.ensures.holding other o);
        held = sym (c.release.ensures.holding held (c.in_ok-leaf.ensures.holding held was)).all ∙ was.all;
      };
      cause = finds_now g.D.Disk f p (IsCause g.D.Disk (IsBadAround g.D.Disk e) h (BadPage e.page)) c.requires.pass
          (IsBadAround.leaf refl cannot (c.requires.lawful cannot));
      fine = tt;
      fault = fine_then g.D.Disk f l h c.in_ok-leaf.ensures.fine (calm_fine g.D.Disk l h c.release.ensures.calm);
    }

pub returns : goal.returns
returns g c =
    let e = c.in_ok-leaf.ensures in
    record {
      reads = c.hold_page.ensures.reads;
      holding = e.holding;
      leaf = (
        e.number,
        subst (IsEmptyPage c.args.empty) c.page.ensures.value (c.is_empty_leaf.ensures.0 c.if-not-is_empty_leaf.false),
      );
      still = tt;
      cause = tt;
      fine = e.fine;
      fault = tt;
    }
