use Rattle.std.proofs.Common.{◌≡◌, ◌≢◌, List, [], ◌∷◌, Err, refl, sym, subst, ◌∙◌, inl, inr, arith, rules}
use Rattle.std.specs.Prelude.{Option, Some, None, IfSome, IfNone}
use Rattle.std.proofs.lemmas.Result.{err_from_is_err_and}
use Rattle.core_state.specs.Allowed.{Sheet}
use Rattle.page_space.specs.Taking.{IsTaken, HasNoPage}
use Rattle.page_space.proofs.NewPages.{taken_new}
use Rattle.buffer_frames.specs.Passes.{IsHolding}
use Rattle.buffer_frames.proofs.Exits.{on_refusal, one_error}
use Rattle.gin_place.specs.Causes.{Finds, IsBadNew, IsWhy, CannotHold}
use Rattle.gin_place.specs.Faults.{MetNoFault, FaultBy}
use Rattle.gin_place.specs.Holding.{HoldsNoMore, HoldsMore, IsNewHeld}
use Rattle.gin_place.specs.Inner.Asked.{new_page_answer}
use Rattle.gin_place.specs.declared.error.PlaceError.{PlaceError}
use Rattle.gin_place.specs.declared.error.PlaceError.TheVariants.{StoreFull, Down}
use Rattle.gin_place.proofs.Carrying.{reads_in_turn, right_on, new_held, no_more, no_more_in_turn}
use Rattle.gin_place.proofs.Causing.{at_exit, finds_now, hold_why, ok_not_err, bad_not_full, down_not_full}
use Rattle.gin_place.proofs.Exits.{no_ok, none_ok}
use Rattle.gin_place.proofs.Faults.{calm_then, calm_fine, fine_still, fine_then, told_then, down_told}
use Rattle.gin_place.proofs.holding.take_page.Goals as goal

pub ask-requires : goal.ask-requires
ask-requires g c = record { pass = c.requires.pass; right = c.requires.right }

pub returns-in_err-page : goal.returns-in_err-page
returns-in_err-page g c =
    let r = c.from_residual.result in
    let p = err_from_is_err_and r c.from_residual.ensures.1 in
    let w = c.in_err-page.field-0.0 in
    let d = c.in_err-page.ensures.down in
    let f = c.args.frames.now in
    let last = c.ask.new.frames in
    let pass = c.ask.new.pass in
    record {
      reads = c.ask.ensures.reads;
      new = none_ok r p.0 (λ o. IfSome o (λ h. HoldsMore g.D.Disk f c.args.pass.now last pass h
          × IsNewHeld g.D.Disk last pass h × (h.page ≢ 0))) p.1;
      taken = none_ok r p.0 (λ o. IfSome o (λ h. IsTaken last.journal.state pass.since h.page)) p.1;
      old = none_ok r p.0 (λ o. IfNone o (HoldsNoMore g.D.Disk f c.args.pass.now last pass)) p.1;
      still = on_refusal _ r c.ask.ensures.no_more;
      full = λ full.
          let same = one_error r p.0 StoreFull p.1 full in
          absurd {A = HasNoPage last.journal.state pass.since} (down_not_full d.0 (sym d.1 ∙ sym p.2 ∙ same));
      cause = at_exit (λ x. Finds g.D.Disk f c.args.pass.now (IsWhy g.D.Disk IsBadNew last x)) r p.0 w p.1 p.2
          (subst (λ (x : PlaceError). Finds g.D.Disk f c.args.pass.now (IsWhy g.D.Disk IsBadNew last x)) (sym d.1)
          (finds_now g.D.Disk f c.args.pass.now (IsWhy g.D.Disk IsBadNew last (Down d.0)) c.requires.pass d.2));
      fine = no_ok r p.0 (MetNoFault g.D.Disk f last) p.1;
      fault = at_exit (λ x. FaultBy g.D.Disk f last x) r p.0 w p.1 p.2
          (down_told g.D.Disk f f last w d.0 d.1 (fine_still g.D.Disk f) c.ask.ensures.calm d.2);
    }

-- ── no page is left, or page 0 is taken ──

pub returns-in_default : goal.returns-in_default
returns-in_default g c =
    let f = c.args.frames.now in
    let none : HasNoPage c.ask.new.frames.journal.state c.ask.new.pass.since = search rules in
    let fine = calm_fine g.D.Disk f c.ask.new.frames c.ask.ensures.calm in
    record {
      reads = c.ask.ensures.reads;
      new = tt;
      taken = tt;
      old = tt;
      still = c.ask.ensures.no_more;
      full = λ is. none;
      cause = (
        c.ask.new.frames,
        c.ask.new.pass,
        c.ask.ensures.reads.works,
        fine,
        (c.in_ok-page.ensures.since, none),
      );
      fine = tt;
      fault = fine;
    }

pub returns-then-page-eq0 : goal.returns-then-page-eq0
returns-then-page-eq0 g c =
    let f = c.args.frames.now in
    let taken : IsTaken c.ask.new.frames.journal.state c.ask.new.pass.since c.in-Some.page = search rules in
    let fine = calm_fine g.D.Disk f c.ask.new.frames c.ask.ensures.calm in
    record {
      reads = c.ask.ensures.reads;
      new = tt;
      taken = tt;
      old = tt;
      still = c.ask.ensures.no_more;
      full = λ is. absurd {A = HasNoPage c.ask.new.frames.journal.state c.ask.new.pass.since}
          (bad_not_full c.in-Some.page is);
      cause = (
        c.ask.new.frames,
        c.ask.new.pass,
        c.ask.ensures.reads.works,
        fine,
        record { taken = taken; bad = inl c.if-page-eq0.true },
      );
      fine = tt;
      fault = fine;
    }

-- ── the page is held ──

pub hold_page-requires : goal.hold_page-requires
hold_page-requires g c =
    let works = c.ask.ensures.reads.works in
    record {
      pass = works.is_pass;
      right = right_on g.D.Disk c.args.frames.now c.ask.new.frames c.args.pass.now c.ask.new.pass [] c.requires.right
          works;
      few = omega (arith, c.ask.ensures.no_more.held, c.requires.few);
    }

pub returns-in_err-held : goal.returns-in_err-held
returns-in_err-held g c =
    let r = c.from_residual-in_err-held.result in
    let p = err_from_is_err_and r c.from_residual-in_err-held.ensures.1 in
    let w = c.in_err-held.field-0.0 in
    let f = c.args.frames.now in
    let first = c.ask.new.frames in
    let last = c.hold_page.new.frames in
    let pass = c.hold_page.new.pass in
    let taken : IsTaken first.journal.state c.ask.new.pass.since c.in-Some.page = search rules in
    let fine = calm_fine g.D.Disk f first c.ask.ensures.calm in
    record {
      reads = reads_in_turn g.D.Disk f first last c.args.pass.now c.ask.new.pass pass c.ask.ensures.reads
          c.hold_page.ensures.reads;
      new = none_ok r p.0 (λ o. IfSome o (λ h. HoldsMore g.D.Disk f c.args.pass.now last pass h
          × IsNewHeld g.D.Disk last pass h × (h.page ≢ 0))) p.1;
      taken = none_ok r p.0 (λ o. IfSome o (λ h. IsTaken last.journal.state pass.since h.page)) p.1;
      old = none_ok r p.0 (λ o. IfNone o (HoldsNoMore g.D.Disk f c.args.pass.now last pass)) p.1;
      still = on_refusal _ r
          (no_more_in_turn g.D.Disk f first last c.args.pass.now c.ask.new.pass pass c.ask.ensures.no_more
          c.in_err-held.ensures.still);
      full = λ full.
          let same = one_error r p.0 StoreFull p.1 full in
          absurd {A = HasNoPage last.journal.state pass.since}
          (subst (λ (x : PlaceError). CannotHold g.D.Disk c.in-Some.page last x first c.ask.new.pass) (sym p.2 ∙ same)
          c.in_err-held.ensures.cause);
      cause = at_exit (λ x. Finds g.D.Disk f c.args.pass.now (IsWhy g.D.Disk IsBadNew last x)) r p.0 w p.1 p.2 (
        first,
        c.ask.new.pass,
        c.ask.ensures.reads.works,
        fine,
        hold_why g.D.Disk IsBadNew c.in-Some.page last w first c.ask.new.pass
            (λ bad. record { taken = taken; bad = inr bad }) c.in_err-held.ensures.cause,
      );
      fine = no_ok r p.0 (MetNoFault g.D.Disk f last) p.1;
      fault = at_exit (λ x. FaultBy g.D.Disk f last x) r p.0 w p.1 p.2
          (told_then g.D.Disk f first last w fine c.in_err-held.ensures.fault);
    }

-- ── and it is asked again ──

pub ask-requires-2 : goal.ask-requires-2
ask-requires-2 g c =
    let reads = reads_in_turn g.D.Disk c.args.frames.now c.ask.new.frames c.hold_page.new.frames c.args.pass.now
    c.ask.new.pass c.hold_page.new.pass c.ask.ensures.reads c.hold_page.ensures.reads in
    record {
      pass = reads.works.is_pass;
      right = right_on g.D.Disk c.args.frames.now c.hold_page.new.frames c.args.pass.now c.hold_page.new.pass []
          c.requires.right reads.works;
    }

pub returns-in-Ok-Some : goal.returns-in-Ok-Some
returns-in-Ok-Some g c =
    let f = c.args.frames.now in
    let reads = reads_in_turn g.D.Disk f c.ask.new.frames c.hold_page.new.frames c.args.pass.now c.ask.new.pass
    c.hold_page.new.pass c.ask.ensures.reads c.hold_page.ensures.reads in
    let more : (held : List Sheet) → IsHolding g.D.Disk f c.args.pass.now held
    → IsHolding g.D.Disk c.ask-2.new.frames c.ask-2.new.pass (c.in_ok-held.held ∷ held) =
    λ held h. c.ask-2.ensures.no_more.holding (c.in_ok-held.held ∷ held)
    (c.in_ok-held.ensures.holding held (c.ask.ensures.no_more.holding held h)) in
    let again : new_page_answer (record {}) c.ask-2.new.frames.journal.state c.ask-2.new.pass.floor
    c.ask-2.new.pass.since (Some c.in-Ok-Some.again) = search rules in
    let same : c.in-Ok-Some.again ≡ c.in_ok-held.held.page = search rules in
    let taken = subst (IsTaken c.ask-2.new.frames.journal.state c.ask-2.new.pass.since) same again in
    record {
      reads = reads_in_turn g.D.Disk f c.hold_page.new.frames c.ask-2.new.frames c.args.pass.now c.hold_page.new.pass
          c.ask-2.new.pass reads c.ask-2.ensures.reads;
      new = (
        more,
        new_held g.D.Disk taken_new c.ask-2.new.frames c.ask-2.new.pass c.in_ok-held.held
            c.requires.holding.0 (more c.requires.holding.0 c.requires.holding.1) c.in-Ok-Some.ensures.all taken
            c.in-Ok-Some.ensures.told,
        λ zero. c.if-page-eq0.false (sym c.if-again-page.true ∙ same ∙ zero),
      );
      taken = taken;
      old = tt;
      still = tt;
      full = λ is. absurd {A = HasNoPage c.ask-2.new.frames.journal.state c.ask-2.new.pass.since}
          (ok_not_err (Some c.in_ok-held.held) StoreFull is);
      cause = tt;
      fine = fine_then g.D.Disk f c.ask.new.frames c.ask-2.new.frames
          (calm_fine g.D.Disk f c.ask.new.frames c.ask.ensures.calm)
          (fine_then g.D.Disk c.ask.new.frames c.hold_page.new.frames c.ask-2.new.frames c.in_ok-held.ensures.fine
          (calm_fine g.D.Disk c.hold_page.new.frames c.ask-2.new.frames c.ask-2.ensures.calm));
      fault = tt;
    }

-- ── another page is taken then ──

pub release-requires : goal.release-requires
release-requires g c =
    let reads = reads_in_turn g.D.Disk c.args.frames.now c.ask.new.frames c.hold_page.new.frames c.args.pass.now
    c.ask.new.pass c.hold_page.new.pass c.ask.ensures.reads c.hold_page.ensures.reads in
    let all = reads_in_turn g.D.Disk c.args.frames.now c.hold_page.new.frames c.ask-2.new.frames c.args.pass.now
    c.hold_page.new.pass c.ask-2.new.pass reads c.ask-2.ensures.reads in
    record {
      pass = all.works.is_pass;
      right = right_on g.D.Disk c.args.frames.now c.ask-2.new.frames c.args.pass.now c.ask-2.new.pass []
          c.requires.right all.works;
      holding = (
        c.requires.holding.0,
        c.ask-2.ensures.no_more.holding (c.in_ok-held.held ∷ c.requires.holding.0)
            (c.in_ok-held.ensures.holding c.requires.holding.0
            (c.ask.ensures.no_more.holding c.requires.holding.0 c.requires.holding.1)),
      );
    }

pub returns-in-Ok : goal.returns-in-Ok
returns-in-Ok g c =
    let f = c.args.frames.now in
    let last = c.release.new.frames in
    let reads = reads_in_turn g.D.Disk f c.ask.new.frames c.hold_page.new.frames c.args.pass.now c.ask.new.pass
    c.hold_page.new.pass c.ask.ensures.reads c.hold_page.ensures.reads in
    let all = reads_in_turn g.D.Disk f c.hold_page.new.frames c.ask-2.new.frames c.args.pass.now c.hold_page.new.pass
    c.ask-2.new.pass reads c.ask-2.ensures.reads in
    let more : (held : List Sheet) → IsHolding g.D.Disk f c.args.pass.now held
    → IsHolding g.D.Disk c.ask-2.new.frames c.ask-2.new.pass (c.in_ok-held.held ∷ held) =
    λ held h. c.ask-2.ensures.no_more.holding (c.in_ok-held.held ∷ held)
    (c.in_ok-held.ensures.holding held (c.ask.ensures.no_more.holding held h)) in
    record {
      reads = reads_in_turn g.D.Disk f c.ask-2.new.frames last c.args.pass.now c.ask-2.new.pass c.release.new.pass all
          c.release.ensures.reads;
      new = tt;
      taken = tt;
      old = no_more g.D.Disk f last c.args.pass.now c.release.new.pass
          (λ held h. c.release.ensures.holding held (more held h))
          (let last = c.release.ensures.holding c.requires.holding.0
          (more c.requires.holding.0 c.requires.holding.1) in
          omega (arith, last.all, c.requires.holding.1.all));
      still = tt;
      full = λ is. absurd {A = HasNoPage last.journal.state c.release.new.pass.since}
          (ok_not_err {T = Option Sheet} None StoreFull is);
      cause = tt;
      fine = fine_then g.D.Disk f c.ask.new.frames last (calm_fine g.D.Disk f c.ask.new.frames c.ask.ensures.calm)
          (fine_then g.D.Disk c.ask.new.frames c.hold_page.new.frames last c.in_ok-held.ensures.fine
          (calm_fine g.D.Disk c.hold_page.new.frames last
          (calm_then g.D.Disk c.hold_page.new.frames c.ask-2.new.frames last c.ask-2.ensures.calm
          c.release.ensures.calm)));
      fault = tt;
    }

-- ── or the journal is down ──

pub release-requires-in-Err : goal.release-requires-in-Err
release-requires-in-Err g c =
    let reads = reads_in_turn g.D.Disk c.args.frames.now c.ask.new.frames c.hold_page.new.frames c.args.pass.now
    c.ask.new.pass c.hold_page.new.pass c.ask.ensures.reads c.hold_page.ensures.reads in
    let all = reads_in_turn g.D.Disk c.args.frames.now c.hold_page.new.frames c.ask-2.new.frames c.args.pass.now
    c.hold_page.new.pass c.ask-2.new.pass reads c.ask-2.ensures.reads in
    record {
      pass = all.works.is_pass;
      right = right_on g.D.Disk c.args.frames.now c.ask-2.new.frames c.args.pass.now c.ask-2.new.pass []
          c.requires.right all.works;
      holding = (
        c.requires.holding.0,
        c.ask-2.ensures.no_more.holding (c.in_ok-held.held ∷ c.requires.holding.0)
            (c.in_ok-held.ensures.holding c.requires.holding.0
            (c.ask.ensures.no_more.holding c.requires.holding.0 c.requires.holding.1)),
      );
    }

pub returns-in-Err : goal.returns-in-Err
returns-in-Err g c =
    let f = c.args.frames.now in
    let back = c.release-in-Err in
    let d = c.in-Err.ensures.down in
    let reads = reads_in_turn g.D.Disk f c.ask.new.frames c.hold_page.new.frames c.args.pass.now c.ask.new.pass
    c.hold_page.new.pass c.ask.ensures.reads c.hold_page.ensures.reads in
    let all = reads_in_turn g.D.Disk f c.hold_page.new.frames c.ask-2.new.frames c.args.pass.now c.hold_page.new.pass
    c.ask-2.new.pass reads c.ask-2.ensures.reads in
    let more : (held : List Sheet) → IsHolding g.D.Disk f c.args.pass.now held
    → IsHolding g.D.Disk c.ask-2.new.frames c.ask-2.new.pass (c.in_ok-held.held ∷ held) =
    λ held h. c.ask-2.ensures.no_more.holding (c.in_ok-held.held ∷ held)
    (c.in_ok-held.ensures.holding held (c.ask.ensures.no_more.holding held h)) in
    let fine = fine_then g.D.Disk f c.ask.new.frames c.hold_page.new.frames
    (calm_fine g.D.Disk f c.ask.new.frames c.ask.ensures.calm) c.in_ok-held.ensures.fine in
    record {
      reads = reads_in_turn g.D.Disk f c.ask-2.new.frames back.new.frames c.args.pass.now c.ask-2.new.pass
          back.new.pass all back.ensures.reads;
      new = tt;
      taken = tt;
      old = tt;
      still = no_more g.D.Disk f back.new.frames c.args.pass.now back.new.pass
          (λ held h. back.ensures.holding held (more held h))
          (let last = back.ensures.holding c.requires.holding.0
          (more c.requires.holding.0 c.requires.holding.1) in
          omega (arith, last.all, c.requires.holding.1.all));
      full = λ full. absurd {A = HasNoPage back.new.frames.journal.state back.new.pass.since}
          (down_not_full d.0 (sym d.1 ∙ one_error {T = Option Sheet} (Err c.in-Err.error) c.in-Err.error StoreFull refl
          full));
      cause = (
        c.hold_page.new.frames,
        c.hold_page.new.pass,
        reads.works,
        fine,
        subst (λ (x : PlaceError). IsWhy g.D.Disk IsBadNew back.new.frames x c.hold_page.new.frames
            c.hold_page.new.pass) (sym d.1) d.2,
      );
      fine = tt;
      fault = down_told g.D.Disk f c.hold_page.new.frames back.new.frames c.in-Err.error d.0 d.1 fine
          (calm_then g.D.Disk c.hold_page.new.frames c.ask-2.new.frames back.new.frames c.ask-2.ensures.calm
          back.ensures.calm) d.2;
    }
