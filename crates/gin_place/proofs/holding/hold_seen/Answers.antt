use Rattle.std.proofs.Common.{◌≡◌, [], ◌∷◌, sym, subst, ◌∙◌, arith}
use Rattle.std.proofs.lemmas.Result.{err_from_is_err_and}
use Rattle.std.specs.Prelude.{⊤}
use Rattle.wal.specs.Waiting.{down_of}
use Rattle.page_types.specs.declared.page.Page.{Page}
use Rattle.core_state.specs.PageChoice.{IsLeast, AreBelow}
use Rattle.core_state.specs.States.{StateTells}
use Rattle.buffer_frames.specs.Frames.{Lies}
use Rattle.buffer_frames.specs.Passes.{IsHolding, Seen}
use Rattle.buffer_frames.proofs.AtHand.{none_held}
use Rattle.buffer_frames.proofs.Exits.{on_refusal, one_error}
use Rattle.gin_place.specs.Causes.{Finds, CannotUse, CannotHold}
use Rattle.gin_place.specs.Faults.{MetNoFault, FaultBy}
use Rattle.gin_place.specs.declared.error.PlaceError.{PlaceError}
use Rattle.gin_place.specs.declared.error.PlaceError.TheVariants.{Down, BadPage}
use Rattle.gin_place.proofs.Carrying.{reads_in_turn, right_on, held_seen}
use Rattle.gin_place.proofs.Causing.{at_exit, finds_now}
use Rattle.gin_place.proofs.Exits.{no_ok, none_ok}
use Rattle.gin_place.proofs.Faults.{calm_then, calm_fine, fine_then, down_told}
use Rattle.gin_place.proofs.holding.hold_seen.Goals as goal

pub hold_page-requires : goal.hold_page-requires
hold_page-requires g c =
    record { pass = c.requires.pass; right = c.requires.right; few = omega (arith, c.requires.none) }

pub returns-in_err-held : goal.returns-in_err-held
returns-in_err-held g c =
    let r = c.from_residual.result in
    let p = err_from_is_err_and r c.from_residual.ensures.1 in
    let w = c.in_err-held.field-0.0 in
    let e = c.in_err-held.ensures in
    let f = c.args.frames.now in
    let last = c.hold_page.new.frames in
    let pass = c.hold_page.new.pass in
    record {
      reads = c.hold_page.ensures.reads;
      number = none_ok r p.0 (λ x. (x.0).page ≡ c.args.page) p.1;
      holding = none_ok r p.0 (λ x. IsHolding g.D.Disk last pass (x.0 ∷ [])) p.1;
      seen = none_ok r p.0 (λ x. Seen g.D.Disk last pass (λ S P. P (x.0).page ≡ (x.0).content)) p.1;
      extent = none_ok r p.0 (λ x. IsLeast (AreBelow last.journal.state) x.1) p.1;
      told = no_ok r p.0 (Seen g.D.Disk last pass (λ S P. StateTells S last.journal.state)) p.1;
      lies = none_ok r p.0 (λ x. Lies f c.args.page (x.0).content) p.1;
      down = no_ok r p.0 (down_of last.journal.wal ≡ down_of f.journal.wal) p.1;
      still = on_refusal _ r (e.still.held ∙ c.requires.none);
      cause = at_exit (λ x. Finds g.D.Disk f c.args.pass.now (CannotHold g.D.Disk c.args.page last x)) r p.0 w p.1 p.2
          (finds_now g.D.Disk f c.args.pass.now (CannotHold g.D.Disk c.args.page last w) c.requires.pass e.cause);
      fine = no_ok r p.0 (MetNoFault g.D.Disk f last) p.1;
      fault = at_exit (λ x. FaultBy g.D.Disk f last x) r p.0 w p.1 p.2 e.fault;
      bad = λ n is.
          subst (λ (x : PlaceError). CannotHold g.D.Disk c.args.page last x f c.args.pass.now)
          (sym p.2 ∙ one_error r p.0 (BadPage n) p.1 is) e.cause;
    }

-- ── the page is held ──

pub ask-requires : goal.ask-requires
ask-requires g c =
    let works = c.hold_page.ensures.reads.works in
    record {
      pass = works.is_pass;
      right = right_on g.D.Disk c.args.frames.now c.hold_page.new.frames c.args.pass.now c.hold_page.new.pass []
          c.requires.right works;
    }

pub returns-in-Ok : goal.returns-in-Ok
returns-in-Ok g c =
    let held = c.ask.ensures.no_more.holding (c.in_ok-held.held ∷ [])
    (c.in_ok-held.ensures.holding []
    (none_held g.D.Disk c.args.frames.now c.args.pass.now c.requires.pass c.requires.none)) in
    let fine = fine_then g.D.Disk c.args.frames.now c.hold_page.new.frames c.ask.new.frames c.in_ok-held.ensures.fine
    (calm_fine g.D.Disk c.hold_page.new.frames c.ask.new.frames c.ask.ensures.calm) in
    record {
      reads = reads_in_turn g.D.Disk c.args.frames.now c.hold_page.new.frames c.ask.new.frames c.args.pass.now
          c.hold_page.new.pass c.ask.new.pass c.hold_page.ensures.reads c.ask.ensures.reads;
      number = c.in_ok-held.ensures.number;
      holding = held;
      seen = held_seen g.D.Disk c.ask.new.frames c.ask.new.pass c.in_ok-held.held [] held c.in-Ok.ensures.all;
      extent = c.in-Ok.ensures.answers;
      told = c.in-Ok.ensures.told;
      lies = c.in_ok-held.ensures.lies;
      down = fine.down;
      still = tt;
      cause = tt;
      fine = fine;
      fault = tt;
      bad = λ n is. let both = is in let z : ⊥ = cc in
          absurd {A = (n ≡ c.args.page) × CannotUse c.args.frames.now (λ (x : Page). ⊤) n} z;
    }

-- ── or the journal is down ──

pub release-requires : goal.release-requires
release-requires g c =
    let reads = reads_in_turn g.D.Disk c.args.frames.now c.hold_page.new.frames c.ask.new.frames c.args.pass.now
    c.hold_page.new.pass c.ask.new.pass c.hold_page.ensures.reads c.ask.ensures.reads in
    record {
      pass = reads.works.is_pass;
      right = right_on g.D.Disk c.args.frames.now c.ask.new.frames c.args.pass.now c.ask.new.pass [] c.requires.right
          reads.works;
      holding = (
        [],
        c.ask.ensures.no_more.holding (c.in_ok-held.held ∷ [])
            (c.in_ok-held.ensures.holding []
            (none_held g.D.Disk c.args.frames.now c.args.pass.now c.requires.pass c.requires.none)),
      );
    }

pub returns-in-Err : goal.returns-in-Err
returns-in-Err g c =
    let d = c.in-Err.ensures.down in
    let reads = reads_in_turn g.D.Disk c.args.frames.now c.hold_page.new.frames c.ask.new.frames c.args.pass.now
    c.hold_page.new.pass c.ask.new.pass c.hold_page.ensures.reads c.ask.ensures.reads in
    let held = c.ask.ensures.no_more.holding (c.in_ok-held.held ∷ [])
    (c.in_ok-held.ensures.holding []
    (none_held g.D.Disk c.args.frames.now c.args.pass.now c.requires.pass c.requires.none)) in
    record {
      reads = reads_in_turn g.D.Disk c.args.frames.now c.ask.new.frames c.release.new.frames c.args.pass.now
          c.ask.new.pass c.release.new.pass reads c.release.ensures.reads;
      number = tt;
      holding = tt;
      seen = tt;
      extent = tt;
      told = tt;
      lies = tt;
      down = tt;
      still = sym (c.release.ensures.holding [] held).all;
      cause = (
        c.hold_page.new.frames,
        c.hold_page.new.pass,
        c.hold_page.ensures.reads.works,
        c.in_ok-held.ensures.fine,
        subst (λ (x : PlaceError). CannotHold g.D.Disk c.args.page c.release.new.frames x c.hold_page.new.frames
            c.hold_page.new.pass) (sym d.1) d.2,
      );
      fine = tt;
      fault = down_told g.D.Disk c.args.frames.now c.hold_page.new.frames c.release.new.frames c.in-Err.error d.0 d.1
          c.in_ok-held.ensures.fine
          (calm_then g.D.Disk c.hold_page.new.frames c.ask.new.frames c.release.new.frames c.ask.ensures.calm
          c.release.ensures.calm) d.2;
      bad = λ n is.
          let two : Down d.0 ≡ BadPage n = let e = sym d.1 in let both = is in cc in
          let z : ⊥ = cc in absurd {A = (n ≡ c.args.page) × CannotUse c.args.frames.now (λ (x : Page). ⊤) n} z;
    }
