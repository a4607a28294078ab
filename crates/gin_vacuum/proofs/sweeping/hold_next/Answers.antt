use Rattle.std.proofs.Common.{Err, ℕ, suc, [], ◌∷◌, refl, sym, ap, ◌∙◌, inl, inr, ◌⊎◌, ◌≡◌, ◌<◌}
use Rattle.std.specs.Prelude.{⊤}
use Rattle.std.specs.Option.{unwrap_or}
use Rattle.std.proofs.lemmas.Result.{err_from_is_err_and}
use Rattle.page_types.specs.declared.page.Page.{Page}
use Rattle.core_state.specs.PageChoice.{IsLeast, AreBelow}
use Rattle.core_state.specs.States.{StateTells}
use Rattle.buffer_frames.specs.Frames.{Lies}
use Rattle.buffer_frames.specs.Passes.{IsHolding, Seen}
use Rattle.buffer_frames.proofs.Exits.{on_refusal, one_error}
use Rattle.gin_place.specs.Causes.{Finds, CannotUse, CannotHold}
use Rattle.gin_place.specs.Faults.{MetNoFault, FaultBy}
use Rattle.gin_place.specs.Stepping.{reads_left}
use Rattle.gin_place.specs.declared.error.PlaceError.TheVariants.{BadPage}
use Rattle.gin_place.proofs.Carrying.{reads_in_turn, right_on}
use Rattle.gin_place.proofs.Causing.{at_exit, finds_as}
use Rattle.gin_place.proofs.Exits.{no_ok, none_ok}
use Rattle.gin_place.proofs.Faults.{calm_fine, fine_then}
use Rattle.gin_vacuum.specs.Stepping.{IsCause, IsSpent}
use Rattle.gin_vacuum.proofs.SweepCauses.{hold_cause, spent}
use Rattle.gin_vacuum.proofs.sweeping.hold_next.Goals as goal

pub hold_seen-requires : goal.hold_seen-requires
hold_seen-requires g c = record { pass = c.requires.pass; right = c.requires.right; none = c.requires.none }

pub returns-in_err-held : goal.returns-in_err-held
returns-in_err-held g c =
    let x = c.from_residual.result in
    let p = err_from_is_err_and x c.from_residual.ensures.1 in
    let e = c.in_err-held.field-0.0 in
    let f = c.args.frames.now in
    let l = c.hold_seen.new.frames in
    let q = c.hold_seen.new.pass in
    record {
      reads = c.hold_seen.ensures.reads;
      number = none_ok x p.0 (λ r. r.0.page ≡ c.args.page) p.1;
      holding = none_ok x p.0 (λ r. IsHolding g.D.Disk l q (r.0 ∷ [])) p.1;
      seen = none_ok x p.0 (λ r. Seen g.D.Disk l q (λ S P. P r.0.page ≡ r.0.content)) p.1;
      told = no_ok x p.0 (Seen g.D.Disk l q (λ S P. StateTells S l.journal.state)) p.1;
      left = none_ok x p.0 (λ r. (extent : ℕ) × IsLeast (AreBelow l.journal.state) extent
          × (suc r.1 ≡ unwrap_or c.args.left extent)) p.1;
      lower = none_ok x p.0 (λ r. r.1 < reads_left c.args.left) p.1;
      lies = none_ok x p.0 (λ r. Lies f c.args.page r.0.content) p.1;
      still = on_refusal (q.held ≡ 0) x c.in_err-held.ensures.still;
      cause = at_exit (λ y. Finds g.D.Disk f c.args.pass.now
          (λ h r. IsCause g.D.Disk (λ k n. (n ≡ c.args.page) × (CannotUse k (λ (d : Page). ⊤) n ⊎ IsSpent
          c.args.left k))
          l y h r)) x p.0 e p.1 p.2
          (finds_as g.D.Disk f c.args.pass.now (CannotHold g.D.Disk c.args.page l e)
          (λ h r. IsCause g.D.Disk (λ k n. (n ≡ c.args.page) × (CannotUse k (λ (d : Page). ⊤) n ⊎ IsSpent
          c.args.left k))
          l e h r)
          (λ h r. hold_cause g.D.Disk
          (λ k n. (n ≡ c.args.page) × (CannotUse k (λ (d : Page). ⊤) n ⊎ IsSpent c.args.left k))
          c.args.page l e h r (λ bad. (refl, inl bad))) c.in_err-held.ensures.cause);
      fine = no_ok x p.0 (MetNoFault g.D.Disk f l) p.1;
      fault = at_exit (λ y. FaultBy g.D.Disk f l y) x p.0 e p.1 p.2 c.in_err-held.ensures.fault;
      bad = λ n is.
          let same = one_error x p.0 (BadPage n) p.1 is in
          let b = c.hold_seen.ensures.bad n (c.in_err-held.was ∙ ap Err (sym p.2 ∙ same)) in (b.0, inl b.1);
    }

pub release-requires : goal.release-requires
release-requires g c =
    let works = c.hold_seen.ensures.reads.works in
    record {
      pass = works.is_pass;
      right = right_on g.D.Disk c.args.frames.now c.hold_seen.new.frames c.args.pass.now c.hold_seen.new.pass []
          c.requires.right works;
      holding = ([], c.in_ok-held.ensures.holding);
    }

pub returns-then-left-eq0 : goal.returns-then-left-eq0
returns-then-left-eq0 g c =
    let e = c.in_ok-held.ensures in
    let f = c.args.frames.now in
    let l = c.hold_seen.new.frames in
    let q = c.hold_seen.new.pass in
    let h = c.release.new.frames in
    let none : IsSpent c.args.left l =
    spent c.args.left l c.in_ok-held.extent e.extent (sym c.unwrap_or-left.ensures ∙ c.if-left-eq0.true) in
    record {
      reads = reads_in_turn g.D.Disk f l h c.args.pass.now q c.release.new.pass c.hold_seen.ensures.reads
          c.release.ensures.reads;
      number = tt;
      holding = tt;
      seen = tt;
      told = tt;
      left = tt;
      lower = tt;
      lies = tt;
      still = sym (c.release.ensures.holding [] e.holding).all;
      cause = (l, q, c.hold_seen.ensures.reads.works, e.fine, (refl, inr none));
      fine = tt;
      fault = fine_then g.D.Disk f l h e.fine (calm_fine g.D.Disk l h c.release.ensures.calm);
      bad = λ n is.
          let same : n ≡ c.args.page = cc in
          (same, inr (l, q, c.hold_seen.ensures.reads.works, e.fine, record { spent = none; told = e.told }));
    }
