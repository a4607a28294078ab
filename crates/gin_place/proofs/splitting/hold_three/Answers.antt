use Rattle.std.proofs.Common.{◌≡◌, ◌≢◌, subst, [], ◌∷◌, ◌∙◌, refl, sym, arith}
use Rattle.std.proofs.lemmas.Result.{err_from_is_err_and}
use Rattle.buffer_frames.specs.Homes.{IsAway}
use Rattle.buffer_frames.specs.Frames.{Lies}
use Rattle.buffer_frames.specs.Passes.{IsHolding}
use Rattle.buffer_frames.proofs.AtHand.{none_held}
use Rattle.buffer_frames.proofs.Exits.{on_refusal}
use Rattle.gin_place.specs.Causes.{Finds, CanDivide, HadPage, IsBadNew, IsBadRoom, IsWhy}
use Rattle.gin_place.specs.Faults.{MetNoFault, FaultBy}
use Rattle.gin_place.specs.Holding.{IsNewHeld}
use Rattle.gin_place.proofs.Exits.{no_ok, none_ok}
use Rattle.gin_place.proofs.Carrying.{reads_in_turn, right_on}
use Rattle.gin_place.proofs.Causing.{at_exit, weaker, had_page, finds_now, finds_after, finds_as, hold_why, hold_later}
use Rattle.gin_place.proofs.Causing.{Later, why_as, why_later}
use Rattle.gin_place.proofs.SplitCauses.{lies_before}
use Rattle.gin_place.proofs.Faults.{fine_then, told_then, told_back}
use Rattle.gin_place.proofs.splitting.hold_three.Goals as goal

pub hold_page-requires : goal.hold_page-requires
hold_page-requires g c =
    record { pass = c.requires.pass; right = c.requires.right; few = omega (arith, c.requires.none) }

pub returns-in_err-parent : goal.returns-in_err-parent
returns-in_err-parent g c =
    let r = c.from_residual.result in
    let p = err_from_is_err_and r c.from_residual.ensures.1 in
    let w = c.in_err-parent.field-0.0 in
    let f = c.args.frames.now in
    let last = c.hold_page.new.frames in
    let pass = c.hold_page.new.pass in
    record {
      reads = c.hold_page.ensures.reads;
      holding = none_ok r p.0 (λ t. IsHolding g.D.Disk last pass (t.new ∷ t.page ∷ t.parent ∷ [])) p.1;
      new = none_ok r p.0 (λ t. IsNewHeld g.D.Disk last pass t.new) p.1;
      number = none_ok r p.0 (λ t. t.new.page ≢ 0) p.1;
      numbers = none_ok r p.0 (λ t. (t.page.page ≡ c.args.page) × (t.parent.page ≡ c.args.parent)) p.1;
      took = no_ok r p.0 (HadPage g.D.Disk f c.args.pass.now) p.1;
      lies = none_ok r p.0 (λ t. Lies f c.args.page t.page.content × Lies f c.args.parent t.parent.content) p.1;
      still = on_refusal _ r (c.in_err-parent.ensures.still.held ∙ c.requires.none);
      cause = λ t other. at_exit (λ x. Finds g.D.Disk f c.args.pass.now
          (IsWhy g.D.Disk (IsBadRoom t c.args.parent c.args.page) last x)) r p.0 w p.1 p.2
          (finds_now g.D.Disk f c.args.pass.now (IsWhy g.D.Disk (IsBadRoom t c.args.parent c.args.page) last w)
          c.requires.pass
          (hold_why g.D.Disk (IsBadRoom t c.args.parent c.args.page) c.args.parent last w f c.args.pass.now
          (λ bad. IsBadRoom.above other refl bad) c.in_err-parent.ensures.cause));
      fine = no_ok r p.0 (MetNoFault g.D.Disk f last) p.1;
      fault = at_exit (λ x. FaultBy g.D.Disk f last x) r p.0 w p.1 p.2 c.in_err-parent.ensures.fault;
    }

pub hold_page-requires-2 : goal.hold_page-requires-2
hold_page-requires-2 g c =
    let h1 = c.in_ok-parent.ensures.holding []
    (none_held g.D.Disk c.args.frames.now c.args.pass.now c.requires.pass c.requires.none) in
    record {
      pass = c.hold_page.ensures.reads.works.is_pass;
      right = right_on g.D.Disk c.args.frames.now c.hold_page.new.frames c.args.pass.now c.hold_page.new.pass []
          c.requires.right c.hold_page.ensures.reads.works;
      few = omega (arith, h1.all);
    }

pub release-requires : goal.release-requires
release-requires g c =
    let r2 = reads_in_turn g.D.Disk c.args.frames.now c.hold_page.new.frames c.hold_page-2.new.frames c.args.pass.now
    c.hold_page.new.pass c.hold_page-2.new.pass c.hold_page.ensures.reads c.hold_page-2.ensures.reads in
    let h1 = c.in_ok-parent.ensures.holding []
    (none_held g.D.Disk c.args.frames.now c.args.pass.now c.requires.pass c.requires.none) in
    record {
      pass = r2.works.is_pass;
      right = right_on g.D.Disk c.args.frames.now c.hold_page-2.new.frames c.args.pass.now c.hold_page-2.new.pass []
          c.requires.right r2.works;
      holding = ([], c.in-Err.ensures.still.holding (c.in_ok-parent.parent ∷ []) h1);
    }

pub returns-in-Err-clause-reads : goal.returns-in-Err-clause-reads
returns-in-Err-clause-reads g c =
    let r2 = reads_in_turn g.D.Disk c.args.frames.now c.hold_page.new.frames c.hold_page-2.new.frames c.args.pass.now
    c.hold_page.new.pass c.hold_page-2.new.pass c.hold_page.ensures.reads c.hold_page-2.ensures.reads in
    reads_in_turn g.D.Disk c.args.frames.now c.hold_page-2.new.frames c.release.new.frames c.args.pass.now
    c.hold_page-2.new.pass c.release.new.pass r2 c.release.ensures.reads

pub returns-in-Err-clause-still : goal.returns-in-Err-clause-still
returns-in-Err-clause-still g c =
    let h1 = c.in_ok-parent.ensures.holding []
    (none_held g.D.Disk c.args.frames.now c.args.pass.now c.requires.pass c.requires.none) in
    let h2 = c.in-Err.ensures.still.holding (c.in_ok-parent.parent ∷ []) h1 in
    sym (c.release.ensures.holding [] h2).all

pub returns-in-Err-clause-cause : goal.returns-in-Err-clause-cause
returns-in-Err-clause-cause g c = λ t other.
    let w = c.in-Err.error in (
      c.hold_page.new.frames,
      c.hold_page.new.pass,
      c.hold_page.ensures.reads.works,
      c.in_ok-parent.ensures.fine,
      hold_why g.D.Disk (IsBadRoom t c.args.parent c.args.page) c.args.page c.release.new.frames w
          c.hold_page.new.frames c.hold_page.new.pass
          (λ bad. IsBadRoom.split other refl (weaker c.hold_page.new.frames (CanDivide t) c.args.page bad))
          (hold_later g.D.Disk c.args.page c.hold_page-2.new.frames c.release.new.frames w c.release.ensures.faults
          c.hold_page.new.frames c.hold_page.new.pass c.in-Err.ensures.cause),
    )

pub hold_new-requires : goal.hold_new-requires
hold_new-requires g c =
    let r2 = reads_in_turn g.D.Disk c.args.frames.now c.hold_page.new.frames c.hold_page-2.new.frames c.args.pass.now
    c.hold_page.new.pass c.hold_page-2.new.pass c.hold_page.ensures.reads c.hold_page-2.ensures.reads in
    let h1 = c.in_ok-parent.ensures.holding []
    (none_held g.D.Disk c.args.frames.now c.args.pass.now c.requires.pass c.requires.none) in
    let h2 = c.in-Ok.ensures.holding (c.in_ok-parent.parent ∷ []) h1 in
    record {
      pass = r2.works.is_pass;
      right = right_on g.D.Disk c.args.frames.now c.hold_page-2.new.frames c.args.pass.now c.hold_page-2.new.pass []
          c.requires.right r2.works;
      few = omega (arith, h2.all);
      holding = (c.in-Ok.page ∷ c.in_ok-parent.parent ∷ [], h2);
    }

pub release-requires-in-Err-hold_new : goal.release-requires-in-Err-hold_new
release-requires-in-Err-hold_new g c =
    let r2 = reads_in_turn g.D.Disk c.args.frames.now c.hold_page.new.frames c.hold_page-2.new.frames c.args.pass.now
    c.hold_page.new.pass c.hold_page-2.new.pass c.hold_page.ensures.reads c.hold_page-2.ensures.reads in
    let r3 = reads_in_turn g.D.Disk c.args.frames.now c.hold_page-2.new.frames c.hold_new.new.frames c.args.pass.now
    c.hold_page-2.new.pass c.hold_new.new.pass r2 c.hold_new.ensures.reads in
    let h1 = c.in_ok-parent.ensures.holding []
    (none_held g.D.Disk c.args.frames.now c.args.pass.now c.requires.pass c.requires.none) in
    let h2 = c.in-Ok.ensures.holding (c.in_ok-parent.parent ∷ []) h1 in
    let h3 = c.in-Err-hold_new.ensures.still.holding (c.in-Ok.page ∷ c.in_ok-parent.parent ∷ []) h2 in
    record {
      pass = r3.works.is_pass;
      right = right_on g.D.Disk c.args.frames.now c.hold_new.new.frames c.args.pass.now c.hold_new.new.pass []
          c.requires.right r3.works;
      holding = (c.in_ok-parent.parent ∷ [], h3);
    }

pub release-requires-in-Err-hold_new-2 : goal.release-requires-in-Err-hold_new-2
release-requires-in-Err-hold_new-2 g c =
    let r2 = reads_in_turn g.D.Disk c.args.frames.now c.hold_page.new.frames c.hold_page-2.new.frames c.args.pass.now
    c.hold_page.new.pass c.hold_page-2.new.pass c.hold_page.ensures.reads c.hold_page-2.ensures.reads in
    let r3 = reads_in_turn g.D.Disk c.args.frames.now c.hold_page-2.new.frames c.hold_new.new.frames c.args.pass.now
    c.hold_page-2.new.pass c.hold_new.new.pass r2 c.hold_new.ensures.reads in
    let back = c.release-in-Err-hold_new in
    let r4 = reads_in_turn g.D.Disk c.args.frames.now c.hold_new.new.frames back.new.frames c.args.pass.now
    c.hold_new.new.pass back.new.pass r3 back.ensures.reads in
    let h1 = c.in_ok-parent.ensures.holding []
    (none_held g.D.Disk c.args.frames.now c.args.pass.now c.requires.pass c.requires.none) in
    let h2 = c.in-Ok.ensures.holding (c.in_ok-parent.parent ∷ []) h1 in
    let h3 = c.in-Err-hold_new.ensures.still.holding (c.in-Ok.page ∷ c.in_ok-parent.parent ∷ []) h2 in
    record {
      pass = r4.works.is_pass;
      right = right_on g.D.Disk c.args.frames.now back.new.frames c.args.pass.now back.new.pass []
          c.requires.right r4.works;
      holding = ([], back.ensures.holding (c.in_ok-parent.parent ∷ []) h3);
    }

pub returns-in-Ok-hold_new-clause-reads : goal.returns-in-Ok-hold_new-clause-reads
returns-in-Ok-hold_new-clause-reads g c =
    let r2 = reads_in_turn g.D.Disk c.args.frames.now c.hold_page.new.frames c.hold_page-2.new.frames c.args.pass.now
    c.hold_page.new.pass c.hold_page-2.new.pass c.hold_page.ensures.reads c.hold_page-2.ensures.reads in
    let r3 = reads_in_turn g.D.Disk c.args.frames.now c.hold_page-2.new.frames c.hold_new.new.frames c.args.pass.now
    c.hold_page-2.new.pass c.hold_new.new.pass r2 c.hold_new.ensures.reads in
    r3

pub returns-in-Ok-hold_new-clause-holding : goal.returns-in-Ok-hold_new-clause-holding
returns-in-Ok-hold_new-clause-holding g c =
    let h1 = c.in_ok-parent.ensures.holding []
    (none_held g.D.Disk c.args.frames.now c.args.pass.now c.requires.pass c.requires.none) in
    let h2 = c.in-Ok.ensures.holding (c.in_ok-parent.parent ∷ []) h1 in
    let h3 = c.in-Ok-hold_new.ensures.holding (c.in-Ok.page ∷ c.in_ok-parent.parent ∷ []) h2 in
    h3

pub returns-in-Ok-hold_new-clause-lies : goal.returns-in-Ok-hold_new-clause-lies
returns-in-Ok-hold_new-clause-lies g c =
    let h1 = c.in_ok-parent.ensures.holding []
    (none_held g.D.Disk c.args.frames.now c.args.pass.now c.requires.pass c.requires.none) in
    let away = subst (IsAway c.hold_page.new.frames.homes) c.in_ok-parent.ensures.number h1.away.0.0 in (
      lies_before c.args.frames.now c.hold_page.new.frames c.args.parent c.args.page c.in-Ok.page.content
          c.in_ok-parent.ensures.others away c.in-Ok.ensures.lies,
      c.in_ok-parent.ensures.lies,
    )

pub returns-in-Err-hold_new-clause-reads : goal.returns-in-Err-hold_new-clause-reads
returns-in-Err-hold_new-clause-reads g c =
    let r2 = reads_in_turn g.D.Disk c.args.frames.now c.hold_page.new.frames c.hold_page-2.new.frames c.args.pass.now
    c.hold_page.new.pass c.hold_page-2.new.pass c.hold_page.ensures.reads c.hold_page-2.ensures.reads in
    let r3 = reads_in_turn g.D.Disk c.args.frames.now c.hold_page-2.new.frames c.hold_new.new.frames c.args.pass.now
    c.hold_page-2.new.pass c.hold_new.new.pass r2 c.hold_new.ensures.reads in
    let r4 = reads_in_turn g.D.Disk c.args.frames.now c.hold_new.new.frames c.release-in-Err-hold_new.new.frames
    c.args.pass.now c.hold_new.new.pass c.release-in-Err-hold_new.new.pass r3 c.release-in-Err-hold_new.ensures.reads in
    reads_in_turn g.D.Disk c.args.frames.now c.release-in-Err-hold_new.new.frames c.release-in-Err-hold_new-2.new.frames
    c.args.pass.now c.release-in-Err-hold_new.new.pass c.release-in-Err-hold_new-2.new.pass r4
    c.release-in-Err-hold_new-2.ensures.reads

pub returns-in-Err-hold_new-clause-still : goal.returns-in-Err-hold_new-clause-still
returns-in-Err-hold_new-clause-still g c =
    let h1 = c.in_ok-parent.ensures.holding []
    (none_held g.D.Disk c.args.frames.now c.args.pass.now c.requires.pass c.requires.none) in
    let h2 = c.in-Ok.ensures.holding (c.in_ok-parent.parent ∷ []) h1 in
    let h3 = c.in-Err-hold_new.ensures.still.holding (c.in-Ok.page ∷ c.in_ok-parent.parent ∷ []) h2 in
    sym (c.release-in-Err-hold_new-2.ensures.holding []
    (c.release-in-Err-hold_new.ensures.holding (c.in_ok-parent.parent ∷ []) h3)).all

pub returns-in-Err-hold_new-clause-cause : goal.returns-in-Err-hold_new-clause-cause
returns-in-Err-hold_new-clause-cause g c = λ t other.
    let r2 = reads_in_turn g.D.Disk c.args.frames.now c.hold_page.new.frames c.hold_page-2.new.frames c.args.pass.now
    c.hold_page.new.pass c.hold_page-2.new.pass c.hold_page.ensures.reads c.hold_page-2.ensures.reads in
    let w = c.in-Err-hold_new.error in
    let last = c.release-in-Err-hold_new-2.new.frames in
    let later : Later g.D.Disk c.hold_new.new.frames last =
    omega (arith, c.release-in-Err-hold_new.ensures.faults, c.release-in-Err-hold_new-2.ensures.faults) in
    finds_after g.D.Disk c.args.frames.now c.hold_page-2.new.frames c.args.pass.now c.hold_page-2.new.pass
    (IsWhy g.D.Disk (IsBadRoom t c.args.parent c.args.page) last w) r2.works
    (fine_then g.D.Disk c.args.frames.now c.hold_page.new.frames c.hold_page-2.new.frames c.in_ok-parent.ensures.fine
    c.in-Ok.ensures.fine)
    (finds_as g.D.Disk c.hold_page-2.new.frames c.hold_page-2.new.pass
    (IsWhy g.D.Disk IsBadNew c.hold_new.new.frames w)
    (IsWhy g.D.Disk (IsBadRoom t c.args.parent c.args.page) last w)
    (λ f q why. why_as g.D.Disk IsBadNew (IsBadRoom t c.args.parent c.args.page) last w f q
    (λ n bad. IsBadRoom.new bad)
    (why_later g.D.Disk IsBadNew c.hold_new.new.frames last w later f q why)) c.in-Err-hold_new.ensures.cause)

pub returns-in-Ok-hold_new-clause-took : goal.returns-in-Ok-hold_new-clause-took
returns-in-Ok-hold_new-clause-took g c =
    let r2 = reads_in_turn g.D.Disk c.args.frames.now c.hold_page.new.frames c.hold_page-2.new.frames c.args.pass.now
    c.hold_page.new.pass c.hold_page-2.new.pass c.hold_page.ensures.reads c.hold_page-2.ensures.reads in
    let r3 = reads_in_turn g.D.Disk c.args.frames.now c.hold_page-2.new.frames c.hold_new.new.frames c.args.pass.now
    c.hold_page-2.new.pass c.hold_new.new.pass r2 c.hold_new.ensures.reads in
    had_page g.D.Disk c.args.frames.now c.hold_new.new.frames c.args.pass.now c.hold_new.new.pass
    c.in-Ok-hold_new.new.page r3.works c.in-Ok-hold_new.ensures.taken

pub returns-in-Err-clause-fault : goal.returns-in-Err-clause-fault
returns-in-Err-clause-fault g c =
    told_back g.D.Disk c.args.frames.now c.hold_page-2.new.frames c.release.new.frames c.in-Err.error
    (told_then g.D.Disk c.args.frames.now c.hold_page.new.frames c.hold_page-2.new.frames c.in-Err.error
    c.in_ok-parent.ensures.fine c.in-Err.ensures.fault) c.release.ensures.calm c.release.ensures.at_rest

pub returns-in-Ok-hold_new-clause-fine : goal.returns-in-Ok-hold_new-clause-fine
returns-in-Ok-hold_new-clause-fine g c =
    fine_then g.D.Disk c.args.frames.now c.hold_page.new.frames c.hold_new.new.frames c.in_ok-parent.ensures.fine
    (fine_then g.D.Disk c.hold_page.new.frames c.hold_page-2.new.frames c.hold_new.new.frames c.in-Ok.ensures.fine
    c.in-Ok-hold_new.ensures.fine)

pub returns-in-Err-hold_new-clause-fault : goal.returns-in-Err-hold_new-clause-fault
returns-in-Err-hold_new-clause-fault g c =
    let w = c.in-Err-hold_new.error in
    let mid = c.release-in-Err-hold_new.new.frames in
    let told = told_then g.D.Disk c.args.frames.now c.hold_page-2.new.frames c.hold_new.new.frames w
    (fine_then g.D.Disk c.args.frames.now c.hold_page.new.frames c.hold_page-2.new.frames c.in_ok-parent.ensures.fine
    c.in-Ok.ensures.fine) c.in-Err-hold_new.ensures.fault in
    told_back g.D.Disk c.args.frames.now mid c.release-in-Err-hold_new-2.new.frames w
    (told_back g.D.Disk c.args.frames.now c.hold_new.new.frames mid w told c.release-in-Err-hold_new.ensures.calm
    c.release-in-Err-hold_new.ensures.at_rest) c.release-in-Err-hold_new-2.ensures.calm
    c.release-in-Err-hold_new-2.ensures.at_rest
