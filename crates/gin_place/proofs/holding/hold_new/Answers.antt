use Rattle.std.proofs.Common.{◌≢◌, [], refl, sym, ap, subst, ◌∙◌, arith}
use Rattle.std.specs.Prelude.{Option, Err, IfSome, IfNone}
use Rattle.std.proofs.lemmas.Result.{err_from_is_err_and}
use Rattle.core_state.specs.Allowed.{Sheet}
use Rattle.buffer_frames.proofs.Exits.{on_refusal, one_error}
use Rattle.page_space.specs.Taking.{IsTaken, HasNoPage}
use Rattle.gin_place.specs.Causes.{Finds, IsBadNew, IsWhy}
use Rattle.gin_place.specs.declared.error.PlaceError.TheVariants.{StoreFull}
use Rattle.gin_place.specs.Holding.{HoldsNoMore, HoldsMore, IsNewHeld}
use Rattle.gin_place.proofs.Carrying.{reads_still, reads_in_turn, same_added, no_more, no_more_in_turn, right_on}
use Rattle.gin_place.proofs.Causing.{at_exit, finds_after, ok_not_err}
use Rattle.gin_place.proofs.Exits.{no_ok, none_ok}
use Rattle.gin_place.specs.Faults.{MetNoFault, FaultBy}
use Rattle.gin_place.proofs.Faults.{fine_still, fine_then, told_then}
use Rattle.gin_place.proofs.holding.hold_new.Goals as goal

pub loop-init : goal.loop-init
loop-init g c = record {
  reads =
      reads_still g.D.Disk c.args.frames.now c.args.pass.now c.requires.pass (same_added g.D.Disk c.args.frames.now);
  no_more = no_more g.D.Disk c.args.frames.now c.args.frames.now c.args.pass.now c.args.pass.now (λ held h. h) refl;
  fine = fine_still g.D.Disk c.args.frames.now;
}

pub take_page-requires : goal.take_page-requires
take_page-requires g c =
    let was = c.loop.invariant in
    record {
      pass = was.reads.works.is_pass;
      right = right_on g.D.Disk c.args.frames.now c.loop.frames c.args.pass.now c.loop.pass [] c.requires.right
          was.reads.works;
      few = omega (arith, was.no_more.held, c.requires.few);
      holding = (c.requires.holding.0, was.no_more.holding c.requires.holding.0 c.requires.holding.1);
    }

pub loop-preserved : goal.loop-preserved
loop-preserved g c =
    let was = c.loop.invariant in
    let old = subst (λ (o : Option Sheet). IfNone o
    (HoldsNoMore g.D.Disk c.loop.frames c.loop.pass c.take_page.new.frames c.take_page.new.pass)) c.in_default.is
    c.in_ok-held.ensures.old in
    record {
      reads = reads_in_turn g.D.Disk c.args.frames.now c.loop.frames c.take_page.new.frames c.args.pass.now c.loop.pass
          c.take_page.new.pass was.reads c.take_page.ensures.reads;
      no_more = no_more_in_turn g.D.Disk c.args.frames.now c.loop.frames c.take_page.new.frames c.args.pass.now
          c.loop.pass c.take_page.new.pass was.no_more old;
      fine = fine_then g.D.Disk c.args.frames.now c.loop.frames c.take_page.new.frames was.fine
          c.in_ok-held.ensures.fine;
    }

pub returns-in-Some : goal.returns-in-Some
returns-in-Some g c =
    let was = c.loop.invariant in
    let last = c.take_page.new.frames in
    let pass = c.take_page.new.pass in
    let here = subst (λ (o : Option Sheet). IfSome o (λ h. HoldsMore g.D.Disk c.loop.frames c.loop.pass last pass h
    × IsNewHeld g.D.Disk last pass h × (h.page ≢ 0))) c.in-Some.is c.in_ok-held.ensures.new in
    record {
      reads = reads_in_turn g.D.Disk c.args.frames.now c.loop.frames last c.args.pass.now c.loop.pass pass was.reads
          c.take_page.ensures.reads;
      holding = λ held h. here.0 held (was.no_more.holding held h);
      new = here.1;
      number = here.2;
      taken = subst (λ (o : Option Sheet). IfSome o (λ h. IsTaken last.journal.state pass.since h.page)) c.in-Some.is
          c.in_ok-held.ensures.taken;
      still = tt;
      full = λ is. absurd {A = HasNoPage last.journal.state pass.since} (ok_not_err c.in-Some.held StoreFull is);
      cause = tt;
      fine = fine_then g.D.Disk c.args.frames.now c.loop.frames last was.fine c.in_ok-held.ensures.fine;
      fault = tt;
    }

pub returns-in_err-held : goal.returns-in_err-held
returns-in_err-held g c =
    let was = c.loop.invariant in
    let r = c.from_residual.result in
    let p = err_from_is_err_and r c.from_residual.ensures.1 in
    let w = c.in_err-held.field-0.0 in
    let e = c.in_err-held.ensures in
    let f = c.args.frames.now in
    let last = c.take_page.new.frames in
    let pass = c.take_page.new.pass in
    record {
      reads = reads_in_turn g.D.Disk f c.loop.frames last c.args.pass.now c.loop.pass pass was.reads
          c.take_page.ensures.reads;
      holding = none_ok r p.0 (λ h. HoldsMore g.D.Disk f c.args.pass.now last pass h) p.1;
      new = none_ok r p.0 (λ h. IsNewHeld g.D.Disk last pass h) p.1;
      number = none_ok r p.0 (λ h. h.page ≢ 0) p.1;
      taken = none_ok r p.0 (λ h. IsTaken last.journal.state pass.since h.page) p.1;
      still = on_refusal _ r
          (no_more_in_turn g.D.Disk f c.loop.frames last c.args.pass.now c.loop.pass pass was.no_more e.still);
      full = λ full.
          c.take_page.ensures.full (c.in_err-held.was ∙ ap Err (sym p.2 ∙ one_error r p.0 StoreFull p.1 full));
      cause = at_exit (λ x. Finds g.D.Disk f c.args.pass.now (IsWhy g.D.Disk IsBadNew last x)) r p.0 w p.1 p.2
          (finds_after g.D.Disk f c.loop.frames c.args.pass.now c.loop.pass (IsWhy g.D.Disk IsBadNew last w)
          was.reads.works was.fine e.cause);
      fine = no_ok r p.0 (MetNoFault g.D.Disk f last) p.1;
      fault = at_exit (λ x. FaultBy g.D.Disk f last x) r p.0 w p.1 p.2
          (told_then g.D.Disk f c.loop.frames last w was.fine e.fault);
    }

pub returns : goal.returns
returns g c =
    let was = c.loop.invariant in
    record {
      reads = was.reads;
      holding = tt;
      new = tt;
      number = tt;
      taken = tt;
      still = was.no_more;
      full = λ is. let both = is in let z : ⊥ = cc in
          absurd {A = HasNoPage c.loop.frames.journal.state c.loop.pass.since} z;
      cause = (c.loop.frames, c.loop.pass, was.reads.works, was.fine, tt);
      fine = tt;
      fault = was.fine;
    }
