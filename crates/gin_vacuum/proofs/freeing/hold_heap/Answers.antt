use Rattle.std.proofs.Common.{◌≡◌, ◌∙◌, [], ◌∷◌, sym, ap, subst, Err}
use Rattle.std.proofs.lemmas.Result.{err_from_is_err_and}
use Rattle.std.proofs.lemmas.Bool.{false≢true}
use Rattle.buffer_frames.specs.Frames.{Lies}
use Rattle.buffer_frames.specs.Passes.{IsHolding, Seen}
use Rattle.buffer_frames.proofs.Exits.{on_refusal}
use Rattle.gin_place.specs.Causes.{Finds, CannotUse}
use Rattle.gin_place.specs.Faults.{MetNoFault, FaultBy}
use Rattle.gin_place.specs.declared.error.PlaceError.TheVariants.{BadPage}
use Rattle.gin_place.proofs.Carrying.{reads_in_turn, right_on}
use Rattle.gin_place.proofs.Causing.{at_exit, finds_now}
use Rattle.gin_place.proofs.Exits.{no_ok, none_ok}
use Rattle.gin_place.proofs.Faults.{calm_fine, fine_then}
use Rattle.gin_vacuum.specs.Causes.{IsHeap}
use Rattle.gin_vacuum.specs.Freeing.{IsBadFreed, CannotFree}
use Rattle.gin_vacuum.proofs.FreeCauses.{heap_cause}
use Rattle.gin_vacuum.proofs.freeing.hold_heap.Goals as goal

pub hold_seen-requires : goal.hold_seen-requires
hold_seen-requires g c = record { pass = c.requires.pass; right = c.requires.right; none = c.requires.none }

pub returns-in_err-heap : goal.returns-in_err-heap
returns-in_err-heap g c =
    let x = c.from_residual.result in
    let r = err_from_is_err_and x c.from_residual.ensures.1 in
    let w = c.in_err-heap.field-0.0 in
    let f = c.args.frames.now in
    let p = c.args.pass.now in
    let l = c.hold_seen.new.frames in
    let q = c.hold_seen.new.pass in
    record {
      reads = c.hold_seen.ensures.reads;
      number = none_ok x r.0 (λ h. h.page ≡ c.args.page) r.1;
      holding = none_ok x r.0 (λ h. IsHolding g.D.Disk l q (h ∷ [])) r.1;
      heap = none_ok x r.0 (λ h. IsHeap h.content) r.1;
      seen = none_ok x r.0 (λ h. Seen g.D.Disk l q (λ S P. P h.page ≡ h.content)) r.1;
      lies = none_ok x r.0 (λ h. Lies f c.args.page h.content) r.1;
      still = on_refusal (q.held ≡ 0) x c.in_err-heap.ensures.still;
      cause = at_exit (λ y. Finds g.D.Disk f p (CannotFree g.D.Disk l y)) x r.0 w r.1 r.2
          (heap_cause g.D.Disk f l p c.args.page c.requires.pass c.requires.lawful w c.in_err-heap.ensures.cause
          (λ n same. c.hold_seen.ensures.bad n (c.in_err-heap.was ∙ ap Err same)));
      fine = no_ok x r.0 (MetNoFault g.D.Disk f l) r.1;
      fault = at_exit (λ y. FaultBy g.D.Disk f l y) x r.0 w r.1 r.2 c.in_err-heap.ensures.fault;
    }

pub release-requires : goal.release-requires
release-requires g c =
    let works = c.hold_seen.ensures.reads.works in
    record {
      pass = works.is_pass;
      right = right_on g.D.Disk c.args.frames.now c.hold_seen.new.frames c.args.pass.now c.hold_seen.new.pass []
          c.requires.right works;
      holding = ([], c.in_ok-heap.ensures.holding);
    }

pub returns-then-not-is_heap : goal.returns-then-not-is_heap
returns-then-not-is_heap g c =
    let f = c.args.frames.now in
    let p = c.args.pass.now in
    let l = c.hold_seen.new.frames in
    let h = c.release.new.frames in
    let page = c.args.page in
    let off : IsHeap c.page.result.now → ⊥ =
    λ is. false≢true (sym c.if-not-is_heap.true ∙ c.is_heap.ensures.1 is) in
    let lies = subst (Lies f page) (sym c.page.ensures.value) c.in_ok-heap.ensures.lies in
    let cannot : CannotUse f IsHeap page = CannotUse.other c.page.result.now c.page.ensures.is_page lies off in
    record {
      reads = reads_in_turn g.D.Disk f l h p c.hold_seen.new.pass c.release.new.pass c.hold_seen.ensures.reads
          c.release.ensures.reads;
      number = tt;
      holding = tt;
      heap = tt;
      seen = tt;
      lies = tt;
      still = sym (c.release.ensures.holding [] c.in_ok-heap.ensures.holding).all;
      cause = finds_now g.D.Disk f p (CannotFree g.D.Disk h (BadPage page)) c.requires.pass
          (IsBadFreed.of_heap cannot (c.requires.lawful cannot));
      fine = tt;
      fault = fine_then g.D.Disk f l h c.in_ok-heap.ensures.fine (calm_fine g.D.Disk l h c.release.ensures.calm);
    }

pub returns : goal.returns
returns g c =
    let e = c.in_ok-heap.ensures in
    record {
      reads = c.hold_seen.ensures.reads;
      number = e.number;
      holding = e.holding;
      heap = subst IsHeap c.page.ensures.value (c.is_heap.ensures.0 c.if-not-is_heap.false);
      seen = e.seen;
      lies = e.lies;
      still = tt;
      cause = tt;
      fine = e.fine;
      fault = tt;
    }
