use Rattle.std.proofs.Common.{◌<◌, ℕ, List, suc, [], ◌∷◌, ◌++◌, sym, subst, ◌∙◌, arith}
use Rattle.std.specs.Prelude.{Some}
use Rattle.std.proofs.lemmas.Result.{err_from_is_err_and}
use Rattle.page_types.specs.Numbers.{page_limit}
use Rattle.page_types.specs.Pages.{IsPage}
use Rattle.core_state.proofs.LawsHold.{steady, documents, pages}
use Rattle.buffer_frames.specs.Frames.{Lies}
use Rattle.buffer_frames.proofs.AtHand.{none_held}
use Rattle.gin_place.specs.Causes.{Finds, CannotUse}
use Rattle.gin_place.specs.Faults.{MetNoFault, FaultBy}
use Rattle.gin_place.specs.declared.error.PlaceError.{PlaceError}
use Rattle.gin_place.specs.declared.error.PlaceError.TheVariants.{BadPage, OutOfMemory}
use Rattle.gin_place.proofs.Carrying.{reads_in_turn, right_on}
use Rattle.gin_place.proofs.Causing.{at_exit, finds_now}
use Rattle.gin_place.proofs.Exits.{no_ok, none_ok}
use Rattle.gin_place.proofs.Faults.{calm_then, calm_fine, fine_then, down_told}
use Rattle.gin_vacuum.specs.Causes.{IsHeap, CannotRead}
use Rattle.gin_vacuum.specs.Finding.{IsBefore, IsFindingAt}
use Rattle.gin_vacuum.proofs.DeadSlots.{not_true}
use Rattle.gin_vacuum.proofs.HeapCauses.{bad_heap, read_cause}
use Rattle.gin_vacuum.proofs.ReadHeap.{found_next, answer_of}
use Rattle.gin_vacuum.proofs.Taken.{is_before}
use Rattle.gin_vacuum.proofs.finding.read_dead.Goals as goal

pub hold_page-requires : goal.hold_page-requires
hold_page-requires g c =
    record { pass = c.requires.pass; right = c.requires.right; few = omega (arith, c.requires.none) }

-- ── the page is not held ──

pub returns-in_err-held : goal.returns-in_err-held
returns-in_err-held g c =
    let x = c.from_residual.result in
    let r = err_from_is_err_and x c.from_residual.ensures.1 in
    let w = c.in_err-held.field-0.0 in
    let f = c.args.frames.now in
    let p = c.args.pass.now in
    let l = c.hold_page.new.frames in
    let q = c.hold_page.new.pass in
    let page = c.args.page in
    record {
      dead = none_ok x r.0 (λ d. (from floor : ℕ) (items : List ℕ)
          → IsFindingAt g.D.Disk f p from floor (Some page) items
          → IsFindingAt g.D.Disk l q from floor d.next (items ++ d.items.items)) r.1;
      on = none_ok x r.0 (λ d. (page < page_limit) × IsBefore page d.next) r.1;
      reads = c.hold_page.ensures.reads;
      none_held = c.in_err-held.ensures.still.held ∙ c.requires.none;
      cause = at_exit (λ y. Finds g.D.Disk f p (CannotRead g.D.Disk l y)) x r.0 w r.1 r.2
          (finds_now g.D.Disk f p (CannotRead g.D.Disk l w) c.requires.pass
          (read_cause g.D.Disk pages l f p c.requires.finding.0 c.requires.finding.1 page c.requires.finding.2
          c.requires.finding.3 w c.in_err-held.ensures.cause));
      fine = no_ok x r.0 (MetNoFault g.D.Disk f l) r.1;
      fault = at_exit (λ y. FaultBy g.D.Disk f l y) x r.0 w r.1 r.2 c.in_err-held.ensures.fault;
    }

-- ── it is no heap page ──

pub release-requires : goal.release-requires
release-requires g c =
    let works = c.hold_page.ensures.reads.works in
    record {
      pass = works.is_pass;
      right = right_on g.D.Disk c.args.frames.now c.hold_page.new.frames c.args.pass.now c.hold_page.new.pass []
          c.requires.right works;
      holding = (
        [],
        c.in_ok-held.ensures.holding []
            (none_held g.D.Disk c.args.frames.now c.args.pass.now c.requires.pass c.requires.none),
      );
    }

pub returns-then-not-is_heap : goal.returns-then-not-is_heap
returns-then-not-is_heap g c =
    let f = c.args.frames.now in
    let p = c.args.pass.now in
    let l = c.hold_page.new.frames in
    let h = c.release.new.frames in
    let page = c.args.page in
    let holds = c.in_ok-held.ensures.holding [] (none_held g.D.Disk f p c.requires.pass c.requires.none) in
    let off : IsHeap c.page.result.now → ⊥ =
    λ is. not_true c.is_heap.result c.if-not-is_heap.true ((c.is_heap.ensures).1 is) in
    let lies = subst (Lies f page) (sym c.page.ensures.value) c.in_ok-held.ensures.lies in
    record {
      dead = tt;
      on = tt;
      reads = reads_in_turn g.D.Disk f l h p c.hold_page.new.pass c.release.new.pass c.hold_page.ensures.reads
          c.release.ensures.reads;
      none_held = sym (c.release.ensures.holding [] holds).all;
      cause = subst (λ n. Finds g.D.Disk f p (CannotRead g.D.Disk h (BadPage n)))
          (sym (c.number-number.ensures.value ∙ c.in_ok-held.ensures.number))
          (finds_now g.D.Disk f p (CannotRead g.D.Disk h (BadPage page)) c.requires.pass
          (bad_heap g.D.Disk pages f p c.requires.finding.0 c.requires.finding.1 page c.requires.finding.2
          c.requires.finding.3 (CannotUse.other c.page.result.now c.page.ensures.is_page lies off)));
      fine = tt;
      fault = fine_then g.D.Disk f l h c.in_ok-held.ensures.fine (calm_fine g.D.Disk l h c.release.ensures.calm);
    }

-- ── what is dead on it is asked ──

pub ask-found-requires : goal.ask-found-requires
ask-found-requires g c =
    let works = c.hold_page.ensures.reads.works in
    record {
      pass = works.is_pass;
      right = right_on g.D.Disk c.args.frames.now c.hold_page.new.frames c.args.pass.now c.hold_page.new.pass []
          c.requires.right works;
    }

pub release-requires-2 : goal.release-requires-2
release-requires-2 g c =
    let f = c.args.frames.now in
    let p = c.args.pass.now in
    let m = c.ask-found.new.frames in
    let r = c.ask-found.new.pass in
    let to = reads_in_turn g.D.Disk f c.hold_page.new.frames m p c.hold_page.new.pass r c.hold_page.ensures.reads
    c.ask-found.ensures.reads in
    record {
      pass = to.works.is_pass;
      right = right_on g.D.Disk f m p r [] c.requires.right to.works;
      holding = (
        [],
        c.ask-found.ensures.no_more.holding (c.in_ok-held.held ∷ [])
            (c.in_ok-held.ensures.holding [] (none_held g.D.Disk f p c.requires.pass c.requires.none)),
      );
    }

pub returns-in-Err : goal.returns-in-Err
returns-in-Err g c =
    let f = c.args.frames.now in
    let p = c.args.pass.now in
    let l = c.hold_page.new.frames in
    let q = c.hold_page.new.pass in
    let m = c.ask-found.new.frames in
    let r = c.ask-found.new.pass in
    let h = c.release-2.new.frames in
    let to = reads_in_turn g.D.Disk f l m p q r c.hold_page.ensures.reads c.ask-found.ensures.reads in
    let holds = c.ask-found.ensures.no_more.holding (c.in_ok-held.held ∷ [])
    (c.in_ok-held.ensures.holding [] (none_held g.D.Disk f p c.requires.pass c.requires.none)) in
    let fine = c.in_ok-held.ensures.fine in
    let d = c.in-Err.ensures.down in
    record {
      dead = tt;
      on = tt;
      reads = reads_in_turn g.D.Disk f m h p r c.release-2.new.pass to c.release-2.ensures.reads;
      none_held = sym (c.release-2.ensures.holding [] holds).all;
      cause = (
        l,
        q,
        c.hold_page.ensures.reads.works,
        fine,
        subst (λ (x : PlaceError). CannotRead g.D.Disk h x l q) (sym d.1) d.2,
      );
      fine = tt;
      fault = down_told g.D.Disk f l h c.in-Err.error d.0 d.1 fine
          (calm_then g.D.Disk l m h c.ask-found.ensures.calm c.release-2.ensures.calm) d.2;
    }

pub returns-in-Ok-Err : goal.returns-in-Ok-Err
returns-in-Ok-Err g c =
    let f = c.args.frames.now in
    let p = c.args.pass.now in
    let l = c.hold_page.new.frames in
    let q = c.hold_page.new.pass in
    let m = c.ask-found.new.frames in
    let r = c.ask-found.new.pass in
    let h = c.release-2.new.frames in
    let to = reads_in_turn g.D.Disk f l m p q r c.hold_page.ensures.reads c.ask-found.ensures.reads in
    let holds = c.ask-found.ensures.no_more.holding (c.in_ok-held.held ∷ [])
    (c.in_ok-held.ensures.holding [] (none_held g.D.Disk f p c.requires.pass c.requires.none)) in
    record {
      dead = tt;
      on = tt;
      reads = reads_in_turn g.D.Disk f m h p r c.release-2.new.pass to c.release-2.ensures.reads;
      none_held = sym (c.release-2.ensures.holding [] holds).all;
      cause = finds_now g.D.Disk f p (CannotRead g.D.Disk h OutOfMemory) c.requires.pass tt;
      fine = tt;
      fault = fine_then g.D.Disk f l h c.in_ok-held.ensures.fine
          (calm_fine g.D.Disk l h (calm_then g.D.Disk l m h c.ask-found.ensures.calm c.release-2.ensures.calm));
    }

pub returns-in-Ok-Ok : goal.returns-in-Ok-Ok
returns-in-Ok-Ok g c =
    let f = c.args.frames.now in
    let p = c.args.pass.now in
    let l = c.hold_page.new.frames in
    let q = c.hold_page.new.pass in
    let m = c.ask-found.new.frames in
    let r = c.ask-found.new.pass in
    let h = c.release-2.new.frames in
    let held = c.in_ok-held.held in
    let found = c.in-Ok-Ok.dead in
    let to = reads_in_turn g.D.Disk f l m p q r c.hold_page.ensures.reads c.ask-found.ensures.reads in
    let holds = c.ask-found.ensures.no_more.holding (held ∷ [])
    (c.in_ok-held.ensures.holding [] (none_held g.D.Disk f p c.requires.pass c.requires.none)) in
    let told = answer_of (record { alloc = c.args.alloc; held = record { ref_ptr = (0, 0); now = held } })
    m.journal.state r.floor r.since c.in-Ok-Ok.field-0 found c.in-Ok-Ok.field-0-is c.in-Ok-Ok.ensures.answers in
    let fits : IsPage held.content = subst IsPage c.page.ensures.value c.page.ensures.is_page in
    let heap : IsHeap held.content =
    subst IsHeap c.page.ensures.value ((c.is_heap.ensures).0 c.if-not-is_heap.false) in
    record {
      dead = λ from floor had was.
          found_next g.D.Disk steady f m p r c.requires.pass c.requires.right c.requires.none to documents h
          c.release-2.new.pass c.release-2.ensures.reads held holds c.in-Ok-Ok.ensures.all c.in-Ok-Ok.ensures.told fits
          heap found.items.items told.0 found.next told.1 c.args.page c.in_ok-held.ensures.number from floor had was;
      on = (
        omega (arith, c.number-number.ensures.bound, c.number-number.ensures.value, c.in_ok-held.ensures.number),
        is_before m.journal.state (suc held.page) c.args.page found.next told.1
            (omega (arith, c.in_ok-held.ensures.number)),
      );
      reads = reads_in_turn g.D.Disk f m h p r c.release-2.new.pass to c.release-2.ensures.reads;
      none_held = sym (c.release-2.ensures.holding [] holds).all;
      cause = tt;
      fine = fine_then g.D.Disk f l h c.in_ok-held.ensures.fine
          (calm_fine g.D.Disk l h (calm_then g.D.Disk l m h c.ask-found.ensures.calm c.release-2.ensures.calm));
      fault = tt;
    }
