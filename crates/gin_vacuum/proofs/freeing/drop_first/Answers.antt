use Rattle.std.proofs.Common.{◌<◌, ◌^◌, ◌∙◌, [], ◌∷◌, sym, subst, arith}
use Rattle.std.proofs.lemmas.Bool.{false≢true}
use Rattle.core_vacuum.proofs.Logging.{drop_page_may}
use Rattle.doc_heap.proofs.Leavings.{slot_is_head}
use Rattle.buffer_frames.specs.Frames.{Lies}
use Rattle.gin_place.specs.Causes.{Finds, CannotUse}
use Rattle.gin_place.specs.Faults.{MetNoFault, FaultBy}
use Rattle.gin_place.specs.Holding.{ReadsOn}
use Rattle.gin_place.specs.declared.error.PlaceError.TheVariants.{BadPage}
use Rattle.gin_place.proofs.Carrying.{reads_in_turn, right_on}
use Rattle.gin_place.proofs.Causing.{finds_now}
use Rattle.gin_place.proofs.Faults.{calm_fine, fine_then, told_then, told_back}
use Rattle.gin_place.proofs.Exits.{on_ok, on_err, if_err}
use Rattle.gin_vacuum.specs.Freeing.{IsPageOf, IsBadFreed, CannotFree}
use Rattle.gin_vacuum.specs.Inner.Freeing.{IsDropStep, LogsDrop}
use Rattle.gin_vacuum.specs.Inner.Logging.{LogsMade, CannotLog}
use Rattle.gin_vacuum.proofs.FreeCauses.{chain_cause, log_free_cause}
use Rattle.gin_vacuum.proofs.FreeSteps.{may_drop}
use Rattle.gin_vacuum.proofs.FreeingOn.{item_on}
use Rattle.gin_vacuum.proofs.Made.{in_ok}
use Rattle.gin_vacuum.proofs.NeverBad.{never_chain}
use Rattle.gin_vacuum.proofs.freeing.drop_first.Goals as goal

pub hold_page-requires : goal.hold_page-requires
hold_page-requires g c =
    record { pass = c.requires.pass; right = c.requires.right; few = omega (arith, c.requires.holding.all) }

-- ── the page is not held ──

pub release-requires : goal.release-requires
release-requires g c =
    let works = c.hold_page.ensures.reads.works in
    record {
      pass = works.is_pass;
      right = right_on g.D.Disk c.args.frames.now c.hold_page.new.frames c.args.pass.now c.hold_page.new.pass []
          c.requires.right works;
      holding = ([], c.in-Err.ensures.still.holding (c.args.heap ∷ []) c.requires.holding);
    }

pub returns-in-Err : goal.returns-in-Err
returns-in-Err g c =
    let f = c.args.frames.now in
    let p = c.args.pass.now in
    let l = c.hold_page.new.frames in
    let h = c.release.new.frames in
    let found = c.args.found in
    let error = c.in-Err.error in
    let back = c.release.ensures in
    record {
      none_held = sym (back.holding [] (c.in-Err.ensures.still.holding (c.args.heap ∷ []) c.requires.holding)).all;
      logged = tt;
      refused = reads_in_turn g.D.Disk f l h p c.hold_page.new.pass c.release.new.pass c.hold_page.ensures.reads
          back.reads;
      cause = finds_now g.D.Disk f p (CannotFree g.D.Disk h error) c.requires.pass
          (chain_cause g.D.Disk f p found.chain found.page l h error back.faults
          (never_chain g.D.Disk f p c.args.heap c.requires.holding found c.requires.found c.requires.page)
          c.in-Err.ensures.cause);
      fine = tt;
      fault = told_back g.D.Disk f l h error c.in-Err.ensures.fault back.calm back.at_rest;
    }

-- ── it is another page ──

pub give_back-requires : goal.give_back-requires
give_back-requires g c =
    let works = c.hold_page.ensures.reads.works in
    record {
      pass = works.is_pass;
      right = right_on g.D.Disk c.args.frames.now c.hold_page.new.frames c.args.pass.now c.hold_page.new.pass []
          c.requires.right works;
      holding = c.in-Ok.ensures.holding (c.args.heap ∷ []) c.requires.holding;
    }

pub returns-then-not-is_of : goal.returns-then-not-is_of
returns-then-not-is_of g c =
    let f = c.args.frames.now in
    let p = c.args.pass.now in
    let l = c.hold_page.new.frames in
    let h = c.give_back.new.frames in
    let found = c.args.found in
    let fine = fine_then g.D.Disk f l h c.in-Ok.ensures.fine (calm_fine g.D.Disk l h c.give_back.ensures.calm) in
    let off : IsPageOf found.chain c.page.result.now → ⊥ =
    λ is. false≢true (sym c.if-not-is_of.true ∙ c.is_of.ensures.1 is) in
    let lies = subst (Lies f found.page) (sym c.page.ensures.value) c.in-Ok.ensures.lies in
    let cannot : CannotUse f (IsPageOf found.chain) found.page =
    CannotUse.other c.page.result.now c.page.ensures.is_page lies off in
    record {
      none_held = c.give_back.ensures.none_held;
      logged = tt;
      refused = reads_in_turn g.D.Disk f l h p c.hold_page.new.pass c.give_back.new.pass c.hold_page.ensures.reads
          c.give_back.ensures.reads;
      cause = finds_now g.D.Disk f p (CannotFree g.D.Disk h (BadPage found.page)) c.requires.pass
          (IsBadFreed.of_chain found.chain cannot
          (never_chain g.D.Disk f p c.args.heap c.requires.holding found c.requires.found c.requires.page cannot));
      fine = tt;
      fault = fine;
    }

-- ── it goes ──

pub drop_step-made-requires : goal.drop_step-made-requires
drop_step-made-requires g c = record {
  chain = c.requires.found;
  page = subst (IsPageOf c.args.found.chain) c.page.ensures.value (c.is_of.ensures.0 c.if-not-is_of.false);
}

pub log_both-requires : goal.log_both-requires
log_both-requires g c =
    let f = c.args.frames.now in
    let p = c.args.pass.now in
    let l = c.hold_page.new.frames in
    let q = c.hold_page.new.pass in
    let to = c.hold_page.ensures.reads.works in
    let right = right_on g.D.Disk f l p q [] c.requires.right to in
    let heap = c.args.heap in
    let page = c.in-Ok.page in
    let found = c.args.found in
    let holding = c.in-Ok.ensures.holding (heap ∷ []) c.requires.holding in
    let serial : found.serial < 2 ^ 64 = omega arith in
    record {
      is_pass = to.is_pass;
      right = right;
      holding = holding;
      may = λ step is.
          may_drop g.D.Disk l q to.is_pass right heap step page found holding
          (in_ok c.drop_step-made.result step (IsDropStep heap page found) is c.drop_step-made.ensures)
          c.requires.found c.requires.page c.in-Ok.ensures.number slot_is_head (c.requires.item, serial)
          (item_on g.D.Disk f l p q (heap ∷ []) c.requires.holding c.requires.pass c.requires.right to found.item
          c.requires.out) drop_page_may;
    }

pub returns : goal.returns
returns g c =
    let f = c.args.frames.now in
    let p = c.args.pass.now in
    let l = c.hold_page.new.frames in
    let q = c.hold_page.new.pass in
    let h = c.log_both.new.frames in
    let r = c.log_both.new.pass in
    let heap = c.args.heap in
    let page = c.in-Ok.page in
    let made = c.drop_step-made.result in
    let fine = c.in-Ok.ensures.fine in
    let e = c.log_both.ensures in
    record {
      none_held = e.none_held;
      logged = on_ok c.log_both.result (LogsMade g.D.Disk l q (page ∷ heap ∷ []) made h r)
          (LogsDrop g.D.Disk f p heap h r c.args.found) (λ logs. record {
            frames_held = l;
            pass_held = q;
            reads = c.hold_page.ensures.reads;
            page = page;
            step = logs.step;
            is_step = in_ok made logs.step (IsDropStep heap page c.args.found) logs.made_is c.drop_step-made.ensures;
            logged = logs.logged;
          }) e.logged;
      refused = on_err c.log_both.result (ReadsOn g.D.Disk l q h r) (ReadsOn g.D.Disk f p h r)
          (reads_in_turn g.D.Disk f l h p q r c.hold_page.ensures.reads) e.refused;
      cause = if_err c.log_both.result (λ x. CannotLog g.D.Disk h x l q) (λ x. Finds g.D.Disk f p (CannotFree
          g.D.Disk h x))
          (λ x why. (l, q, c.hold_page.ensures.reads.works, fine, log_free_cause g.D.Disk h x l q why)) e.cause;
      fine = on_ok c.log_both.result (MetNoFault g.D.Disk l h) (MetNoFault g.D.Disk f h) (fine_then g.D.Disk f l h fine)
          e.fine;
      fault = if_err c.log_both.result (λ x. FaultBy g.D.Disk l h x) (λ x. FaultBy g.D.Disk f h x)
          (λ x. told_then g.D.Disk f l h x fine) e.fault;
    }
