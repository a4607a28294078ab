use Rattle.std.proofs.Common.{◌≡◌, ◌-◌, ◌∙◌, ℕ, [], get_or, sym, subst, ◌≤◌, List, length}
use Rattle.std.proofs.lemmas.Result.{err_from_is_err_and}
use Rattle.std.specs.List.{AllByRecursion}
use Rattle.page_types.specs.Pages.{IsPage}
use Rattle.page_types.specs.declared.page.Page.{Page}
use Rattle.core_state.specs.Documents.{page_of}
use Rattle.core_state.proofs.LawsHold.{records}
use Rattle.core_vacuum.proofs.Kept.{vacuum_holds}
use Rattle.core_vacuum.proofs.OutStays.{right_keeps_out}
use Rattle.buffer_frames.proofs.AtHand.{none_held}
use Rattle.buffer_frames.proofs.Exits.{on_refusal}
use Rattle.gin_place.specs.Causes.{Finds, CannotUse}
use Rattle.gin_place.specs.Faults.{MetNoFault, FaultBy}
use Rattle.gin_place.specs.Holding.{ReadsOn}
use Rattle.gin_place.specs.declared.error.PlaceError.TheVariants.{BadPage}
use Rattle.gin_place.proofs.Carrying.{reads_in_turn, right_on}
use Rattle.gin_place.proofs.Causing.{at_exit, finds_now, finds_after}
use Rattle.gin_place.proofs.Exits.{on_ok, on_err, if_err, no_ok}
use Rattle.gin_place.proofs.Faults.{fine_then, told_then, calm_fine}
use Rattle.gin_vacuum.specs.Going.{VacuumsOn}
use Rattle.gin_vacuum.specs.Freeing.{IsPageOf, IsBadFreed, CannotFree, ComesNearer, IsFreeKind}
use Rattle.gin_vacuum.specs.Inner.Freeing.{IsChained, HasNoChain, LogsDrop}
use Rattle.gin_vacuum.proofs.FreeWorks.{group_low, item_out, group_out, next_out, Works, drop_works, free_works}
use Rattle.gin_vacuum.proofs.FreeWorks.{drop_nearer, free_nearer}
use Rattle.gin_vacuum.proofs.FreeingOn.{freeing_on}
use Rattle.gin_vacuum.proofs.Logs.{reads_vacuum}
use Rattle.gin_vacuum.proofs.NeverBad.{never_heap, heap_no_chain, own_before}
use Rattle.gin_vacuum.proofs.WentOn.{read_then, dropped, freed}
use Rattle.gin_vacuum.proofs.freeing.Freeing.go_on.Goals as goal

pub hold_heap-requires : goal.hold_heap-requires
hold_heap-requires g c = record {
  pass = c.requires.pass;
  right = c.requires.right;
  none = c.requires.none;
  lawful = let f = c.args.frames.now in
      let p = c.args.pass.now in
      let items = c.args.items.now in
      let m = c.args.self.now in
      never_heap g.D.Disk right_keeps_out f p [] (none_held g.D.Disk f p c.requires.pass c.requires.none)
      c.requires.pass c.requires.right (get_or items m.from 0)
      (next_out g.D.Disk f p c.requires.freeing.0 items m c.requires.freeing.1 c.requires.left);
}

-- ── the heap page is not held ──

pub returns-in_err-heap : goal.returns-in_err-heap
returns-in_err-heap g c =
    let out = c.from_residual.result in
    let why = err_from_is_err_and out c.from_residual.ensures.1 in
    record {
      freeing = λ began x.
          let f = c.args.frames.now in
          let p = c.args.pass.now in
          freeing_on g.D.Disk f c.hold_heap.new.frames p c.hold_heap.new.pass []
          (none_held g.D.Disk f p c.requires.pass c.requires.none) c.requires.pass c.requires.right
          c.hold_heap.ensures.reads.works began c.args.items.now c.args.self.now x;
      none_held = c.in_err-heap.ensures.still;
      works =
          no_ok out why.0 ((kinds : List ℕ) × (length kinds ≤ 1) × AllByRecursion IsFreeKind kinds
          × VacuumsOn g.D.Disk c.args.frames.now c.args.pass.now c.hold_heap.new.frames c.hold_heap.new.pass kinds)
          why.1;
      refused = on_refusal (VacuumsOn g.D.Disk c.args.frames.now c.args.pass.now c.hold_heap.new.frames
          c.hold_heap.new.pass []) out
          (reads_vacuum g.D.Disk c.args.frames.now c.hold_heap.new.frames c.args.pass.now
          c.hold_heap.new.pass c.hold_heap.ensures.reads.works);
      lower =
          no_ok out why.0 (ComesNearer c.args.frames.now c.hold_heap.new.frames c.args.items.now c.args.self.now
          c.args.self.now) why.1;
      cause = at_exit (λ x. Finds g.D.Disk c.args.frames.now c.args.pass.now (CannotFree g.D.Disk
          c.hold_heap.new.frames x))
          out why.0 c.in_err-heap.field-0.0 why.1 why.2 c.in_err-heap.ensures.cause;
      fine =
          no_ok out why.0 (MetNoFault g.D.Disk c.args.frames.now c.hold_heap.new.frames) why.1;
      fault = at_exit (λ x. FaultBy g.D.Disk c.args.frames.now c.hold_heap.new.frames x) out why.0
          c.in_err-heap.field-0.0 why.1 why.2 c.in_err-heap.ensures.fault;
    }

-- ── a chain begins with the heap page ──

pub returns-in-Some : goal.returns-in-Some
returns-in-Some g c = record {
  freeing = λ began x.
      read_then g.D.Disk right_keeps_out vacuum_holds records c.args.frames.now
      c.hold_heap.new.frames c.release.new.frames c.args.pass.now c.hold_heap.new.pass c.release.new.pass
      c.requires.pass
      c.requires.right c.requires.none c.hold_heap.ensures.reads.works c.in_ok-heap.heap c.in_ok-heap.ensures.holding
      began c.args.items.now c.args.self.now x c.release.ensures.reads;
  none_held = sym (c.release.ensures.holding [] c.in_ok-heap.ensures.holding).all;
  works = tt;
  refused = reads_vacuum g.D.Disk c.args.frames.now c.release.new.frames c.args.pass.now
      c.release.new.pass
      (reads_in_turn g.D.Disk c.args.frames.now c.hold_heap.new.frames c.release.new.frames c.args.pass.now
      c.hold_heap.new.pass c.release.new.pass c.hold_heap.ensures.reads c.release.ensures.reads).works;
  lower = tt;
  cause = let f = c.args.frames.now in
      let p = c.args.pass.now in
      let l = c.hold_heap.new.frames in
      let q = c.hold_heap.new.pass in
      let heap = c.in_ok-heap.heap in
      let e = c.in_ok-heap.ensures in
      let found = c.in-Some.found in
      let own : found.page ≡ heap.page = c.if-found-page.true ∙ sym e.number in
      let chained : IsChained heap.content found =
      subst (λ (x : Page). IsChained x found) c.page.ensures.value c.in-Some.ensures.some in
      let number : heap.page ≡ page_of found.item =
      e.number ∙ sym (c.end_of-end.ensures.here found.item c.in-Some.ensures.item) in
      let cannot : CannotUse f (IsPageOf found.chain) (page_of (get_or c.args.items.now c.args.self.now.from 0)) =
      CannotUse.other heap.content (subst IsPage c.page.ensures.value c.page.ensures.is_page) e.lies
      (heap_no_chain found.chain heap.content e.heap) in
      finds_now g.D.Disk f p (CannotFree g.D.Disk c.release.new.frames
      (BadPage (page_of (get_or c.args.items.now c.args.self.now.from 0)))) c.requires.pass
      (IsBadFreed.of_chain found.chain cannot
      (own_before g.D.Disk f l p q c.hold_heap.ensures.reads.works e.fine heap e.holding e.heap found chained
      number own));
  fine = tt;
  fault = fine_then g.D.Disk c.args.frames.now c.hold_heap.new.frames c.release.new.frames
      c.in_ok-heap.ensures.fine (calm_fine g.D.Disk c.hold_heap.new.frames c.release.new.frames
      c.release.ensures.calm);
}

-- ── a page goes off a chain ──

pub returns-in-Some-2 : goal.returns-in-Some-2
returns-in-Some-2 g c = record {
  freeing = λ began x.
      let e = c.in_ok-heap.ensures in
      let found = c.in-Some.found in
      dropped g.D.Disk right_keeps_out vacuum_holds records c.args.frames.now
      c.hold_heap.new.frames c.drop_first.new.frames c.args.pass.now c.hold_heap.new.pass c.drop_first.new.pass
      c.requires.pass c.requires.right c.requires.none c.hold_heap.ensures.reads.works c.in_ok-heap.heap e.holding began
      c.args.items.now c.args.self.now x c.drop_first.result found
      (subst (λ (x : Page). IsChained x found) c.page.ensures.value c.in-Some.ensures.some)
      (e.number ∙ sym (c.end_of-end.ensures.here found.item c.in-Some.ensures.item)) c.drop_first.ensures.logged
      c.drop_first.ensures.refused;
  none_held = c.drop_first.ensures.none_held;
  works = let f = c.args.frames.now in
      let p = c.args.pass.now in
      let l = c.hold_heap.new.frames in
      let q = c.hold_heap.new.pass in
      let h = c.drop_first.new.frames in
      let r = c.drop_first.new.pass in
      let heap = c.in_ok-heap.heap in
      let to = c.hold_heap.ensures.reads.works in
      on_ok c.drop_first.result (LogsDrop g.D.Disk l q heap h r c.in-Some.found)
      (Works g.D.Disk f l h p q r to heap)
      (drop_works g.D.Disk f l h p q r to heap c.in-Some.found) c.drop_first.ensures.logged;
  refused = let f = c.args.frames.now in
      let p = c.args.pass.now in
      let l = c.hold_heap.new.frames in
      let q = c.hold_heap.new.pass in
      let h = c.drop_first.new.frames in
      let r = c.drop_first.new.pass in
      on_err c.drop_first.result (ReadsOn g.D.Disk l q h r) (VacuumsOn g.D.Disk f p h r [])
      (λ reads. reads_vacuum g.D.Disk f h p r
      (reads_in_turn g.D.Disk f l h p q r c.hold_heap.ensures.reads reads).works) c.drop_first.ensures.refused;
  lower = let f = c.args.frames.now in
      let p = c.args.pass.now in
      let l = c.hold_heap.new.frames in
      let q = c.hold_heap.new.pass in
      let h = c.drop_first.new.frames in
      let r = c.drop_first.new.pass in
      let heap = c.in_ok-heap.heap in
      let to = c.hold_heap.ensures.reads.works in
      on_ok c.drop_first.result (LogsDrop g.D.Disk l q heap h r c.in-Some.found)
      (ComesNearer f h c.args.items.now c.args.self.now c.args.self.now)
      (drop_nearer g.D.Disk f l h p q r to heap c.in-Some.found c.args.items.now
      c.args.self.now) c.drop_first.ensures.logged;
  cause = let f = c.args.frames.now in
      let p = c.args.pass.now in
      let l = c.hold_heap.new.frames in
      let q = c.hold_heap.new.pass in
      let h = c.drop_first.new.frames in
      if_err c.drop_first.result (λ e. Finds g.D.Disk l q (CannotFree g.D.Disk h e))
      (λ e. Finds g.D.Disk f p (CannotFree g.D.Disk h e))
      (λ e why. finds_after g.D.Disk f l p q (CannotFree g.D.Disk h e) c.hold_heap.ensures.reads.works
      c.in_ok-heap.ensures.fine why) c.drop_first.ensures.cause;
  fine = let f = c.args.frames.now in
      let l = c.hold_heap.new.frames in
      let h = c.drop_first.new.frames in
      on_ok c.drop_first.result (MetNoFault g.D.Disk l h) (MetNoFault g.D.Disk f h)
      (fine_then g.D.Disk f l h c.in_ok-heap.ensures.fine) c.drop_first.ensures.fine;
  fault = let f = c.args.frames.now in
      let l = c.hold_heap.new.frames in
      let h = c.drop_first.new.frames in
      if_err c.drop_first.result (λ e. FaultBy g.D.Disk l h e) (λ e. FaultBy g.D.Disk f h e)
      (λ e. told_then g.D.Disk f l h e c.in_ok-heap.ensures.fine) c.drop_first.ensures.fault;
}

-- ── slots become free ──

pub returns-in_err-free_all-in-None : goal.returns-in_err-free_all-in-None
returns-in_err-free_all-in-None g c =
    let out = c.from_residual-in_err-free_all-in-None.result in
    let why = err_from_is_err_and out c.from_residual-in_err-free_all-in-None.ensures.1 in
    record {
      freeing = λ began x.
          read_then g.D.Disk right_keeps_out vacuum_holds records c.args.frames.now
          c.hold_heap.new.frames c.free_all.new.frames c.args.pass.now c.hold_heap.new.pass c.free_all.new.pass
          c.requires.pass c.requires.right c.requires.none c.hold_heap.ensures.reads.works c.in_ok-heap.heap
          c.in_ok-heap.ensures.holding began c.args.items.now c.args.self.now x
          c.in_err-free_all-in-None.ensures.refused;
      none_held = c.free_all.ensures.none_held;
      works =
          no_ok out why.0 ((kinds : List ℕ) × (length kinds ≤ 1) × AllByRecursion IsFreeKind kinds
          × VacuumsOn g.D.Disk c.args.frames.now c.args.pass.now c.free_all.new.frames c.free_all.new.pass kinds) why.1;
      refused = let f = c.args.frames.now in
          let p = c.args.pass.now in
          let h = c.free_all.new.frames in
          let r = c.free_all.new.pass in
          on_refusal (VacuumsOn g.D.Disk f p h r []) out
          (reads_vacuum g.D.Disk f h p r
          (reads_in_turn g.D.Disk f c.hold_heap.new.frames h p c.hold_heap.new.pass r c.hold_heap.ensures.reads
          c.in_err-free_all-in-None.ensures.refused).works);
      lower =
          no_ok out why.0 (ComesNearer c.args.frames.now c.free_all.new.frames c.args.items.now c.args.self.now
          c.args.self.now) why.1;
      cause = let f = c.args.frames.now in
          let p = c.args.pass.now in
          let h = c.free_all.new.frames in
          let e = c.from_residual-in_err-free_all-in-None in
          let z = err_from_is_err_and e.result e.ensures.1 in
          let w = c.in_err-free_all-in-None.field-0.0 in
          at_exit (λ x. Finds g.D.Disk f p (CannotFree g.D.Disk h x)) e.result z.0 w z.1 z.2
          (finds_after g.D.Disk f c.hold_heap.new.frames p c.hold_heap.new.pass (CannotFree g.D.Disk h w)
          c.hold_heap.ensures.reads.works c.in_ok-heap.ensures.fine c.in_err-free_all-in-None.ensures.cause);
      fine =
          no_ok out why.0 (MetNoFault g.D.Disk c.args.frames.now c.free_all.new.frames) why.1;
      fault = let f = c.args.frames.now in
          let h = c.free_all.new.frames in
          let e = c.from_residual-in_err-free_all-in-None in
          let z = err_from_is_err_and e.result e.ensures.1 in
          let w = c.in_err-free_all-in-None.field-0.0 in
          at_exit (λ x. FaultBy g.D.Disk f h x) e.result z.0 w z.1 z.2
          (told_then g.D.Disk f c.hold_heap.new.frames h w c.in_ok-heap.ensures.fine
          c.in_err-free_all-in-None.ensures.fault);
    }

pub returns-in_ok-free_all-in-None : goal.returns-in_ok-free_all-in-None
returns-in_ok-free_all-in-None g c = record {
  freeing = λ began x.
      let e = c.in_ok-heap.ensures in
      let past = c.end_of-end.ensures.past c.requires.items in
      freed g.D.Disk right_keeps_out vacuum_holds records c.args.frames.now
      c.hold_heap.new.frames c.free_all.new.frames c.args.pass.now c.hold_heap.new.pass c.free_all.new.pass
      c.requires.pass c.requires.right c.requires.none c.hold_heap.ensures.reads.works c.in_ok-heap.heap e.holding began
      c.args.items.now c.args.self.now x c.end_of-end.result c.end_of-end.ensures.within.0
      c.end_of-end.ensures.within.1 (λ i at. c.end_of-end.ensures.here i at ∙ sym e.number)
      (λ i at same. past i at (same ∙ e.number)) e.seen c.in_ok-free_all-in-None.ensures.logged;
  none_held = c.free_all.ensures.none_held;
  works = free_works g.D.Disk c.args.frames.now c.hold_heap.new.frames
      c.free_all.new.frames c.args.pass.now c.hold_heap.new.pass c.free_all.new.pass c.hold_heap.ensures.reads.works
      c.in_ok-heap.heap _ c.in_ok-free_all-in-None.ensures.logged;
  refused = tt;
  lower = let within = c.end_of-end.ensures.within in
      free_nearer g.D.Disk c.args.frames.now c.hold_heap.new.frames
      c.free_all.new.frames c.args.pass.now c.hold_heap.new.pass c.free_all.new.pass c.hold_heap.ensures.reads.works
      c.in_ok-heap.heap _ c.args.items.now c.args.self.now c.end_of-end.result within.0 within.1
      c.in_ok-free_all-in-None.ensures.logged;
  cause = tt;
  fine = fine_then g.D.Disk c.args.frames.now c.hold_heap.new.frames c.free_all.new.frames c.in_ok-heap.ensures.fine
      c.in_ok-free_all-in-None.ensures.fine;
  fault = tt;
}

-- ── what the calls ask ──

pub drop_first-requires : goal.drop_first-requires
drop_first-requires g c = record {
  pass = c.hold_heap.ensures.reads.works.is_pass;
  right = right_on g.D.Disk c.args.frames.now c.hold_heap.new.frames c.args.pass.now c.hold_heap.new.pass []
      c.requires.right c.hold_heap.ensures.reads.works;
  holding = c.in_ok-heap.ensures.holding;
  heap = c.in_ok-heap.ensures.heap;
  page = c.in_ok-heap.ensures.number ∙ sym (c.end_of-end.ensures.here c.in-Some.found.item c.in-Some.ensures.item);
  item = group_low c.args.items.now c.args.self.now.from (c.end_of-end.result - c.args.self.now.from) c.requires.items
      c.in-Some.found.item c.in-Some.ensures.item;
  found = subst (λ (x : Page). IsChained x c.in-Some.found) c.page.ensures.value c.in-Some.ensures.some;
  out = let f = c.args.frames.now in
      let p = c.args.pass.now in
      let l = c.hold_heap.new.frames in
      let q = c.hold_heap.new.pass in
      let items = c.args.items.now in
      let m = c.args.self.now in
      let began : ℕ = c.requires.freeing.0 in
      item_out g.D.Disk l q began items m
      (freeing_on g.D.Disk f l p q [] (none_held g.D.Disk f p c.requires.pass c.requires.none) c.requires.pass
      c.requires.right c.hold_heap.ensures.reads.works began items m c.requires.freeing.1) (c.end_of-end.result -
      m.from)
      c.in-Some.found.item c.in-Some.ensures.item;
}

pub free_all-requires : goal.free_all-requires
free_all-requires g c = record {
  pass = c.hold_heap.ensures.reads.works.is_pass;
  right = right_on g.D.Disk c.args.frames.now c.hold_heap.new.frames c.args.pass.now c.hold_heap.new.pass []
      c.requires.right c.hold_heap.ensures.reads.works;
  holding = c.in_ok-heap.ensures.holding;
  heap = c.in_ok-heap.ensures.heap;
  page = λ i at. c.end_of-end.ensures.here i at ∙ sym c.in_ok-heap.ensures.number;
  bare = λ i at.
      subst (λ (x : Page). HasNoChain x i) c.page.ensures.value (c.in-None.ensures.none i at);
  out = let f = c.args.frames.now in
      let p = c.args.pass.now in
      let l = c.hold_heap.new.frames in
      let q = c.hold_heap.new.pass in
      let items = c.args.items.now in
      let m = c.args.self.now in
      let began : ℕ = c.requires.freeing.0 in
      group_out g.D.Disk l q began items m
      (freeing_on g.D.Disk f l p q [] (none_held g.D.Disk f p c.requires.pass c.requires.none) c.requires.pass
      c.requires.right c.hold_heap.ensures.reads.works began items m c.requires.freeing.1) (c.end_of-end.result -
      m.from);
}
