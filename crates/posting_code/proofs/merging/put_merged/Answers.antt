use Rattle.std.proofs.Common.{◌+◌, refl, sym, ap, subst, ◌∙◌, arith}
use Rattle.std.proofs.lemmas.Bool.{false≢true}
use Rattle.page_types.specs.Items.{AreItemsFrom}
use Rattle.posting_code.proofs.Places.{run_place, less_left}
use Rattle.posting_code.proofs.Uniting.{IsMerging, merging_starts, run_above, item_written, item_left, merging_ends}
use Rattle.posting_code.proofs.Uniting.{merging_cut, run_merged, next_above}
use Rattle.posting_code.proofs.merging.put_merged.Goals as goal
use Rattle.posting_code.proofs.merging.put_merged.Goals.{then-not-stands_here+in_ok-put_varbyte, else-not-stands_here}

pub loop-item-init : goal.loop-item-init
loop-item-init c = merging_starts c.args.out.now.items c.args.list.now c.args.items.now c.requires.list c.requires.items

pub slice_bounds-run-count : goal.slice_bounds-run-count
slice_bounds-run-count c = less_left _ c.loop-item.place.last c.loop-item.place.rest.now c.skip_below-next.result.last
    c.skip_below-next.result.rest.now c.loop-item.invariant.stands c.skip_below-next.ensures

pub put_run-requires-clause-run : goal.put_run-requires-clause-run
put_run-requires-clause-run c =
    (run_place _ c.loop-item.place.last c.loop-item.place.rest.now c.skip_below-next.result.last
    c.skip_below-next.result.rest.now c.loop-item.invariant.stands c.skip_below-next.ensures).stands

pub put_run-requires-clause-above : goal.put_run-requires-clause-above
put_run-requires-clause-above c =
    let r = run_place _ c.loop-item.place.last c.loop-item.place.rest.now c.skip_below-next.result.last
    c.skip_below-next.result.rest.now c.loop-item.invariant.stands c.skip_below-next.ensures in
    subst (AreItemsFrom c.loop-item.last) (sym r.left)
    (run_above c.args.out.now.items c.args.list.now c.args.items.now c.loop-item.out.items c.loop-item.item-index
    c.loop-item.place.last c.loop-item.last _ c.skip_below-next.result.last c.loop-item.place.rest.now
    c.skip_below-next.result.rest.now c.loop-item.invariant c.skip_below-next.ensures)

pub returns-in_err-put_run-clause-front : goal.returns-in_err-put_run-clause-front
returns-in_err-put_run-clause-front c =
    merging_cut c.args.out.now.items c.args.list.now c.args.items.now c.loop-item.out.items c.put_run.new.out.items
    c.loop-item.item-index c.loop-item.place.last c.loop-item.last c.loop-item.place.rest.now c.loop-item.invariant
    c.put_run.ensures.front

pub overflow_sub-item : goal.overflow_sub-item
overflow_sub-item c =
    let g =
    run_merged c.args.out.now.items c.args.list.now c.args.items.now c.loop-item.out.items c.put_run.new.out.items
    c.loop-item.item-index c.loop-item.place.last c.loop-item.last _ c.skip_below-next.result.last c.max-last.result
    c.loop-item.place.rest.now c.skip_below-next.result.rest.now c.loop-item.invariant c.loop-item-test.true refl
    c.skip_below-next.ensures c.in_ok-put_run.ensures.ok c.max-last.ensures in
    let n = next_above c.args.out.now.items c.args.list.now c.args.items.now c.put_run.new.out.items
    c.loop-item.item-index c.skip_below-next.result.last c.max-last.result _ c.skip_below-next.result.rest.now g
    c.loop-item-test.true refl in
    omega (arith, n.0)

pub returns-in_err-put_varbyte-clause-front : goal.returns-in_err-put_varbyte-clause-front
returns-in_err-put_varbyte-clause-front c =
    let g =
    run_merged c.args.out.now.items c.args.list.now c.args.items.now c.loop-item.out.items c.put_run.new.out.items
    c.loop-item.item-index c.loop-item.place.last c.loop-item.last _ c.skip_below-next.result.last c.max-last.result
    c.loop-item.place.rest.now c.skip_below-next.result.rest.now c.loop-item.invariant c.loop-item-test.true refl
    c.skip_below-next.ensures c.in_ok-put_run.ensures.ok c.max-last.ensures in
    merging_cut c.args.out.now.items c.args.list.now c.args.items.now c.put_run.new.out.items
    c.put_varbyte.new.out.items c.loop-item.item-index c.skip_below-next.result.last c.max-last.result
    c.skip_below-next.result.rest.now g c.put_varbyte.ensures.front

pub loop-item-preserved : goal.loop-item-preserved
loop-item-preserved c =
    let g =
    run_merged c.args.out.now.items c.args.list.now c.args.items.now c.loop-item.out.items c.put_run.new.out.items
    c.loop-item.item-index c.loop-item.place.last c.loop-item.last _ c.skip_below-next.result.last c.max-last.result
    c.loop-item.place.rest.now c.skip_below-next.result.rest.now c.loop-item.invariant c.loop-item-test.true refl
    c.skip_below-next.ensures c.in_ok-put_run.ensures.ok c.max-last.ensures in
    let p = c.skip_below-next in
    elim c.if-not-stands_here.branch [
      | then-not-stands_here+in_ok-put_varbyte w ↦
          let h = item_written c.args.out.now.items c.args.list.now c.args.items.now c.put_run.new.out.items
          w.put_varbyte.new.out.items c.loop-item.item-index p.result.last c.max-last.result
          _ p.result.rest.now g c.loop-item-test.true refl p.ensures.above (λ k. false≢true
          (sym w.if-not-stands_here.true ∙ c.stands_here.ensures.1 k)) w.in_ok-put_varbyte.ensures.ok in
          subst (λ n. IsMerging c.args.out.now.items c.args.list.now c.args.items.now c.if-not-stands_here.out.items
          (c.loop-item.item-index + 1) p.result.last n p.result.rest.now) (sym w.last-is)
          (subst (λ o. IsMerging c.args.out.now.items c.args.list.now c.args.items.now o
          (c.loop-item.item-index + 1) p.result.last _ p.result.rest.now) (ap (λ v. v.items) (sym w.out-is)) h)
      | else-not-stands_here w ↦
          let h = item_left c.args.out.now.items c.args.list.now c.args.items.now c.put_run.new.out.items
          c.loop-item.item-index p.result.last c.max-last.result _ p.result.rest.now g c.loop-item-test.true refl
          (c.stands_here.ensures.0 w.if-not-stands_here.false) in
          subst (λ n. IsMerging c.args.out.now.items c.args.list.now c.args.items.now c.if-not-stands_here.out.items
          (c.loop-item.item-index + 1) p.result.last n p.result.rest.now) (sym w.last-is)
          (subst (λ o. IsMerging c.args.out.now.items c.args.list.now c.args.items.now o (c.loop-item.item-index + 1)
          p.result.last c.max-last.result p.result.rest.now) (ap (λ v. v.items) (sym w.out-is)) h)
    ]

pub returns-clause-ok : goal.returns-clause-ok
returns-clause-ok c =
    merging_ends c.args.out.now.items c.args.list.now c.args.items.now c.loop-item.out.items c.put_run-2.new.out.items
    c.loop-item.item-index c.loop-item.place.last c.loop-item.last c.loop-item.place.rest.now c.loop-item.invariant
    (omega (arith, c.loop-item-test.false)) c.in_ok-put_run-2.ensures.ok

pub returns-in_err-put_run-2-clause-front : goal.returns-in_err-put_run-2-clause-front
returns-in_err-put_run-2-clause-front c =
    merging_cut c.args.out.now.items c.args.list.now c.args.items.now c.loop-item.out.items c.put_run-2.new.out.items
    c.loop-item.item-index c.loop-item.place.last c.loop-item.last c.loop-item.place.rest.now c.loop-item.invariant
    c.put_run-2.ensures.front
