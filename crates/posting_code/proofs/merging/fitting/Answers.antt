use Rattle.std.proofs.Common.{◌+◌, [], max, refl, sym, subst, arith}
use Rattle.page_types.specs.Items.{AreItemsFrom}
use Rattle.posting_code.proofs.Places.{run_place, less_left}
use Rattle.posting_code.proofs.Uniting.{run_above, next_above}
use Rattle.posting_code.proofs.Taking.{taking_starts, run_counted, item_counted, counted_small, left_small}
use Rattle.posting_code.proofs.Taking.{taking_goes_on, taking_stops}
use Rattle.posting_code.proofs.merging.fitting.Goals as goal

pub loop-k-init : goal.loop-k-init
loop-k-init c = taking_starts c.args.list.now c.args.items.now c.args.most c.requires.list c.requires.items

pub slice_bounds-run-count : goal.slice_bounds-run-count
slice_bounds-run-count c =
    let p = c.skip_below-next in
    less_left _ c.loop-k.place.last c.loop-k.place.rest.now p.result.last p.result.rest.now
    c.loop-k.invariant.counted.merging.stands p.ensures

pub run_size-requires-clause-run : goal.run_size-requires-clause-run
run_size-requires-clause-run c =
    let p = c.skip_below-next in
    (run_place _ c.loop-k.place.last c.loop-k.place.rest.now p.result.last p.result.rest.now
    c.loop-k.invariant.counted.merging.stands p.ensures).stands

pub run_size-requires-clause-above : goal.run_size-requires-clause-above
run_size-requires-clause-above c =
    let p = c.skip_below-next in
    let g = c.loop-k.invariant.counted in
    let r = run_place _ c.loop-k.place.last c.loop-k.place.rest.now p.result.last p.result.rest.now g.merging.stands
    p.ensures in
    subst (AreItemsFrom c.loop-k.taken.last) (sym r.left)
    (run_above [] c.args.list.now c.args.items.now g.out c.loop-k.k c.loop-k.place.last c.loop-k.taken.last _
    p.result.last c.loop-k.place.rest.now p.result.rest.now g.merging p.ensures)

pub overflow_add-size : goal.overflow_add-size
overflow_add-size c =
    let p = c.skip_below-next in
    let g = run_counted c.args.list.now c.args.items.now c.loop-k.k c.loop-k.place.last c.loop-k.taken.last
    c.loop-k.taken.size _ p.result.last (max c.loop-k.taken.last p.result.last) c.run_size.result
    c.loop-k.place.rest.now p.result.rest.now c.loop-k.invariant.counted c.loop-k-test.true refl p.ensures
    c.run_size.ensures refl in
    let small = counted_small c.args.list.now c.args.items.now c.loop-k.k p.result.last
    (max c.loop-k.taken.last p.result.last) (c.loop-k.taken.size + c.run_size.result) p.result.rest.now g in
    omega (arith, small)

pub with_item-taken-requires-clause-rises : goal.with_item-taken-requires-clause-rises
with_item-taken-requires-clause-rises c =
    let p = c.skip_below-next in
    let g = run_counted c.args.list.now c.args.items.now c.loop-k.k c.loop-k.place.last c.loop-k.taken.last
    c.loop-k.taken.size _ p.result.last c.max-last.result c.run_size.result
    c.loop-k.place.rest.now p.result.rest.now c.loop-k.invariant.counted c.loop-k-test.true refl p.ensures
    c.run_size.ensures c.max-last.ensures in
    (next_above [] c.args.list.now c.args.items.now g.out c.loop-k.k p.result.last c.max-last.result _
    p.result.rest.now g.merging c.loop-k-test.true refl).0

pub with_item-taken-requires-clause-size : goal.with_item-taken-requires-clause-size
with_item-taken-requires-clause-size c =
    let p = c.skip_below-next in
    let g = run_counted c.args.list.now c.args.items.now c.loop-k.k c.loop-k.place.last c.loop-k.taken.last
    c.loop-k.taken.size _ p.result.last c.max-last.result c.run_size.result
    c.loop-k.place.rest.now p.result.rest.now c.loop-k.invariant.counted c.loop-k-test.true refl p.ensures
    c.run_size.ensures c.max-last.ensures in
    let small = counted_small c.args.list.now c.args.items.now c.loop-k.k p.result.last c.max-last.result
    (c.loop-k.taken.size + c.run_size.result) p.result.rest.now g in
    omega (arith, small)

pub run_size-requires-in-loop-k-clause-above : goal.run_size-requires-in-loop-k-clause-above
run_size-requires-in-loop-k-clause-above c =
    let p = c.skip_below-next in
    let t = c.with_item-taken in
    let g = run_counted c.args.list.now c.args.items.now c.loop-k.k c.loop-k.place.last c.loop-k.taken.last
    c.loop-k.taken.size _ p.result.last c.max-last.result c.run_size.result
    c.loop-k.place.rest.now p.result.rest.now c.loop-k.invariant.counted c.loop-k-test.true refl p.ensures
    c.run_size.ensures c.max-last.ensures in
    let h = item_counted c.args.list.now c.args.items.now c.loop-k.k p.result.last c.max-last.result
    (c.loop-k.taken.size + c.run_size.result) _ t.result.last t.result.size p.result.rest.now g
    c.loop-k-test.true refl p.ensures.above t.ensures in
    h.merging.left_above

pub overflow_add-taken : goal.overflow_add-taken
overflow_add-taken c =
    let p = c.skip_below-next in
    let t = c.with_item-taken in
    let g = run_counted c.args.list.now c.args.items.now c.loop-k.k c.loop-k.place.last c.loop-k.taken.last
    c.loop-k.taken.size _ p.result.last c.max-last.result c.run_size.result
    c.loop-k.place.rest.now p.result.rest.now c.loop-k.invariant.counted c.loop-k-test.true refl p.ensures
    c.run_size.ensures c.max-last.ensures in
    let h = item_counted c.args.list.now c.args.items.now c.loop-k.k p.result.last c.max-last.result
    (c.loop-k.taken.size + c.run_size.result) _ t.result.last t.result.size p.result.rest.now g
    c.loop-k-test.true refl p.ensures.above t.ensures in
    let small = counted_small c.args.list.now c.args.items.now (c.loop-k.k + 1) p.result.last t.result.last
    t.result.size p.result.rest.now h in
    let rest = left_small c.args.list.now c.args.items.now (c.loop-k.k + 1) p.result.last t.result.last
    t.result.size p.result.rest.now h in
    omega (arith, small, rest, c.run_size-in-loop-k.ensures)

pub returns-then-taken-run_size : goal.returns-then-taken-run_size
returns-then-taken-run_size c =
    let p = c.skip_below-next in
    let t = c.with_item-taken in
    let g = run_counted c.args.list.now c.args.items.now c.loop-k.k c.loop-k.place.last c.loop-k.taken.last
    c.loop-k.taken.size _ p.result.last c.max-last.result c.run_size.result
    c.loop-k.place.rest.now p.result.rest.now c.loop-k.invariant.counted c.loop-k-test.true refl p.ensures
    c.run_size.ensures c.max-last.ensures in
    let h = item_counted c.args.list.now c.args.items.now c.loop-k.k p.result.last c.max-last.result
    (c.loop-k.taken.size + c.run_size.result) _ t.result.last t.result.size p.result.rest.now g
    c.loop-k-test.true refl p.ensures.above t.ensures in
    taking_stops c.args.list.now c.args.items.now c.args.most c.loop-k.k c.loop-k.place.last c.loop-k.taken.last
    c.loop-k.taken.size p.result.last t.result.last t.result.size c.loop-k.place.rest.now p.result.rest.now
    c.loop-k.invariant c.loop-k-test.true h (omega (arith, c.if-taken-run_size.true, c.run_size-in-loop-k.ensures))

pub loop-k-preserved : goal.loop-k-preserved
loop-k-preserved c =
    let p = c.skip_below-next in
    let t = c.with_item-taken in
    let g = run_counted c.args.list.now c.args.items.now c.loop-k.k c.loop-k.place.last c.loop-k.taken.last
    c.loop-k.taken.size _ p.result.last c.max-last.result c.run_size.result
    c.loop-k.place.rest.now p.result.rest.now c.loop-k.invariant.counted c.loop-k-test.true refl p.ensures
    c.run_size.ensures c.max-last.ensures in
    let h = item_counted c.args.list.now c.args.items.now c.loop-k.k p.result.last c.max-last.result
    (c.loop-k.taken.size + c.run_size.result) _ t.result.last t.result.size p.result.rest.now g
    c.loop-k-test.true refl p.ensures.above t.ensures in
    taking_goes_on c.args.list.now c.args.items.now c.args.most (c.loop-k.k + 1) p.result.last t.result.last
    t.result.size p.result.rest.now h (omega (arith, c.if-taken-run_size.false, c.run_size-in-loop-k.ensures))
