use Rattle.std.specs.Prelude.{Vec}
use Rattle.std.specs.declared.alloc.Global.{Global}
use Rattle.std.proofs.Common.{◌≡◌, ◌∙◌, ℕ, length, map, sym, ap, subst, arith}
use Rattle.std.proofs.lemmas.List.{length-map}
use Rattle.gin_hits.specs.Rows.{lists_of}
use Rattle.gin_hits.specs.Inner.Marks.{IsInOrder}
use Rattle.gin_hits.proofs.ItemLists.{items_in}
use Rattle.gin_hits.proofs.PutInOrder.{put_one, put_lists, are_in_order, have_same}
use Rattle.gin_hits.proofs.hits.Hits.put_in_order.Goals as goal

pub loop-items-preserved : goal.loop-items-preserved
loop-items-preserved c =
    put_one c.loop-items.items-index (map items_in c.deref_mut-items-items.result.now) c.loop-items.items-items
    c.items-item.result c.merge_runs.new.items c.loop-items.invariant
    (omega (arith, c.loop-items-test.true, c.loop-items.auto.items-items))
    c.items-item.is
    (subst (λ (z : Vec ℕ Global). IsInOrder z.items c.merge_runs.new.items.items) (sym c.items-item.is)
    c.merge_runs.ensures)

pub returns-clause-in_order : goal.returns-clause-in_order
returns-clause-in_order c =
    let first = put_lists c.args.self.now.by_key c.deref_mut-items-items.result.now c.loop-items.items-items
    c.loop-items.items-index c.deref_mut-items-items.ensures.value c.loop-items.invariant in
    let short : length (lists_of c.args.self.now) ≡ length c.deref_mut-items-items.result.now
    = length-map c.args.self.now.by_key.items items_in ∙ sym (ap length c.deref_mut-items-items.ensures.value) in
    are_in_order c.loop-items.items-index (lists_of c.args.self.now) _ first
    (omega (arith, c.loop-items-test.false, short))

pub returns-clause-same : goal.returns-clause-same
returns-clause-same c =
    let first = put_lists c.args.self.now.by_key c.deref_mut-items-items.result.now c.loop-items.items-items
    c.loop-items.items-index c.deref_mut-items-items.ensures.value c.loop-items.invariant in
    let short : length (lists_of c.args.self.now) ≡ length c.deref_mut-items-items.result.now
    = length-map c.args.self.now.by_key.items items_in ∙ sym (ap length c.deref_mut-items-items.ensures.value) in
    have_same c.loop-items.items-index c.args.self.now _ first
    (omega (arith, c.loop-items-test.false, short))
    c.put_if.ensures.same
