use Rattle.std.proofs.Common.{◌+◌, get_or, take, subst, sym, ◌∙◌, arith}
use Rattle.std.proofs.lemmas.List.{take_all, take_more}
use Rattle.std.proofs.lemmas.Bool.{false≢true}
use Rattle.doc_heap.specs.Leaving.{FreesSlots}
use Rattle.doc_heap.proofs.Leavings.{none_freed, one_more}
use Rattle.doc_heap.proofs.leaving.free_all.Goals as goal
use Rattle.doc_heap.proofs.leaving.free_all.Goals.{then-free_one, else-free_one}

pub loop-k-init : goal.loop-k-init
loop-k-init c = none_freed c.args.slots.now

pub loop-k-preserved : goal.loop-k-preserved
loop-k-preserved c =
    let items = c.args.items.now in
    let x = get_or items c.loop-k.k 0 in
    one_more c.args.slots.now (take c.loop-k.k items) c.loop-k.slots x c.loop-k.freed c.loop-k.invariant
    c.free_one.new.slots c.free_one.result c.if-free_one.freed c.free_one.ensures
    (λ e. elim c.if-free_one.branch [
      | then-free_one w ↦ w.freed-is
      | else-free_one w ↦ absurd (false≢true (sym w.if-free_one.false ∙ e))
    ])
    (λ e. elim c.if-free_one.branch [
      | then-free_one w ↦ absurd (false≢true (sym e ∙ w.if-free_one.true))
      | else-free_one w ↦ w.freed-is
    ])
    (take (c.loop-k.k + 1) items) (take_more items c.loop-k.k 0 c.loop-k-test.true)

pub returns-clause-frees : goal.returns-clause-frees
returns-clause-frees c =
    subst (λ l. FreesSlots l c.args.slots.now c.loop-k.slots)
    (take_all c.loop-k.k c.args.items.now (omega (arith, c.loop-k-test.false))) c.loop-k.invariant.frees

pub returns-clause-some : goal.returns-clause-some
returns-clause-some c = c.loop-k.invariant.some
