use Rattle.std.proofs.Common.{◌≡◌, ◌<◌, ℕ, List, length, sym, subst, arith}
use Rattle.std.specs.Prelude.{Option, Some}
use Rattle.std.proofs.lemmas.Result.{on_ok_weaker}
use Rattle.page_types.specs.Parts.{head_shown}
use Rattle.page_types.specs.declared.page.Head.{Head}
use Rattle.core_state.specs.Changes.{PutsSlot}
use Rattle.doc_heap.proofs.SlotLists.{puts_set, puts_last}
use Rattle.doc_heap.proofs.placing.put.Goals as goal

-- where the list is one that such a change leaves
puts_as : (slots a b : List (Option Head)) (k : ℕ) (s : Option Head) → PutsSlot slots k s a → b ≡ a
    → PutsSlot slots k s b
puts_as slots a b k s p e = subst (PutsSlot slots k s) (sym e) p

pub returns-then-k-len : goal.returns-then-k-len
returns-then-k-len c =
    let lt : c.args.k < length c.args.slots.now = omega (arith, c.if-k-len.true, c.len.ensures) in
    on_ok_weaker c.set.result (puts_as c.args.slots.now _ c.set.new.self c.args.k (Some (head_shown c.args.head))
    (puts_set c.args.slots.now c.args.k (Some (head_shown c.args.head)) lt)) c.set.ensures.ok

pub returns-else-k-len : goal.returns-else-k-len
returns-else-k-len c =
    let at : c.args.k ≡ length c.args.slots.now = omega (arith, c.if-k-len.false, c.len.ensures, c.requires) in
    on_ok_weaker c.push.result (puts_as c.args.slots.now _ c.push.new.self c.args.k (Some (head_shown c.args.head))
    (puts_last c.args.slots.now c.args.k (Some (head_shown c.args.head)) at)) c.push.ensures.ok
