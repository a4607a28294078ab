use Rattle.std.proofs.Common.{◌+◌, ◌<◌, ◌≤◌, ℕ, List, length, get_or, sym, ap, subst, ◌∙◌, arith}
use Rattle.std.specs.List.Sorted.{IsBinarySearchResult}
use Rattle.std.specs.Ordering.{nat_cmp}
use Rattle.std.specs.Prelude.{Vec}
use Rattle.std.specs.declared.alloc.Global.{Global}
use Rattle.gin_vacuum.specs.Inner.Unlinked.{AreOthers}
use Rattle.gin_vacuum.proofs.WalkCode.{AreOthersTo, search_none, others_add, others_skip, others_end}
use Rattle.gin_vacuum.proofs.unlinked.left_out.Goals as goal
use Rattle.gin_vacuum.proofs.unlinked.left_out.Goals.{then-is_err+in_ok-push, else-is_err}

pub loop-item-preserved : goal.loop-item-preserved
loop-item-preserved c =
    let dead = c.args.dead.now in
    let xs = c.items-item-items.result.now in
    let k = c.loop-item.item-index in
    let y = get_or xs k 0 in
    let met = c.sort_unstable.new.self.items in
    let items = c.loop-item.items.items in
    let lt : k < length xs = omega (arith, c.loop-item-test.true) in
    let same = c.items-item-items.ensures.items in
    let are = c.items-item-items.ensures.rise in
    let none = search_none met y c.binary_search.result c.sort_unstable.ensures.sorted
    (subst (λ (l : List ℕ). IsBinarySearchResult (λ n. nat_cmp n y) l c.binary_search.result) c.deref.ensures.value
    c.binary_search.ensures.position) c.is_err.result c.is_err.ensures.value in
    elim c.if-is_err.branch [
      | then-is_err+in_ok-push w ↦
          subst (AreOthersTo dead met (k + 1))
          (sym (ap (λ (v : Vec ℕ Global). v.items) w.items-is ∙ w.in_ok-push.ensures.items))
          (others_add dead xs met items k same are lt c.loop-item.invariant (none.0 w.if-is_err.true))
      | else-is_err w ↦
          subst (AreOthersTo dead met (k + 1)) (sym (ap (λ (v : Vec ℕ Global). v.items) w.items-is))
          (others_skip dead xs met items k same are lt c.loop-item.invariant (none.1 w.if-is_err.false))
    ]

pub returns : goal.returns
returns c =
    let dead = c.args.dead.now in
    let xs = c.items-item-items.result.now in
    let far : length dead ≤ c.loop-item.item-index =
    omega (arith, c.loop-item-test.false, ap (λ (l : List ℕ). length l) c.items-item-items.ensures.items) in
    subst (AreOthers dead c.args.met.items) (sym c.new.ensures)
    (others_end dead c.args.met.items c.sort_unstable.new.self.items c.loop-item.items.items c.loop-item.item-index far
    c.sort_unstable.ensures.permutation c.loop-item.invariant)
