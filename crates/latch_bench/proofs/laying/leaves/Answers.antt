use Rattle.std.proofs.Common.{◌≡◌, List, [], ◌∷◌, length, length-append, sym, ap, subst, ◌∙◌, ⊎_elim, arith}
use mathlib.Core.Option.{some}
use lib.ListN.{get_elem?}
use Rattle.latch_bench.specs.declared.slots.Leaf.{Leaf}
use Rattle.latch_bench.proofs.Leaves.{at_end}
use Rattle.latch_bench.proofs.laying.leaves.Goals as goal

pub loop-page-preserved : goal.loop-page-preserved
loop-page-preserved c =
    let now = c.loop-page.invariant in
    let leaf : Leaf = record { page = c.loop-page.page; count = 0 } in
    let items = c.in_ok-push.ensures.items in (
      (let n = now.0 in
          let e = ap length items in
          let m = length-append c.loop-page.leaves.items (leaf ∷ []) in omega arith),
      λ i f at. ⊎_elim (λ old. now.1 i f old) (λ t. ap (λ (y : Leaf). y.page) (sym t.1) ∙ sym now.0 ∙ sym t.0)
          (at_end c.loop-page.leaves.items leaf f i (subst (λ (l : List Leaf). get_elem? l i ≡ some f) items at)),
    )
