use Rattle.std.proofs.Common.{◌≡◌, true, ℕ, List, refl, sym, subst₂}
use Rattle.page_types.specs.declared.page.Body.TheVariants as body
use Rattle.core_state.specs.Inner.SplitPages.{DividesList}
use Rattle.core_state.proofs.Halves.{post_leaf_told, post_leaf_back, PostLeafHalves}
use Rattle.core_state.proofs.splitting.post_leaf_mid.Goals as goal
use Rattle.core_state.proofs.splitting.post_leaf_mid.Goals.{then-end-high-via-then-end-high}
use Rattle.core_state.proofs.splitting.post_leaf_mid.Goals.{then-end-high-via-else-end-high+then-not-divides_list}

pub returns-then-end-high-clause-none : goal.returns-then-end-high-clause-none
returns-then-end-high-clause-none c =
    let high = c.args.high in
    let items = c.args.items.now in
    let k = c.in-PostLeaf in
    let j = c.in-PostLeaf-body in
    λ m h.
    let b : PostLeafHalves m high k.mid j.end items k.front j.back = post_leaf_back m (body.PostLeaf high items)
    c.args.left.now.body c.args.right.now.body h high k.mid j.end items k.front j.back refl k.is j.is in
    elim c.then-end-high.branch [
      | then-end-high-via-then-end-high w ↦ w.if-end-high.true b.end_is
      | then-end-high-via-else-end-high+then-not-divides_list w ↦
          let yes : w.divides_list.result ≡ true = w.divides_list.ensures.1 (subst₂
          (λ (xs ys : List ℕ). DividesList k.mid items xs ys) (sym w.as_slice.ensures)
          (sym w.as_slice-else-end-high.ensures) b.divides) in
          absurd (cc (yes, w.if-not-divides_list.true))
    ]

pub returns-clause-some : goal.returns-clause-some
returns-clause-some c =
    let high = c.args.high in
    let items = c.args.items.now in
    let k = c.in-PostLeaf in
    let j = c.in-PostLeaf-body in
    let d : DividesList k.mid items k.front j.back = subst₂ (λ (xs ys : List ℕ). DividesList k.mid items xs ys)
    c.as_slice.ensures c.as_slice-else-end-high.ensures (c.divides_list.ensures.0 c.if-not-divides_list.false) in
    post_leaf_told high k.mid j.end items k.front j.back c.args.left.now.body c.args.right.now.body k.is j.is
    c.if-end-high.false d
