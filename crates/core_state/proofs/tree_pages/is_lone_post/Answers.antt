use Rattle.std.proofs.Common.{◌≡◌, [], ◌∷◌, length, ap, ◌∙◌, eqb-true, eq-eqb, arith}
use Rattle.page_types.specs.Numbers.{no_bound}
use Rattle.page_types.specs.declared.page.PostChild.{PostChild}
use Rattle.core_state.proofs.RootedLeaves.{lone, lone_is, post_is}
use Rattle.core_state.proofs.tree_pages.is_lone_post.Goals as goal

pub returns : goal.returns
returns c =
    let x : PostChild = c.in-Some.child.now in
    let alone : PostChild = record { page = c.args.page; bound = no_bound } in
    let one : length c.args.children.now ≡ 1 = omega (arith, c.if-len-ne1.false, c.len.ensures) in (
      λ e. lone c.args.children.now x c.in-Some.ensures.some one
          ∙ ap (λ (y : PostChild). y ∷ []) (post_is x c.args.page c.if-child-page.false (eqb-true x.bound no_bound e)),
      λ e. eq-eqb x.bound no_bound (ap (λ (y : PostChild). y.bound)
          (lone_is c.args.children.now x alone c.in-Some.ensures.some e)),
    )
