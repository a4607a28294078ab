use Rattle.std.proofs.Common.{◌≡◌, [], ◌∷◌, eqb, length, ap, ◌∙◌, arith}
use Rattle.page_types.specs.Parts.{child_shown}
use Rattle.page_types.specs.declared.page.EntryChild.{EntryChild}
use Rattle.page_types.proofs.ItemReading.{none_left}
use Rattle.core_state.proofs.RootedLeaves.{lone, lone_is, child_is}
use Rattle.core_state.proofs.tree_pages.is_lone_child.Goals as goal

pub returns : goal.returns
returns c =
    let x : EntryChild = child_shown c.in-Some.child in
    let alone : EntryChild = record { page = c.args.page; bound = [] } in
    let one : length c.args.children.now ≡ 1 = omega (arith, c.if-len-ne1.false, c.len.ensures) in (
      λ e. lone c.args.children.now x c.in-Some.ensures.some one
          ∙ ap (λ (y : EntryChild). y ∷ []) (child_is x c.args.page c.if-child-page.false
          (none_left x.bound c.is_empty.result e c.is_empty.ensures)),
      λ e. c.is_empty.ensures ∙ ap (λ (y : EntryChild). eqb (length y.bound) 0)
          (lone_is c.args.children.now x alone c.in-Some.ensures.some e),
    )
