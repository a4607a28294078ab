use Rattle.std.proofs.Common.{sym, ap, ◌∙◌, subst₂}
use Rattle.page_types.specs.declared.page.Body.TheVariants as body
use Rattle.core_state.specs.TreeRules.{OneChild}
use Rattle.core_state.proofs.RootedLeaves.{one_entry_child, one_post_child}
use Rattle.core_state.proofs.tree_pages.is_one_child.Goals as goal

pub returns-in-EntryLeaf-EntryInner : goal.returns-in-EntryLeaf-EntryInner
returns-in-EntryLeaf-EntryInner c =
    let k = c.in-EntryLeaf-EntryInner in (
      λ e. subst₂ (OneChild c.args.page) (sym k.is-0)
          (sym (k.is-1 ∙ ap body.EntryInner (c.is_lone_child.ensures.0 e)))
          (OneChild.of_leaf k.high-0 k.entries-0),
      λ o. c.is_lone_child.ensures.1
          (one_entry_child c.args.page c.args.root.now c.args.inner.now o k.children k.is-1),
    )

pub returns-in-EntryInner-EntryInner : goal.returns-in-EntryInner-EntryInner
returns-in-EntryInner-EntryInner c =
    let k = c.in-EntryInner-EntryInner in (
      λ e. subst₂ (OneChild c.args.page) (sym k.is-0)
          (sym (k.is-1 ∙ ap body.EntryInner (c.is_lone_child-in-EntryInner-EntryInner.ensures.0 e)))
          (OneChild.of_inner k.field-0-0),
      λ o. c.is_lone_child-in-EntryInner-EntryInner.ensures.1
          (one_entry_child c.args.page c.args.root.now c.args.inner.now o k.children k.is-1),
    )

pub returns-in-PostLeaf-PostInner : goal.returns-in-PostLeaf-PostInner
returns-in-PostLeaf-PostInner c =
    let k = c.in-PostLeaf-PostInner in (
      λ e. subst₂ (OneChild c.args.page) (sym k.is-0) (sym (k.is-1 ∙ ap body.PostInner (c.is_lone_post.ensures.0 e)))
          (OneChild.of_post_leaf k.high-0 k.items-0),
      λ o. c.is_lone_post.ensures.1 (one_post_child c.args.page c.args.root.now c.args.inner.now o k.children k.is-1),
    )

pub returns-in-PostInner-PostInner : goal.returns-in-PostInner-PostInner
returns-in-PostInner-PostInner c =
    let k = c.in-PostInner-PostInner in (
      λ e. subst₂ (OneChild c.args.page) (sym k.is-0)
          (sym (k.is-1 ∙ ap body.PostInner (c.is_lone_post-in-PostInner-PostInner.ensures.0 e)))
          (OneChild.of_post_inner k.field-0-0),
      λ o. c.is_lone_post-in-PostInner-PostInner.ensures.1
          (one_post_child c.args.page c.args.root.now c.args.inner.now o k.children k.is-1),
    )
