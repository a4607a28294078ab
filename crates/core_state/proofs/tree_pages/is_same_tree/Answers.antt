use Rattle.std.proofs.Common.{sym, ap, ◌∙◌, map}
use Rattle.std.specs.Cmp.Lexicographic.{bytes_decides}
use Rattle.core_state.specs.Inner.Members.{Member}
use Rattle.core_state.proofs.SharedFronts.{map_one, entry_one, child_one, post_one}
use Rattle.core_state.proofs.RootedLeaves.{same_inner, inner_same, same_posts, posts_same, same_leaves}
use Rattle.core_state.proofs.RootedLeaves.{leaves_same, same_lists, lists_same}
use Rattle.core_state.proofs.tree_pages.is_same_tree.Goals as goal

pub returns-in-EntryInner-EntryInner : goal.returns-in-EntryInner-EntryInner
returns-in-EntryInner-EntryInner c =
    let k = c.in-EntryInner-EntryInner in (
      λ e. same_inner c.args.a.now c.args.b.now k.children k.others k.is-0 k.is-1
          (map_one Member.child child_one k.children k.others (c.go_on-in-EntryInner-EntryInner.ensures.0 e)),
      λ t. c.go_on-in-EntryInner-EntryInner.ensures.1
          (ap (map Member.child) (inner_same c.args.a.now c.args.b.now k.children k.others k.is-0 k.is-1 t)),
    )

pub returns-in-PostInner-PostInner : goal.returns-in-PostInner-PostInner
returns-in-PostInner-PostInner c =
    let k = c.in-PostInner-PostInner in (
      λ e. same_posts c.args.a.now c.args.b.now k.children k.others k.is-0 k.is-1
          (map_one Member.post post_one k.children k.others (c.go_on-in-PostInner-PostInner.ensures.0 e)),
      λ t. c.go_on-in-PostInner-PostInner.ensures.1
          (ap (map Member.post) (posts_same c.args.a.now c.args.b.now k.children k.others k.is-0 k.is-1 t)),
    )

pub returns-then-eq : goal.returns-then-eq
returns-then-eq c =
    let k = c.in-EntryLeaf-EntryLeaf in
    let x = c.as_slice.result.now in
    let y = c.as_slice-in-EntryLeaf-EntryLeaf.result.now in
    let highs = sym c.as_slice.ensures ∙ (bytes_decides x y).0 (sym c.eq.ensures ∙ c.if-eq.true)
    ∙ c.as_slice-in-EntryLeaf-EntryLeaf.ensures in (
      λ e. same_leaves c.args.a.now c.args.b.now k.high k.other k.entries k.others k.is-0 k.is-1 highs
          (map_one Member.entry entry_one k.entries k.others (c.go_on.ensures.0 e)),
      λ t. c.go_on.ensures.1 (ap (map Member.entry)
          (leaves_same c.args.a.now c.args.b.now k.high k.other k.entries k.others k.is-0 k.is-1 t).1),
    )

pub returns-then-high-other : goal.returns-then-high-other
returns-then-high-other c =
    let k = c.in-PostLeaf-PostLeaf in
    let x = c.as_slice-then-high-other.result.now in
    let y = c.as_slice-then-high-other-2.result.now in (
      λ e. same_lists c.args.a.now c.args.b.now k.high k.other k.items k.others k.is-0 k.is-1 c.if-high-other.true
          (sym c.as_slice-then-high-other.ensures ∙ (bytes_decides x y).0 (sym c.eq-then-high-other.ensures ∙ e)
          ∙ c.as_slice-then-high-other-2.ensures),
      λ t. c.eq-then-high-other.ensures ∙ (bytes_decides x y).1 (c.as_slice-then-high-other.ensures
          ∙ (lists_same c.args.a.now c.args.b.now k.high k.other k.items k.others k.is-0 k.is-1 t).1
          ∙ sym c.as_slice-then-high-other-2.ensures),
    )
