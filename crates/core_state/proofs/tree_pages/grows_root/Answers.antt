use Rattle.std.proofs.Common.{refl, ap, arith}
use Rattle.page_types.specs.declared.page.Page.{Page}
use Rattle.core_state.proofs.LinkedPages.{left_as}
use Rattle.core_state.proofs.RootedLeaves.{tree_same, tree_of}
use Rattle.core_state.proofs.tree_pages.grows_root.Goals as goal

pub returns-then-is_one_child : goal.returns-then-is_one_child
returns-then-is_one_child c =
    let old = c.args.old.now in
    let root = c.args.root.now in
    let moved = c.args.moved.now in (
      λ e. record {
        inner = root.body;
        large = omega (arith, c.body_length.ensures);
        one_child = c.is_one_child.ensures.0 c.if-is_one_child.true;
        root_is = left_as c.args.rec.now root old.right root.body c.if-root-old.false c.if-root-rec.false refl;
        moved_is = left_as c.args.rec.now moved 0 old.body c.if-moved-ne0.false c.if-moved-rec.false
            (tree_same old.body moved.body (c.is_same_tree.ensures.0 e));
      },
      λ g. c.is_same_tree.ensures.1 (tree_of c.args.page old.body g.inner moved.body g.one_child
          (ap (λ (p : Page). p.body) g.moved_is)),
    )
