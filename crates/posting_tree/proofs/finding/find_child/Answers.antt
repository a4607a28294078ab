use Rattle.std.proofs.Common.{List, sym, subst}
use Rattle.page_types.specs.Keys.{Rising}
use Rattle.page_types.specs.declared.page.PostChild.{PostChild}
use Rattle.posting_tree.specs.Inner.Searching.{Below, IsDividedAt}
use Rattle.posting_tree.proofs.Reached.{found_down, found_past}
use Rattle.posting_tree.proofs.finding.find_child.Goals as goal

pub below-requires : goal.below-requires
below-requires c = subst (Rising Below) (sym c.as_slice.ensures) c.requires.rising

pub returns-in-Some : goal.returns-in-Some
returns-in-Some c =
    found_down c.args.right c.args.children.now c.args.item c.below.result c.in-Some.child.now
    (subst (λ (cs : List PostChild). IsDividedAt cs c.args.item c.below.result) c.as_slice.ensures c.below.ensures)
    c.in-Some.ensures.some

pub returns-in-None : goal.returns-in-None
returns-in-None c =
    found_past c.args.right c.args.children.now c.args.item c.below.result
    (subst (λ (cs : List PostChild). IsDividedAt cs c.args.item c.below.result) c.as_slice.ensures c.below.ensures)
    c.in-None.ensures.none
