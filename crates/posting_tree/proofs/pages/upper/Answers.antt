use Rattle.std.proofs.Common.{◌≡◌, ◌-◌, List, length, sym, ap, subst, ◌∙◌}
use Rattle.std.specs.Prelude.{Some}
use Rattle.std.specs.List.{slice_get}
use Rattle.page_types.specs.declared.page.PostChild.{PostChild}
use Rattle.posting_tree.specs.Reading.{upper_in}
use Rattle.posting_tree.proofs.Reached.{last_is}
use Rattle.posting_tree.proofs.pages.upper.Goals as goal

pub returns-in-Some : goal.returns-in-Some
returns-in-Some c =
    let child = c.in-Some.child.now in
    sym (ap upper_in c.in-PostInner.is
    ∙ last_is c.in-PostInner.children child
    (subst (λ (cs : List PostChild). slice_get cs (length cs - 1) ≡ Some child) c.as_slice.ensures
    (sym c.in-Some.ensures.value)))
