use Rattle.std.proofs.Common.{◌≡◌, length, List, refl, sym, ap, subst, ◌∙◌, arith}
use Rattle.std.specs.Prelude.{Some}
use Rattle.std.specs.List.{slice_get, remove}
use Rattle.std.proofs.lemmas.Option.{none-some, slice_get_within}
use Rattle.page_types.specs.Views.{post_children_in}
use Rattle.page_types.specs.declared.page.PostChild.{PostChild}
use Rattle.page_types.specs.declared.page.Body.{Body}
use Rattle.page_types.specs.declared.page.Body.TheVariants as body
use Rattle.core_state.specs.Log.{In}
use Rattle.posting_tree.specs.Unlinking.{IsBeforeLast, IsUnlinked}
use Rattle.posting_tree.proofs.Unlinked.{last_alone, none_named, before_last, unlinked, unlinked_page}
use Rattle.posting_tree.proofs.unlinking.unlink.Goals as goal

pub returns-in_default-place_of-clause-none : goal.returns-in_default-place_of-clause-none
returns-in_default-place_of-clause-none c = (
  λ e w. none_named c.args.child c.in-PostInner.children
      (λ b on same. c.in_default-place_of.ensures.none b (subst (In b) (sym c.as_slice.ensures) on) same)
      (subst (λ (content : Body). IsBeforeLast c.args.child (post_children_in content)) c.in-PostInner.is w),
  λ h. refl,
)

pub overflow_sub-len : goal.overflow_sub-len
overflow_sub-len c =
    let child : PostChild = record { page = c.args.child; bound = c.in-Some.field-0-1 } in
    omega (
      arith,
      c.len.ensures,
      ap length c.as_slice.ensures,
      slice_get_within c.as_slice.result.now c.in-Some.place child c.in-Some.ensures.some,
    )

pub returns-then-len-place-le1-clause-none : goal.returns-then-len-place-le1-clause-none
returns-then-len-place-le1-clause-none c = (
  λ e w. last_alone c.args.child c.in-Some.place c.in-PostInner.children
      (λ j b lt at. c.in-Some.ensures.first j b lt
      (subst (λ (cs : List PostChild). slice_get cs j ≡ Some b) (sym c.as_slice.ensures) at))
      (omega (arith, c.len.ensures, c.if-len-place-le1.true))
      (subst (λ (content : Body). IsBeforeLast c.args.child (post_children_in content)) c.in-PostInner.is w),
  λ h. refl,
)

pub returns-clause-unlinked : goal.returns-clause-unlinked
returns-clause-unlinked c =
    let children = c.in-PostInner.children in
    let child : PostChild = record { page = c.args.child; bound = c.in-Some.field-0-1 } in
    let copied : c.in_ok-fewer.fewer ≡ children = c.in_ok-fewer.ensures.cases in
    subst (λ (content : Body). IsUnlinked c.args.child content (body.PostInner c.remove.new.self))
    (sym c.in-PostInner.is)
    (unlinked c.args.child c.in-Some.place c.in-Some.field-0-1 children c.remove.new.self
    (subst (λ (cs : List PostChild). slice_get cs c.in-Some.place ≡ Some child) c.as_slice.ensures
    c.in-Some.ensures.some) (omega (arith, c.len.ensures, c.if-len-place-le1.false))
    (c.remove.ensures ∙ ap (λ (cs : List PostChild). remove cs c.in-Some.place) copied))

pub returns-clause-none : goal.returns-clause-none
returns-clause-none c =
    let children = c.in-PostInner.children in
    let child : PostChild = record { page = c.args.child; bound = c.in-Some.field-0-1 } in (
      λ e. absurd (none-some _ (sym e)),
      λ h. absurd (h (subst (λ (content : Body). IsBeforeLast c.args.child (post_children_in content))
          (sym c.in-PostInner.is) (before_last c.args.child c.in-Some.place c.in-Some.field-0-1 children
          (subst (λ (cs : List PostChild). slice_get cs c.in-Some.place ≡ Some child) c.as_slice.ensures
          c.in-Some.ensures.some) (omega (arith, c.len.ensures, c.if-len-place-le1.false))))),
    )

pub returns-clause-is_page : goal.returns-clause-is_page
returns-clause-is_page c = λ is.
    let children = c.in-PostInner.children in
    let child : PostChild = record { page = c.args.child; bound = c.in-Some.field-0-1 } in
    let copied : c.in_ok-fewer.fewer ≡ children = c.in_ok-fewer.ensures.cases in
    unlinked_page c.args.parent.now c.args.child c.in-Some.place c.in-Some.field-0-1 children c.remove.new.self is
    c.in-PostInner.is
    (subst (λ (cs : List PostChild). slice_get cs c.in-Some.place ≡ Some child) c.as_slice.ensures
    c.in-Some.ensures.some) (omega (arith, c.len.ensures, c.if-len-place-le1.false))
    (c.remove.ensures ∙ ap (λ (cs : List PostChild). remove cs c.in-Some.place) copied)
