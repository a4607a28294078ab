use Rattle.std.proofs.Common.{◌≡◌, ◌<◌, List, length, refl, sym, ap, subst, ◌∙◌, arith}
use Rattle.std.specs.Prelude.{Some, slice_set}
use Rattle.std.specs.List.{slice_get, insert}
use Rattle.std.proofs.lemmas.Option.{none-some, slice_get_within}
use Rattle.std.proofs.Math.ListN.{length-set}
use Rattle.page_types.specs.Views.{post_children_in}
use Rattle.page_types.specs.declared.page.PostChild.{PostChild}
use Rattle.page_types.specs.declared.page.Body.{Body}
use Rattle.page_types.specs.declared.page.Body.TheVariants as body
use Rattle.core_state.specs.Log.{In}
use Rattle.core_state.specs.TreeRules.{PostParent}
use Rattle.posting_tree.proofs.InnerPages.{adopted_page, is_parent, named_there}
use Rattle.posting_tree.proofs.adopting.adopt.Goals as goal

pub returns-in_default-place_of-clause-none : goal.returns-in_default-place_of-clause-none
returns-in_default-place_of-clause-none c = (
  λ e b on same.
      c.in_default-place_of.ensures.none b
      (subst (In b) (sym c.as_slice.ensures)
      (subst (λ (content : Body). In b (post_children_in content)) c.in-PostInner.is on)) same,
  λ h. refl,
)

pub set-requires : goal.set-requires
set-requires c =
    let children = c.in-PostInner.children in
    let child : PostChild = record { page = c.args.page; bound = c.in-Some.bound } in
    let copied : c.in_ok-more.more ≡ children = c.in_ok-more.ensures.cases in
    subst (λ (cs : List PostChild). c.in-Some.place < length cs) (c.as_slice.ensures ∙ sym copied)
    (slice_get_within c.as_slice.result.now c.in-Some.place child c.in-Some.ensures.some)

pub insert-requires : goal.insert-requires
insert-requires c =
    let children = c.in-PostInner.children in
    let child : PostChild = record { page = c.args.page; bound = c.in-Some.bound } in
    let behind : PostChild = record { page = c.args.new; bound = c.in-Some.bound } in
    let copied : c.in_ok-more.more ≡ children = c.in_ok-more.ensures.cases in
    omega (
      arith,
      ap length c.set.ensures,
      length-set c.in_ok-more.more c.in-Some.place behind,
      ap length copied,
      ap length c.as_slice.ensures,
      slice_get_within c.as_slice.result.now c.in-Some.place child c.in-Some.ensures.some,
    )

pub returns-clause-adopted : goal.returns-clause-adopted
returns-clause-adopted c =
    let children = c.in-PostInner.children in
    let k = c.in-Some.place in
    let child : PostChild = record { page = c.args.page; bound = c.in-Some.bound } in
    let here : PostChild = record { page = c.args.page; bound = c.args.mid } in
    let behind : PostChild = record { page = c.args.new; bound = c.in-Some.bound } in
    let copied : c.in_ok-more.more ≡ children = c.in_ok-more.ensures.cases in
    subst (λ (content : Body). PostParent c.args.page c.args.new c.args.mid content (body.PostInner c.insert.new.self))
    (sym c.in-PostInner.is)
    (is_parent children c.insert.new.self k c.args.page c.args.new c.args.mid c.in-Some.bound
    (subst (λ (cs : List PostChild). slice_get cs k ≡ Some child) c.as_slice.ensures c.in-Some.ensures.some)
    (c.in_ok-insert.ensures.ok ∙ ap (λ (cs : List PostChild). insert cs k here)
    (c.set.ensures ∙ ap (λ (cs : List PostChild). slice_set cs k behind) copied)))

pub returns-clause-none : goal.returns-clause-none
returns-clause-none c = (
  λ e. absurd (none-some _ (sym e)),
  λ h. absurd (named_there c.as_slice.result.now c.in-Some.place c.args.page c.in-Some.bound c.in-Some.ensures.some
      (λ b on. h b (subst (λ (content : Body). In b (post_children_in content)) (sym c.in-PostInner.is)
      (subst (In b) c.as_slice.ensures on)))),
)

pub returns-clause-is_page : goal.returns-clause-is_page
returns-clause-is_page c = λ w div is room lt.
    adopted_page c.args.parent.now (record c.args.parent.now { body = body.PostInner c.insert.new.self }) c.args.page
    c.args.new c.args.mid w refl div is room lt
