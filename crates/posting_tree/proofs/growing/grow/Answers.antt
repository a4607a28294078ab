use Rattle.std.proofs.Common.{◌≡◌, List, [], ◌∷◌, ◌++◌, sym, ap, subst, ◌∙◌}
use Rattle.page_types.specs.Numbers.{no_bound}
use Rattle.page_types.specs.Pages.{IsPage}
use Rattle.page_types.specs.declared.page.PostChild.{PostChild}
use Rattle.page_types.specs.declared.page.Body.{Body}
use Rattle.page_types.specs.declared.page.Body.TheVariants as body
use Rattle.posting_tree.proofs.InnerPages.{root_is, moved_is}
use Rattle.posting_tree.proofs.growing.grow.Goals as goal

pub returns-clause-are_pages : goal.returns-clause-are_pages
returns-clause-are_pages c =
    let page = c.args.page.now in
    let child : PostChild = record { page = c.args.child; bound = no_bound } in
    let one : c.push.new.self ≡ child ∷ [] =
    c.in_ok-push.ensures.ok ∙ ap (λ (l : List PostChild). l ++ child ∷ []) c.new-children.ensures in
    let copied : c.in_ok-body.body ≡ page.body = c.in_ok-body.ensures.cases in
    λ is link lt. (
      subst (λ (l : List PostChild). IsPage (record page { body = body.PostInner l }))
          (sym one) (root_is page c.args.child is link lt),
      subst (λ (b : Body). IsPage (record { right = 0; stamp = page.stamp; body = b })) (sym copied)
          (moved_is page is link),
    )
