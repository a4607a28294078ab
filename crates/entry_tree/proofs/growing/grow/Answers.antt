use Rattle.std.proofs.Common.{◌≡◌, List, [], ◌∷◌, ◌++◌, sym, ap, subst, ◌∙◌}
use Rattle.page_types.specs.Pages.{IsPage}
use Rattle.page_types.specs.declared.page.EntryChild.{EntryChild}
use Rattle.page_types.specs.declared.page.Body.{Body}
use Rattle.page_types.specs.declared.page.Body.TheVariants as body
use Rattle.entry_tree.proofs.GrownPages.{only, root_is, moved_is}
use Rattle.entry_tree.proofs.growing.grow.Goals as goal

pub returns-in-Ok-clause-are_pages : goal.returns-in-Ok-clause-are_pages
returns-in-Ok-clause-are_pages c =
    let page = c.args.page.now in
    let child : EntryChild = only c.args.child in
    let one : c.push.new.self ≡ child ∷ [] =
    c.in_ok-push.ensures.ok ∙ ap (λ (l : List EntryChild). l ++ child ∷ []) c.new-children.ensures in
    let copied : c.in-Ok.body ≡ page.body = c.in-Ok.ensures.cases in
    λ is link lt. (
      subst (λ (l : List EntryChild). IsPage (record page { body = body.EntryInner l }))
          (sym one) (root_is page c.args.child is link lt),
      subst (λ (b : Body). IsPage (record { right = 0; stamp = page.stamp; body = b })) (sym copied)
          (moved_is page is link),
    )
