-- A leaf leads on along its right link.
use Rattle.std.proofs.Common.{◌≡◌, ℕ, List, refl, sym, subst}
use Rattle.page_types.specs.declared.page.Page.{Page}
use Rattle.page_types.specs.declared.page.Body.{Body}
use Rattle.page_types.specs.declared.page.Body.TheVariants as body
use Rattle.core_moments.specs.Walk.{along}
use Rattle.gin_scan.proofs.postings.along.Goals as goal

leaf_leads : (p : Page) (high : ℕ) (items : List ℕ) → p.body ≡ body.PostLeaf high items → p.right ≡ along p
leaf_leads p high items is =
    subst (λ (b : Body). p.right ≡ along (record p { body = b })) (sym is) refl

pub returns-in-PostLeaf : goal.returns-in-PostLeaf
returns-in-PostLeaf c = leaf_leads c.args.page.now _ _ c.in-PostLeaf.is
