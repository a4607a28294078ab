use Rattle.std.proofs.Common.{List, ℕ, sym, subst}
use Rattle.page_types.specs.Pages.{IsPage}
use Rattle.posting_tree.specs.Adding.{first_leaf}
use Rattle.posting_tree.proofs.LeafPages.{first_page}
use Rattle.posting_tree.proofs.adding.leaf.Goals as goal

pub returns-clause-is_page : goal.returns-clause-is_page
returns-clause-is_page c =
    subst (λ (list : List ℕ). IsPage (first_leaf list)) (sym c.in_ok-items.ensures)
    (first_page c.args.list.now c.requires.list c.requires.short)
