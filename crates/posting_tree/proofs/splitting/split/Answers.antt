use Rattle.std.proofs.Common.{rules}
use Rattle.page_types.specs.declared.page.Page.{Page}
use Rattle.entry_tree.specs.Splitting.{AreParts}
use Rattle.posting_tree.specs.Splitting.{EndsAtLast}
use Rattle.posting_tree.proofs.SplitPages.{pages_made}
use Rattle.posting_tree.proofs.splitting.split.Goals as goal

pub returns-clause-are_pages : goal.returns-clause-are_pages
returns-clause-are_pages c =
    let page = c.args.page.now in
    let left : Page = record { right = c.args.new; stamp = page.stamp; body = c.match-page.first.0 } in
    let right : Page = record { right = page.right; stamp = page.stamp; body = c.match-page.first.1 } in
    let parts : AreParts page c.args.new c.args.keep left right = search rules in
    let ends : EndsAtLast c.match-page.first.0 = search rules in
    λ some lt. pages_made page left right c.args.new c.args.keep c.requires.page c.requires.postings parts ends some lt
