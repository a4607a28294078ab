use Rattle.std.proofs.Common.{subst, rules}
use Rattle.page_types.specs.declared.page.Page.{Page}
use Rattle.gin_place.specs.Inner.Dividing.{AreSplit}
use Rattle.gin_place.proofs.Parts.{are_split}
use Rattle.gin_place.specs.declared.sought.Sought.TheVariants as sought
use Rattle.gin_place.proofs.splitting.parts_of.Goals as goal

pub returns-clause-parts : goal.returns-clause-parts
returns-clause-parts g c =
    let big = c.is_large.ensures.0 (search rules) in
    let page = c.page-page.result.now in
    let left = c.in_ok-split.field-0.0 in
    let right = c.in_ok-split.field-0.1 in
    subst (λ (p : Page). AreSplit sought.Key p c.args.new left right) c.page-page.ensures.value
    (are_split sought.Key page c.args.new c.keep_for.result left right c.page-page.ensures.is_page big.0 big.1
    c.requires.new.0 c.in_ok-split.ensures.parts
    (c.in_ok-split.ensures.are_pages c.requires.new.0 c.requires.new.1))
