use Rattle.std.proofs.Common.{get_or}
use Rattle.core_state.proofs.LinkedPages.{last_told, last_back, three_behind}
use Rattle.core_state.proofs.linking.extends_list.Goals as goal

pub returns : goal.returns
returns c =
    let r = c.args.rec.now in
    let before = c.args.before.now in
    let after = c.args.after.now in
    let meta = c.index-before-1.result in
    let page = c.index-before-2.result in
    let then = c.index-after-1.result in
    let page_then = c.index-after-2.result in
    let three = three_behind before meta page c.requires.before c.index-before-1.is c.index-before-2.is in
    let three_then = three_behind after then page_then c.requires.after c.index-after-1.is c.index-after-2.is in (
      λ e. last_told r c.args.heap c.args.to before after (get_or before 0 meta) meta page (get_or after 0 then) then
          page_then c.in-Meta.first c.in-Meta.last c.in-Meta.pages three three_then c.in-Meta.is c.if-first-eq0.false
          (c.changes_pages.ensures.0 c.if-not-changes_pages.false)
          (c.meta_grows.ensures.0 c.if-not-meta_grows.false) (c.leads_on.ensures.0 e),
      λ w. c.leads_on.ensures.1 (last_back r c.args.heap c.args.to before after w (get_or before 0 meta) meta page
          (get_or after 0 then) then page_then three three_then).leads,
    )
