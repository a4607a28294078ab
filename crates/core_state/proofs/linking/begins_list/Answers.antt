use Rattle.std.proofs.Common.{get_or}
use Rattle.core_state.proofs.LinkedPages.{none_told, none_back, two_behind}
use Rattle.core_state.proofs.linking.begins_list.Goals as goal

pub returns : goal.returns
returns c =
    let r = c.args.rec.now in
    let before = c.args.before.now in
    let after = c.args.after.now in
    let meta = c.index-before-1.result in
    let then = c.index-after-1.result in
    let two = two_behind before meta c.requires.before c.index-before-1.is in
    let two_then = two_behind after then c.requires.after c.index-after-1.is in (
      λ e. none_told r c.args.heap c.args.to before after (get_or before 0 meta) meta (get_or after 0 then) then
          c.in-Meta.first c.in-Meta.last c.in-Meta.pages two two_then c.in-Meta.is c.if-first-ne0.false
          c.if-last-ne0.false (c.changes_pages.ensures.0 c.if-not-changes_pages.false) (c.meta_grows.ensures.0 e),
      λ w. c.meta_grows.ensures.1 (none_back r c.args.heap c.args.to before after w (get_or before 0 meta) meta
          (get_or after 0 then) then two two_then).grows,
    )
