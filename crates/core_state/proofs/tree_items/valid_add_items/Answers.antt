use Rattle.std.proofs.Common.{◌≡◌, length, sym, subst, arith}
use Rattle.page_types.specs.Pages.{IsPage}
use Rattle.core_state.specs.States.{known_by}
use Rattle.core_state.proofs.PlacedHeads.{one_told}
use Rattle.core_state.proofs.TakenEntries.{items_told, items_back}
use Rattle.core_state.proofs.tree_items.valid_add_items.Goals as goal

pub returns : goal.returns
returns c =
    let known = known_by c.args.state.now.value in
    let one : length c.args.rec.now.changes ≡ 1 = cc in
    let page : IsPage c.index-after-0.result =
    subst IsPage (sym c.index-after-0.is) (c.requires.after 0 c.index-after-0.result (omega arith)) in (
      λ e. items_told known c.args.rec.now c.index-before-0.result c.index-after-0.result c.args.before.now
          c.args.after.now c.in-AddItems.is one
          (one_told c.args.before.now c.index-before-0.result (omega arith) c.index-before-0.is)
          (one_told c.args.after.now c.index-after-0.result (omega arith) c.index-after-0.is) page
          (c.leaves_entries.ensures.0 e),
      λ w. c.leaves_entries.ensures.1 (items_back known c.args.rec.now c.index-before-0.result c.index-after-0.result
          c.args.before.now c.args.after.now c.index-before-0.is c.index-after-0.is w),
    )
