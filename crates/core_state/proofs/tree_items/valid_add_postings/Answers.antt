use Rattle.std.proofs.Common.{◌≡◌, length, sym, subst, arith}
use Rattle.page_types.specs.Pages.{IsPage}
use Rattle.core_state.specs.States.{known_by}
use Rattle.core_state.proofs.PlacedHeads.{one_told}
use Rattle.core_state.proofs.TakenEntries.{postings_told, postings_back}
use Rattle.core_state.proofs.tree_items.valid_add_postings.Goals as goal

pub returns : goal.returns
returns c =
    let known = known_by c.args.state.now.value in
    let one : length c.args.rec.now.changes ≡ 1 = cc in
    let page : IsPage c.index-after-0.result =
    subst IsPage (sym c.index-after-0.is) (c.requires.after 0 c.index-after-0.result (omega arith)) in (
      λ e. postings_told known c.args.rec.now c.index-before-0.result c.index-after-0.result c.args.before.now
          c.args.after.now c.in-AddPostings.is one
          (one_told c.args.before.now c.index-before-0.result (omega arith) c.index-before-0.is)
          (one_told c.args.after.now c.index-after-0.result (omega arith) c.index-after-0.is) page
          (c.leaves_postings.ensures.0 e),
      λ w. c.leaves_postings.ensures.1 (postings_back known c.args.rec.now c.index-before-0.result
          c.index-after-0.result c.args.before.now c.args.after.now c.index-before-0.is c.index-after-0.is w),
    )
