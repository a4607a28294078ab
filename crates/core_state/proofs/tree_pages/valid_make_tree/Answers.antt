use Rattle.std.proofs.Common.{get_or, arith}
use Rattle.core_state.specs.States.{known_by, use_of}
use Rattle.core_state.proofs.HeadChanges.{two_told, two_with, none_holds}
use Rattle.core_state.proofs.RootedLeaves.{made_told, made_back}
use Rattle.core_state.proofs.tree_pages.valid_make_tree.Goals as goal

pub returns-in_default-second_new : goal.returns-in_default-second_new
returns-in_default-second_new c = (
  λ e. absurd (cc),
  λ w. absurd (none_holds c.second_new.result c.in_default-second_new.not-Some c.second_new.ensures.none w.new
      (record { page = w.page; pages = w.pages; is_new = w.is_new })),
)

pub returns : goal.returns
returns c =
    let known = known_by c.args.state.now.value in
    let was = get_or c.args.before.now 1 c.index-before-0.result in
    let before_is = two_with c.args.before.now c.index-before-0.result (omega arith) c.index-before-0.is in
    let after_is = two_told c.args.after.now c.index-after-0.result c.index-after-1.result (omega arith)
    c.index-after-0.is c.index-after-1.is in (
      λ e. made_told c.args.since known c.args.rec.now c.in-Some.root c.index-before-0.result was
          c.index-after-0.result c.index-after-1.result c.args.before.now c.args.after.now c.in-MakeTree.is
          c.in-Some.ensures.some before_is after_is (c.makes_root.ensures.0 e),
      λ w. c.makes_root.ensures.1 (made_back c.args.since known c.args.rec.now c.in-Some.root
          c.index-before-0.result was c.index-after-0.result c.index-after-1.result c.args.before.now c.args.after.now
          c.in-Some.ensures.some before_is after_is w),
    )
