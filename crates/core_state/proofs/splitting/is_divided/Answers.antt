use Rattle.std.proofs.Common.{get_or, arith}
use Rattle.core_state.proofs.SplitRecords.{three_told, three_with, entries_divided, postings_divided}
use Rattle.core_state.proofs.splitting.is_divided.Goals as goal

pub returns-in-Some : goal.returns-in-Some
returns-in-Some c =
    let before = c.args.before.now in
    let after = c.args.after.now in
    let old = c.index-before-0.result in
    let same = entries_divided c.args.page c.args.new before after old (get_or before 1 old) c.index-before-2.result
    c.index-after-0.result c.index-after-1.result c.index-after-2.result
    (three_with before old c.index-before-2.result (omega arith) c.index-before-0.is c.index-before-2.is)
    (three_told after c.index-after-0.result c.index-after-1.result c.index-after-2.result (omega arith)
    c.index-after-0.is c.index-after-1.is c.index-after-2.is) c.in-Some.mid.now c.in-Some.ensures.some in (
      λ e. same.0 (c.adopts_child.ensures.0 e),
      λ d. c.adopts_child.ensures.1 (same.1 d),
    )

pub returns-in-Some-post_mid : goal.returns-in-Some-post_mid
returns-in-Some-post_mid c =
    let before = c.args.before.now in
    let after = c.args.after.now in
    let old = c.index-before-0-2 in
    let old_parent = c.index-before-2-in-Some-post_mid in
    let left = c.index-after-0-2 in
    let right = c.index-after-1-2 in
    let parent = c.index-after-2-in-Some-post_mid in
    let x = c.in-Some-post_mid in
    let same = postings_divided c.args.page c.args.new before after old.result (get_or before 1 old.result)
    old_parent.result left.result right.result parent.result
    (three_with before old.result old_parent.result (omega arith) old.is old_parent.is)
    (three_told after left.result right.result parent.result (omega arith) left.is right.is parent.is) x.mid
    x.ensures.some in (
      λ e. same.0 (c.adopts_post.ensures.0 e),
      λ d. c.adopts_post.ensures.1 (same.1 d),
    )
