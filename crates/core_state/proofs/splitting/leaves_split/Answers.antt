use Rattle.std.proofs.Common.{get_or, arith}
use Rattle.core_state.proofs.SplitRecords.{three_told, three_with, halves_at, leaves_told, leaves_back}
use Rattle.core_state.proofs.splitting.leaves_split.Goals as goal

pub is_split_place-requires-clause-halves : goal.is_split_place-requires-clause-halves
is_split_place-requires-clause-halves c =
    let before = c.args.before.now in
    let after = c.args.after.now in
    let old = c.index-before-0.result in
    let left = c.index-after-0.result in
    let right = c.index-after-1.result in
    let parent = c.index-after-2.result in
    halves_at c.args.page c.args.new before after old (get_or before 1 old) c.index-before-2.result left right parent
    (three_with before old c.index-before-2.result (omega arith) c.index-before-0.is c.index-before-2.is)
    (three_told after left right parent (omega arith) c.index-after-0.is c.index-after-1.is c.index-after-2.is)
    (c.is_divided.ensures.0 c.if-not-is_divided.false)

pub returns : goal.returns
returns c =
    let before = c.args.before.now in
    let after = c.args.after.now in
    let old = c.index-before-0.result in
    let old_parent = c.index-before-2.result in
    let left = c.index-after-0.result in
    let right = c.index-after-1.result in
    let parent = c.index-after-2.result in
    let before_is = three_with before old old_parent (omega arith) c.index-before-0.is c.index-before-2.is in
    let after_is = three_told after left right parent (omega arith) c.index-after-0.is c.index-after-1.is
    c.index-after-2.is in (
      λ e. leaves_told c.args.page c.args.new before after old (get_or before 1 old) old_parent left right parent
          before_is after_is c.args.rec.now (c.is_divided.ensures.0 c.if-not-is_divided.false) (record {
            left_is = c.is_left.ensures.0 c.if-not-is_left.false;
            right_is = c.is_left-else-not-is_left.ensures.0 c.if-not-is_left-2.false;
            parent_is = c.is_left-2.ensures.0 c.if-not-is_left-3.false;
            large = omega (arith, c.if-body_length-le-HALF_BODY.false, c.body_length.ensures);
            place = c.is_split_place.ensures.0 e;
          }),
      λ w. c.is_split_place.ensures.1 (leaves_back c.args.page c.args.new before after old (get_or before 1 old)
          old_parent left right parent before_is after_is c.args.rec.now w).place,
    )
