use Rattle.std.proofs.Common.{◌<◌, length, get_or, arith}
use Rattle.std.proofs.lemmas.List.{get_or_default}
use Rattle.std.proofs.lemmas.List.Edits.{map_over_more}
use Rattle.page_types.specs.Inner.Cuts.{moved}
use Rattle.page_types.proofs.ends.move_ends.Goals as goal

pub loop-end-preserved : goal.loop-end-preserved
loop-end-preserved c =
    let lt : c.loop-end.end-index < length c.args.ends.now = omega arith in
    let within : c.loop-end.end-index < length c.loop-end.ends = omega arith in
    map_over_more (moved c.args.from c.args.to) c.args.ends.now c.loop-end.ends c.loop-end.end-index
    (get_or c.loop-end.ends c.loop-end.end-index 0) lt c.loop-end.invariant
    (get_or_default c.loop-end.ends c.loop-end.end-index 0 (get_or c.loop-end.ends c.loop-end.end-index 0) within)
