use Rattle.std.proofs.Common.{◌+◌, ◌-◌, ◌/◌, ◌<◌, length, sym, ap, ◌∙◌, arith}
use Rattle.ts_match.specs.Meaning.{fits}
use Rattle.ts_base.specs.declared.Weight.TheVariants.{D}
use Rattle.ts_match.proofs.Searches.{found_here, not_here, go_right, go_left}
use Rattle.ts_match.proofs.ranges.has_position.Goals as goal

pub returns-then-here-at : goal.returns-then-here-at
returns-then-here-at c =
    let l : c.loop-low.low + (c.loop-low.high - c.loop-low.low) / 2 < length c.args.positions.now =
    let n = c.loop-low.invariant.within in omega arith in
    c.fits.ensures ∙ ap (fits c.args.weights) c.weight.ensures
    ∙ sym (found_here c.args.positions.now c.requires c.args.at c.args.weights _ c.index-positions-mid.result l
    c.index-positions-mid.is (sym c.at-here.ensures.value ∙ c.if-here-at.true))

pub loop-low-preserved-then-here-at-2 : goal.loop-low-preserved-then-here-at-2
loop-low-preserved-then-here-at-2 c = go_right c.args.positions.now c.requires c.args.at c.args.weights _ _ _
    c.index-positions-mid.result c.loop-low.invariant (omega arith) c.index-positions-mid.is (omega arith)

pub loop-low-preserved : goal.loop-low-preserved
loop-low-preserved c = go_left c.args.positions.now c.requires c.args.at c.args.weights _ _ _
    c.index-positions-mid.result c.loop-low.invariant (omega arith) (omega arith) c.index-positions-mid.is (omega arith)

pub returns : goal.returns
returns c = sym (not_here c.args.positions.now c.requires c.args.at c.args.weights _ _ (record {
  at = 0;
  weight = D;
}) c.loop-low.invariant c.loop-low-test.false)
