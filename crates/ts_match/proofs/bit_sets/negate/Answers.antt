use Rattle.std.proofs.Common.{◌<◌, length, ap, arith}
use Rattle.std.specs.Prelude.{not}
use Rattle.std.proofs.lemmas.List.{get_or_read}
use Rattle.std.proofs.lemmas.Grind.{common_steps}
use Rattle.ts_match.proofs.Words.{negated_row, flipped, kept_words}
use Rattle.ts_match.proofs.bit_sets.negate.Goals as goal

pub loop-k-preserved : goal.loop-k-preserved
loop-k-preserved c =
    let ws = c.loop-k.bits.words.items in
    let l : c.loop-k.k < length c.loop-k.bits.words.items = omega (arith, c.loop-k.bits.words.ok.0) in record {
      below = flipped c.args.bits.now.words.items ws c.loop-k.k _ _ l
          (get_or_read ws _ _ l c.index.ensures 0) c.turned.ensures c.loop-k.invariant.below c.loop-k.invariant.above;
      above = kept_words c.args.bits.now.words.items ws c.loop-k.k _ c.loop-k.invariant.above;
      rest = c.loop-k.invariant.rest;
      len = grind (arith, common_steps);
    }

pub returns-clause-value : goal.returns-clause-value
returns-clause-value c =
    let a = c.args.bits.now in
    negated_row c.args.count a.words.items c.loop-k.bits.words.items a.rest _
    (λ k h. c.loop-k.invariant.below k (omega arith)) (ap not c.loop-k.invariant.rest)
