use Rattle.std.proofs.Common.{◌∙◌, sym, arith}
use Rattle.std.proofs.lemmas.Bool.{false≢true}
use Rattle.std.proofs.lemmas.Option.{slice_get_within}
use Rattle.gin_hits.proofs.FittingEntries.{keys_rise, all_fitting}
use Rattle.gin_hits.proofs.leaves.fitting.Goals as goal

pub returns-else-fits_at-clause-are : goal.returns-else-fits_at-clause-are
returns-else-fits_at-clause-are g c =
    let es = c.args.entries.now in
    let was = c.loop-end.invariant in
    all_fitting c.args.asked.now es c.below-from.result c.args.prefix (keys_rise es c.requires.rising)
    c.below-from.ensures c.loop-end.end was.ordered was.within was.here
    (λ e there f. false≢true (sym c.if-fits_at.false ∙ c.fits_at.ensures.1 (e, there, f)))

pub returns-after-loop-end-clause-are : goal.returns-after-loop-end-clause-are
returns-after-loop-end-clause-are g c =
    let es = c.args.entries.now in
    let was = c.loop-end.invariant in
    all_fitting c.args.asked.now es c.below-from.result c.args.prefix (keys_rise es c.requires.rising)
    c.below-from.ensures c.loop-end.end was.ordered was.within was.here
    (λ e there f.
    omega (arith, c.loop-end-test.false, c.len-count.ensures, slice_get_within es c.loop-end.end e there))
