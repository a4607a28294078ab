use Rattle.ts_thesaurus.proofs.Fitting.{FirstFrom}
use Rattle.ts_thesaurus.proofs.matching.fits_first.Given as goal

abbrev pub invariant-loop-i : goal.invariant-loop-i
invariant-loop-i l = FirstFrom l.samples l.answers l.i
