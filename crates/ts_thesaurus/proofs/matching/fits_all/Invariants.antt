use Rattle.ts_thesaurus.proofs.Fitting.{AllFrom}
use Rattle.ts_thesaurus.proofs.matching.fits_all.Given as goal

abbrev pub invariant-loop-i : goal.invariant-loop-i
invariant-loop-i l = AllFrom l.samples l.answers l.i
