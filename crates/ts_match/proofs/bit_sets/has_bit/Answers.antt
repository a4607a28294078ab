use Rattle.std.proofs.Common.{◌≢◌}
use Rattle.std.proofs.lemmas.Bool.{eq-eqb}
use Rattle.ts_match.proofs.Words.{lowest}
use Rattle.ts_match.proofs.bit_sets.has_bit.Goals as goal

pub returns-clause-some : goal.returns-clause-some
returns-clause-some c = λ h.
    let n : c.args.word ≢ 0 = λ e. (let t = eq-eqb c.args.word 0 e in let x : ⊥ = cc in x) in
    lowest c.args.word n c.ranges.word.fits
