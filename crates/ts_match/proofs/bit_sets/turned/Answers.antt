use Rattle.std.specs.Int.{w64}
use Rattle.std.proofs.lemmas.Nat.Bits.{bit_at_not}
use Rattle.ts_match.proofs.bit_sets.turned.Goals as goal

pub returns : goal.returns
returns c = λ i h. bit_at_not w64 c.args.word i c.ranges.word.fits h
