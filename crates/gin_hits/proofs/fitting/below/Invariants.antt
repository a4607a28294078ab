use Rattle.std.proofs.Common.{◌-◌}
use Rattle.page_types.specs.Parts.{pieces_shown}
use Rattle.gin_hits.specs.Inner.Searching.{IsBetween}
use Rattle.gin_hits.proofs.fitting.below.Given as goal

abbrev pub invariant-loop-low : goal.invariant-loop-low
invariant-loop-low g l = IsBetween l.key (pieces_shown l.keys) l.low l.high

abbrev pub decreases-loop-low : goal.decreases-loop-low
decreases-loop-low g l = l.high - l.low
