use Rattle.std.proofs.Common.{◌+◌, ◌-◌, ◌/◌, ◌∙◌, sym, arith}
use Rattle.std.proofs.lemmas.List.{length-map}
use Rattle.std.proofs.lemmas.Bool.{false≢true}
use Rattle.gin_hits.specs.Inner.Searching.{keys_of}
use Rattle.gin_hits.proofs.Searching.{between_up, between_down}
use Rattle.gin_hits.proofs.FittingEntries.{keys_rise, below_at, at_below}
use Rattle.gin_hits.proofs.leaves.below.Goals as goal

pub loop-low-preserved-then-is_below : goal.loop-low-preserved-then-is_below
loop-low-preserved-then-is_below g c =
    let es = c.args.entries.now in
    let m = c.loop-low.low + (c.loop-low.high - c.loop-low.low) / 2 in
    between_up c.args.key.now (keys_of es) c.loop-low.low c.loop-low.high m (keys_rise es c.requires.rising)
    c.loop-low.invariant (omega arith) (below_at es c.args.key.now m (c.is_below.ensures.0 c.if-is_below.true))

pub loop-low-preserved : goal.loop-low-preserved
loop-low-preserved g c =
    let es = c.args.entries.now in
    let m = c.loop-low.low + (c.loop-low.high - c.loop-low.low) / 2 in
    between_down c.args.key.now (keys_of es) c.loop-low.low c.loop-low.high m (keys_rise es c.requires.rising)
    c.loop-low.invariant (omega arith) (omega arith)
    (λ b. false≢true (sym c.if-is_below.false ∙ c.is_below.ensures.1
    (at_below es c.args.key.now m (omega (arith, length-map es (λ e. e.key), c.loop-low.invariant.within)) b)))
