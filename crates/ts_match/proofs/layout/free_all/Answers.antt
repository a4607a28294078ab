use Rattle.ts_match.proofs.Spares.{same_refl, same_trans, freed}
use Rattle.ts_match.proofs.layout.free_all.Goals as goal

pub loop-bits-init : goal.loop-bits-init
loop-bits-init c = same_refl _ _

pub loop-bits-preserved : goal.loop-bits-preserved
loop-bits-preserved c = same_trans _ _ _ _ _ _ c.loop-bits.invariant
    (freed _ _ _ _ c.in-Some.bits c.in-Some.ensures.items c.push_reserved.ensures.items)
