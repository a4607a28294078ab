use Rattle.std.proofs.Common.{arith, ap, sym, subst, ◌∙◌, ◌≡◌, ◌<◌, ◌∷◌}
use Rattle.latch_table.specs.declared.slots.Slot.TheVariants.{Away}
use Rattle.latch_table.specs.Told.{HasClaimed}
use Rattle.latch_table.proofs.table.LatchTable.take_waiting.Goals as goal

pub take-requires-clause-table : goal.take-requires-clause-table
take-requires-clause-table g c =
    let t = c.requires.table in (c.loop.invariant.0 ∙ t.0, t.1, c.args.self.now.words)

pub take-requires-clause-room : goal.take-requires-clause-room
take-requires-clause-room g c = subst (λ m. 0 < m.0.room) (sym c.loop.invariant.2) c.requires.room

pub returns-in-Some-take-clause-same : goal.returns-in-Some-take-clause-same
returns-in-Some-take-clause-same g c =
    let i = c.loop.invariant in
    let s = c.take.ensures.same in (s.0 ∙ i.0, s.1 ∙ i.1)

pub returns-in-Some-take-clause-claimed : goal.returns-in-Some-take-clause-claimed
returns-in-Some-take-clause-claimed g c =
    let t = c.in-Some-take.ensures.claimed in
    subst (λ m. HasClaimed g.F.Framed g.J.Journaled c.args.frame c.args.page c.in-Some-take.value m.0
    c.take.new.seat.me.0 × (c.take.new.seat.me.1 ≡ (c.args.frame, Away) ∷ m.1))
    c.loop.invariant.2 (t.1.1, t.1.2)

pub wait-requires : goal.wait-requires
wait-requires g c =
    let t = c.requires.table in
    let low = t.1 in
    let words = c.args.self.now.words in omega arith

pub loop-preserved : goal.loop-preserved
loop-preserved g c =
    let i = c.loop.invariant in
    let s = c.take.ensures.same in
    let t = c.in_default.ensures.claimed in (s.0 ∙ i.0, s.1 ∙ i.1, t.1.1 ∙ i.2)
