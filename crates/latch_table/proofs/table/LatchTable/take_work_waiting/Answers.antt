use Rattle.std.proofs.Common.{arith, ap, sym, subst, ◌∙◌, ◌<◌}
use Rattle.latch_table.specs.Told.{HasClaimedWork}
use Rattle.latch_table.proofs.table.LatchTable.take_work_waiting.Goals as goal

pub take_work-requires-clause-table : goal.take_work-requires-clause-table
take_work-requires-clause-table g c = c.loop.invariant.0 ∙ c.requires.table

pub take_work-requires-clause-last : goal.take_work-requires-clause-last
take_work-requires-clause-last g c =
    let n = c.slot_count-word.ensures in
    let last = c.args.self.now.last in omega arith

pub take_work-requires-clause-words : goal.take_work-requires-clause-words
take_work-requires-clause-words g c = c.args.self.now.words

pub take_work-requires-clause-room : goal.take_work-requires-clause-room
take_work-requires-clause-room g c = subst (λ m. 0 < m.0.room) (sym c.loop.invariant.2) c.requires.room

pub returns-then-take_work-clause-same : goal.returns-then-take_work-clause-same
returns-then-take_work-clause-same g c =
    let i = c.loop.invariant in
    let s = c.take_work.ensures.same in (s.0 ∙ i.0, s.1 ∙ i.1)

pub returns-then-take_work-clause-claimed : goal.returns-then-take_work-clause-claimed
returns-then-take_work-clause-claimed g c =
    let t = c.take_work.ensures.claimed in
    let took = t.1 c.if-take_work.true in
    subst (λ m. HasClaimedWork g.J.Journaled m.0 c.take_work.new.seat.me.0) c.loop.invariant.2 took.1

pub returns-then-take_work-clause-out : goal.returns-then-take_work-clause-out
returns-then-take_work-clause-out g c = c.take_work.ensures.out ∙ ap (λ m. m.1) c.loop.invariant.2

pub wait-requires : goal.wait-requires
wait-requires g c =
    let n = c.slot_count-word.ensures in
    let words = c.args.self.now.words in
    let last = c.args.self.now.last in omega arith

pub loop-preserved : goal.loop-preserved
loop-preserved g c =
    let i = c.loop.invariant in
    let s = c.take_work.ensures.same in
    let t = c.take_work.ensures.claimed in
    let missed = t.2 c.if-take_work.false in
    let out = c.take_work.ensures.out in (s.0 ∙ i.0, s.1 ∙ i.1, (λ k. (missed.1 k, out k)) ∙ i.2)
