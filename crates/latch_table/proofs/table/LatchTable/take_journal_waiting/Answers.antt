use Rattle.std.proofs.Common.{arith, ap, sym, subst, ◌∙◌, ◌<◌, ◌-◌, ◌∷◌}
use Rattle.latch_table.specs.declared.slots.Slot.TheVariants.{Away}
use Rattle.latch_table.specs.Told.{HasClaimedJournal}
use Rattle.latch_table.proofs.table.LatchTable.take_journal_waiting.Goals as goal

pub take_journal-requires-clause-table : goal.take_journal-requires-clause-table
take_journal-requires-clause-table g c = c.loop.invariant.0 ∙ c.requires.table

pub take_journal-requires-clause-last : goal.take_journal-requires-clause-last
take_journal-requires-clause-last g c =
    let n = c.slot_count-word.ensures in
    let last = c.args.self.now.last in omega arith

pub take_journal-requires-clause-words : goal.take_journal-requires-clause-words
take_journal-requires-clause-words g c = c.args.self.now.words

pub take_journal-requires-clause-room : goal.take_journal-requires-clause-room
take_journal-requires-clause-room g c = subst (λ m. 0 < m.0.room) (sym c.loop.invariant.2) c.requires.room

pub returns-in-Some-take_journal-clause-same : goal.returns-in-Some-take_journal-clause-same
returns-in-Some-take_journal-clause-same g c =
    let i = c.loop.invariant in
    let s = c.take_journal.ensures.same in (s.0 ∙ i.0, s.1 ∙ i.1)

pub returns-in-Some-take_journal-clause-claimed : goal.returns-in-Some-take_journal-clause-claimed
returns-in-Some-take_journal-clause-claimed g c =
    let t = c.in-Some-take_journal.ensures.claimed in
    subst (λ m. HasClaimedJournal g.J.Journaled c.in-Some-take_journal.journal m.0 c.take_journal.new.seat.me.0)
    c.loop.invariant.2 t.0

pub returns-in-Some-take_journal-clause-out : goal.returns-in-Some-take_journal-clause-out
returns-in-Some-take_journal-clause-out g c =
    let t = c.in-Some-take_journal.ensures.claimed in
    t.1 ∙ ap (λ m. (c.slot_count-word.result - 2, Away) ∷ m.1) c.loop.invariant.2
    ∙ ap (λ n. (n - 2, Away) ∷ c.args.seat.now.me.1) c.slot_count-word.ensures

pub wait-requires : goal.wait-requires
wait-requires g c =
    let n = c.slot_count-word.ensures in
    let words = c.args.self.now.words in
    let last = c.args.self.now.last in omega arith

pub loop-preserved : goal.loop-preserved
loop-preserved g c =
    let i = c.loop.invariant in
    let s = c.take_journal.ensures.same in
    let t = c.in_default.ensures.claimed in (s.0 ∙ i.0, s.1 ∙ i.1, t ∙ i.2)
