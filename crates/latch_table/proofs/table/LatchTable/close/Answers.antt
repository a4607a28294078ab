use Rattle.std.proofs.Common.{arith, sym, subst, ◌∙◌}
use Rattle.std.specs.Slots.{slots_items, slots_counts}
use Rattle.latch_table.specs.Passes.{state}
use Rattle.latch_table.specs.Closing.{HasClosed}
use Rattle.latch_table.proofs.Closes.{ends}
use Rattle.latch_table.proofs.table.LatchTable.close.Goals as goal

pub unlay-requires-clause-frames : goal.unlay-requires-clause-frames
unlay-requires-clause-frames g c k lt =
    let row = c.close_with.result in
    let e = ends g.F.Framed g.J.Journaled c.args.self.table.shared.key.value c.args.pass.seat.id (state c.args.pass)
    (slots_items row.words) (slots_items row.slots) c.requires.idle c.requires.last c.close_with.ensures.values.2 in
    let long = (slots_counts row.slots).0 in
    e.frames k (omega arith)

pub unlay-requires-clause-journal : goal.unlay-requires-clause-journal
unlay-requires-clause-journal g c =
    let row = c.close_with.result in
    let e = ends g.F.Framed g.J.Journaled c.args.self.table.shared.key.value c.args.pass.seat.id (state c.args.pass)
    (slots_items row.words) (slots_items row.slots) c.requires.idle c.requires.last c.close_with.ensures.values.2 in
    let j = e.journal_is in
    (j.0, j.1, j.2 ∙ sym (slots_counts row.slots).0, j.3)

pub returns : goal.returns
returns g c =
    let row = c.close_with.result in
    let e = ends g.F.Framed g.J.Journaled c.args.self.table.shared.key.value c.args.pass.seat.id (state c.args.pass)
    (slots_items row.words) (slots_items row.slots) c.requires.idle c.requires.last c.close_with.ensures.values.2 in
    let j = e.journal_is in
    subst (λ (b : g.row.J.Denot). HasClosed g.J.Journaled b (state c.args.pass))
    (sym (c.unlay.ensures j.1 j.0 (j.2 ∙ sym (slots_counts row.slots).0) j.3)) j.4
