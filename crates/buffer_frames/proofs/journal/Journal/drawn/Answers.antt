use Rattle.std.proofs.Common.{ap, ◌∙◌}
use Rattle.buffer_frames.specs.Drawing.{value_by}
use Rattle.buffer_frames.specs.Journals.{JournalValue}
use Rattle.buffer_frames.proofs.DrawnRecords.{drawn_is}
use Rattle.buffer_frames.proofs.journal.Journal.drawn.Goals as goal

pub returns : goal.returns
returns g c =
    drawn_is c.args.self.now.owes c.args.self.now.state c.args.step.now.kind c.next_number.result c.drawn_value.result
    c.next_number.ensures.next
    (c.drawn_value.ensures ∙ ap (value_by c.self.inside.state.value) c.kind.ensures
    ∙ ap (λ (k : JournalValue g.row.D.Denot). value_by k.state c.args.step.now.kind) c.self.view_is)
