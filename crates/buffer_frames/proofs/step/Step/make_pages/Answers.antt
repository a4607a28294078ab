use Rattle.std.proofs.Common.{sym, ap, ◌∙◌}
use Rattle.buffer_frames.specs.Drawing.{made_sheet}
use Rattle.buffer_frames.proofs.MadeSheets.{changed_more}
use Rattle.buffer_frames.proofs.step.Step.make_pages.Goals as goal

pub loop-sheet-preserved : goal.loop-sheet-preserved
loop-sheet-preserved c =
    changed_more (made_sheet c.args.rec.now) c.deref_mut-sheet-items.result.now c.loop-sheet.sheet-items
    c.loop-sheet.sheet-index c.sheet-item.result c.make.new.self c.loop-sheet.invariant c.loop-sheet-test.true
    c.sheet-item.is
    (c.make.ensures ∙ ap (made_sheet c.args.rec.now) (sym c.sheet-item.is))
