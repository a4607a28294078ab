use Rattle.std.proofs.Common.{◌≡◌, ◌++◌, take, drop}
use Rattle.buffer_frames.specs.Drawing.{made_sheets}
use Rattle.buffer_frames.proofs.step.Step.make_pages.Given as goal

abbrev pub invariant-loop-sheet : goal.invariant-loop-sheet
invariant-loop-sheet l =
    l.sheet-items
    ≡ made_sheets l.rec (take l.sheet-index l.initial.sheet-items) ++ drop l.sheet-index l.initial.sheet-items
