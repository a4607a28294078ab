use Rattle.std.proofs.Common.{◌≡◌, take}
use Rattle.buffer_frames.specs.Drawing.{images_of}
use Rattle.buffer_frames.proofs.drawing.images.Given as goal

abbrev pub invariant-loop-sheet : goal.invariant-loop-sheet
invariant-loop-sheet l = l.changes ≡ images_of (take l.sheet-index l.sheets)
