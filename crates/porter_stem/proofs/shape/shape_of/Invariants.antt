use Rattle.std.proofs.Common.{◌≤◌, take}
use Rattle.porter_stem.specs.Letters.{kinds}
use Rattle.porter_stem.specs.Shapes.{HasShape}
use Rattle.porter_stem.proofs.shape.shape_of.Given as goal

abbrev pub invariant-loop-letter : goal.invariant-loop-letter
invariant-loop-letter l = record {
  bound : l.shape.measure ≤ l.letter-index;
  shape : HasShape (kinds (take l.letter-index l.word)) l.shape;
}
