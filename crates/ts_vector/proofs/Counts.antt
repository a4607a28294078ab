-- How many entries a vector has.
use Rattle.std.proofs.Common.{◌≤◌, [], ◌∷◌, length, arith}
use Rattle.std.specs.Prelude.{All}
use Rattle.std.proofs.lemmas.List.Elements.{All-head, All-tail}
use Rattle.ts_base.specs.Vectors.{Vector, IsEntry, content_size}
use Rattle.ts_vector.proofs.Merging.{size-cons}

pub length-le-content : (v : Vector) → All IsEntry v → length v ≤ content_size v
length-le-content [] h = omega arith
length-le-content (e ∷ v) h = let i = All-head IsEntry e v h in
    omega (arith, size-cons e v, i.lexeme.some, length-le-content v (All-tail IsEntry e v h))
