-- The printed text of a vector.
use Rattle.std.specs.Prelude.{ℕ, ◌<◌, List, [], ◌∷◌, ◌++◌, map}
use Rattle.std.specs.List.{join_with_byte}
use Rattle.std.specs.Fmt.{decimal}
use Rattle.ts_base.specs.declared.TheConstants.{SIZE_LIMIT}
use Rattle.ts_base.specs.Quoted.{quoted_text}
use Rattle.ts_base.specs.declared.Weight.{Weight}
use Rattle.ts_base.specs.declared.Weight.TheVariants.{A, B, C, D}
use Rattle.ts_base.specs.Vectors.{Position, Entry, Vector, IsNormal, content_size}
use Rattle.ts_vector.specs.Text.{IsTextOf}

-- the letter of a weight; D is not printed
abbrev pub weight_text : Weight → List ℕ
weight_text D = []
weight_text C = 67 ∷ []
weight_text B = 66 ∷ []
weight_text A = 65 ∷ []

abbrev pub position_text : Position → List ℕ
position_text p = decimal p.at ++ weight_text p.weight

-- a colon and the positions with commas between them, or nothing
abbrev pub positions_text : List Position → List ℕ
positions_text [] = []
positions_text (p ∷ ps) = 58 ∷ join_with_byte 44 (map position_text (p ∷ ps))

abbrev pub entry_text : Entry → List ℕ
entry_text entry = quoted_text entry.lexeme ++ positions_text entry.positions

-- the entries with one space between two
abbrev pub vector_text : Vector → List ℕ
vector_text vector = join_with_byte 32 (map entry_text vector)

-- the printed text of a vector is a text of that vector
abbrev pub PrintedTextIsRead : Type 0
PrintedTextIsRead = (v : Vector) → IsNormal v → content_size v < SIZE_LIMIT
    → IsTextOf (vector_text v) v
