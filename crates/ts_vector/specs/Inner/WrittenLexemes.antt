-- Lexemes as they are written, as they lie in memory.
use Rattle.std.specs.Prelude.{ℕ, List, [], ◌∷◌}
use Rattle.ts_base.specs.Vectors.{Entry}
use Rattle.ts_vector.specs.Text.{Written, written}

-- entries, each with the offset at which it starts
abbrev pub written_lexemes : List ℕ → List Entry → List Written
written_lexemes [] es = []
written_lexemes (s ∷ ss) [] = []
written_lexemes (s ∷ ss) (e ∷ es) = written s e.lexeme e.positions ∷ written_lexemes ss es
