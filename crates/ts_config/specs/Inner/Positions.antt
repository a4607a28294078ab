-- Positions, token after token.
use Rattle.std.specs.Prelude.{ℕ, ◌+◌, List, [], ◌∷◌}
use Rattle.ts_base.specs.Dictionary.{WordAnswer, unknown_word, stop_word, word_lexemes}

-- the last position after these answers, where n is the last before them
abbrev pub last_position : ℕ → List WordAnswer → ℕ
last_position n [] = n
last_position n (unknown_word ∷ more) = last_position n more
last_position n (stop_word ∷ more) = last_position (n + 1) more
last_position n (word_lexemes found ∷ more) = last_position (n + 1) more
