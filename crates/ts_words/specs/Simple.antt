-- The dictionary `simple`: what it answers to a word.
use Rattle.std.specs.Prelude.{ℕ, List, [], ◌∷◌, Bool, false, if◌then◌else◌, bytes_eq}
use Rattle.std.specs.List.{list_any}
use Rattle.ts_base.specs.declared.Found.{Found}
use Rattle.ts_base.specs.Dictionary.{WordAnswer, unknown_word, stop_word, word_lexemes}
use Rattle.ts_base.specs.Words.{lower}

-- whether a list has the word
abbrev pub is_stop : List (List ℕ) → List ℕ → Bool
is_stop stops word = list_any (bytes_eq word) stops

-- a lexeme that stands for itself alone
abbrev pub plain : List ℕ → Found
plain lexeme = record { lexeme = lexeme; prefix = false }

-- A stop word is left out; of the others each stands for itself, or isn't known.
abbrev pub simple_answer : List (List ℕ) → Bool → List ℕ → WordAnswer
simple_answer stops accept word =
    if is_stop stops (lower word) then stop_word else
    (if accept then word_lexemes (plain (lower word) ∷ []) else unknown_word)
