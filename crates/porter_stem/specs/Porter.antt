-- What the dictionary of stems answers to a word.
use Rattle.std.specs.Prelude.{◌≢◌, ℕ, List, [], ◌∷◌, if◌then◌else◌}
use Rattle.ts_base.specs.Dictionary.{WordAnswer, unknown_word, stop_word, word_lexemes}
use Rattle.ts_base.specs.Words.{lower}
use Rattle.ts_words.specs.Simple.{is_stop, plain}
use Rattle.porter_stem.specs.Stem.{stem}

-- A stop word is left out; each other word has the stem of its lower case.
abbrev pub porter_answer : List (List ℕ) → List ℕ → WordAnswer
porter_answer stops word =
    if is_stop stops (lower word) then stop_word else word_lexemes (plain (stem (lower word)) ∷ [])

-- it knows every word
abbrev pub PorterKnowsAll : Type 0
PorterKnowsAll = (stops : List (List ℕ)) (word : List ℕ) → porter_answer stops word ≢ unknown_word
