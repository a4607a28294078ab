-- What a dictionary answers to a word.
use Rattle.std.specs.Prelude.{◌≢◌, List, [], All}
use Rattle.ts_base.specs.Lexemes.{IsLexeme}
use Rattle.ts_base.specs.declared.Found.{Found}
use Rattle.ts_base.specs.declared.Answer.{Answer}
use Rattle.ts_base.specs.declared.Answer.TheVariants.{Unknown, Stop, Lexemes}

pub data WordAnswer : Type 0 where
  unknown_word : WordAnswer
  stop_word : WordAnswer
  word_lexemes : List Found → WordAnswer

-- an answer without its memory
abbrev pub answer_value : Answer → WordAnswer
answer_value Unknown = unknown_word
answer_value Stop = stop_word
answer_value (Lexemes found) = word_lexemes found.items

-- where lexemes are given, they are one or more, and each is a lexeme
abbrev pub IsWordAnswer : WordAnswer → Type 0
IsWordAnswer unknown_word = Unit {0}
IsWordAnswer stop_word = Unit {0}
IsWordAnswer (word_lexemes found) = (found ≢ []) × All (λ f. IsLexeme f.lexeme) found
