-- What the dictionary `simple` answers is one or more lexemes.
use Rattle.std.proofs.Common.{◌≤◌, ℕ, List, [], ◌∷◌, length, Bool, true, false, cond}
use Rattle.std.specs.Str.{IsUtf8}
use Rattle.std.proofs.lemmas.List.Elements.{All-nil, All-cons}
use Rattle.ts_base.specs.declared.Found.{Found}
use Rattle.ts_base.specs.declared.TheConstants.{LONGEST_LEXEME}
use Rattle.ts_base.specs.Dictionary.{unknown_word, stop_word, word_lexemes, IsWordAnswer}
use Rattle.ts_base.specs.Lexemes.{IsLexeme}
use Rattle.ts_base.specs.Words.{lower}
use Rattle.ts_words.specs.Simple.{is_stop, plain, simple_answer}
use Rattle.ts_words.proofs.Lowered.{lower_lexeme}

-- a lexeme alone is an answer
pub plain_answer : (lexeme : List ℕ) → IsLexeme lexeme → IsWordAnswer (word_lexemes (plain lexeme ∷ []))
plain_answer lexeme h = (
  (λ e. cc),
  All-cons (λ (f : Found). IsLexeme f.lexeme) (plain lexeme) [] h (All-nil (λ (f : Found). IsLexeme f.lexeme)),
)

pub simple_valid : (stops : List (List ℕ)) (accept : Bool) (word : List ℕ) → 1 ≤ length word
    → length word ≤ LONGEST_LEXEME → IsUtf8 word
    → IsWordAnswer (simple_answer stops accept word)
simple_valid stops accept word some most utf8 = by (is_stop stops (lower word)) accept
  where
    by : (b a : Bool) → IsWordAnswer (cond b stop_word (cond a (word_lexemes (plain (lower word) ∷ [])) unknown_word))
    by true a = tt
    by false true = plain_answer (lower word) (lower_lexeme word some most utf8)
    by false false = tt
