-- What the dictionary of stems answers is one lexeme.
use Rattle.std.proofs.Common.{◌≤◌, ℕ, List, [], ◌∷◌, length, Bool, true, false, cond, arith}
use Rattle.std.specs.Str.{IsUtf8}
use Rattle.ts_base.specs.declared.TheConstants.{LONGEST_LEXEME}
use Rattle.ts_base.specs.Dictionary.{stop_word, word_lexemes, IsWordAnswer}
use Rattle.ts_base.specs.Lexemes.{IsLexeme}
use Rattle.ts_base.specs.Words.{lower}
use Rattle.ts_words.specs.Simple.{is_stop, plain}
use Rattle.ts_words.proofs.Lowered.{lower_lexeme}
use Rattle.ts_words.proofs.Answers.{plain_answer}
use Rattle.porter_stem.specs.Stem.{stem}
use Rattle.porter_stem.specs.Porter.{porter_answer}
use Rattle.porter_stem.proofs.Some.{stem_some}
use Rattle.porter_stem.proofs.Lengths.{stem_length}
use Rattle.porter_stem.proofs.Texts.{stem_utf8}

-- the stem of a lexeme is one
stem_lexeme : (word : List ℕ) → IsLexeme word → IsLexeme (stem word)
stem_lexeme word h = record {
  some = omega (arith, stem_some word (omega (arith, h.some)));
  most = omega (arith, stem_length word, h.most);
  utf8 = stem_utf8 word h.utf8;
}

pub porter_valid : (stops : List (List ℕ)) (word : List ℕ) → 1 ≤ length word → length word ≤ LONGEST_LEXEME
    → IsUtf8 word → IsWordAnswer (porter_answer stops word)
porter_valid stops word some most utf8 = by (is_stop stops (lower word))
  where
    by : (b : Bool) → IsWordAnswer (cond b stop_word (word_lexemes (plain (stem (lower word)) ∷ [])))
    by true = tt
    by false = plain_answer (stem (lower word)) (stem_lexeme (lower word) (lower_lexeme word some most utf8))
