-- What the tokens of a text are answered.
use Rattle.std.specs.Prelude.{ℕ, List, [], ◌∷◌, take, drop, if◌then◌else◌, nat_lt, Option, Some, None, slice_get}
use Rattle.ts_base.specs.Dictionary.{WordAnswer, unknown_word, stop_word, word_lexemes}
use Rattle.ts_base.specs.declared.TheConstants.{LONGEST_LEXEME}
use Rattle.ts_parser.specs.declared.iter.Token.{Token}
use Rattle.ts_config.specs.Rules.{answer_by}
use Rattle.ts_config.specs.Mappings.{Mapping, list_for}
use Rattle.ts_config.specs.Known.{NamedRules, Known}

-- the answer of a dictionary; where none is, nothing is known
abbrev pub answer_of : Option NamedRules → List ℕ → WordAnswer
answer_of None word = unknown_word
answer_of (Some d) word = answer_by d.rules word

abbrev pub answer_at : Known → ℕ → List ℕ → WordAnswer
answer_at known place word = answer_of (slice_get known.dictionaries place) word

-- the first answer, but where it is unknown the second
abbrev pub or_answer : WordAnswer → WordAnswer → WordAnswer
or_answer unknown_word b = b
or_answer stop_word b = stop_word
or_answer (word_lexemes found) b = word_lexemes found

-- the first dictionary of the list that doesn't answer unknown decides
abbrev pub first_answer : Known → List ℕ → List ℕ → WordAnswer
first_answer known [] word = unknown_word
first_answer known (p ∷ ps) word = or_answer (answer_at known p word) (first_answer known ps word)

-- a token's own piece of its text
abbrev pub word_of : List ℕ → Token → List ℕ
word_of text t = take t.length (drop t.start text)

-- the dictionaries that are asked for a token: those of its type, but none where it is longer than a lexeme
abbrev pub asked_for : Mapping → Token → List ℕ
asked_for mapping t = if nat_lt LONGEST_LEXEME t.length then [] else list_for mapping t.kind

-- what a token is answered where no thesaurus is asked
abbrev pub token_answer : Known → Mapping → List ℕ → Token → WordAnswer
token_answer known mapping text t = first_answer known (asked_for mapping t) (word_of text t)
