-- Phrases of a thesaurus among the tokens of a text.
use Rattle.std.specs.Prelude.{◌≡◌, ◌⊎◌, ℕ, zero, suc, ◌<◌, ◌≤◌, List, [], ◌∷◌, ◌++◌, length, map, take, Bool}
use Rattle.std.specs.Prelude.{if◌then◌else◌, nat_eq, nat_lt, filter, take_while}
use Rattle.std.specs.List.{list_any}
use Rattle.ts_base.specs.declared.Found.{Found}
use Rattle.ts_base.specs.Dictionary.{WordAnswer, unknown_word, word_lexemes}
use Rattle.ts_parser.specs.declared.iter.Token.{Token}
use Rattle.ts_thesaurus.specs.Rules.{Rule, IsBest}
use Rattle.ts_config.specs.Mappings.{Mapping}
use Rattle.ts_config.specs.Answers.{asked_for, word_of}

-- whether any dictionary is asked for a token; phrases leave the others out
abbrev pub is_asked : Mapping → Token → Bool
is_asked mapping t = nat_lt 0 (length (asked_for mapping t))

-- whether the dictionary at this place is asked for a token
abbrev pub lists : Mapping → ℕ → Token → Bool
lists mapping place t = list_any (λ p. nat_eq p place) (asked_for mapping t)

-- The tokens that the thesaurus at this place sees: of those for which any dictionary is asked, the ones before the
-- first for which the thesaurus isn't.
abbrev pub seen : Mapping → ℕ → List Token → List Token
seen mapping place ts = take_while (lists mapping place) (filter (is_asked mapping) ts)

-- what is left after the first n of the tokens for which any dictionary is asked
abbrev pub behind : Mapping → ℕ → List Token → List Token
behind mapping zero ts = ts
behind mapping (suc n) [] = []
behind mapping (suc n) (t ∷ ts) = if is_asked mapping t then behind mapping n ts else behind mapping (suc n) ts

-- what a dictionary answers to tokens of a text
abbrev pub answers_to : (List ℕ → WordAnswer) → List ℕ → List Token → List WordAnswer
answers_to answer text ts = map (λ t. answer (word_of text t)) ts

module _ (mapping : Mapping) (text : List ℕ) (answer : List ℕ → WordAnswer) (place : ℕ) (rules : List Rule) where
  -- A phrase begins with the first of these tokens: the rule that is best for what the subdictionary answers to the
  -- tokens that the thesaurus sees. It replaces one token or more by these words, and the rest is after the last of
  -- them.
  pub record IsPhrase (ts : List Token) (words : List Found) (rest : List Token) : Type 0 where
    pub tokens : ℕ
    pub some : 0 < tokens
    pub best : IsBest rules (answers_to answer text (seen mapping place ts)) (record { tokens = tokens; words = words })
    pub left : rest ≡ behind mapping tokens ts

  abbrev pub NoPhrase : List Token → Type 0
  NoPhrase ts = (words : List Found) (rest : List Token) → ¬ IsPhrase ts words rest

  -- what the thesaurus gives of the token t, which ts follow: the words of a phrase, else that it doesn't know the
  -- token
  abbrev pub GivesPhrase : Token → List Token → WordAnswer → List Token → Type 0
  GivesPhrase t ts given rest =
      ((words : List Found) × IsPhrase (t ∷ ts) words rest × (given ≡ word_lexemes words))
      ⊎ (NoPhrase (t ∷ ts) × (given ≡ unknown_word) × (rest ≡ ts))

-- What is after a phrase of n tokens follows tokens of which the phrase's are those for which any dictionary is asked.
abbrev pub PhrasesAreWhole : Type 0
PhrasesAreWhole = (mapping : Mapping) (place n : ℕ) (ts : List Token) → n ≤ length (seen mapping place ts)
    → (front : List Token) × (ts ≡ front ++ behind mapping n ts)
    × (filter (is_asked mapping) front ≡ take n (seen mapping place ts))
