-- The parts of a token list: tokens, and phrases of thesauri.
use Rattle.std.specs.Prelude.{◌≡◌, ◌≢◌, ◌⊎◌, ◌↔◌, ℕ, List, [], ◌∷◌, map, false, All, Option, Some, None, slice_get}
use Rattle.ts_base.specs.Dictionary.{WordAnswer, unknown_word}
use Rattle.ts_parser.specs.declared.iter.Token.{Token}
use Rattle.ts_parser.specs.declared.kinds.TokenType.{TokenType}
use Rattle.ts_config.specs.Rules.{Rules, simple_rules, synonym_rules, porter_rules, thesaurus_rules, answer_by}
use Rattle.ts_config.specs.Rules.{is_thesaurus}
use Rattle.ts_config.specs.Mappings.{Mapping, list_for}
use Rattle.ts_config.specs.Known.{NamedRules, Known, rules_named}
use Rattle.ts_config.specs.Answers.{word_of, asked_for, token_answer}
use Rattle.ts_config.specs.Phrases.{GivesPhrase}

-- what a dictionary answers that may not be there
abbrev pub named_answer : Option Rules → List ℕ → WordAnswer
named_answer None word = unknown_word
named_answer (Some rules) word = answer_by rules word

module _ (known : Known) (mapping : Mapping) (text : List ℕ) where
  -- what a dictionary answers to the token t by itself; ts, which follow it, are left
  abbrev pub GivesWord : Rules → Token → List Token → WordAnswer → List Token → Type 0
  GivesWord rules t ts given rest = (given ≡ answer_by rules (word_of text t)) × (rest ≡ ts)

  -- what a dictionary with these rules, at this place, gives of the token t, which ts follow
  abbrev pub GivesBy : Rules → ℕ → Token → List Token → WordAnswer → List Token → Type 0
  GivesBy (simple_rules stops accept) place t ts given rest = GivesWord (simple_rules stops accept) t ts given rest
  GivesBy (synonym_rules kept) place t ts given rest = GivesWord (synonym_rules kept) t ts given rest
  GivesBy (porter_rules stops) place t ts given rest = GivesWord (porter_rules stops) t ts given rest
  GivesBy (thesaurus_rules rules sub) place t ts given rest =
      GivesPhrase mapping text (named_answer (rules_named known sub)) place rules t ts given rest

  -- the same of a dictionary that may not be there
  abbrev pub GivesAny : Option NamedRules → ℕ → Token → List Token → WordAnswer → List Token → Type 0
  GivesAny None place t ts given rest = (given ≡ unknown_word) × (rest ≡ ts)
  GivesAny (Some d) place t ts given rest = GivesBy d.rules place t ts given rest

  abbrev pub GivesAt : ℕ → Token → List Token → WordAnswer → List Token → Type 0
  GivesAt place t ts given rest = GivesAny (slice_get known.dictionaries place) place t ts given rest

  -- of the dictionaries at these places the first that doesn't answer unknown decides
  abbrev pub Decides : Token → List Token → List ℕ → WordAnswer → List Token → Type 0
  Decides t ts [] given rest = (given ≡ unknown_word) × (rest ≡ ts)
  Decides t ts (p ∷ ps) given rest =
      (GivesAt p t ts given rest × (given ≢ unknown_word))
      ⊎ (GivesAt p t ts unknown_word ts × Decides t ts ps given rest)

-- what the parts of these tokens are answered, part after part
pub data AreParts (known : Known) (mapping : Mapping) (text : List ℕ) : List Token → List WordAnswer → Type 0 where
  no_part : AreParts known mapping text [] []
  part : (t : Token) (ts rest : List Token) (given : WordAnswer) (more : List WordAnswer)
      → Decides known mapping text t ts (asked_for mapping t) given rest
      → AreParts known mapping text rest more → AreParts known mapping text (t ∷ ts) (given ∷ more)

-- no thesaurus is there
abbrev pub IsWordWise : Option NamedRules → Type 0
IsWordWise None = Unit {0}
IsWordWise (Some d) = is_thesaurus d.rules ≡ false

-- no type of tokens has a thesaurus
abbrev pub HasNoThesaurus : Known → Mapping → Type 0
HasNoThesaurus known mapping =
    (kind : TokenType) → All (λ p. IsWordWise (slice_get known.dictionaries p)) (list_for mapping kind)

-- Where no type has a thesaurus, each token is a part by itself: of its dictionaries the first that doesn't answer
-- unknown decides.
abbrev pub TokensAreParts : Type 0
TokensAreParts = (known : Known) (mapping : Mapping) (text : List ℕ) (ts : List Token) (answers : List WordAnswer)
    → HasNoThesaurus known mapping
    → AreParts known mapping text ts answers ↔ (answers ≡ map (token_answer known mapping text) ts)

-- the parts of a token list are one list
abbrev pub PartsAreOne : Type 0
PartsAreOne = (known : Known) (mapping : Mapping) (text : List ℕ) (ts : List Token) (a b : List WordAnswer)
    → AreParts known mapping text ts a → AreParts known mapping text ts b → a ≡ b
