-- What a dictionary goes by, whatever its kind.
use Rattle.std.specs.Prelude.{ℕ, List, Bool, true, false, string_bytes}
use Rattle.ts_base.specs.Dictionary.{WordAnswer, unknown_word}
use Rattle.ts_words.specs.Simple.{simple_answer}
use Rattle.ts_synonym.specs.Synonyms.{Synonyms, synonym_answer}
use Rattle.porter_stem.specs.Porter.{porter_answer}
use Rattle.ts_thesaurus.specs.Rules.{Rule}
use Rattle.ts_config.specs.declared.dictionaries.AnyDictionary.{AnyDictionary}
use Rattle.ts_config.specs.declared.dictionaries.AnyDictionary.TheVariants.{Simple, Synonym, Porter, Thesaurus}

-- Each kind is a case. `simple` goes by its stop words, and by whether it accepts the others; `synonym` by its list;
-- `porter` by its stop words; a thesaurus by its rules, and by the subdictionary of this name.
pub data Rules : Type 0 where
  simple_rules : List (List ℕ) → Bool → Rules
  synonym_rules : Synonyms → Rules
  porter_rules : List (List ℕ) → Rules
  thesaurus_rules : List Rule → List ℕ → Rules

-- what a dictionary answers to a word by itself; a thesaurus knows none
abbrev pub answer_by : Rules → List ℕ → WordAnswer
answer_by (simple_rules stops accept) word = simple_answer stops accept word
answer_by (synonym_rules kept) word = synonym_answer kept word
answer_by (porter_rules stops) word = porter_answer stops word
answer_by (thesaurus_rules rules sub) word = unknown_word

abbrev pub is_thesaurus : Rules → Bool
is_thesaurus (simple_rules stops accept) = false
is_thesaurus (synonym_rules kept) = false
is_thesaurus (porter_rules stops) = false
is_thesaurus (thesaurus_rules rules sub) = true

abbrev pub rules_of : AnyDictionary → Rules
rules_of (Simple s) = simple_rules s.stops s.accept
rules_of (Synonym s) = synonym_rules s
rules_of (Porter p) = porter_rules p.stops
rules_of (Thesaurus t sub) = thesaurus_rules t (string_bytes sub)
