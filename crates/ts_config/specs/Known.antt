-- What is defined: dictionaries and configurations by name, each in the order of their definitions.
use Rattle.std.specs.Prelude.{◌≡◌, ℕ, ◌<◌, List, [], ◌∷◌, ◌++◌, length, true, if◌then◌else◌, bytes_eq, codes, position}
use Rattle.std.specs.Prelude.{Option, Some, None, All}
use Rattle.std.specs.List.{Any, find}
use Rattle.std.specs.Option.{option_map}
use Rattle.ts_parser.specs.declared.kinds.TokenType.{TokenType}
use Rattle.ts_config.specs.declared.error.ConfigError.{ConfigError}
use Rattle.ts_config.specs.declared.error.ConfigError.TheVariants.{UnknownDictionary, DuplicateName, OutOfMemory}
use Rattle.ts_config.specs.Rules.{Rules, simple_rules, synonym_rules, porter_rules, thesaurus_rules, is_thesaurus}
use Rattle.ts_config.specs.Mappings.{Mapping, with_list, simple_mapping}

pub record NamedRules : Type 0 where
  pub name : List ℕ
  pub rules : Rules

pub record NamedMapping : Type 0 where
  pub name : List ℕ
  pub mapping : Mapping

pub record Known : Type 0 where
  pub dictionaries : List NamedRules
  pub configurations : List NamedMapping

-- the dictionary and the configuration `simple`
abbrev pub first_known : Known
first_known = record {
  dictionaries = record { name = codes "simple"; rules = simple_rules [] true } ∷ [];
  configurations = record { name = codes "simple"; mapping = simple_mapping } ∷ [];
}

-- ── names ──
abbrev pub HasDictionary : Known → List ℕ → Type 0
HasDictionary known name = Any (λ d. d.name ≡ name) known.dictionaries

abbrev pub HasConfiguration : Known → List ℕ → Type 0
HasConfiguration known name = Any (λ c. c.name ≡ name) known.configurations

-- the place of the dictionary of this name
abbrev pub place_of : Known → List ℕ → Option ℕ
place_of known name = position (λ d. bytes_eq name d.name) known.dictionaries

abbrev pub rules_named : Known → List ℕ → Option Rules
rules_named known name = option_map (λ d. d.rules) (find (λ d. bytes_eq name d.name) known.dictionaries)

abbrev pub mapping_named : Known → List ℕ → Option Mapping
mapping_named known name = option_map (λ c. c.mapping) (find (λ c. bytes_eq name c.name) known.configurations)

-- the places of names, one by one
abbrev pub ArePlaces : Known → List (List ℕ) → List ℕ → Type 0
ArePlaces known [] places = places ≡ []
ArePlaces known (n ∷ ns) places =
    (p : ℕ) × (ps : List ℕ) × (places ≡ p ∷ ps) × (place_of known n ≡ Some p) × ArePlaces known ns ps

-- these rules, where they are no thesaurus's
abbrev pub no_thesaurus : Option Rules → Option Rules
no_thesaurus None = None
no_thesaurus (Some rules) = if is_thesaurus rules then None else Some rules

-- the rules of the dictionary of this name, where it may be a subdictionary: it is there, and is no thesaurus
abbrev pub sub_named : Known → List ℕ → Option Rules
sub_named known name = no_thesaurus (rules_named known name)

-- these rules are of a thesaurus whose subdictionary isn't there, or is a thesaurus
abbrev pub LacksSub : Known → Rules → Type 0
LacksSub known (thesaurus_rules rules sub) = sub_named known sub ≡ None
LacksSub known (simple_rules stops accept) = ⊥
LacksSub known (synonym_rules kept) = ⊥
LacksSub known (porter_rules stops) = ⊥

-- each place that the mapping has is a dictionary's
abbrev pub IsWithin : Known → Mapping → Type 0
IsWithin known mapping = All (All (λ p. p < length known.dictionaries)) mapping

-- ── definitions ──
abbrev pub with_dictionary : Known → List ℕ → Rules → Known
with_dictionary known name rules = record {
  dictionaries = known.dictionaries ++ record { name = name; rules = rules } ∷ [];
  configurations = known.configurations;
}

abbrev pub with_configuration : Known → List ℕ → Mapping → Known
with_configuration known name mapping = record {
  dictionaries = known.dictionaries;
  configurations = known.configurations ++ record { name = name; mapping = mapping } ∷ [];
}

-- in the configuration of this name, the type's list replaced
abbrev pub remapped : List ℕ → TokenType → List ℕ → List NamedMapping → List NamedMapping
remapped name kind places [] = []
remapped name kind places (c ∷ cs) =
    if bytes_eq name c.name then record { name = c.name; mapping = with_list c.mapping kind places } ∷ cs
    else c ∷ remapped name kind places cs

pub record AddsDictionary (old : Known) (name : List ℕ) (rules : Rules) (new : Known) : Type 0 where
  pub sub : ¬ LacksSub old rules
  pub free : ¬ HasDictionary old name
  pub value : new ≡ with_dictionary old name rules

pub record AddsConfiguration (old : Known) (name : List ℕ) (mapping : Mapping) (new : Known) : Type 0 where
  pub free : ¬ HasConfiguration old name
  pub value : new ≡ with_configuration old name mapping

pub record AddsMapping (old : Known) (name : List ℕ) (kind : TokenType) (names : List (List ℕ))
    (new : Known) : Type 0 where
  pub places : List ℕ
  pub are : ArePlaces old names places
  pub value : new
      ≡ record { dictionaries = old.dictionaries; configurations = remapped name kind places old.configurations }

-- ── refusals ──
-- why a dictionary, a configuration or a mapping is refused; want of memory is no fault of theirs
abbrev pub RefusesDictionary : Known → List ℕ → Rules → ConfigError → Type 0
RefusesDictionary known name rules UnknownDictionary = LacksSub known rules
RefusesDictionary known name rules DuplicateName = (¬ LacksSub known rules) × HasDictionary known name
RefusesDictionary known name rules OutOfMemory = Unit {0}

abbrev pub RefusesConfiguration : Known → List ℕ → ConfigError → Type 0
RefusesConfiguration known name UnknownDictionary = ⊥
RefusesConfiguration known name DuplicateName = HasConfiguration known name
RefusesConfiguration known name OutOfMemory = Unit {0}

abbrev pub RefusesMapping : Known → List (List ℕ) → ConfigError → Type 0
RefusesMapping known names UnknownDictionary = Any (λ name. ¬ HasDictionary known name) names
RefusesMapping known names DuplicateName = ⊥
RefusesMapping known names OutOfMemory = Unit {0}
