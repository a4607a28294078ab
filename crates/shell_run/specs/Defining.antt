-- What a definition is answered, and what is defined after a statement.
use Rattle.std.specs.Prelude.{◌≡◌, ◌≢◌, ◌⊎◌, ℕ, List, [], ◌∷◌, map, Option, Some, None}
use Rattle.std.specs.List.{All, Any}
use Rattle.std.specs.Str.{IsUtf8}
use Rattle.ts_parser.specs.declared.kinds.TokenType.{TokenType}
use Rattle.ts_base.specs.Dictionary.{WordAnswer, unknown_word}
use Rattle.ts_words.specs.StopLists as stops
use Rattle.ts_words.specs.StopLists.{IsStopList}
use Rattle.ts_synonym.specs.Synonyms as synonyms
use Rattle.ts_synonym.specs.Synonyms.{Synonyms, IsSynonymList}
use Rattle.ts_thesaurus.specs.Rules.{Rule}
use Rattle.ts_thesaurus.specs.Lines.{AreRules, IsRefused}
use Rattle.ts_config.specs.Rules.{Rules, simple_rules, synonym_rules, porter_rules, thesaurus_rules, answer_by}
use Rattle.ts_config.specs.Mappings.{Mapping, empty_mapping, mapped}
use Rattle.ts_config.specs.Known.{Known, HasDictionary, HasConfiguration, ArePlaces, sub_named, with_dictionary}
use Rattle.ts_config.specs.Known.{with_configuration}
use Rattle.shell_script.specs.Lines.{Line}
use Rattle.shell_script.specs.OpeningLines.{Kind, simple_kind, porter_kind, synonym_kind, thesaurus_kind, OpeningLine}
use Rattle.shell_script.specs.OpeningLines.{dictionary_opening, configuration_opening, IsMapping}
use Rattle.shell_script.specs.Grammar.{Statement, define}
use Rattle.shell_script.specs.Replies.{Refusal, no_statement, no_dictionary, memory}
use Rattle.shell_script.specs.Replies.{Reply, done, refused}

-- ── dictionaries ──
-- a line that is no text, or that is bad by this
abbrev pub IsNoLine : (List ℕ → Type 0) → Line → Type 0
IsNoLine IsBad l = (¬ IsUtf8 l.bytes) ⊎ IsBad l.bytes

-- what the dictionary under a thesaurus answers to a word
abbrev pub answer_in : Option Rules → List ℕ → WordAnswer
answer_in None word = unknown_word
answer_in (Some rules) word = answer_by rules word

-- the kind goes over a dictionary that isn't there, or is a thesaurus
abbrev pub LacksOne : Known → Kind → Type 0
LacksOne known (thesaurus_kind sub) = sub_named known sub ≡ None
LacksOne known kind = ⊥

-- a line that a dictionary of this kind can't have
abbrev pub IsBadFor : Known → Kind → Line → Type 0
IsBadFor known (simple_kind accept) l = IsNoLine stops.IsBadLine l
IsBadFor known porter_kind l = IsNoLine stops.IsBadLine l
IsBadFor known (synonym_kind cases) l = IsNoLine synonyms.IsBadLine l
IsBadFor known (thesaurus_kind sub) l = IsNoLine (IsRefused (answer_in (sub_named known sub))) l

-- the first such line has this number
abbrev pub FirstIs : (Line → Type 0) → List Line → ℕ → Type 0
FirstIs IsSuch [] at = ⊥
FirstIs IsSuch (l ∷ ls) at =
    (IsSuch l × (at ≡ l.number)) ⊎ ((¬ IsSuch l) × FirstIs IsSuch ls at)

abbrev pub bytes_of : List Line → List (List ℕ)
bytes_of ls = map (λ (l : Line). l.bytes) ls

-- what a dictionary of this kind goes by that has these lines
abbrev pub IsDictionaryOf : Known → Kind → List Line → Rules → Type 0
IsDictionaryOf known (simple_kind accept) ls rules =
    (words : List (List ℕ)) × IsStopList (bytes_of ls) words × (rules ≡ simple_rules words accept)
IsDictionaryOf known porter_kind ls rules =
    (words : List (List ℕ)) × IsStopList (bytes_of ls) words × (rules ≡ porter_rules words)
IsDictionaryOf known (synonym_kind cases) ls rules =
    (kept : Synonyms) × IsSynonymList cases (bytes_of ls) kept × (rules ≡ synonym_rules kept)
IsDictionaryOf known (thesaurus_kind sub) ls rules =
    (phrases : List Rule) × AreRules (answer_in (sub_named known sub)) (bytes_of ls) phrases
    × (rules ≡ thesaurus_rules phrases sub)

-- ── configurations ──
-- the line gives types the dictionaries that it names
pub record MapsLine (known : Known) (old : Mapping) (l : Line) (new : Mapping) : Type 0 where
  pub types : List TokenType
  pub names : List (List ℕ)
  pub places : List ℕ
  pub line : IsMapping l.bytes types names
  pub are : ArePlaces known names places
  pub value : new ≡ mapped types places old

-- the lines of a configuration in turn: a later list of a type replaces an earlier one
abbrev pub Maps : Known → Mapping → List Line → Mapping → Type 0
Maps known old [] new = new ≡ old
Maps known old (l ∷ ls) new = (next : Mapping) × MapsLine known old l next × Maps known next ls new

-- a line is outside the grammar, or names a dictionary that isn't there
abbrev pub LineFails : Known → Line → Refusal → Type 0
LineFails known l (no_statement at) =
    ((types : List TokenType) (names : List (List ℕ)) → IsMapping l.bytes types names → ⊥)
    × (at ≡ l.number)
LineFails known l no_dictionary =
    (types : List TokenType) × (names : List (List ℕ)) × IsMapping l.bytes types names
    × Any (λ (name : List ℕ). ¬ HasDictionary known name) names
LineFails known l why = ⊥

-- the refusal of the first line that fails
abbrev pub LinesFail : Known → Mapping → List Line → Refusal → Type 0
LinesFail known old [] why = ⊥
LinesFail known old (l ∷ ls) why =
    LineFails known l why
    ⊎ ((next : Mapping) × MapsLine known old l next × LinesFail known next ls why)

-- ── definitions ──
-- What a definition in the grammar is answered, whose first line has this number: it is done, or the
-- first cause against it counts. The dictionary under it isn't there; its name is there already; then
-- its lines, in turn. Memory may always run out.
abbrev pub IsDefined : Known → ℕ → OpeningLine → List Line → Reply → Type 0
IsDefined known number (dictionary_opening name kind) ls done =
    (¬ LacksOne known kind) × (¬ HasDictionary known name)
    × All (λ (l : Line). ¬ IsBadFor known kind l) ls
IsDefined known number (dictionary_opening name kind) ls (refused no_dictionary) = LacksOne known kind
IsDefined known number (dictionary_opening name kind) ls (refused (no_statement at)) =
    (¬ LacksOne known kind)
    × ((HasDictionary known name × (at ≡ number))
    ⊎ ((¬ HasDictionary known name) × FirstIs (λ (l : Line). IsBadFor known kind l) ls at))
IsDefined known number (configuration_opening name) ls done =
    (¬ HasConfiguration known name) × ((mapping : Mapping) × Maps known empty_mapping ls mapping)
IsDefined known number (configuration_opening name) ls (refused (no_statement at)) =
    (HasConfiguration known name × (at ≡ number))
    ⊎ ((¬ HasConfiguration known name) × LinesFail known empty_mapping ls (no_statement at))
IsDefined known number (configuration_opening name) ls (refused no_dictionary) =
    (¬ HasConfiguration known name) × LinesFail known empty_mapping ls no_dictionary
IsDefined known number head ls (refused memory) = Unit {0}
IsDefined known number head ls reply = ⊥

-- what is defined after a statement: one thing more where it is a definition that is done, and
-- else the same
abbrev pub Becomes : Known → Statement → Reply → Known → Type 0
Becomes known (define (dictionary_opening name kind) ls) done next =
    (rules : Rules) × IsDictionaryOf known kind ls rules × (next ≡ with_dictionary known name rules)
Becomes known (define (configuration_opening name) ls) done next =
    (mapping : Mapping) × Maps known empty_mapping ls mapping
    × (next ≡ with_configuration known name mapping)
Becomes known statement reply next = next ≡ known

-- want of memory aside, a definition has one answer
abbrev pub HasOneAnswer : Known → ℕ → OpeningLine → List Line → Type 0
HasOneAnswer known number head ls = (a b : Reply) → a ≢ refused memory → b ≢ refused memory
    → IsDefined known number head ls a → IsDefined known number head ls b → a ≡ b
