-- What holds of all stems, and of the tables.
use Rattle.std.specs.Prelude.{◌≡◌, ◌⊎◌, ℕ, ◌<◌, ◌≤◌, List, [], ◌∷◌, length, map, Bool, true, false, not, ◌&&◌, bytes_eq}
use Rattle.std.specs.Prelude.{Option, Some, None, IfSome, IsTrue}
use Rattle.std.specs.List.{list_all, list_any}
use Rattle.porter_stem.specs.Tables.{Rule, ends_in, longest, rules_1a, rules_1b, rules_1c, rules_2, rules_3, rules_4}
use Rattle.porter_stem.specs.Tables.{rules_5a}
use Rattle.porter_stem.specs.Stem.{stem, is_small}

-- a stem is not longer than its word
abbrev pub StemIsNoLonger : Type 0
StemIsNoLonger = (word : List ℕ) → length (stem word) ≤ length word

-- a word that is not empty has a stem that is not empty
abbrev pub StemIsSome : Type 0
StemIsSome = (word : List ℕ) → 0 < length word → 0 < length (stem word)

-- the stem of a word of a to z is one
abbrev pub StemIsSmall : Type 0
StemIsSmall = (word : List ℕ) → IsTrue (list_all is_small word) → IsTrue (list_all is_small (stem word))

-- the property holds of each of these rules
abbrev pub Each : (Rule → Type 0) → List Rule → Type 0
Each P [] = Unit {0}
Each P (r ∷ rules) = P r × Each P rules

-- the rule is one of these
abbrev pub IsOneOf : Rule → List Rule → Type 0
IsOneOf r [] = ⊥
IsOneOf r (s ∷ rules) = (r ≡ s) ⊎ IsOneOf r rules

-- the word has no longer suffix of a rule than this one's, none where there is no such rule
abbrev pub IsNoLongerThan : List ℕ → Option Rule → Rule → Type 0
IsNoLongerThan word None r = ends_in r.suffix word ≡ false
IsNoLongerThan word (Some found) r = ends_in r.suffix word ≡ true → length r.suffix ≤ length found.suffix

-- the rule is one of the table, and the word has its suffix
abbrev pub IsRuleOf : List Rule → List ℕ → Rule → Type 0
IsRuleOf rules word r = IsOneOf r rules × (ends_in r.suffix word ≡ true)

-- the rule that is looked at is that of the table with the longest suffix that the word has
pub record IsLongest (rules : List Rule) (word : List ℕ) (found : Option Rule) : Type 0 where
  pub rule : IfSome found (IsRuleOf rules word)
  pub longest : Each (IsNoLongerThan word found) rules

abbrev pub LongestIsLongest : Type 0
LongestIsLongest = (rules : List Rule) (word : List ℕ) → IsLongest rules word (longest rules word)

-- each text is once in the list
abbrev pub all_differ : List (List ℕ) → Bool
all_differ [] = true
all_differ (text ∷ texts) = not (list_any (bytes_eq text) texts) && all_differ texts

-- no two rules have one suffix
abbrev pub AreApart : List Rule → Type 0
AreApart rules = IsTrue (all_differ (map (λ (r : Rule). r.suffix) rules))

-- no table has a suffix twice
abbrev pub TablesAreApart : Type 0
TablesAreApart = AreApart rules_1a × AreApart rules_1b × AreApart rules_1c × AreApart rules_2 × AreApart rules_3
    × AreApart rules_4 × AreApart rules_5a
