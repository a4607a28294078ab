-- Rules on the ends of words, and the tables of Porter's algorithm of 1980.
use Rattle.std.specs.Prelude.{ℕ, ◌-◌, List, [], ◌∷◌, ◌++◌, length, take, drop, Bool, true, not, if◌then◌else◌, ◌==◌}
use Rattle.std.specs.Prelude.{◌||◌, ◌&&◌, nat_lt, bytes_eq, codes, Option, Some, None}
use Rattle.porter_stem.specs.Letters.{measure, has_vowel, ends_short}
use Rattle.porter_stem.specs.declared.rule.Condition.{Condition}
use Rattle.porter_stem.specs.declared.rule.Condition.TheVariants.{Always, HasVowel, MeasureAbove, IonBehind, FinalE}

-- the word ends in this suffix
abbrev pub ends_in : List ℕ → List ℕ → Bool
ends_in suffix word =
    not (nat_lt (length word) (length suffix)) && bytes_eq suffix (drop (length word - length suffix) word)

-- what is before the suffix
abbrev pub before : List ℕ → List ℕ → List ℕ
before suffix word = take (length word - length suffix) word

-- what a rule asks of the stem before its suffix
abbrev pub holds : Condition → List ℕ → Bool
holds Always stem = true
holds HasVowel stem = has_vowel stem
holds (MeasureAbove n) stem = nat_lt n (measure stem)
holds IonBehind stem = nat_lt 1 (measure stem) && (ends_in (codes "s") stem || ends_in (codes "t") stem)
holds FinalE stem = nat_lt 1 (measure stem) || ((measure stem == 1) && not (ends_short stem))

-- a suffix, what is in its place, and the condition
pub record Rule : Type 0 where
  pub suffix : List ℕ
  pub given : List ℕ
  pub condition : Condition

-- the rule with the longest suffix that the word has: the one found so far, or one of the others
abbrev pub longer : List ℕ → Option Rule → Rule → Option Rule
longer word None r = if ends_in r.suffix word then Some r else None
longer word (Some found) r =
    if ends_in r.suffix word && nat_lt (length found.suffix) (length r.suffix) then Some r else Some found

abbrev pub longest_from : List ℕ → Option Rule → List Rule → Option Rule
longest_from word found [] = found
longest_from word found (r ∷ rules) = longest_from word (longer word found r) rules

abbrev pub longest : List Rule → List ℕ → Option Rule
longest rules word = longest_from word None rules

-- a rule, where its condition holds of the stem
abbrev pub if_holds : List ℕ → Option Rule → Option Rule
if_holds word None = None
if_holds word (Some r) = if holds r.condition (before r.suffix word) then Some r else None

-- The rule of a table that is applied to a word: the one with the longest suffix that the word has is the only one
-- looked at.
abbrev pub applied : List Rule → List ℕ → Option Rule
applied rules word = if_holds word (longest rules word)

abbrev pub changed : Option Rule → List ℕ → List ℕ
changed None word = word
changed (Some r) word = before r.suffix word ++ r.given

-- what a step makes of a word by its table
abbrev pub step : List Rule → List ℕ → List ℕ
step rules word = changed (applied rules word) word

abbrev pub rule : Condition → List ℕ → List ℕ → Rule
rule condition suffix given = record { suffix = suffix; given = given; condition = condition }

abbrev pub rules_1a : List Rule
rules_1a =
    rule Always (codes "sses") (codes "ss") ∷ rule Always (codes "ies") (codes "i")
    ∷ rule Always (codes "ss") (codes "ss") ∷ rule Always (codes "s") [] ∷ []

abbrev pub rules_1b : List Rule
rules_1b =
    rule (MeasureAbove 0) (codes "eed") (codes "ee") ∷ rule HasVowel (codes "ed") []
    ∷ rule HasVowel (codes "ing") [] ∷ []

abbrev pub rules_1c : List Rule
rules_1c = rule HasVowel (codes "y") (codes "i") ∷ []

abbrev pub above_0 : List ℕ → List ℕ → Rule
above_0 suffix given = rule (MeasureAbove 0) suffix given

abbrev pub rules_2 : List Rule
rules_2 =
    above_0 (codes "ational") (codes "ate") ∷ above_0 (codes "tional") (codes "tion")
    ∷ above_0 (codes "enci") (codes "ence") ∷ above_0 (codes "anci") (codes "ance")
    ∷ above_0 (codes "izer") (codes "ize") ∷ above_0 (codes "abli") (codes "able")
    ∷ above_0 (codes "alli") (codes "al") ∷ above_0 (codes "entli") (codes "ent")
    ∷ above_0 (codes "eli") (codes "e") ∷ above_0 (codes "ousli") (codes "ous")
    ∷ above_0 (codes "ization") (codes "ize") ∷ above_0 (codes "ation") (codes "ate")
    ∷ above_0 (codes "ator") (codes "ate") ∷ above_0 (codes "alism") (codes "al")
    ∷ above_0 (codes "iveness") (codes "ive") ∷ above_0 (codes "fulness") (codes "ful")
    ∷ above_0 (codes "ousness") (codes "ous") ∷ above_0 (codes "aliti") (codes "al")
    ∷ above_0 (codes "iviti") (codes "ive") ∷ above_0 (codes "biliti") (codes "ble") ∷ []

abbrev pub rules_3 : List Rule
rules_3 =
    above_0 (codes "icate") (codes "ic") ∷ above_0 (codes "ative") [] ∷ above_0 (codes "alize") (codes "al")
    ∷ above_0 (codes "iciti") (codes "ic") ∷ above_0 (codes "ical") (codes "ic") ∷ above_0 (codes "ful") []
    ∷ above_0 (codes "ness") [] ∷ []

-- taken off after a stem of this measure
abbrev pub above_1 : List ℕ → Rule
above_1 suffix = rule (MeasureAbove 1) suffix []

abbrev pub rules_4 : List Rule
rules_4 =
    above_1 (codes "al") ∷ above_1 (codes "ance") ∷ above_1 (codes "ence") ∷ above_1 (codes "er")
    ∷ above_1 (codes "ic") ∷ above_1 (codes "able") ∷ above_1 (codes "ible") ∷ above_1 (codes "ant")
    ∷ above_1 (codes "ement") ∷ above_1 (codes "ment") ∷ above_1 (codes "ent") ∷ rule IonBehind (codes "ion") []
    ∷ above_1 (codes "ou") ∷ above_1 (codes "ism") ∷ above_1 (codes "ate") ∷ above_1 (codes "iti")
    ∷ above_1 (codes "ous") ∷ above_1 (codes "ive") ∷ above_1 (codes "ize") ∷ []

abbrev pub rules_5a : List Rule
rules_5a = rule FinalE (codes "e") [] ∷ []
