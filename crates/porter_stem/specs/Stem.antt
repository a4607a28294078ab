-- The stem of a word, by Porter's algorithm of 1980.
use Rattle.std.specs.Prelude.{ℕ, ◌-◌, List, ◌++◌, length, take, Bool, not, if◌then◌else◌, ◌==◌, ◌||◌, ◌&&◌, nat_lt}
use Rattle.std.specs.Prelude.{nat_le, bytes_eq, codes, Option, Some, None}
use Rattle.std.specs.List.{list_all}
use Rattle.porter_stem.specs.Letters.{measure, ends_double, ends_short}
use Rattle.porter_stem.specs.Tables.{Rule, ends_in, applied, step, rules_1a, rules_1b, rules_1c, rules_2, rules_3}
use Rattle.porter_stem.specs.Tables.{rules_4, rules_5a}

abbrev pub without_last : List ℕ → List ℕ
without_last word = take (length word - 1) word

-- What a word gets from which `ed` or `ing` was taken: an e after at, bl and iz; else of a double consonant but l, s
-- and z one letter stays; else a short word of measure 1 gets an e.
abbrev pub mended : List ℕ → List ℕ
mended word =
    if ends_in (codes "at") word || (ends_in (codes "bl") word || ends_in (codes "iz") word) then word ++ codes "e" else
    (if ends_double word && not (ends_in (codes "l") word || (ends_in (codes "s") word || ends_in (codes "z") word))
    then without_last word else
    (if (measure word == 1) && ends_short word then word ++ codes "e" else word))

-- a word is mended where the rule that was applied took its suffix off
abbrev pub mended_behind : Option Rule → List ℕ → List ℕ
mended_behind None word = word
mended_behind (Some r) word = if length r.given == 0 then mended word else word

abbrev pub step_1b : List ℕ → List ℕ
step_1b word = mended_behind (applied rules_1b word) (step rules_1b word)

abbrev pub step_5b : List ℕ → List ℕ
step_5b word =
    if nat_lt 1 (measure word) && (ends_double word && ends_in (codes "l") word) then without_last word else word

-- the steps in turn: 1a, 1b, 1c, 2, 3, 4, 5a and 5b
abbrev pub stemmed : List ℕ → List ℕ
stemmed word =
    step_5b (step rules_5a (step rules_4 (step rules_3 (step rules_2 (step rules_1c (step_1b (step rules_1a word)))))))

-- a to z
abbrev pub is_small : ℕ → Bool
is_small c = nat_le 97 c && nat_le c 122

-- The word `s`, whose stem would be empty, and a word with a byte other than a to z stay as they are.
abbrev pub stem : List ℕ → List ℕ
stem word = if not (list_all is_small word) || bytes_eq word (codes "s") then word else stemmed word
