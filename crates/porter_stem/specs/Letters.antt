-- Vowels and consonants of a word of small letters.
use Rattle.std.specs.Prelude.{ℕ, ◌+◌, List, [], ◌∷◌, Bool, true, false, not, if◌then◌else◌, ◌==◌, ◌&&◌, codes, reverse}
use Rattle.std.specs.List.{list_any}

-- the letter is one of these
abbrev pub is_one_of : List ℕ → ℕ → Bool
is_one_of letters c = list_any (λ (x : ℕ). c == x) letters

-- Whether a letter is a consonant, given whether the letter before it is: a, e, i, o and u are vowels, and so is y
-- after a consonant. A word begins as if after a vowel.
abbrev pub is_consonant : Bool → ℕ → Bool
is_consonant before c = if c == 121 then not before else not (is_one_of (codes "aeiou") c)

-- for each letter whether it is a consonant
abbrev pub kinds_behind : Bool → List ℕ → List Bool
kinds_behind before [] = []
kinds_behind before (c ∷ word) = is_consonant before c ∷ kinds_behind (is_consonant before c) word

abbrev pub kinds : List ℕ → List Bool
kinds word = kinds_behind false word

-- how many times a vowel is followed by a consonant, after a letter of this kind
abbrev pub turns_behind : Bool → List Bool → ℕ
turns_behind before [] = 0
turns_behind before (kind ∷ kinds) = (if not before && kind then 1 else 0) + turns_behind kind kinds

abbrev pub turns : List Bool → ℕ
turns [] = 0
turns (kind ∷ kinds) = turns_behind kind kinds

-- how many times a group of vowels is followed by one of consonants
abbrev pub measure : List ℕ → ℕ
measure word = turns (kinds word)

abbrev pub has_vowel : List ℕ → Bool
has_vowel word = list_any not (kinds word)

-- the letters from the last on, beside whether each is a consonant: two equal ones, the last a consonant
abbrev pub is_double : List ℕ → List Bool → Bool
is_double (a ∷ b ∷ letters) (kind ∷ kinds) = (a == b) && kind
is_double letters kinds = false

-- the word ends in a double consonant
abbrev pub ends_double : List ℕ → Bool
ends_double word = is_double (reverse word) (reverse (kinds word))

-- the letters from the last on, beside whether each is a consonant: consonant, vowel, consonant, and the last none of
-- w, x, y
abbrev pub is_short : List ℕ → List Bool → Bool
is_short (c ∷ letters) (true ∷ false ∷ true ∷ kinds) = not (is_one_of (codes "wxy") c)
is_short letters kinds = false

-- the word ends in consonant, vowel, consonant, the last none of w, x and y
abbrev pub ends_short : List ℕ → Bool
ends_short word = is_short (reverse word) (reverse (kinds word))
