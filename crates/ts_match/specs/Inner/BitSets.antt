-- A bit set of places as a function from places to truths.
use Rattle.std.specs.Prelude.{ℕ, ◌+◌, ◌-◌, ◌*◌, ◌/◌, ◌%◌, ◌≤◌, ◌==◌, nat_lt, Bool, if◌then◌else◌, List, map}
use Rattle.std.specs.Prelude.{slice_index, vec_len}
use Rattle.std.specs.Int.{bit_at}
use Rattle.ts_base.specs.declared.TheConstants.{LAST_POSITION}
use Rattle.ts_match.specs.declared.ranges.TheConstants.{FARTHEST}
use Rattle.ts_match.specs.declared.bit_sets.BitSet.{BitSet}
use Rattle.ts_match.specs.declared.bit_sets.TheConstants.{WORD}

-- a bit of a list of words
abbrev pub word_bit : List ℕ → ℕ → Bool
word_bit words j = bit_at (slice_index words (j / WORD)) (j % WORD) == 1

-- the truth at a place: a bit of so many words, or else the truth at all other places
abbrev pub value_in : ℕ → List ℕ → Bool → ℕ → Bool
value_in count words rest j = if nat_lt j (WORD * count) then word_bit words j else rest

abbrev pub bit_value : ℕ → BitSet → ℕ → Bool
bit_value count bits j = value_in count bits.words.items bits.rest j

-- the truths of a stack of bit sets at one place
abbrev pub truths_at : ℕ → ℕ → List BitSet → List Bool
truths_at count j bit_sets = map (λ bits. bit_value count bits j) bit_sets

abbrev pub IsWide : ℕ → BitSet → Type 0
IsWide count bits = count ≤ vec_len bits.words

-- Where the beginning of a phrase is counted from, as in `place_from`, at a place of its bit sets: at the place
-- `reach` of a bit set the
-- phrase begins at 0.
abbrev pub beginning : ℕ → ℕ → ℕ
beginning reach j = (j + FARTHEST) - reach

-- how many words a bit set has in which each position has a place, moved by `reach` at most
abbrev pub words_for : ℕ → ℕ
words_for reach = (LAST_POSITION + reach) / WORD + 1
