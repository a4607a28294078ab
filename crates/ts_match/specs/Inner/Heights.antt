-- How many bit sets the phrases of a query need at once.
use Rattle.std.specs.Prelude.{◌≡◌, ℕ, ◌+◌, ◌-◌, ◌<◌, ◌≤◌, max, min, List, [], ◌∷◌, length, All}
use Rattle.ts_query.specs.declared.query.Node.{Node}
use Rattle.ts_query.specs.declared.query.Node.TheVariants.{Leaf, Not, And, Or, Phrase}
use Rattle.ts_match.specs.declared.bit_sets.BitSet.{BitSet}
use Rattle.ts_match.specs.declared.bit_sets.TheConstants.{WIDEST}
use Rattle.ts_match.specs.declared.work.Place.{Place}
use Rattle.ts_match.specs.declared.work.Place.TheVariants.{Outside, Within}
use Rattle.ts_match.specs.declared.work.Step.{Step}
use Rattle.ts_match.specs.Inner.Plan.{offset_of}
use Rattle.ts_match.specs.Inner.BitSets.{IsWide, words_for}

-- how high a node leaves a stack that was h high
abbrev pub height_behind : Node → ℕ → ℕ
height_behind (Leaf k) h = h + 1
height_behind Not h = h
height_behind And h = h - 1
height_behind Or h = h - 1
height_behind (Phrase n) h = h - 1

-- after a step outside phrases the stack is empty
abbrev pub height_at : Place → Node → ℕ → ℕ
height_at (Outside on_true on_false) n h = 0
height_at (Within offset needed) n h = height_behind n h

-- the greatest height on the way over the steps
abbrev pub highest : List Step → ℕ → ℕ
highest [] h = h
highest (s ∷ ss) h = max h (highest ss (height_at s.place s.node h))

-- on a stack that is h high a node finds its operands, and room for its value among n
abbrev pub HasRoom : ℕ → Node → ℕ → Type 0
HasRoom n (Leaf k) h = h < n
HasRoom n Not h = 0 < h
HasRoom n And h = 1 < h
HasRoom n Or h = 1 < h
HasRoom n (Phrase m) h = 1 < h

-- each step has room, from a stack on that is h high
abbrev pub HaveRoom : ℕ → List Step → ℕ → Type 0
HaveRoom n [] h = Unit {0}
HaveRoom n (s ∷ ss) h = HasRoom n s.node h × HaveRoom n ss (height_behind s.node h)

-- bit sets that are in use and bit sets that are not, each of so many words at least
pub record AreWide (count : ℕ) (used unused : List BitSet) : Type 0 where
  pub stack : All (IsWide count) used
  pub spare : All (IsWide count) unused

-- as many bit sets as before, and as wide
pub record SameBitSets (stack spare stack' spare' : List BitSet) : Type 0 where
  pub count : length stack' + length spare' ≡ length stack + length spare
  pub wide : (count : ℕ) → AreWide count stack spare → AreWide count stack' spare'

-- A bit set for each level of the stack that the phrases among the steps need, and in each a place for each
-- position moved by their
-- widths, where these add up to at most WIDEST.
pub record HasBitSets (ss : List Step) (stack spare : List BitSet) : Type 0 where
  pub height : highest ss 0 ≤ length stack + length spare
  pub reach : ℕ
  pub near : All (λ s. offset_of s.place ≤ reach) ss
  pub wide : AreWide (words_for (min reach WIDEST)) stack spare
