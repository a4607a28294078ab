-- A phrase laid out, and what it means that it holds at a place.
use Rattle.std.specs.Prelude.{◌≡◌, ℕ, ◌+◌, ◌-◌, ◌*◌, ◌<◌, ◌≤◌, ℤ, pos, negsuc, ◌+ℤ◌, ◌-ℤ◌, Bool, true, false, not, ◌&&◌}
use Rattle.std.specs.Prelude.{◌||◌, IsTrue, List, [], ◌∷◌, length, All, Contains, Some, slice_get, slice_index_or}
use Rattle.ts_base.specs.Vectors.{Vector, Entry, Position, IsNormal}
use Rattle.ts_query.specs.declared.query.Node.{Node}
use Rattle.ts_query.specs.declared.query.Node.TheVariants.{Leaf, Not, And, Or, Phrase}
use Rattle.ts_query.specs.declared.query.Operand.{Operand}
use Rattle.ts_query.specs.Queries.{Tree, leaf, negated, joined, phrase_joint}
use Rattle.ts_match.specs.declared.ranges.EntryRange.{EntryRange}
use Rattle.ts_match.specs.declared.ranges.TheConstants.{FARTHEST}
use Rattle.ts_match.specs.declared.work.Place.{Place}
use Rattle.ts_match.specs.declared.work.Place.TheVariants.{Outside, Within}
use Rattle.ts_match.specs.declared.work.Step.{Step}
use Rattle.ts_match.specs.declared.phrase.Phrase.{Phrase as PhraseAt}
use Rattle.ts_match.specs.declared.bit_sets.BitSet.{BitSet}
use Rattle.ts_match.specs.declared.bit_sets.TheConstants.{WORD}
use Rattle.ts_match.specs.Inner.BitSets.{bit_value}
use Rattle.ts_match.specs.Meaning.{width, at, places, HoldsSomewhere}
use Rattle.ts_match.specs.Inner.Ranges.{NamesRange, stands_at}
use Rattle.ts_match.specs.Plan.{count_in, steps}
use Rattle.ts_match.specs.Inner.Plan.{offset_of}
use Rattle.ts_match.specs.Inner.Stacks.{top_or, below}

-- the operands of the tree have these numbers, from k on
abbrev pub HasNumbers : List Operand → ℕ → Tree → Type 0
HasNumbers os k (leaf o) = slice_get os k ≡ Some o
HasNumbers os k (negated x) = HasNumbers os k x
HasNumbers os k (joined j x y) = HasNumbers os k x × HasNumbers os (k + count_in x) y

-- the steps of a phrase that is in no other
pub record IsPhraseOf (os : List Operand) (ss : List Step) (t : Tree) : Type 0 where
  pub first : ℕ
  pub start : ℕ
  pub on_true : ℕ
  pub on_false : ℕ
  pub distance : ℕ
  pub left : Tree
  pub right : Tree
  pub phrase : t ≡ joined (phrase_joint distance) left right
  pub laid : ss ≡ steps first start (Outside on_true on_false) t
  pub numbered : HasNumbers os first t

-- where a step is
abbrev pub StandsOutside : Place → Type 0
StandsOutside (Outside on_true on_false) = Unit {0}
StandsOutside (Within offset needed) = ⊥

abbrev pub StandsWithin : Place → Type 0
StandsWithin (Outside on_true on_false) = ⊥
StandsWithin (Within offset needed) = Unit {0}

-- the node of an operand or of a phrase
abbrev pub IsUnitNode : Node → Type 0
IsUnitNode (Leaf k) = Unit {0}
IsUnitNode (Phrase n) = Unit {0}
IsUnitNode _ = ⊥

-- the number of a leaf is that of an operand, and an offset is no farther than a phrase reaches
abbrev pub HasOperand : ℕ → Node → Type 0
HasOperand n (Leaf k) = k < n
HasOperand n _ = Unit {0}

pub record IsStep (n : ℕ) (s : Step) : Type 0 where
  pub operand : HasOperand n s.node
  pub near : offset_of s.place ≤ FARTHEST

-- the operand of a leaf names what was found for it
abbrev pub RangeFor : Vector → List Operand → List EntryRange → Node → Type 0
RangeFor v os fs (Leaf k) =
    (o : Operand) (f : EntryRange) → NamesRange v (slice_index_or os k o) (slice_index_or fs k f)
RangeFor v os fs _ = Unit {0}

abbrev pub HasRange : Vector → List Operand → List EntryRange → Step → Type 0
HasRange v os fs s = RangeFor v os fs s.node

-- what is at hand when a phrase is matched
pub record IsPrepared (v : Vector) (os : List Operand) (fs : List EntryRange) (ss : List Step) : Type 0 where
  pub normal : IsNormal v
  pub same : length os ≤ length fs
  pub found : All (HasRange v os fs) ss
  pub steps : All (IsStep (length os)) ss

-- The place of a phrase whose beginning is counted as `from`: the count starts so far back that no beginning is
-- below 0.
abbrev pub place_from : Tree → ℕ → ℤ
place_from t from = (pos from -ℤ pos FARTHEST) +ℤ pos (width t)

-- the phrase holds where the operand of this step is at p
pub record HoldsWith (v : Vector) (os : List Operand) (t : Tree) (s : Step) : Type 0 where
  pub number : ℕ
  pub offset : ℕ
  pub needed : Bool
  pub operand : Operand
  pub p : ℕ
  pub is_leaf : s ≡ record { node = Leaf number; place = Within offset needed }
  pub is_operand : slice_get os number ≡ Some operand
  pub stands : Contains (places operand v) p
  pub holds : IsTrue (at v t (place_from t (p + FARTHEST - offset)))

-- what is at hand when a phrase is tried with an operand of this offset, by a stack with this room
pub record CanTry (phrase : PhraseAt) (room offset : ℕ) : Type 0 where
  pub ready : IsPrepared phrase.vector.now phrase.operands.now phrase.found.now phrase.steps.now
  pub room_for : length phrase.steps.now ≤ room
  pub near : offset ≤ FARTHEST

-- A phrase is tried where an operand of this offset is at certain positions: where it then holds it does so somewhere,
-- and it then holds if it does with the operand at one of these.
pub record IsTried (phrase : PhraseAt) (IsThere : Position → Type 0) (offset : ℕ) (holds : Bool) : Type 0 where
  pub sound : (t : Tree) → IsPhraseOf phrase.operands.now phrase.steps.now t → IsTrue holds
      → HoldsSomewhere phrase.vector.now t
  pub whole : (t : Tree) (p : Position) → IsPhraseOf phrase.operands.now phrase.steps.now t → IsThere p
      → IsTrue (at phrase.vector.now t (place_from t (p.at + FARTHEST - offset))) → IsTrue holds

-- the leaf of an operand without which the phrase holds nowhere
pub record IsNeeded (ss : List Step) (s : Step) : Type 0 where
  pub number : ℕ
  pub offset : ℕ
  pub there : Contains ss s
  pub is_leaf : s ≡ record { node = Leaf number; place = Within offset true }

abbrev pub no_operand : Operand
no_operand = record { lexeme = []; weights = record { a = false; b = false; c = false; d = false }; prefix = false }

abbrev pub operand_at : List Operand → ℕ → Operand
operand_at os k = slice_index_or os k no_operand

-- what a node at an offset adds to the truths where the phrase's beginning is counted as `from`
abbrev pub node_value : Vector → List Operand → ℕ → ℕ → Node → Bool
node_value v os from offset (Leaf k) = stands_at (operand_at os k) v (from + offset)
node_value v os from offset _ = false

abbrev pub leaf_value : Vector → List Operand → ℕ → Step → Bool
leaf_value v os from s = node_value v os from (offset_of s.place) s.node

-- what a node does to a stack of truths, where a leaf has this value
abbrev pub truth_step : Node → Bool → List Bool → List Bool
truth_step (Leaf k) value st = value ∷ st
truth_step Not value st = not (top_or false st) ∷ below st
truth_step And value st = (top_or false (below st) && top_or false st) ∷ below (below st)
truth_step Or value st = (top_or false (below st) || top_or false st) ∷ below (below st)
truth_step (Phrase n) value st = (top_or false (below st) && top_or false st) ∷ below (below st)

-- each position that was found for a leaf has a place in so many words, wherever in the phrase the leaf is
abbrev pub PlacesFor : Vector → List EntryRange → ℕ → ℕ → Node → Type 0
PlacesFor v fs reach count (Leaf k) = (f : EntryRange) (i : ℕ) (e : Entry) (p : Position)
    → (slice_index_or fs k f).first ≤ i → i < (slice_index_or fs k f).end
    → Contains (slice_index_or v i e).positions p → p.at + reach < WORD * count
PlacesFor v fs reach count _ = Unit {0}

abbrev pub HasPlaces : Vector → List EntryRange → ℕ → ℕ → Step → Type 0
HasPlaces v fs reach count s = PlacesFor v fs reach count s.node

-- what is known of a step of a phrase that reaches no farther than `reach`, where so many words of a bit set are in use
pub record IsLaidOut (v : Vector) (os : List Operand) (fs : List EntryRange) (reach count : ℕ) (s : Step) : Type 0 where
  pub operand : HasOperand (length os) s.node
  pub near : offset_of s.place ≤ reach
  pub found : HasRange v os fs s
  pub places : HasPlaces v fs reach count s

-- The bit set of a tree: at each of its places the bit says whether the tree holds there, and the one bit for all
-- others says it of
-- each other whole number.
pub record SaysWhere (v : Vector) (t : Tree) (count : ℕ) (bits : BitSet) : Type 0 where
  pub here : (j : ℕ) → bit_value count bits j ≡ at v t (pos j)
  pub elsewhere : (n : ℕ) → bits.rest ≡ at v t (negsuc n)
