-- Positions that are put into a bit set.
use Rattle.std.specs.Prelude.{◌≡◌, ℕ, ◌+◌, ◌*◌, ◌<◌, ◌≤◌, ◌==◌, ◌&&◌, ◌||◌, length, Contains, slice_index_or}
use Rattle.std.specs.List.{list_any, slice_range}
use Rattle.ts_base.specs.Vectors.{Vector, Entry, Position}
use Rattle.ts_match.specs.declared.ranges.EntryRange.{EntryRange}
use Rattle.ts_match.specs.declared.ranges.TheConstants.{FARTHEST}
use Rattle.ts_match.specs.declared.bit_sets.BitSet.{BitSet}
use Rattle.ts_match.specs.declared.bit_sets.TheConstants.{WORD}
use Rattle.ts_match.specs.declared.layout.Move.{Move}
use Rattle.ts_match.specs.Meaning.{fits}
use Rattle.ts_match.specs.Inner.BitSets.{bit_value, IsWide}

-- a bit set of so many words has a place for each position of these entries, moved by so much
pub record CanSet (count : ℕ) (bits : BitSet) (v : Vector) (found : EntryRange) (by : ℕ) : Type 0 where
  pub wide : IsWide count bits
  pub near : by ≤ FARTHEST
  pub end : found.end ≤ length v
  pub within : (i : ℕ) (e : Entry) (p : Position) → found.first ≤ i → i < found.end
      → Contains (slice_index_or v i e).positions p → p.at + by < WORD * count

-- a bit set is true also at each position of a fitting weight that these entries have, moved
abbrev pub HasSet : ℕ → BitSet → BitSet → Vector → EntryRange → Move → Type 0
HasSet count old new v found how = (j : ℕ)
    → bit_value count new j
    ≡ (bit_value count old j || list_any (λ e. list_any (λ p. (j == p.at + how.by) && fits how.weights p.weight)
    e.positions) (slice_range v found.first found.end))
