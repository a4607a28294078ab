-- What stays of the index, as placing and cleanup go by it: what was found in it, and its pairs.
use Rattle.std.specs.Prelude.{◌≡◌, ◌≢◌, ℕ, [], ◌++◌}
use Rattle.ts_base.specs.Keys.{Key}
use Rattle.core_state.specs.Log.{Log, Pages, Shows}
use Rattle.core_state.specs.Index.{Pending, Main, IsNamed}
use Rattle.core_state.specs.TreeRules.{Toward, TowardItem, IsRoot}
use Rattle.core_state.specs.Legal.{IsLegal}
use Rattle.core_state.specs.Steady.{LeavesIndex}
use Rattle.core_state.specs.Allowed.{View, IsAllowed}
use Rattle.core_maintenance.specs.Right.{HasRight}
use Rattle.core_maintenance.specs.MovingSteps.{IsAllMain}
use Rattle.core_maintenance.specs.Leading.{IsHigh, IsHighPost}

-- What was found of the index is so still: the ways down, the pages on them and their heights, the
-- posting trees that entries name, linked rows, pairs of the main part, and documents with all their
-- keys in it.
pub record FoundStays (P Q : Pages) : Type 0 where
  pub toward : (k : Key) (p : ℕ) → Toward P k 1 p → Toward Q k 1 p
  pub named : (k : Key) (root : ℕ) → IsNamed P k root → IsNamed Q k root
  pub roots : (root : ℕ) → IsRoot P root → IsRoot Q root
  pub toward_item : (root i p : ℕ) → IsRoot P root → TowardItem P i root p → TowardItem Q i root p
  pub pending : (k : Key) (i : ℕ) → Pending P k i → Pending Q k i
  pub main : (k : Key) (i : ℕ) → Main P k i → Main Q k i
  pub all_main : (i : ℕ) → IsAllMain P i → IsAllMain Q i
  pub high : (k : Key) (p h : ℕ) → Toward P k 1 p → IsHigh P h p → IsHigh Q h p
  pub high_post : (root i p h : ℕ) → IsRoot P root → TowardItem P i root p → IsHighPost P h p
      → IsHighPost Q h p
  pub same : (k : Key) (p : ℕ) → Toward P k 1 p → Q p ≡ P p
  pub same_post : (root i p : ℕ) → IsRoot P root → TowardItem P i root p → Q p ≡ P p

-- it is so over later records of none of the kinds 12 to 21
abbrev pub FoundHolds : Type 0
FoundHolds =
    (R later R' : Log) (P Q : Pages) → R' ≡ later ++ R → R ≢ [] → IsLegal R → IsLegal R'
    → Shows R P → Shows R' Q → LeavesIndex later → FoundStays P Q

-- and in each log that is allowed to a session with the right of maintenance
abbrev pub RightKeepsFound : Type 0
RightKeepsFound =
    (v : View) (R : Log) (a : IsAllowed v R) (P : Pages) → HasRight v → Shows v.seen P
    → FoundStays P a.pages
