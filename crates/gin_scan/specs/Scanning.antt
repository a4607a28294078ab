-- A scan as it goes on.
use Rattle.std.specs.Prelude.{◌≡◌, ◌≢◌, ◌⊎◌, ℕ, ◌+◌, ◌-◌, ◌*◌, ◌^◌, ◌<◌, ◌≤◌, ⊤, true, Bool, cond, List, [], ◌∷◌}
use Rattle.std.specs.Prelude.{length, map, take, drop, Some}
use Rattle.std.specs.List.{slice_get}
use Rattle.std.specs.List.Sorted.{IsNonDecreasingBy}
use Rattle.disk_trait.specs.declared.device.Disk.{Ghosts as Disk}
use Rattle.page_types.specs.declared.page.Name.{Name}
use Rattle.page_types.specs.declared.page.Body.TheVariants as body
use Rattle.core_state.specs.Log.{Log, Pages, In, Shows, cut}
use Rattle.core_state.specs.Documents.{page_of}
use Rattle.core_state.specs.History.{History, IsHistory}
use Rattle.core_state.specs.Legal.{Pin}
use Rattle.core_state.specs.Readings.{AreReads}
use Rattle.gin_opclass.specs.Class.{Asked, Meaning}
use Rattle.core_moments.specs.Walk.{Walk, Sought, IsKeyWalk, reads_of}
use Rattle.core_moments.specs.Law.{IsWalkFrom}
use Rattle.buffer_frames.specs.Frames.{FramesValue, Behind}
use Rattle.buffer_frames.specs.Passes.{IsPassOf, pin_in}
use Rattle.buffer_frames.specs.declared.pass.Pass.{Pass}
use Rattle.gin_hits.specs.Rows.{asked_by, asked_for}
use Rattle.gin_hits.specs.Sides.{AreKept}
use Rattle.core_moments.specs.OpenWalk.{NamedTree, ReadsTree}
use Rattle.gin_hits.specs.Ordered.{AreOrdered, asked_at}
use Rattle.gin_hits.specs.Trees.{trees_of}
use Rattle.gin_scan.specs.Ways.{IsGoingDown, IsGoingAlong, IsGoingInTrees, sought_by}
use Rattle.gin_scan.specs.Reading.{IsUnread, ReadsList, ReadsKeysBy, WereReadOn, ReadsParts}
use Rattle.gin_scan.specs.Taking.{AreTaken, first_items}
use Rattle.gin_scan.specs.Held.{ArePages}
use Rattle.gin_scan.specs.declared.scan_core.ScanCore.{ScanCore}
use Rattle.gin_scan.specs.declared.stage.Stage.{Stage}
use Rattle.gin_scan.specs.declared.stage.Stage.TheVariants as stage
use Rattle.gin_scan.specs.declared.stage.LongVector.{LongVector}
use Rattle.gin_opclass.specs.declared.QueryKeys.{QueryKeys}

-- ── of every device ──

-- the keys that a scan asks, one for each operand of the query
abbrev pub asked_in : ScanCore → List Asked
asked_in s = map asked_by s.keys.keys.items

-- in key order, each once
abbrev pub order_in : ScanCore → List Asked
order_in s = map (asked_at s.keys.keys.items) s.order.items

-- for what the code goes through the tree: the keys in this order, or all, which begin with no bytes
abbrev pub walked_by : QueryKeys → List ℕ → List Asked
walked_by keys order = cond keys.all (asked_for [] true ∷ []) (map (asked_at keys.keys.items) order)

-- what its walks through the tree look for
abbrev pub sought_for : QueryKeys → List ℕ → List Sought
sought_for keys order = sought_by keys.all (map (asked_at keys.keys.items) order)

abbrev pub sought_in : ScanCore → List Sought
sought_in s = sought_for s.keys s.order.items

-- the posting trees that the leaves which it has read named
abbrev pub trees_in : ScanCore → List NamedTree
trees_in s = trees_of s.roots.items

-- those from this number on
abbrev pub trees_from : ℕ → ScanCore → List NamedTree
trees_from at s = drop at (trees_in s)

-- the stage names a walk, the number after all, a posting tree, a kept item, or a vector that waits, where there is one
abbrev pub IsWithin : ScanCore → Stage → Type 0
IsWithin s (stage.Down key page left) =
    (key < length (sought_in s)) ⊎ ((key ≡ length (sought_in s)) × (left ≡ s.extent))
IsWithin s (stage.Leaf key page left) = key < length (sought_in s)
IsWithin s (stage.Posting key at page left next read) = (key < length (sought_in s)) × (at < length s.roots.items)
IsWithin s (stage.Heads at) = at ≤ length s.kept.items
IsWithin s (stage.Parts at page left) = at < length s.long.items
IsWithin s _ = ⊤

-- The keys are in order, there is a list of items for each key that is asked, on both sides, and the stage names what
-- is there.
pub record IsScan (s : ScanCore) : Type 0 where
  pub ordered : AreOrdered (asked_in s) (order_in s)
  pub pending : length s.pending.by_key.items ≡ length s.keys.keys.items
  pub main : length s.main.by_key.items ≡ length s.keys.keys.items
  pub within : IsWithin s s.stage

-- the keys are those of the query
pub record AsksFor {Q : Type 0} (M : Meaning Q) (q : Q) (s : ScanCore) : Type 0 where
  pub asked : asked_in s ≡ M.asked q
  pub all : s.keys.all ≡ M.all q

-- The pass has a snapshot of so many commits, and holds no page.
pub record IsScanning {D : Type 0} (f : FramesValue D) (pass : Pass) (s : ScanCore) : Type 0 where
  pub is_pass : IsPassOf f pass
  pub held : pass.held ≡ 0
  pub is_scan : IsScan s
  pub pin : Pin
  pub pinned : pin_in pass.pin ≡ Some pin
  pub snapshot : s.snapshot ≡ pin.commits

-- no further step reads anything
abbrev pub IsAtEnd : ScanCore → Type 0
IsAtEnd s = s.stage ≡ stage.Done

-- how many stages may follow, and how many steps of this one
abbrev pub stages_left : Stage → ℕ
stages_left stage.Meta = 5
stages_left (stage.Pending page left) = 4
stages_left (stage.Down key page left) = 3
stages_left (stage.Leaf key page left) = 3
stages_left (stage.Posting key at page left next read) = 3
stages_left (stage.Heads at) = 2
stages_left (stage.Parts at page left) = 1
stages_left stage.Done = 0

-- of the walks from this one on, of which so many pages are left
abbrev pub steps_on_way : ScanCore → ℕ → ℕ → ℕ
steps_on_way s key left = (length (sought_in s) - key) * 2 ^ 34 + (left + 2 * (2 ^ 32 - s.extent))

abbrev pub steps_of : ScanCore → Stage → ℕ
steps_of s stage.Meta = s.extent + 2 * (2 ^ 32 - s.extent)
steps_of s (stage.Pending page left) = left + 2 * (2 ^ 32 - s.extent)
steps_of s (stage.Down key page left) = steps_on_way s key left * 2 ^ 100
steps_of s (stage.Leaf key page left) = steps_on_way s key left * 2 ^ 100
steps_of s (stage.Posting key at page left next read) =
    steps_on_way s key (s.extent - read) * 2 ^ 100 + ((length s.roots.items - at) * 2 ^ 34 + left)
steps_of s (stage.Heads at) = length s.kept.items - at
steps_of s (stage.Parts at page left) = (length s.long.items - at) * 2 ^ 33 + left
steps_of s stage.Done = 0

-- a bound on the steps of a scan
abbrev pub steps_left : ScanCore → ℕ
steps_left s = stages_left s.stage * 2 ^ 200 + steps_of s s.stage

-- ── of legal logs ──

module _ {Q : Type 0} (M : Meaning Q) (q : Q) (R : Log) (pin : Pin) where
  -- A walk for the query was read, and these are the items that it keeps.
  pub record HasJudged (from : ℕ) (s : ScanCore) : Type 0 where
    pub walk : Walk
    pub is_walk : IsWalkFrom M q R pin walk
    pub reads : AreReads R from (reads_of walk)
    pub kept : AreKept M q walk s.kept.items

  -- of the snapshot's documents with the first so many kept items the scan has those that satisfy the
  -- query, but for those whose vectors wait from this number on
  abbrev pub HasTaken : ScanCore → ℕ → ℕ → Type 0
  HasTaken s at from =
      (H : History) → IsHistory R H
      → AreTaken (M.satisfies q) R pin H (first_items at s.kept.items) s.names.items (drop from s.long.items)

  -- the vector that waits under this number, of which the first parts were read
  abbrev pub ReadsLong : ℕ → ScanCore → ℕ → ℕ → ℕ → Type 0
  ReadsLong from s at page left =
      (l : LongVector) → slice_get s.long.items at ≡ Some l → ReadsParts R from s l page left

  -- all these vectors waited once
  pub record HadTaken (items : List ℕ) (long : List LongVector) : Type 0 where
    pub names : List Name
    pub taken : (H : History) → IsHistory R H → AreTaken (M.satisfies q) R pin H items names long

  -- the first so many kept items are on earlier pages than the others
  abbrev pub AreBefore : ScanCore → ℕ → Type 0
  AreBefore s at =
      (i : ℕ) (k : ℕ × Bool) → In i (first_items at s.kept.items) → slice_get s.kept.items at ≡ Some k
      → page_of i < page_of k.0

  -- what was read, and what is kept of it, by what is read next
  abbrev pub HasRead : ℕ → ScanCore → Stage → Type 0
  HasRead from s stage.Meta = IsUnread s
  HasRead from s (stage.Pending page left) = ReadsList R from (M.asked q) s page left
  HasRead from s (stage.Down key page left) =
      ReadsKeysBy (WereReadOn R from) IsKeyWalk (M.asked q) (sought_in s) s key left (IsGoingDown page)
  HasRead from s (stage.Leaf key page left) =
      ReadsKeysBy (WereReadOn R from) IsKeyWalk (M.asked q) (sought_in s) s key left (IsGoingAlong ReadsTree page)
  HasRead from s (stage.Posting key at page left next read) =
      (read ≤ s.extent)
      × ReadsKeysBy (WereReadOn R from) IsKeyWalk (M.asked q) (sought_in s) s key (s.extent - read)
      (IsGoingInTrees ReadsTree page left s.extent (trees_from at s) next)
  HasRead from s (stage.Heads at) =
      (j : HasJudged from s) × HasTaken s at 0 × (s.heads_read ≤ at)
      × ArePages R from j.walk (first_items at s.kept.items) [] s.pages_read × AreBefore s at
  HasRead from s (stage.Parts at page left) =
      (j : HasJudged from s) × HasTaken s (length s.kept.items) at × ReadsLong from s at page left
      × (s.heads_read ≤ length s.kept.items)
      × ArePages R from j.walk (first_items (length s.kept.items) s.kept.items) (take at s.long.items)
      (s.pages_read - (s.extent - left))
      × HadTaken (first_items (length s.kept.items) s.kept.items) s.long.items
  HasRead from s stage.Done =
      (j : HasJudged from s) × HasTaken s (length s.kept.items) (length s.long.items)
      × (s.heads_read ≤ length s.kept.items) × IsNonDecreasingBy (λ (name : Name). name.serial) s.names.items
      × ArePages R from j.walk (first_items (length s.kept.items) s.kept.items) s.long.items s.pages_read
      × HadTaken (first_items (length s.kept.items) s.kept.items) s.long.items

  -- What was read was read at rising lengths of the log, from one on that is at least the pin's. Below the
  -- extent are all pages that a record had changed by then.
  pub record IsScanOf (s : ScanCore) : Type 0 where
    pub from : ℕ
    pub since : pin.length ≤ from
    pub within : from ≤ length R
    pub below : (P : Pages) (p : ℕ) → Shows (cut from R) P → (P p).body ≢ body.Free → p < s.extent
    pub read : HasRead from s s.stage

-- Of each legal log of the frames: what the scan keeps is computed from a walk of pages as they were read.
abbrev pub Scanning : {D Q : Type 0} → Disk D → Meaning Q → Q → FramesValue D → Pass → ScanCore → Type 0
Scanning device M q f pass s =
    Behind device f (λ (R : Log). (pin : Pin)
    → pin_in pass.pin ≡ Some pin → IsScanOf M q R pin s)
