-- How far a cleanup has come, as its pass has seen it.
use Rattle.std.specs.Prelude.{◌≡◌, ◌≢◌, ◌↔◌, ℕ, ◌<◌, ◌≤◌, List, [], ◌++◌, length, map, take, drop, Bool, false}
use Rattle.std.specs.Prelude.{⊤}
use Rattle.std.specs.List.{flat_map}
use Rattle.disk_trait.specs.declared.device.Disk.{Ghosts as Disk}
use Rattle.page_types.specs.Items.{AreItems}
use Rattle.page_types.specs.Keys.{IsKey}
use Rattle.page_types.specs.Numbers.{item_limit}
use Rattle.page_types.specs.Views.{rows_of}
use Rattle.page_types.specs.declared.page.Row.{Row}
use Rattle.ts_base.specs.Keys.{Key}
use Rattle.core_state.specs.Log.{Log, Pages, In, Shows, cut}
use Rattle.core_state.specs.Index.{Line, IsLinked, rows_on}
use Rattle.buffer_frames.specs.Frames.{FramesValue}
use Rattle.buffer_frames.specs.Passes.{Seen}
use Rattle.buffer_frames.specs.declared.pass.Pass.{Pass}
use Rattle.gin_place.specs.Placing.{IsPending, IsPlacing}
use Rattle.gin_cleanup.specs.Gathered.{KeyItems}
use Rattle.gin_cleanup.specs.Gathering.{Wait, wait, IsGathered, IsBatch}
use Rattle.gin_cleanup.specs.NextPage.{IsNext}
use Rattle.gin_cleanup.specs.declared.cleanup.Cleanup.{Cleanup}
use Rattle.gin_cleanup.specs.declared.cleanup.Stage.{Stage}
use Rattle.gin_cleanup.specs.declared.cleanup.Stage.TheVariants as stage

-- each item under a key waits to be placed
abbrev pub waits_under : Key → List ℕ → List Wait
waits_under k items = map (λ (i : ℕ). wait k i) items

-- the pairs that were gathered, and those of the key at work
abbrev pub waits_in : KeyItems → List Wait
waits_in es = flat_map (λ (e : Key × List ℕ). waits_under e.0 e.1) es

abbrev pub at_work : Stage → List Wait
at_work (stage.Placing key items placing) = waits_under key.items items.items
at_work _ = []

abbrev pub waits_of : KeyItems → Stage → List Wait
waits_of es s = waits_in es ++ at_work s

-- they are pairs that the tree may have
abbrev pub ArePairs : List Wait → Type 0
ArePairs ws = (x : Wait) → In x ws → IsKey x.key × (0 < x.item) × (x.item < item_limit)

-- The row is linked, and has been in each log that this one went on from, down to so many records.
abbrev pub IsStillIn : ℕ → Log → Row → Type 0
IsStillIn from S w = (n : ℕ) → from ≤ n → n ≤ length S → (P : Pages) → Shows (cut n S) P → IsLinked P w

-- the rows that still are linked are on the first `left` pages of the list, and each of these has one
pub record AreLeft (from : ℕ) (S : Log) (P : Pages) (left : ℕ) : Type 0 where
  pub line : List ℕ
  pub is_line : Line P line
  pub enough : left ≤ length line
  pub on : (w : Row) → IsStillIn from S w → In w (rows_on P (take left line))
  pub some : (q : ℕ) → In q (take left line) → (w : Row) × IsStillIn from S w × In w (rows_of (P q))

-- what was gathered, and the page that is read next; a batch, and the pages of it that were shifted
abbrev pub IsReadingAt : Pages → ℕ → List ℕ → List Wait → List ℕ → ℕ → Type 0
IsReadingAt P left counts ws before page =
    (x : IsGathered P left counts ws) × IsNext P left counts x.line before page

abbrev pub IsAt : Pages → Cleanup → Stage → Type 0
IsAt P c (stage.Reading page before) =
    IsReadingAt P c.left c.counts.items (waits_of c.gathered (stage.Reading page before)) before.items page
IsAt P c (stage.Placing key items placing) =
    IsBatch P c.left c.counts.items (waits_of c.gathered (stage.Placing key items placing))
IsAt P c stage.Shifting = IsBatch P c.left (drop c.gone c.counts.items) []

-- how many pages of the batch were shifted
abbrev pub AreGone : Cleanup → Stage → Type 0
AreGone c (stage.Reading page before) = c.gone ≡ 0
AreGone c (stage.Placing key items placing) = (c.gone ≡ 0) × (c.counts.items ≢ [])
AreGone c stage.Shifting = (c.gone < length c.counts.items) × (c.gathered ≡ [])

module _ {D : Type 0} (device : Disk D) (f : FramesValue D) (pass : Pass) where
  -- items that are placed
  abbrev pub IsKeyAt : Stage → Type 0
  IsKeyAt (stage.Placing key items placing) =
      IsKey key.items × AreItems items.items × IsPlacing device f pass key.items items.items placing
  IsKeyAt _ = ⊤

  -- the cleanup that began when its pass had seen so many records
  pub record IsCleaning (from : ℕ) (c : Cleanup) : Type 0 where
    pub began : from ≤ pass.seen
    pub at : Seen device f pass (λ S P. IsAt P c c.stage)
    pub gone : AreGone c c.stage
    pub linked : (x : Wait) → In x (waits_of c.gathered c.stage) → IsPending device f pass x.key x.item
    pub pairs : ArePairs (waits_of c.gathered c.stage)
    pub placing : IsKeyAt c.stage
    pub left : Seen device f pass (λ S P. AreLeft from S P c.left)

  -- false says that no row is still linked
  abbrev pub SaysWhether : ℕ → Bool → Type 0
  SaysWhether from more = Seen device f pass (λ S P. (more ≡ false) ↔ ((w : Row) → IsStillIn from S w → ⊥))
