-- How far a search for dead documents has come, as its pass has seen it.
use Rattle.std.specs.Prelude.{ℕ, suc, ◌-◌, ◌<◌, ◌≤◌, List, Option, Some, None, ⊤}
use Rattle.disk_trait.specs.declared.device.Disk.{Ghosts as Disk}
use Rattle.page_types.specs.Items.{AreItems}
use Rattle.page_types.specs.Numbers.{page_limit}
use Rattle.page_types.specs.declared.page.Head.{Head}
use Rattle.core_state.specs.Log.{Log, Pages, In, Shows, cut}
use Rattle.core_state.specs.Documents.{Doc, Has, IsDead, page_of}
use Rattle.core_state.specs.Lives.{IsHeapPage}
use Rattle.snap_pins.specs.Taken.{IsPinned}
use Rattle.snap_pins.specs.declared.Pin.{Pin}
use Rattle.buffer_frames.specs.Frames.{FramesValue}
use Rattle.buffer_frames.specs.Passes.{Seen}
use Rattle.buffer_frames.specs.declared.pass.Pass.{Pass}
use Rattle.gin_vacuum.specs.Vacuum.{HaveDeadHeads}
use Rattle.gin_vacuum.specs.declared.finding.Finding.{Finding}

-- so many commits are flushed, and no snapshot in use is of fewer
pub record IsFloor {D : Type 0} (f : FramesValue D) (floor : ℕ) : Type 0 where
  pub flushed : floor ≤ f.journal.flushed
  pub pinned : (place : ℕ) (p : Pin) → IsPinned f.pins place p → floor ≤ p.commits

-- the page is below the one that is read next; all are below none
abbrev pub IsBefore : ℕ → Option ℕ → Type 0
IsBefore p None = ⊤
IsBefore p (Some next) = p < next

-- the page that is read next has been a heap page
abbrev pub IsNext : Log → Option ℕ → Type 0
IsNext S None = ⊤
IsNext S (Some next) = IsHeapPage S next

-- The document had its slot and was dead, in the log of so many records and by this floor.
pub record WasDead (S : Log) (from floor : ℕ) (d : Doc) : Type 0 where
  pub pages : Pages
  pub head : Head
  pub shown : Shows (cut from S) pages
  pub has : Has pages d head
  pub dead : IsDead (cut from S) floor d

-- each document that was dead has its slot still
abbrev pub HaveStill : ℕ → ℕ → Log → Pages → Type 0
HaveStill from floor S P = (d : Doc) → WasDead S from floor d → (h : Head) × Has P d h

-- the items have those that were dead, on the pages below `next`
abbrev pub HaveAll : ℕ → ℕ → Option ℕ → List ℕ → Log → Type 0
HaveAll from floor next items S =
    (d : Doc) → WasDead S from floor d → IsBefore (page_of d.item) next → In d.item items

-- The search that began when its pass had seen `from` records, and had this floor; the next page is read next.
-- Each item is of a dead document that has its slot, and those that were dead at the beginning are there up to that
-- page.
pub record IsFindingAt {D : Type 0} (device : Disk D) (f : FramesValue D) (pass : Pass) (from floor : ℕ)
    (next : Option ℕ) (items : List ℕ) : Type 0 where
  pub some : 0 < from
  pub began : from ≤ pass.seen
  pub under : floor ≤ pass.floor
  pub are_items : AreItems items
  pub positive : IsBefore 0 next
  pub before : (i : ℕ) → In i items → IsBefore (page_of i) next
  pub heap : Seen device f pass (λ S P. IsNext S next)
  pub dead : HaveDeadHeads device f pass items
  pub still : Seen device f pass (λ S P. HaveStill from floor S P)
  pub all : Seen device f pass (λ S P. HaveAll from floor next items S)

abbrev pub IsFinding : {D : Type 0} → Disk D → FramesValue D → Pass → ℕ → ℕ → Finding → Type 0
IsFinding device f pass from floor c = IsFindingAt device f pass from floor c.next c.items.items

-- how many pages are left at most
abbrev pub left_from : Option ℕ → ℕ
left_from None = 0
left_from (Some next) = suc (page_limit - next)

abbrev pub pages_left : Finding → ℕ
pages_left c = left_from c.next

-- The items are of dead documents that have their slots, and are all those of documents that were dead when
-- the pass had seen `from` records, and had this floor; these have their slots still.
pub record HasFoundDead {D : Type 0} (device : Disk D) (f : FramesValue D) (pass : Pass) (from floor : ℕ)
    (items : List ℕ) : Type 0 where
  pub dead : HaveDeadHeads device f pass items
  pub still : Seen device f pass (λ S P. HaveStill from floor S P)
  pub all : Seen device f pass (λ S P. HaveAll from floor None items S)
