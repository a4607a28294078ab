-- The page that a head goes on.
use Rattle.std.specs.Prelude.{◌≡◌, ◌⊎◌, ℕ, ◌<◌, List, [], ◌∷◌, ◌++◌, Some, None, ⊤}
use Rattle.std.specs.List.{slice_get}
use Rattle.disk_trait.specs.declared.device.Disk.{Ghosts as Disk}
use Rattle.page_types.specs.Pages.{IsPage}
use Rattle.page_types.specs.declared.page.Page.{Page}
use Rattle.page_types.specs.declared.page.Head.{Head}
use Rattle.core_state.specs.Allowed.{Sheet}
use Rattle.core_state.specs.Log.{Log, Pages, In}
use Rattle.core_state.specs.States.{heap_pages}
use Rattle.core_state.specs.Steps.{IsNewSheet, sheet}
use Rattle.page_space.specs.Taking.{IsTaken}
use Rattle.doc_heap.specs.HeapPages.{HasNoRoom, IsPlaced}
use Rattle.buffer_frames.specs.Frames.{KeepsState}
use Rattle.buffer_frames.specs.Passes.{IsPassOf, IsHolding, PassRises, Seen}
use Rattle.buffer_frames.specs.declared.pass.Pass.{Pass}
use Rattle.engine.specs.Going.{Goes, MetNoFault}
use Rattle.engine.specs.Places.{Lies, NoHeapPageHasRoom}
use Rattle.engine.specs.Causes.{IsDown, IsHeap, IsNone, IsNoPageAt, IsNew, IsNewSought, IsStoreFull}
use Rattle.engine.specs.Inner.Parts.{Later, CarriesOwn, KeepsWork, CannotHold}
use Rattle.engine.specs.Db.{DbValue, fault_of, state_of, IsUp}
use Rattle.engine.specs.declared.pages.Placed.{Placed}
use Rattle.engine.specs.declared.error.DbError.{DbError}
use Rattle.engine.specs.declared.error.DbError.TheVariants.{StoreFull, Down, DiskFault, BadPage, OutOfMemory}

-- what lies in memory now lay there before
abbrev pub LiesAsBefore : {D : Type 0} → DbValue D → DbValue D → Type 0
LiesAsBefore old new = (p : ℕ) (c : Page) → Lies new p c → Lies old p c

-- the heap page of this number, of those that a head is tried on, has no room for it
pub record IsPassedOver {D : Type 0} (s : DbValue D) (h : Head) (number : ℕ) : Type 0 where
  pub page : ℕ
  pub at : slice_get (heap_pages (state_of s)) number ≡ Some page
  pub content : Page
  pub lies : Lies s page content
  pub no_room : HasNoRoom content h

-- Of the heap pages that a head is tried on it goes on the first that has room for it; where none has,
-- on a new page, which is the lowest that was deleted and may be taken again, or else the lowest unused
-- one.
pub data IsChosen {D : Type 0} (s : DbValue D) (since : ℕ) (h : Head) (held : Sheet) : Type 0 where
  old : (number : ℕ) → slice_get (heap_pages (state_of s)) number ≡ Some held.page
      → IsHeap s held.content → ((k : ℕ) → k < number → IsPassedOver s h k)
      → IsChosen s since h held
  new : (number : ℕ) → slice_get (heap_pages (state_of s)) number ≡ None
      → ((k : ℕ) → k < number → IsPassedOver s h k) → IsTaken (state_of s) since held.page
      → IsChosen s since h held

module _ {D : Type 0} (device : Disk D) where
  -- ── what a call leaves that logs nothing ──

  -- the pass goes on with its work, and no more lies in memory than lay there
  pub record WorksOn (was : DbValue D) (pass : Pass) (now : DbValue D) (pass' : Pass) : Type 0 where
    pub is_pass : IsPassOf now.frames pass'
    pub carries : CarriesOwn device was pass now pass'
    pub goes : Goes device was now []
    pub state : KeepsState was.frames now.frames
    pub pins : now.frames.pins ≡ was.frames.pins
    pub lying : LiesAsBefore was now
    pub keeps : KeepsWork pass pass'
    pub rises : PassRises pass pass'

  -- no page more is held
  pub record HoldsNoMore (was : DbValue D) (pass : Pass) (now : DbValue D) (pass' : Pass) : Type 0 where
    pub holding : (held : List Sheet) → IsHolding device was.frames pass held
        → IsHolding device now.frames pass' held
    pub held : pass'.held ≡ pass.held

  -- these pages are given back, and lie in memory again
  pub record GivesBack (was : DbValue D) (pass : Pass) (now : DbValue D) (pass' : Pass) (back : List Sheet)
      : Type 0 where
    pub is_pass : IsPassOf now.frames pass'
    pub carries : CarriesOwn device was pass now pass'
    pub goes : Goes device was now []
    pub met : MetNoFault device was now
    pub rests : (fault : ℕ) → fault_of was ≡ Some fault → now.frames.journal ≡ was.frames.journal
    pub state : KeepsState was.frames now.frames
    pub pins : now.frames.pins ≡ was.frames.pins
    pub lying : (p : ℕ) (c : Page) → Lies now p c → Lies was p c ⊎ In (sheet p c) back
    pub keeps : KeepsWork pass pass'
    pub rises : PassRises pass pass'
    pub holding : (held : List Sheet) → IsHolding device was.frames pass (back ++ held)
        → IsHolding device now.frames pass' held

  -- a page is held more, which is taken as a new one, and is new
  pub record HoldsNew (was : DbValue D) (pass : Pass) (now : DbValue D) (pass' : Pass) (h : Sheet) : Type 0 where
    pub holding : (held : List Sheet) → IsHolding device was.frames pass held
        → IsHolding device now.frames pass' (h ∷ held)
    pub lies : Lies was h.page h.content
    pub taken : IsTaken (state_of now) pass'.since h.page
    pub unused : IsNew now pass'.since h.content
    pub is_new : Seen device now.frames pass'
        (λ (S : Log) (P : Pages). IsNewSheet P pass'.since h.page h.content)

  -- a head is placed on a page, which alone is held
  pub record HoldsPlaced (s : DbValue D) (pass : Pass) (h : Head) (p : Placed) : Type 0 where
    pub placed : IsPlaced p.held.content h p.page p.slot
    pub is_page : IsPage p.page
    pub holding : IsHolding device s.frames pass (p.held ∷ [])

  -- a page of this number and a new one are held, and no other
  pub record HoldsWithNew (was now : DbValue D) (pass : Pass) (page : ℕ) (old new : Sheet) : Type 0 where
    pub number : old.page ≡ page
    pub lies : Lies was page old.content
    pub holding : IsHolding device now.frames pass (new ∷ old ∷ [])
    pub is_new : Seen device now.frames pass
        (λ (S : Log) (P : Pages). IsNewSheet P pass.since new.page new.content)

  -- ── refusals ──

  -- why no new page is held: there is none, or one that the state calls new is none
  abbrev pub CannotTake : DbValue D → DbValue D → DbError → Type 0
  CannotTake was now (Down fault) = IsDown was fault
  CannotTake was now StoreFull = IsStoreFull now
  CannotTake was now (BadPage p) =
      Later device was (λ (s : DbValue D). IsUp s × ((since : ℕ) × IsNewSought s since p × IsNone s (IsNew s since) p))
  CannotTake was now DiskFault = ⊤
  CannotTake was now OutOfMemory = ⊤
  CannotTake was now e = ⊥

  -- why a page and a new one aren't held: the first isn't, or then no new one is
  pub data CannotHoldWithNew (was : DbValue D) (page : ℕ) (e : DbError) : Type 0 where
    old : CannotHold device was page IsNoPageAt e → CannotHoldWithNew was page e
    new : (s now : DbValue D) → Goes device was s [] → fault_of s ≡ fault_of was → Goes device s now []
        → CannotTake s now e → CannotHoldWithNew was page e

  -- why no page is chosen for a head
  abbrev pub CannotChoose : DbValue D → Head → DbError → Type 0
  CannotChoose was h (Down fault) = IsDown was fault
  CannotChoose was h StoreFull =
      Later device was (λ (s : DbValue D). NoHeapPageHasRoom s h × IsStoreFull s)
  CannotChoose was h (BadPage p) =
      Later device was (λ (s : DbValue D). IsUp s
      × ((In p (heap_pages (state_of s)) × IsNone s (IsHeap s) p)
      ⊎ ((since : ℕ) × IsNewSought s since p × IsNone s (IsNew s since) p)))
  CannotChoose was h DiskFault = ⊤
  CannotChoose was h OutOfMemory = ⊤
  CannotChoose was h e = ⊥
