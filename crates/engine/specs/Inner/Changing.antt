-- How documents are changed: the pages and the steps that are made, and what logs them.
use Rattle.std.specs.Prelude.{◌≡◌, ◌≢◌, ◌⊎◌, ℕ, ◌≤◌, ◌<◌, List, [], ◌∷◌, ◌++◌, length, Option, Some, ⊤}
use Rattle.std.specs.Prelude.{Result, Ok, Err}
use Rattle.disk_trait.specs.declared.device.Disk.{Ghosts as Disk}
use Rattle.page_types.specs.Numbers.{page_limit, most_slots, most_short, most_body}
use Rattle.page_types.specs.Pages.{IsPage, IsHead}
use Rattle.page_types.specs.Parts.{head_with}
use Rattle.page_types.specs.declared.page.Page.{Page}
use Rattle.page_types.specs.declared.page.Head.{Head}
use Rattle.page_types.specs.declared.page.Name.{Name}
use Rattle.page_types.specs.declared.page.Body.TheVariants as body
use Rattle.page_types.specs.declared.slots.HeadFields.{HeadFields}
use Rattle.page_types.specs.declared.record.Record.{Record}
use Rattle.page_types.specs.declared.record.Kind.{Kind}
use Rattle.page_types.specs.declared.record.Kind.TheVariants as kind
use Rattle.core_state.specs.Log.{Log, Pages, In}
use Rattle.core_state.specs.Allowed.{Sheet, Step, MayLog, Owes}
use Rattle.core_state.specs.Documents.{Doc, doc_at, item_at}
use Rattle.core_state.specs.Standing.{Sees}
use Rattle.core_state.specs.States.{StateValue, fate_of, heap_pages}
use Rattle.core_state.specs.Steps.{sheet}
use Rattle.doc_heap.specs.HeapPages.{head_on, ChangesSlot}
use Rattle.buffer_frames.specs.Drawing.{HasEncoding}
use Rattle.buffer_frames.specs.Frames.{Stands, Behind}
use Rattle.buffer_frames.specs.Journals.{next_record}
use Rattle.buffer_frames.specs.Passes.{IsPassOf, IsHolding, Seen, IsLogged, view_of}
use Rattle.buffer_frames.specs.declared.pass.Pass.{Pass}
use Rattle.engine.specs.Work.{IsPlaceOf}
use Rattle.engine.specs.Places.{head_for, NoHeapPageHasRoom}
use Rattle.engine.specs.Going.{LogsOne}
use Rattle.engine.specs.Causes.{IsDown, IsPastOf, IsStoreFull, HasNoRoomFor, IsHeap, IsNone, IsNew, IsNewSought}
use Rattle.engine.specs.Causes.{HasHeadIn}
use Rattle.engine.specs.Db.{DbValue, state_of}
use Rattle.engine.specs.Inner.Parts.{Later}
use Rattle.engine.specs.declared.error.DbError.{DbError}
use Rattle.engine.specs.declared.error.DbError.TheVariants.{NoDocument, Conflict, StoreFull, LogFull, Down, DiskFault}
use Rattle.engine.specs.declared.error.DbError.TheVariants.{BadPage, OutOfMemory}

-- the document of a name
abbrev pub doc_of : Name → Doc
doc_of name = doc_at (item_at name.page name.slot) name.serial

-- ── what is made ──

-- the slot of the name has a head of its serial, with these fields
pub record HasFields (page : Page) (name : Name) (fields : HeadFields) : Type 0 where
  pub head : Head
  pub there : head_on page name.slot ≡ Some head
  pub serial : head.serial ≡ name.serial
  pub head_is : head ≡ head_with fields head.vector

-- the step leaves this page too, with these fields in the head that is in the slot
pub record LeavesFields (number : ℕ) (page : Page) (slot : ℕ) (fields : HeadFields) (old step : Step) : Type 0 where
  pub new : Page
  pub changes : (h : Head) → head_on page slot ≡ Some h → ChangesSlot page slot (Some (head_with fields h.vector)) new
  pub step_is : step ≡ record old { after = old.after ++ sheet number new ∷ [] }

-- the head in the slot leads to this overflow page on the new page, and led to the other before
pub record LeadsOn (page : Page) (slot part : ℕ) (new : Page) (next : ℕ) : Type 0 where
  pub head : Head
  pub there : head_on page slot ≡ Some head
  pub changes : ChangesSlot page slot (Some (record head { overflow = part })) new
  pub next_is : next ≡ head.overflow

-- a page with a part of a vector, which leads to the next
abbrev pub part_page : ℕ → List ℕ → Page
part_page next part = record { right = next; stamp = 0; body = body.Overflow part }

-- the step marks the head of the name, as it is on this page, for transaction x
pub record IsMarkStep (x : ℕ) (name : Name) (page : Page) (step : Step) : Type 0 where
  pub place : (name.page < page_limit) × (name.slot < most_slots)
  pub head : Head
  pub there : head_on page name.slot ≡ Some head
  pub is_head : IsHead head
  pub new : Page
  pub changes : ChangesSlot page name.slot (Some (record head { deleted_by = x })) new
  pub is_page : IsPage new
  pub step_is : step ≡ record {
    kind = kind.MarkDeleted (item_at name.page name.slot) name.serial;
    xid = x;
    after = sheet name.page new ∷ [];
  }

-- the step that leaves this page, on which a head is placed in the slot; its serial is drawn
abbrev pub place_of : ℕ → ℕ → ℕ → Page → Step
place_of x page slot new = record {
  kind = kind.PlaceHead (item_at page slot) 0;
  xid = x;
  after = sheet page new ∷ [];
}

-- the step puts the part on this page, in front of those that the head of the name leads to
pub record IsPartStep (x : ℕ) (name : Name) (heap : Page) (part : List ℕ) (page : ℕ) (step : Step)
    : Type 0 where
  pub place : (name.page < page_limit) × (name.slot < most_slots)
  pub low : page < page_limit
  pub new : Page
  pub next : ℕ
  pub leads : LeadsOn heap name.slot page new next
  pub is_head : IsHead leads.head
  pub is_page : IsPage new
  pub is_part : IsPage (part_page next part)
  pub step_is : step ≡ record {
    kind = kind.PutOverflow (item_at name.page name.slot) name.serial;
    xid = x;
    after = sheet name.page new ∷ sheet page (part_page next part) ∷ [];
  }

-- this part of the bytes comes before those that are left, and is as long as it may be unless it is
-- the last
pub record IsNextPart (bytes behind part : List ℕ) : Type 0 where
  pub front : List ℕ
  pub order : bytes ≡ front ++ (part ++ behind)
  pub long : most_short < length bytes
  pub some : part ≢ []
  pub full : behind ≢ [] → length part ≡ most_body

-- ── what is found on a page ──

-- By this state a snapshot of n commits sees the name's head on the page, and no transaction but x
-- deletes it.
pub record MayBeMarked (s : StateValue) (n x : ℕ) (name : Name) (page : Page) : Type 0 where
  pub head : Head
  pub there : head_on page name.slot ≡ Some head
  pub serial : head.serial ≡ name.serial
  pub sees : Sees (fate_of s) n head
  pub alone : head.deleted_by ≢ 0 → head.deleted_by ≢ x → IsPastOf s n head.deleted_by → ⊥

-- it sees it, and transaction y, another than x, deletes it
pub record IsMarkedBy (s : StateValue) (n x : ℕ) (name : Name) (page : Page) (y : ℕ) : Type 0 where
  pub head : Head
  pub there : head_on page name.slot ≡ Some head
  pub serial : head.serial ≡ name.serial
  pub sees : Sees (fate_of s) n head
  pub marked : head.deleted_by ≡ y
  pub some : y ≢ 0
  pub other : y ≢ x
  pub past : IsPastOf s n y

-- why it may not be marked
abbrev pub MayNotBeMarked : StateValue → ℕ → ℕ → Name → Page → DbError → Type 0
MayNotBeMarked s n x name page NoDocument =
    (h : Head) → head_on page name.slot ≡ Some h → h.serial ≡ name.serial → Sees (fate_of s) n h → ⊥
MayNotBeMarked s n x name page (Conflict y) = IsMarkedBy s n x name page y
MayNotBeMarked s n x name page (BadPage p) =
    (p ≡ name.page) × ((slots : List (Option Head)) → page.body ≡ body.Heap slots → ⊥)
MayNotBeMarked s n x name page e = ⊥

-- ── what is logged ──

-- the kinds 6 to 11 change documents and their rows
abbrev pub ChangesDocument : Kind → Type 0
ChangesDocument (kind.PlaceHead item serial) = ⊤
ChangesDocument (kind.PutOverflow item serial) = ⊤
ChangesDocument (kind.MarkDeleted item serial) = ⊤
ChangesDocument (kind.PutPending item serial) = ⊤
ChangesDocument (kind.AddRow item serial) = ⊤
ChangesDocument (kind.LinkPending item serial) = ⊤
ChangesDocument _ = ⊥

module _ {D : Type 0} where
  -- why a record isn't logged
  abbrev pub CannotLog : DbValue D → Record → DbError → Type 0
  CannotLog s r (Down fault) = IsDown s fault
  CannotLog s r LogFull = HasNoRoomFor s r
  CannotLog s r DiskFault = ⊤
  CannotLog s r OutOfMemory = ⊤
  CannotLog s r e = ⊥

  -- why the step that marks the name's head on the page isn't made
  abbrev pub CannotMakeMark : DbValue D → StateValue → ℕ → ℕ → Name → Page → DbError → Type 0
  CannotMakeMark was s n x name page e =
      (e ≡ OutOfMemory) ⊎ (((f : ℕ) × (e ≡ Down f) × IsDown was f) ⊎ MayNotBeMarked s n x name page e)

  -- why a step isn't logged that was to be made: it wasn't made, there is no memory, or its record isn't logged
  abbrev pub CannotLogMade : DbValue D → Result Step DbError → DbError → Type 0
  CannotLogMade s made e = (made ≡ Err e) ⊎ ((e ≡ OutOfMemory)
      ⊎ ((step : Step) × (made ≡ Ok step) × CannotLog s (next_record s.frames.journal step) e))

  -- a new page that is sought is none
  abbrev pub IsNoNewPage : DbValue D → ℕ → Type 0
  IsNoNewPage s p = (since : ℕ) × IsNewSought s since p × IsNone s (IsNew s since) p

  -- the page of the document's head is none, or lacks it; or a new page that is sought is none
  abbrev pub IsBadPut : DbValue D → Name → ℕ → Type 0
  IsBadPut s name p = ((p ≡ name.page) × IsNone s (HasHeadIn s name.slot) p) ⊎ IsNoNewPage s p

module _ {D : Type 0} (device : Disk D) where
  -- the pass holds these pages, and may log the step on documents
  pub record MayLogStep (s : DbValue D) (pass : Pass) (held : List Sheet) (step : Step) : Type 0 where
    pub is_pass : IsPassOf s.frames pass
    pub holding : IsHolding device s.frames pass held
    pub document : ChangesDocument step.kind
    pub encoded : HasEncoding step
    pub may : Behind device s.frames (λ (R : Log). MayLog (view_of s.frames pass R held) step)
    pub owes : (R : Log) → Stands device s.frames R → Owes (view_of s.frames pass R held) step

  -- it logged it
  pub record LogsStep (old : DbValue D) (pass : Pass) (held : List Sheet) (step : Step)
      (new : DbValue D) (pass' : Pass) : Type 0 where
    pub one : LogsOne device old new (next_record old.frames.journal step)
    pub seen : Seen device new.frames pass'
        (λ (S : Log) (P : Pages). IsLogged (view_of new.frames pass S held) step S P)
    pub rises : pass.seen ≤ pass'.seen
    pub all : pass'.seen ≡ (state_of new).records

  -- the pass holds these pages, and may log the step that was made, if any was
  pub record MayLogMade (s : DbValue D) (pass : Pass) (held : List Sheet) (made : Result Step DbError)
      : Type 0 where
    pub is_pass : IsPassOf s.frames pass
    pub holding : IsHolding device s.frames pass held
    pub calm : made ≡ Err DiskFault → ⊥
    pub may : (step : Step) → made ≡ Ok step → MayLogStep s pass held step

  -- a step was made, and it logged it
  pub record LogsMade (old : DbValue D) (pass : Pass) (held : List Sheet) (made : Result Step DbError)
      (new : DbValue D) (pass' : Pass) : Type 0 where
    pub step : Step
    pub made_is : made ≡ Ok step
    pub logs : LogsStep old pass held step new pass'

  -- why the head of a document isn't placed, which has a vector of these bytes
  abbrev pub CannotPlace : DbValue D → ℕ → List ℕ → DbError → Type 0
  CannotPlace old x bytes (Down fault) = IsDown old fault
  CannotPlace old x bytes StoreFull =
      Later device old (λ (s : DbValue D). NoHeapPageHasRoom s (head_for x bytes) × IsStoreFull s)
  CannotPlace old x bytes LogFull =
      Later device old (λ (s : DbValue D). (d : Doc) × (r : Record) × IsPlaceOf x d r × HasNoRoomFor s r)
  CannotPlace old x bytes (BadPage p) =
      Later device old (λ (s : DbValue D).
      (In p (heap_pages (state_of s)) × IsNone s (IsHeap s) p) ⊎ IsNoNewPage s p)
  CannotPlace old x bytes DiskFault = ⊤
  CannotPlace old x bytes OutOfMemory = ⊤
  CannotPlace old x bytes e = ⊥

  -- why a page more of a document isn't put, whose record would be such a one
  abbrev pub CannotPutNew : (Record → Type 0) → DbValue D → Name → DbError → Type 0
  CannotPutNew IsOne old name (Down fault) = IsDown old fault
  CannotPutNew IsOne old name StoreFull = Later device old (λ (s : DbValue D). IsStoreFull s)
  CannotPutNew IsOne old name LogFull =
      Later device old (λ (s : DbValue D). (r : Record) × IsOne r × HasNoRoomFor s r)
  CannotPutNew IsOne old name (BadPage p) = Later device old (λ (s : DbValue D). IsBadPut s name p)
  CannotPutNew IsOne old name DiskFault = ⊤
  CannotPutNew IsOne old name OutOfMemory = ⊤
  CannotPutNew IsOne old name e = ⊥
