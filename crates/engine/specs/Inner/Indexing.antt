-- How the keys of a document come to the pending list: the pages that are held and made, what is
-- logged, and why they don't come.
use Rattle.std.specs.Prelude.{◌≡◌, ◌≢◌, ◌⊎◌, ℕ, ◌+◌, ◌<◌, ◌≤◌, List, [], ◌∷◌, ◌++◌, length, ◌==◌, cond}
use Rattle.std.specs.Prelude.{Option, Some, None, IfSome, ⊤}
use Rattle.std.specs.List.{AllByRecursion}
use Rattle.disk_trait.specs.declared.device.Disk.{Ghosts as Disk}
use Rattle.ts_base.specs.Vectors.{Vector}
use Rattle.ts_base.specs.Keys.{Key, keys_of}
use Rattle.page_types.specs.Numbers.{page_limit, most_slots}
use Rattle.page_types.specs.Pages.{IsPage}
use Rattle.page_types.specs.declared.page.Page.{Page}
use Rattle.page_types.specs.declared.page.Head.{Head}
use Rattle.page_types.specs.declared.page.Name.{Name}
use Rattle.page_types.specs.declared.page.Body.{Body}
use Rattle.page_types.specs.declared.page.Body.TheVariants as body
use Rattle.page_types.specs.declared.record.Record.{Record}
use Rattle.page_types.specs.declared.record.Kind.{Kind}
use Rattle.page_types.specs.declared.record.Kind.TheVariants as kind
use Rattle.core_state.specs.Allowed.{Sheet, Step}
use Rattle.core_state.specs.Documents.{Doc, item_at}
use Rattle.core_state.specs.Steps.{sheet}
use Rattle.doc_heap.specs.HeapPages.{head_on, ChangesSlot}
use Rattle.pending_list.specs.Packing.{AreKeys, ArePacked}
use Rattle.pending_list.specs.Adding.{IsPendingPage, with_row}
use Rattle.buffer_frames.specs.Drawing.{IsSheet}
use Rattle.engine.specs.Work.{AreIndexing, AreStored, IsRowPageOf, IsRowOf, IsLinkOf}
use Rattle.engine.specs.Going.{Goes}
use Rattle.engine.specs.Places.{Lies, HasNoRoomOnList}
use Rattle.engine.specs.Causes.{IsDown, IsStoreFull, HasNoRoomFor, IsNone, IsBadPage, IsRows}
use Rattle.engine.specs.Causes.{IsBadList, HasHeadIn, IsDue}
use Rattle.engine.specs.Db.{DbValue}
use Rattle.engine.specs.Inner.Changing.{IsBadPut, doc_of}
use Rattle.engine.specs.Inner.Parts.{Later, NeedsPageFor}
use Rattle.engine.specs.declared.list_end.ListEnd.{ListEnd}
use Rattle.engine.specs.declared.error.DbError.{DbError}
use Rattle.engine.specs.declared.error.DbError.TheVariants.{StoreFull, LogFull, Down, DiskFault, BadPage, OutOfMemory}

-- ── the end of the pending list ──

-- the metapage and the last page, if there is one, as they are held: the last that was held first
abbrev pub end_sheets : Sheet → Option Sheet → List Sheet
end_sheets meta None = meta ∷ []
end_sheets meta (Some last) = last ∷ meta ∷ []

-- this metapage names the first page, how many there are, and the last, which has rows; where it names
-- no last one there is none
pub data NamesEnd (meta : Page) (first pages : ℕ) : Option Sheet → Type 0 where
  none : meta.body ≡ body.Meta first 0 pages → NamesEnd meta first pages None
  some : (last : Sheet) → meta.body ≡ body.Meta first last.page pages → last.page ≢ 0
      → IsPendingPage last.content → NamesEnd meta first pages (Some last)

-- it is the end of the pending list
pub record IsListEnd (e : ListEnd) : Type 0 where
  pub at : e.meta.page ≡ 0
  pub few : e.pages ≤ page_limit
  pub names : NamesEnd e.meta.content e.first e.pages e.last
  pub is_page : IsPage e.meta.content
  pub last_is_page : IfSome e.last (λ (h : Sheet). IsPage h.content)

-- its pages lay in memory
pub record EndLies {D : Type 0} (s : DbValue D) (e : ListEnd) : Type 0 where
  pub meta : Lies s 0 e.meta.content
  pub last : IfSome e.last (λ (h : Sheet). Lies s h.page h.content)

-- ── what is made ──

-- the head in the slot leads to this page of rows on the new page, and led to the other before
pub record LeadsToRows (page : Page) (slot rows : ℕ) (new : Page) (next : ℕ) : Type 0 where
  pub head : Head
  pub there : head_on page slot ≡ Some head
  pub changes : ChangesSlot page slot (Some (record head { private = rows })) new
  pub next_is : next ≡ head.private

-- the rows of this page on one that leads to the next
abbrev pub row_page : ℕ → Body → Page
row_page next rows = record { right = next; stamp = 0; body = rows }

-- the step puts the rows on this page, in front of those that the head of the name leads to
pub record IsRowPageStep (x : ℕ) (name : Name) (heap : Page) (rows : Body) (page : ℕ) (step : Step)
    : Type 0 where
  pub place : (name.page < page_limit) × (name.slot < most_slots)
  pub low : page < page_limit
  pub new : Page
  pub next : ℕ
  pub leads : LeadsToRows heap name.slot page new next
  pub is_page : IsPage new
  pub is_rows : IsPage (row_page next rows)
  pub step_is : step ≡ record {
    kind = kind.PutPending (item_at name.page name.slot) name.serial;
    xid = x;
    after = sheet name.page new ∷ sheet page (row_page next rows) ∷ [];
  }

-- the step adds a row of the name's item with these keys to the page
pub record IsRowStep (x : ℕ) (name : Name) (last : Sheet) (keys : List Key) (step : Step) : Type 0 where
  pub new : Page
  pub new_is : new ≡ record last.content { body = with_row last.content (item_at name.page name.slot) keys }
  pub is_page : IsPage new
  pub step_is : step ≡ record {
    kind = kind.AddRow (item_at name.page name.slot) name.serial;
    xid = x;
    after = sheet last.page new ∷ [];
  }

-- the metapage, as it names so many pages more, of which this is the last; and this first, where it
-- named none
abbrev pub meta_then : Page → ℕ → ℕ → ℕ → Page
meta_then meta first last pages = record { right = meta.right; stamp = 0; body = body.Meta first last pages }

-- the end of the pending list, where so many pages come after it, from the first to the last
abbrev pub end_then : Sheet → ℕ → ℕ → Option Sheet → ℕ → ℕ → ℕ → List Sheet
end_then meta first pages None to last added =
    sheet meta.page (meta_then meta.content to last (pages + added)) ∷ []
end_then meta first pages (Some end) to last added =
    sheet meta.page (meta_then meta.content first last (pages + added))
    ∷ sheet end.page (record end.content { right = to }) ∷ []

-- the step links the pages of rows of the name's head, so many, to the pending list
pub record IsLinkStep (x : ℕ) (name : Name) (heap : Page) (end : ListEnd) (last pages : ℕ) (step : Step)
    : Type 0 where
  pub place : (name.page < page_limit) × (name.slot < most_slots)
  pub new : Page
  pub first : ℕ
  pub leads : LeadsToRows heap name.slot 0 new first
  pub is_page : IsPage new
  pub are_sheets : AllByRecursion IsSheet (end_then end.meta end.first end.pages end.last first last pages)
  pub step_is : step ≡ record {
    kind = kind.LinkPending (item_at name.page name.slot) name.serial;
    xid = x;
    after = sheet name.page new ∷ end_then end.meta end.first end.pages end.last first last pages;
  }

-- in the packing of the item's keys this page comes before these, which are its last
pub record IsNextPage (item : ℕ) (v : Vector) (page : Page) (back : List Page) : Type 0 where
  pub are_keys : AreKeys (keys_of v)
  pub front : List Page
  pub packed : ArePacked item (keys_of v) (front ++ page ∷ back)

-- the last page of a chain, where this one comes in front of it
abbrev pub last_then : ℕ → ℕ → ℕ
last_then last new = cond (last == 0) new last

-- ── refusals ──

module _ {D : Type 0} (device : Disk D) where
  -- why the end of the pending list isn't held
  abbrev pub CannotHoldList : DbValue D → DbError → Type 0
  CannotHoldList old (Down fault) = IsDown old fault
  CannotHoldList old (BadPage p) = IsBadList old p
  CannotHoldList old DiskFault = ⊤
  CannotHoldList old OutOfMemory = ⊤
  CannotHoldList old e = ⊥

  -- why the last page of the pending list isn't held
  abbrev pub CannotHoldLast : DbValue D → ℕ → DbError → Type 0
  CannotHoldLast old p (Down fault) = IsDown old fault
  CannotHoldLast old p (BadPage q) = (q ≡ p) × IsNone old (IsRows old) p
  CannotHoldLast old p DiskFault = ⊤
  CannotHoldLast old p OutOfMemory = ⊤
  CannotHoldLast old p e = ⊥

  -- why a row of a document isn't added
  abbrev pub CannotAddRow : DbValue D → ℕ → Doc → DbError → Type 0
  CannotAddRow old x d (Down fault) = IsDown old fault
  CannotAddRow old x d LogFull =
      Later device old (λ (s : DbValue D). (r : Record) × IsRowOf x d r × HasNoRoomFor s r)
  CannotAddRow old x d (BadPage p) = IsBadList old p
  CannotAddRow old x d DiskFault = ⊤
  CannotAddRow old x d OutOfMemory = ⊤
  CannotAddRow old x d e = ⊥

  -- of so many pages of a document's rows some were put, and one is to come
  pub record PutsRows (old : DbValue D) (x : ℕ) (d : Doc) (pages : ℕ) (Why : DbValue D → Type 0) : Type 0 where
    pub store : DbValue D
    pub done : List Record
    pub are_put : AllByRecursion (IsRowPageOf x d) done
    pub few : length done < pages
    pub goes : Goes device old store done
    pub why : Why store

  -- why so many pages of a document's rows aren't put
  abbrev pub CannotPutRows : DbValue D → ℕ → Name → ℕ → DbError → Type 0
  CannotPutRows old x name pages (Down fault) = IsDown old fault
  CannotPutRows old x name pages StoreFull = PutsRows old x (doc_of name) pages (λ (s : DbValue D). IsStoreFull s)
  CannotPutRows old x name pages LogFull =
      PutsRows old x (doc_of name) pages
      (λ (s : DbValue D). (r : Record) × IsRowPageOf x (doc_of name) r × HasNoRoomFor s r)
  CannotPutRows old x name pages (BadPage p) =
      PutsRows old x (doc_of name) pages (λ (s : DbValue D). IsBadPut s name p)
  CannotPutRows old x name pages DiskFault = ⊤
  CannotPutRows old x name pages OutOfMemory = ⊤
  CannotPutRows old x name pages e = ⊥

  -- the page of the document's head is none, or lacks it; or one of the pending list is bad
  abbrev pub IsBadLink : DbValue D → Name → ℕ → Type 0
  IsBadLink s name p = ((p ≡ name.page) × IsNone s (HasHeadIn s name.slot) p) ⊎ IsBadList s p

  -- why the pages of a document's rows aren't linked
  abbrev pub CannotLink : DbValue D → ℕ → Name → DbError → Type 0
  CannotLink old x name (Down fault) = IsDown old fault
  CannotLink old x name LogFull =
      Later device old (λ (s : DbValue D). (r : Record) × IsLinkOf x (doc_of name) r × HasNoRoomFor s r)
  CannotLink old x name (BadPage p) = Later device old (λ (s : DbValue D). IsBadLink s name p)
  CannotLink old x name DiskFault = ⊤
  CannotLink old x name OutOfMemory = ⊤
  CannotLink old x name e = ⊥

  -- of the records that bring a document's keys to the pending list some were logged, and this is the next
  pub record Indexes (old : DbValue D) (x : ℕ) (d : Doc) (keys : List Key) (Why : DbValue D → Record → Type 0)
      : Type 0 where
    pub store : DbValue D
    pub done : List Record
    pub next : Record
    pub rest : List Record
    pub are_rows : AreIndexing x d keys (done ++ next ∷ rest)
    pub goes : Goes device old store done
    pub why : Why store next

  -- the keys of a document came to the pending list as one row; or on pages, where the list had no room for one row
  pub data IsIndexedBy (old new : DbValue D) (x : ℕ) (d : Doc) (keys : List Key) : Type 0 where
    row : (r : Record) → IsRowOf x d r → Goes device old new (r ∷ []) → IsIndexedBy old new x d keys
    pages : HasNoRoomOnList old d.item keys → (rs : List Record) → AreIndexing x d keys rs → Goes device old new rs
        → IsIndexedBy old new x d keys

  -- a record of this kind, which indexes a document, needs a new page
  abbrev pub NeedsRowPage : Kind → Type 0
  NeedsRowPage (kind.PutPending item serial) = ⊤
  NeedsRowPage k = ⊥

  -- a record of this kind may come next: pages of rows come only where the pending list has no room for one row
  abbrev pub IsDueFrom : DbValue D → List Key → Kind → Type 0
  IsDueFrom old keys (kind.PutPending item serial) = HasNoRoomOnList old item keys
  IsDueFrom old keys (kind.LinkPending item serial) = HasNoRoomOnList old item keys
  IsDueFrom old keys k = ⊤

  -- why a document isn't indexed
  abbrev pub CannotIndex : DbValue D → ℕ → Name → List Key → DbError → Type 0
  CannotIndex old x name keys (Down fault) = IsDown old fault
  CannotIndex old x name keys StoreFull =
      Indexes old x (doc_of name) keys
      (λ (s : DbValue D) (r : Record). IsDueFrom old keys r.kind × NeedsRowPage r.kind × IsStoreFull s)
  CannotIndex old x name keys LogFull =
      Indexes old x (doc_of name) keys (λ (s : DbValue D) (r : Record). IsDueFrom old keys r.kind × HasNoRoomFor s r)
  CannotIndex old x name keys (BadPage p) =
      Indexes old x (doc_of name) keys (λ (s : DbValue D) (r : Record). IsBadPut s name p ⊎ IsBadList s p)
  CannotIndex old x name keys DiskFault = ⊤
  CannotIndex old x name keys OutOfMemory = ⊤
  CannotIndex old x name keys e = ⊥

  -- of the records that put a document of these bytes and index it some were logged, and this is the next
  pub record Stores (old : DbValue D) (x : ℕ) (bytes : List ℕ) (keys : List Key)
      (Why : DbValue D → List Record → Record → Type 0) : Type 0 where
    pub store : DbValue D
    pub done : List Record
    pub next : Record
    pub rest : List Record
    pub are_stored : AreStored bytes keys x (done ++ next ∷ rest)
    pub goes : Goes device old store done
    pub why : Why store done next

  -- a record of this kind, which puts or indexes a document of these bytes, needs a new page
  abbrev pub NeedsPageAt : List ℕ → ℕ → DbValue D → Kind → Type 0
  NeedsPageAt bytes x s k = NeedsPageFor device bytes x s k ⊎ NeedsRowPage k

  -- why a document isn't put and indexed
  abbrev pub CannotStore : DbValue D → ℕ → List ℕ → List Key → DbError → Type 0
  CannotStore old x bytes keys (Down fault) = IsDown old fault
  CannotStore old x bytes keys StoreFull =
      Stores old x bytes keys (λ (s : DbValue D) (done : List Record) (r : Record).
      IsDue device old keys done r.kind × NeedsPageAt bytes x s r.kind × IsStoreFull s)
  CannotStore old x bytes keys LogFull =
      Stores old x bytes keys (λ (s : DbValue D) (done : List Record) (r : Record).
      IsDue device old keys done r.kind × HasNoRoomFor s r)
  CannotStore old x bytes keys (BadPage p) =
      Stores old x bytes keys (λ (s : DbValue D) (done : List Record) (r : Record).
      IsBadPage s (λ (name : Name). ⊥) done p ⊎ IsBadList s p)
  CannotStore old x bytes keys DiskFault = ⊤
  CannotStore old x bytes keys OutOfMemory = ⊤
  CannotStore old x bytes keys e = ⊥
