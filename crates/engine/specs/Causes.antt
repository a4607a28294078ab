-- Why a store refuses a call.
use Rattle.std.specs.Prelude.{◌≡◌, ◌≢◌, ◌⊎◌, ℕ, suc, ◌<◌, ◌≤◌, List, [], ◌++◌, length, Option, Some, ⊤}
use Rattle.disk_trait.specs.declared.device.Disk.{Ghosts as Disk}
use Rattle.wal.specs.Waiting.{limit_of, length_with}
use Rattle.page_types.specs.Numbers.{page_limit}
use Rattle.page_types.specs.Pages.{IsPage}
use Rattle.page_types.specs.Views.{slots_of, slot_at}
use Rattle.page_types.specs.declared.page.Page.{Page}
use Rattle.page_types.specs.declared.page.Head.{Head}
use Rattle.page_types.specs.declared.page.Row.{Row}
use Rattle.page_types.specs.declared.page.Gone.{Gone}
use Rattle.page_types.specs.declared.page.Body.TheVariants as body
use Rattle.page_types.specs.declared.record.Record.{Record}
use Rattle.page_types.specs.declared.record.Kind.{Kind}
use Rattle.page_types.specs.declared.record.Kind.TheVariants as kind
use Rattle.core_state.specs.Log.{In}
use Rattle.core_state.specs.Documents.{page_of, slot_of}
use Rattle.core_state.specs.Standing.{Sees}
use Rattle.core_state.specs.States.{StateValue, fate_of, life_of, heap_pages}
use Rattle.core_state.specs.declared.lives.Life.{Life}
use Rattle.core_state.specs.declared.answers.Fate.TheVariants.{Running, Committed}
use Rattle.page_space.specs.Taking.{IsTaken, HasNoPage}
use Rattle.buffer_frames.specs.Homes.{IsNoPage}
use Rattle.buffer_frames.specs.Journals.{logged_bytes}
use Rattle.ts_base.specs.Vectors.{Vector}
use Rattle.ts_base.specs.Encoding.{vector_bytes}
use Rattle.ts_base.specs.Keys.{Key}
use Rattle.core_moments.specs.Walk.{Sought}
use Rattle.core_moments.specs.OpenLaws.{IsLeaf, IsPostingPage}
use Rattle.gin_scan.specs.Causes.{HasMeta, HasRows, HasWay}
use Rattle.engine.specs.Finding.{Name}
use Rattle.engine.specs.Places.{Lies, IsSince, head_for, NoHeapPageHasRoom, HasNoRoomOnList}
use Rattle.engine.specs.Work.{Work, IsBegunWork, IsAbortOf, IsNext, keys_by}
use Rattle.engine.specs.Going.{Goes}
use Rattle.engine.specs.Db.{DbValue, fault_of, flushed_of, state_of, state_then}

-- by this state of a log, the document of this name is in the snapshot of n first commits
pub record IsListedIn (s : StateValue) (n : ℕ) (name : Name) : Type 0 where
  pub life : Life
  pub is : life_of s name ≡ Some life
  pub inserted : life.inserted ≤ n
  pub not_deleted : (m : ℕ) → life.deleted ≡ Some m → n < m

-- by this state transaction x runs, or has committed past n first commits
abbrev pub IsPastOf : StateValue → ℕ → ℕ → Type 0
IsPastOf s n x =
    (fate_of s x ≡ Running) ⊎ ((m : ℕ) × (fate_of s x ≡ Committed m) × (n < m))

module _ {D : Type 0} (s : DbValue D) where
  -- ── as the store was ──

  -- a write or a sync failed before, and the device's count was this just after it
  abbrev pub IsDown : ℕ → Type 0
  IsDown fault = fault_of s ≡ Some fault

  -- the next xid isn't below its limit
  abbrev pub AreXidsSpent : Type 0
  AreXidsSpent = (state_then s).xid_limit ≤ suc (length (state_then s).fates)

  -- the document of this name is in the snapshot of the flushed commits
  abbrev pub IsListed : Name → Type 0
  IsListed name = IsListedIn (state_of s) (flushed_of s) name

  -- ── as the store is at one of the steps of the work ──

  -- the slot of the name has this head of its serial, on its page as that lies in memory
  pub record HasHead (name : Name) (h : Head) : Type 0 where
    pub page : Page
    pub is_page : IsPage page
    pub lies : Lies s name.page page
    pub head : slot_at (slots_of page) name.slot ≡ Some h
    pub serial : h.serial ≡ name.serial

  -- the document of this name has a head, and the snapshot of n first commits sees it
  pub record ShowsHead (n : ℕ) (name : Name) : Type 0 where
    pub head : Head
    pub has : HasHead name head
    pub sees : Sees (fate_of (state_of s)) n head

  -- The snapshot sees the head, and transaction y, another than x, has marked it deleted: y runs, or has
  -- committed past the snapshot.
  pub record IsInConflict (n x : ℕ) (name : Name) (y : ℕ) : Type 0 where
    pub shows : ShowsHead n name
    pub marked : shows.head.deleted_by ≡ y
    pub some : y ≢ 0
    pub other : y ≢ x
    pub past : IsPastOf (state_of s) n y

  -- the snapshot sees the head, and no other transaction deletes it
  pub record MayBeDeleted (n x : ℕ) (name : Name) : Type 0 where
    pub shows : ShowsHead n name
    pub alone : shows.head.deleted_by ≢ 0 → shows.head.deleted_by ≢ x
        → IsPastOf (state_of s) n shows.head.deleted_by → ⊥

  -- no page may be taken as a new one
  abbrev pub IsStoreFull : Type 0
  IsStoreFull = (since : ℕ) × IsSince s since × HasNoPage (state_of s) since

  -- a record of this kind, which inserts a document of this vector for transaction x, needs a new page
  abbrev pub NeedsPage : Vector → ℕ → Kind → Type 0
  NeedsPage v x (kind.PlaceHead item serial) = NoHeapPageHasRoom s (head_for x (vector_bytes v))
  NeedsPage v x (kind.PutOverflow item serial) = ⊤
  NeedsPage v x (kind.PutPending item serial) = ⊤
  NeedsPage v x k = ⊥

  -- the log would pass its limit with this record
  abbrev pub HasNoRoomFor : Record → Type 0
  HasNoRoomFor r =
      limit_of s.frames.journal.wal < length_with s.frames.journal.wal (logged_bytes s.frames.journal r)

  -- ── pages that are no page, or one of another kind than the one sought ──
  abbrev pub IsHeap : Page → Type 0
  IsHeap c = (slots : List (Option Head)) × (c.body ≡ body.Heap slots)

  abbrev pub IsPart : Page → Type 0
  IsPart c = (bytes : List ℕ) × (c.body ≡ body.Overflow bytes)

  -- it names the first and the last page of the pending list, which has no more pages than have numbers
  abbrev pub IsListMeta : Page → Type 0
  IsListMeta c =
      (first last count : ℕ) × (c.body ≡ body.Meta first last count) × (count ≤ page_limit)

  abbrev pub IsRows : Page → Type 0
  IsRows c = (rows : List Row) × (c.body ≡ body.Pending rows)

  -- No page has this number; or what lies under it in memory are bytes of no page, or a page that isn't
  -- so.
  pub data IsNone (Is : Page → Type 0) (p : ℕ) : Type 0 where
    past : page_limit ≤ p → IsNone Is p
    bytes : IsNoPage s.frames.homes p → IsNone Is p
    other : (c : Page) → IsPage c → Lies s p c → (Is c → ⊥) → IsNone Is p

  -- there is none at all
  abbrev pub IsNoPageAt : ℕ → Type 0
  IsNoPageAt p = IsNone (λ (c : Page). ⊤) p

  -- a heap page is sought under this number: one that a head is tried on, or that of a name which is read
  abbrev pub IsHeapSought : (Name → Type 0) → ℕ → Type 0
  IsHeapSought Reads p =
      In p (heap_pages (state_of s)) ⊎ ((name : Name) × Reads name × (name.page ≡ p))

  -- a new page is sought under this number
  abbrev pub IsNewSought : ℕ → ℕ → Type 0
  IsNewSought since p = IsSince s since × IsTaken (state_of s) since p

  -- no record has changed the page, or one of number `since` at most deleted it
  abbrev pub IsNew : ℕ → Page → Type 0
  IsNew since c =
      (c.body ≡ body.Free) ⊎ (((gone : Gone) × (c.body ≡ body.Deleted gone)) × (c.stamp ≤ since))

  -- one of these records has placed a head in this slot of this page
  pub record WasPlaced (rs : List Record) (p slot : ℕ) : Type 0 where
    pub placing : Record
    pub there : In placing rs
    pub item : ℕ
    pub serial : ℕ
    pub kind_is : placing.kind ≡ kind.PlaceHead item serial
    pub place : (page_of item ≡ p) × (slot_of item ≡ slot)

  -- there is a head in this slot of the page
  abbrev pub HasHeadIn : ℕ → Page → Type 0
  HasHeadIn slot c = (h : Head) × (slot_at (slots_of c) slot ≡ Some h)

  -- the metapage, as it lies in memory, names this page as the last of the pending list
  pub record IsNamedLast (p : ℕ) : Type 0 where
    pub meta : Page
    pub is_page : IsPage meta
    pub lies : Lies s 0 meta
    pub first : ℕ
    pub count : ℕ
    pub names : meta.body ≡ body.Meta first p count
    pub some : p ≢ 0

  -- page 0 is no metapage; or the last page of the pending list has no rows of it, or is none
  pub data IsBadList (p : ℕ) : Type 0 where
    meta : p ≡ 0 → IsNone IsListMeta 0 → IsBadList p
    last : IsNamedLast p → IsNone IsRows p → IsBadList p

  -- the bytes of this page are no page, or one of another kind than the one sought; or it lacks the head
  -- that was placed on it
  pub data IsBadPage (Reads : Name → Type 0) (rs : List Record) (p : ℕ) : Type 0 where
    heap : IsHeapSought Reads p → IsNone IsHeap p → IsBadPage Reads rs p
    new : (since : ℕ) → IsNewSought since p → IsNone (IsNew since) p → IsBadPage Reads rs p
    own : (slot : ℕ) → WasPlaced rs p slot → IsNone (HasHeadIn slot) p → IsBadPage Reads rs p

  -- A page that a search reads is none, or not what it has to be: the metapage, a page with rows of the
  -- pending list, one that leads on towards a key of the entry tree or is its leaf, a leaf after it, a page of a
  -- posting tree, the heap page of a document, or a page with a part of a long vector.
  pub data IsBadRead (p : ℕ) : Type 0 where
    meta : p ≡ 0 → IsNone HasMeta p → IsBadRead p
    rows : IsNone HasRows p → IsBadRead p
    way : (w : Sought) → IsNone (HasWay w) p → IsBadRead p
    leaf : IsNone IsLeaf p → IsBadRead p
    posting : IsNone IsPostingPage p → IsBadRead p
    heap : IsNone IsHeap p → IsBadRead p
    part : IsNone IsPart p → IsBadRead p

module _ {D : Type 0} (device : Disk D) (old : DbValue D) where
  -- after some of these records, which are logged from an old store on, the pending list had no room for a row of
  -- this item with all its keys
  pub record HadNoRoomOnList (keys : List Key) (item : ℕ) (rs : List Record) : Type 0 where
    pub store : DbValue D
    pub first : List Record
    pub rest : List Record
    pub order : rs ≡ first ++ rest
    pub goes : Goes device old store first
    pub no_room : HasNoRoomOnList store item keys

  -- a record of this kind may come next: pages of rows come only where there was no room for one row
  abbrev pub IsDue : List Key → List Record → Kind → Type 0
  IsDue keys rs (kind.PutPending item serial) = HadNoRoomOnList keys item rs
  IsDue keys rs (kind.LinkPending item serial) = HadNoRoomOnList keys item rs
  IsDue keys rs k = ⊤

  -- each of these records might come where it came
  abbrev pub AreDue : List Key → List Record → Type 0
  AreDue keys rs = (r : Record) → In r rs → IsDue keys rs r.kind

-- As the work of a statement so far has left the store: it began from an old one, transaction x is its
-- own, and it has logged these records.
module _ {D : Type 0} (device : Disk D) (old : DbValue D) (w : Work) where
  pub record SoFar (Why : DbValue D → ℕ → List Record → Type 0) : Type 0 where
    pub store : DbValue D
    pub xid : ℕ
    pub records : List Record
    pub goes : Goes device old store records
    pub begun : IsBegunWork w xid records
    pub why : Why store xid records

  -- the document that the work deletes isn't in its snapshot, or, on a store that isn't lawful, its
  -- page has no head that the snapshot sees
  abbrev pub IsMissing : Name → Type 0
  IsMissing name =
      (IsListed old name → ⊥)
      ⊎ SoFar (λ (s : DbValue D) (x : ℕ) (rs : List Record). ShowsHead s (flushed_of old) name → ⊥)

  -- it is in the snapshot, and transaction y deletes it
  abbrev pub Conflicts : Name → ℕ → Type 0
  Conflicts name y =
      IsListed old name
      × SoFar (λ (s : DbValue D) (x : ℕ) (rs : List Record). IsInConflict s (flushed_of old) x name y)

  -- it is in the snapshot, and no other transaction deletes it
  abbrev pub IsThere : Name → Type 0
  IsThere name =
      IsListed old name
      × SoFar (λ (s : DbValue D) (x : ℕ) (rs : List Record). MayBeDeleted s (flushed_of old) x name)

  -- what the work deletes, if anything, is there
  abbrev pub AreThere : Type 0
  AreThere = (name : Name) → w.deletes ≡ Some name → IsThere name

  -- the next record of the work needs a new page, and there is none
  abbrev pub LacksPage : Type 0
  LacksPage =
      SoFar (λ (s : DbValue D) (x : ℕ) (rs : List Record). (r : Record) × (v : Vector) × IsNext w x rs r
      × IsDue device old (keys_by w.inserts) rs r.kind × (w.inserts ≡ Some v) × NeedsPage s v x r.kind × IsStoreFull s)

  -- the log has no room for the next record of the work, after its Begin
  abbrev pub LacksLog : Type 0
  LacksLog =
      SoFar (λ (s : DbValue D) (x : ℕ) (rs : List Record). (r : Record) × IsNext w x rs r
      × IsDue device old (keys_by w.inserts) rs r.kind × HasNoRoomFor s r)

  -- it has no room for its Begin
  abbrev pub LacksLogForBegin : Type 0
  LacksLogForBegin =
      (s : DbValue D) × (x : ℕ) × (r : Record) × Goes device old s [] × IsNext w x [] r × HasNoRoomFor s r

  -- after what it has done until it is left so the log has no room for its Abort
  abbrev pub LacksLogForAbort : DbValue D → Type 0
  LacksLogForAbort left =
      SoFar (λ (s : DbValue D) (x : ℕ) (rs : List Record). (r : Record) × IsAbortOf x r × HasNoRoomFor s r
      × Goes device s left [])

  -- at one of its steps a page is none, or one of another kind than the one sought
  abbrev pub MeetsBadPage : ℕ → Type 0
  MeetsBadPage p =
      SoFar (λ (s : DbValue D) (x : ℕ) (rs : List Record). IsBadPage s (IsListed old) rs p ⊎ IsBadList s p)
