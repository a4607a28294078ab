-- The parts of a statement's work: it begins, changes documents, and ends.
use Rattle.std.specs.Prelude.{◌≡◌, ◌≢◌, ◌⊎◌, ℕ, ◌<◌, ◌≤◌, List, [], ◌∷◌, ◌++◌, length, map, Option, Some, None}
use Rattle.std.specs.Prelude.{IfSome, Result, Ok, Err, ⊤}
use Rattle.std.specs.List.{All, flat_map}
use Rattle.disk_trait.specs.declared.device.Disk.{Ghosts as Disk}
use Rattle.ts_base.specs.Vectors.{Vector}
use Rattle.page_types.specs.Views.{rows_of}
use Rattle.page_types.specs.declared.page.Page.{Page}
use Rattle.page_types.specs.declared.page.Head.{Head}
use Rattle.page_types.specs.declared.page.Name.{Name}
use Rattle.page_types.specs.declared.record.Record.{Record}
use Rattle.page_types.specs.declared.record.Kind.{Kind}
use Rattle.page_types.specs.declared.record.Kind.TheVariants as kind
use Rattle.core_state.specs.Log.{Log, Pages, In, fate}
use Rattle.core_state.specs.Documents.{Doc, Has, IsWhole, name_of, placed, marked, IsChain, parts}
use Rattle.core_state.specs.Index.{HasRow, IsIndexed, rows_on}
use Rattle.core_state.specs.PagesTold.{IsLastOf}
use Rattle.core_state.specs.History.{Commit, Document, IsCommitOf}
use Rattle.core_state.specs.declared.answers.Fate.TheVariants.{Running}
use Rattle.buffer_frames.specs.Passes.{IsPassOf, Seen}
use Rattle.buffer_frames.specs.declared.pass.Pass.{Pass}
use Rattle.engine.specs.Work as work
use Rattle.engine.specs.Work.{deleted_by, ArePut, IsBeginOf, IsMarkOf, IsAbortOf}
use Rattle.engine.specs.Going.{Goes, MetFault, MetNoFault}
use Rattle.engine.specs.Places.{bytes_in_head, head_for, NoHeapPageHasRoom}
use Rattle.engine.specs.Causes.{IsDown, AreXidsSpent, IsListed, ShowsHead, IsInConflict, MayBeDeleted, IsStoreFull}
use Rattle.engine.specs.Causes.{HasNoRoomFor, IsHeap, IsNone, IsBadPage}
use Rattle.engine.specs.Db.{DbValue, state_of, flushed_of, IsUp, IsFlushed}
use Rattle.engine.specs.Finding.{History, IsInSnapshot}
use Rattle.engine.specs.Standing.{StandsFor}
use Rattle.engine.specs.declared.transaction.Transaction.{Transaction}
use Rattle.engine.specs.declared.error.DbError.{DbError}
use Rattle.engine.specs.declared.error.DbError.TheVariants.{NoDocument, Conflict, StoreFull, LogFull, XidsSpent, Down}
use Rattle.engine.specs.declared.error.DbError.TheVariants.{DiskFault, BadPage, OutOfMemory}

-- ── the pass ──

-- transaction x runs, in the log that the pass has seen
abbrev pub Runs : {D : Type 0} → Disk D → DbValue D → Pass → ℕ → Type 0
Runs device s pass x = Seen device s.frames pass (λ (S : Log) (P : Pages). fate S x ≡ Running)

-- the transaction runs on the pass, which has its snapshot in use and holds no page
pub record IsRunning {D : Type 0} (device : Disk D) (s : DbValue D) (pass : Pass) (t : Transaction)
    : Type 0 where
  pub is_pass : IsPassOf s.frames pass
  pub taken : pass.pin ≢ None
  pub snapshot : IfSome pass.pin (λ p. p.commits ≡ t.snapshot)
  pub held : pass.held ≡ 0
  pub xid : pass.xid ≡ Some t.xid
  pub some : 0 < t.xid
  pub runs : Runs device s pass t.xid

-- the pass is as it was but for what it has seen of the log and was shown
pub record KeepsWork (pass pass' : Pass) : Type 0 where
  pub pin : pass'.pin ≡ pass.pin
  pub room : pass'.room ≡ pass.room
  pub xid : pass'.xid ≡ pass.xid
  pub shown : pass.shown ≤ pass'.shown

-- its room stays, and what it was shown doesn't fall
pub record KeepsRoom (pass pass' : Pass) : Type 0 where
  pub room : pass'.room ≡ pass.room
  pub shown : pass.shown ≤ pass'.shown

-- nothing more is done where the device has failed
abbrev pub RestsAtFault : {D : Type 0} → DbValue D → DbValue D → DbError → Type 0
RestsAtFault old new refusal = refusal ≡ DiskFault → new.frames.journal ≡ old.frames.journal

-- ── what a transaction has changed ──

-- no document is changed
abbrev pub no_changes : Commit
no_changes = record { deleted = []; inserted = [] }

-- the document of this name is deleted
abbrev pub only_deleted : Name → Commit
only_deleted name = record { deleted = name ∷ []; inserted = [] }

-- a commit with one document more that it inserts
abbrev pub with_inserted : Document → Commit → Commit
with_inserted d c = record c { inserted = c.inserted ++ d ∷ [] }

-- Transaction x, which runs, has placed a document of these bytes, of which these are on its overflow
-- pages: those that come last. It has placed no other.
pub record IsPlacedSoFar (S : Log) (P : Pages) (x : ℕ) (d : Doc) (bytes behind : List ℕ) : Type 0 where
  pub runs : fate S x ≡ Running
  pub placed_one : placed S x ≡ d ∷ []
  pub head : Head
  pub has : Has P d head
  pub by : head.inserted_by ≡ x
  pub length_is : head.bytes ≡ length bytes
  pub short : head.vector ≡ bytes_in_head bytes
  pub chain : List ℕ
  pub is_chain : IsChain P head.overflow chain
  pub there : parts P chain ≡ behind
  pub none : behind ≡ [] → head.overflow ≡ 0
  pub front : List ℕ
  pub ends : bytes ≡ front ++ behind
  pub no_rows : head.private ≡ 0
  pub no_row : HasRow P d.item → ⊥

-- Transaction x, which runs, has placed a document, which is whole with this vector, and no other. On
-- the head's private chain are pages with these rows: those of the pages `back`. Its last page is
-- `last`, 0 where it has none. No row of the document is linked.
pub record IsRowedSoFar (S : Log) (P : Pages) (x : ℕ) (d : Doc) (v : Vector) (back : List Page) (last : ℕ)
    : Type 0 where
  pub runs : fate S x ≡ Running
  pub placed_one : placed S x ≡ d ∷ []
  pub head : Head
  pub has : Has P d head
  pub by : head.inserted_by ≡ x
  pub whole : IsWhole P head v
  pub no_row : HasRow P d.item → ⊥
  pub chain : List ℕ
  pub is_chain : IsChain P head.private chain
  pub rows : rows_on P chain ≡ flat_map rows_of back
  pub many : length chain ≡ length back
  pub ends : IsLastOf chain last

-- each document that transaction x has placed is indexed
abbrev pub AreIndexed : Log → Pages → ℕ → Type 0
AreIndexed S P x = (d : Doc) → In d (placed S x) → IsIndexed P d

module _ {D : Type 0} (device : Disk D) where
  -- transaction x runs, and what it has changed so far is this, in the log that the pass has seen; what it
  -- has placed is indexed
  abbrev pub HasChanged : DbValue D → Pass → ℕ → Commit → Type 0
  HasChanged s pass x c =
      Seen device s.frames pass
      (λ (S : Log) (P : Pages). (fate S x ≡ Running) × IsCommitOf S x c × AreIndexed S P x)

  -- it has placed a document so far, and deleted these
  abbrev pub HasPlaced : DbValue D → Pass → ℕ → Doc → List ℕ → List ℕ → List Name → Type 0
  HasPlaced s pass x d bytes behind names =
      Seen device s.frames pass (λ (S : Log) (P : Pages). IsPlacedSoFar S P x d bytes behind
      × (map name_of (marked S x) ≡ names))

  -- it has placed a document with this vector and put these pages of its rows so far, and deleted these
  abbrev pub HasRows : DbValue D → Pass → ℕ → Doc → Vector → List Page → ℕ → List Name → Type 0
  HasRows s pass x d v back last names =
      Seen device s.frames pass (λ (S : Log) (P : Pages). IsRowedSoFar S P x d v back last
      × (map name_of (marked S x) ≡ names))

  -- the pass's own transaction runs on, and what it has changed is what it had changed
  pub record CarriesOwn (old : DbValue D) (pass : Pass) (new : DbValue D) (pass' : Pass) : Type 0 where
    pub runs : (x : ℕ) → pass.xid ≡ Some x → Runs device old pass x → Runs device new pass' x
    pub changed : (x : ℕ) (c : Commit) → pass.xid ≡ Some x → HasChanged old pass x c
        → HasChanged new pass' x c
    pub placed : (x : ℕ) (d : Doc) (bytes behind : List ℕ) (names : List Name) → pass.xid ≡ Some x
        → HasPlaced old pass x d bytes behind names → HasPlaced new pass' x d bytes behind names
    pub rows : (x : ℕ) (d : Doc) (v : Vector) (back : List Page) (last : ℕ) (names : List Name)
        → pass.xid ≡ Some x → HasRows old pass x d v back last names
        → HasRows new pass' x d v back last names

  -- ── refusals ──

  -- after some steps that log nothing
  abbrev pub Later : DbValue D → (DbValue D → Type 0) → Type 0
  Later old Why = (s : DbValue D) × Goes device old s [] × Why s

  -- Why the Abort of a transaction is refused, whose statement is answered so: the device failed, or memory ran out,
  -- as is answered then; the log has no room for it; or it was down.
  pub data IsLeft (old new : DbValue D) (x : ℕ) (answer : DbError) : Type 0 where
    failed : answer ≡ DiskFault → IsLeft old new x answer
    memory : answer ≡ OutOfMemory → IsLeft old new x answer
    full : (s : DbValue D) (r : Record) → Goes device old s [] → Goes device s new [] → IsAbortOf x r
        → HasNoRoomFor s r → IsLeft old new x answer
    down : (fault : ℕ) → IsDown old fault → IsLeft old new x answer

  -- the transaction was given up: its Abort was logged, or was refused
  abbrev pub GivesUp : DbValue D → DbValue D → ℕ → DbError → Type 0
  GivesUp old new x answer =
      (Goes device old new [] × IsLeft old new x answer)
      ⊎ ((e : Record) × IsAbortOf x e × Goes device old new (e ∷ []))

  -- why a statement doesn't begin
  abbrev pub CannotBegin : DbValue D → DbValue D → Option Name → DbError → Type 0
  CannotBegin old new deletes (Down fault) = IsDown old fault × (new ≡ old)
  CannotBegin old new deletes NoDocument =
      IsUp old × ((name : Name) × (deletes ≡ Some name) × (IsListed old name → ⊥))
  CannotBegin old new deletes XidsSpent = IsUp old × All (IsListed old) (deleted_by deletes) × AreXidsSpent old
  CannotBegin old new deletes LogFull =
      IsUp old × All (IsListed old) (deleted_by deletes) × (AreXidsSpent old → ⊥)
      × Later old (λ (s : DbValue D). (x : ℕ) × (r : Record) × IsBeginOf x r × HasNoRoomFor s r)
  CannotBegin old new deletes DiskFault = IsUp old
  CannotBegin old new deletes OutOfMemory = IsUp old
  CannotBegin old new deletes e = ⊥

  -- why a page isn't held: it is none
  abbrev pub CannotHold : DbValue D → ℕ → (DbValue D → ℕ → Type 0) → DbError → Type 0
  CannotHold old p IsBad (Down fault) = IsDown old fault
  CannotHold old p IsBad (BadPage q) = (q ≡ p) × IsBad old p
  CannotHold old p IsBad DiskFault = ⊤
  CannotHold old p IsBad OutOfMemory = ⊤
  CannotHold old p IsBad e = ⊥

  -- the store is not lawful and up, or the document of the name is not in the snapshot of n first commits
  abbrev pub IsUnseen : DbValue D → ℕ → Name → Type 0
  IsUnseen old n name =
      device.tells → (found H : History) → StandsFor device found old H → IsUp old → IsInSnapshot H n name → ⊥

  -- why a document isn't marked, in a snapshot of n commits by transaction x
  abbrev pub CannotMark : DbValue D → ℕ → ℕ → Name → DbError → Type 0
  CannotMark old n x name (Down fault) = IsDown old fault
  CannotMark old n x name NoDocument = Later old (λ (s : DbValue D). ShowsHead s n name → ⊥)
  CannotMark old n x name (Conflict y) = Later old (λ (s : DbValue D). IsInConflict s n x name y)
  CannotMark old n x name LogFull =
      Later old (λ (s : DbValue D). MayBeDeleted s n x name
      × ((t : DbValue D) × Goes device s t [] × ((r : Record) × IsMarkOf x name r × HasNoRoomFor t r)))
  CannotMark old n x name (BadPage p) =
      (p ≡ name.page) × Later old (λ (s : DbValue D). IsNone s (IsHeap s) p)
  CannotMark old n x name DiskFault = ⊤
  CannotMark old n x name OutOfMemory = ⊤
  CannotMark old n x name e = ⊥

  -- what the refusal of a mark says of a lawful store
  abbrev pub TellsOfMark : DbValue D → ℕ → Name → DbError → Type 0
  TellsOfMark old n name NoDocument = IsUnseen old n name
  TellsOfMark old n name (BadPage p) = IsUnseen old n name
  TellsOfMark old n name e = ⊤

  -- of the records that put a document of these bytes some were logged, and this is the next
  pub record Puts (old : DbValue D) (x : ℕ) (bytes : List ℕ)
      (Why : DbValue D → List Record → Record → Type 0) : Type 0 where
    pub store : DbValue D
    pub doc : Doc
    pub done : List Record
    pub next : Record
    pub rest : List Record
    pub are_put : ArePut bytes x doc (done ++ next ∷ rest)
    pub goes : Goes device old store done
    pub why : Why store done next

  -- a record of this kind, which puts a document of these bytes, needs a new page
  abbrev pub NeedsPageFor : List ℕ → ℕ → DbValue D → Kind → Type 0
  NeedsPageFor bytes x s (kind.PlaceHead item serial) = NoHeapPageHasRoom s (head_for x bytes)
  NeedsPageFor bytes x s (kind.PutOverflow item serial) = ⊤
  NeedsPageFor bytes x s k = ⊥

  -- why a document isn't put
  abbrev pub CannotPut : DbValue D → ℕ → List ℕ → DbError → Type 0
  CannotPut old x bytes (Down fault) = IsDown old fault
  CannotPut old x bytes StoreFull =
      Puts old x bytes (λ (s : DbValue D) (done : List Record) (r : Record).
      NeedsPageFor bytes x s r.kind × IsStoreFull s)
  CannotPut old x bytes LogFull =
      Puts old x bytes (λ (s : DbValue D) (done : List Record) (r : Record). HasNoRoomFor s r)
  CannotPut old x bytes (BadPage p) =
      Puts old x bytes (λ (s : DbValue D) (done : List Record) (r : Record).
      IsBadPage s (λ (name : Name). ⊥) done p)
  CannotPut old x bytes DiskFault = ⊤
  CannotPut old x bytes OutOfMemory = ⊤
  CannotPut old x bytes e = ⊥

  -- why a transaction isn't committed: its Commit was refused, and it was given up; or the device failed as
  -- its Commit was flushed
  pub data IsNotEnded (old new : DbValue D) (x : ℕ) : DbError → Type 0 where
    full : Later old (λ (s : DbValue D). (e : Record) × work.IsCommitOf x e × HasNoRoomFor s e)
        → GivesUp old new x LogFull → IsNotEnded old new x LogFull
    memory : GivesUp old new x OutOfMemory → IsNotEnded old new x OutOfMemory
    failed : GivesUp old new x DiskFault → IsNotEnded old new x DiskFault
    flush : (e : Record) → work.IsCommitOf x e → Goes device old new (e ∷ [])
        → IsNotEnded old new x DiskFault

  -- a statement that is refused so answers this: the refusal, or that the device failed or memory ran out as it was
  -- given up
  pub data TellsRefusal (old new : DbValue D) (refusal : DbError) : DbError → Type 0 where
    same : MetNoFault device old new → RestsAtFault old new refusal → TellsRefusal old new refusal refusal
    failed : MetFault device old new → TellsRefusal old new refusal DiskFault
    memory : refusal ≢ DiskFault → MetNoFault device old new → TellsRefusal old new refusal OutOfMemory

  -- how a transaction whose work was answered so has ended
  abbrev pub EndsAs : {T : Type 0} → DbValue D → DbValue D → Pass → ℕ → Result T DbError → Result T DbError
      → Type 0
  EndsAs old new pass x (Ok answer) (Ok given) =
      (given ≡ answer) × ((e : Record) × work.IsCommitOf x e × Goes device old new (e ∷ []))
      × IsUp new × IsFlushed new × (flushed_of new ≡ length (state_of new).deleted)
      × (pass.shown ≡ flushed_of new) × MetNoFault device old new
  EndsAs old new pass x (Ok answer) (Err e) =
      IsNotEnded old new x e
      × (((e ≡ DiskFault) × MetFault device old new) ⊎ ((e ≢ DiskFault) × MetNoFault device old new))
  EndsAs old new pass x (Err refusal) (Ok given) = ⊥
  EndsAs old new pass x (Err refusal) (Err e) =
      GivesUp old new x e × TellsRefusal old new refusal e
