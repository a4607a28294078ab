-- What a session shows before it logs a step on documents: facts of the log that it has seen, with
-- the pages P of that log, and the pages that it holds. Such a step is valid after each log that
-- is allowed to the session.
use Rattle.std.specs.Prelude.{◌≡◌, ◌≢◌, ◌⊎◌, ℕ, ◌<◌, ◌≤◌, List, [], ◌∷◌, ◌++◌, length, Option, Some, None, IfSome}
use Rattle.ts_base.specs.Vectors.{Vector}
use Rattle.page_types.specs.Numbers.{most_short, most_body}
use Rattle.page_types.specs.Views.{slot_at}
use Rattle.page_types.specs.declared.page.Page.{Page}
use Rattle.page_types.specs.declared.page.Head.{Head}
use Rattle.page_types.specs.declared.page.Gone.{Gone}
use Rattle.page_types.specs.declared.page.Body.TheVariants as body
use Rattle.page_types.specs.declared.record.Kind.TheVariants as kind
use Rattle.core_state.specs.Log.{Log, Pages, In, Shows, next_xid, fate}
use Rattle.core_state.specs.Documents.{Doc, IsChain, HasVector, placed, marked, page_of, slot_of, parts}
use Rattle.core_state.specs.Index.{IsIndexed}
use Rattle.core_state.specs.Known.{use_in}
use Rattle.core_state.specs.Changes.{PutsSlot}
use Rattle.core_state.specs.HeapRules.{IsNewHead}
use Rattle.core_state.specs.Legal.{IsLegal, Pin, Keeps}
use Rattle.core_state.specs.Standing.{IsThere}
use Rattle.core_state.specs.Steady.{RunsOn, IndexStays}
use Rattle.core_state.specs.Readings.{AreReads}
use Rattle.core_state.specs.Allowed.{Sheet, View, AreHeld, IsAllowed, Step, MayLog}
use Rattle.core_state.specs.declared.answers.Fate.TheVariants.{Unused, Running, Aborted, Committed}
use Rattle.core_state.specs.declared.answers.PageUse.TheVariants as usage

-- a page with this content
abbrev pub sheet : ℕ → Page → Sheet
sheet p c = record { page = p; content = c }

-- the session's own transaction x runs; it has begun one since the opening, so that no other
-- session ends all that run
pub record RunsOwn (v : View) (x : ℕ) : Type 0 where
  pub own : In x v.xids
  pub begun : v.begun ≢ []
  pub runs : fate v.seen x ≡ Running

-- the page with this content is a new one: it is free, and none below it was; or it was deleted by
-- a record of number `since` at most
pub data IsNewSheet (P : Pages) (since p : ℕ) (c : Page) : Type 0 where
  unused : c.body ≡ body.Free → ((q : ℕ) → q < p → use_in P q ≢ usage.Unused)
      → IsNewSheet P since p c
  deleted : (g : Gone) → c.body ≡ body.Deleted g → c.stamp ≤ since → IsNewSheet P since p c

-- the document's head on this page becomes another, and nothing else of the page changes
pub record ChangesHead (d : Doc) (old : Page) (h h' : Head) (new : Page) : Type 0 where
  pub slots : List (Option Head)
  pub new_slots : List (Option Head)
  pub before : old.body ≡ body.Heap slots
  pub head : slot_at slots (slot_of d.item) ≡ Some h
  pub serial : h.serial ≡ d.serial
  pub put : PutsSlot slots (slot_of d.item) (Some h') new_slots
  pub right : new.right ≡ old.right
  pub after : new.body ≡ body.Heap new_slots

-- a transaction begins
pub record CanBegin (v : View) (P : Pages) (s : Step) : Type 0 where
  pub kind_is : s.kind ≡ kind.Begin
  pub after_is : s.after ≡ []

-- An own transaction is committed: each document that it placed is whole and indexed. The number is
-- drawn when it is logged, whatever is here.
pub record CanCommit (v : View) (P : Pages) (s : Step) : Type 0 where
  pub number : ℕ
  pub kind_is : s.kind ≡ kind.Commit number
  pub after_is : s.after ≡ []
  pub own : RunsOwn v s.xid
  pub indexed : (d : Doc) → In d (placed v.seen s.xid) → IsIndexed P d

-- an own transaction is aborted
pub record CanAbort (v : View) (P : Pages) (s : Step) : Type 0 where
  pub kind_is : s.kind ≡ kind.Abort
  pub after_is : s.after ≡ []
  pub own : RunsOwn v s.xid

-- A head is put into a free slot, or the next, of a heap page or of a new page. Its serial is drawn
-- when it is logged, whatever is here.
pub record CanPlace (v : View) (P : Pages) (s : Step) : Type 0 where
  pub item : ℕ
  pub serial : ℕ
  pub head : Head
  pub old : Page
  pub new : Page
  pub slots : List (Option Head)
  pub new_slots : List (Option Head)
  pub kind_is : s.kind ≡ kind.PlaceHead item serial
  pub after_is : s.after ≡ sheet (page_of item) new ∷ []
  pub own : RunsOwn v s.xid
  pub held : In (sheet (page_of item) old) v.held
  pub page : ((old.body ≡ body.Heap slots) × (new.right ≡ old.right))
      ⊎ ((slots ≡ []) × (new.right ≡ 0) × IsNewSheet P v.since (page_of item) old)
  pub was_free : slot_at slots (slot_of item) ≡ None
  pub in_row : slot_of item ≤ length slots
  pub new_head : IsNewHead head serial s.xid
  pub put : PutsSlot slots (slot_of item) (Some head) new_slots
  pub content : new.body ≡ body.Heap new_slots

-- A part of a long vector is put in front of those that are on the chain of a head that an own
-- transaction placed; together these are not yet as long as the vector.
pub record CanPutOverflow (v : View) (P : Pages) (s : Step) : Type 0 where
  pub doc : Doc
  pub head : Head
  pub new : ℕ
  pub part : List ℕ
  pub chain : List ℕ
  pub old : Page
  pub old_part : Page
  pub heap : Page
  pub put : Page
  pub kind_is : s.kind ≡ kind.PutOverflow doc.item doc.serial
  pub after_is : s.after ≡ sheet (page_of doc.item) heap ∷ sheet new put ∷ []
  pub own : RunsOwn v s.xid
  pub placed_by : head.inserted_by ≡ s.xid
  pub held : In (sheet (page_of doc.item) old) v.held
  pub held_part : In (sheet new old_part) v.held
  pub long : most_short < head.bytes
  pub full : head.overflow ≢ 0 → length part ≡ most_body
  pub is_new : IsNewSheet P v.since new old_part
  pub is_chain : IsChain P head.overflow chain
  pub missing : length (parts P chain) ≢ head.bytes
  pub head_after : ChangesHead doc old head (record head { overflow = new }) heap
  pub right : put.right ≡ head.overflow
  pub content : put.body ≡ body.Overflow part

-- an own transaction marks a head whose inserting xid has committed, and that is unmarked, or
-- marked by an aborted one
pub record CanMark (v : View) (P : Pages) (s : Step) : Type 0 where
  pub doc : Doc
  pub head : Head
  pub number : ℕ
  pub old : Page
  pub new : Page
  pub kind_is : s.kind ≡ kind.MarkDeleted doc.item doc.serial
  pub after_is : s.after ≡ sheet (page_of doc.item) new ∷ []
  pub own : RunsOwn v s.xid
  pub held : In (sheet (page_of doc.item) old) v.held
  pub inserted : fate v.seen head.inserted_by ≡ Committed number
  pub unmarked : (head.deleted_by ≡ 0) ⊎ (fate v.seen head.deleted_by ≡ Aborted)
  pub head_after : ChangesHead doc old head (record head { deleted_by = s.xid }) new

-- What an own transaction has done is in each allowed log as it was seen: it runs, has placed and
-- marked no other documents, and those that it placed are as they were.
pub record OwnStays (v : View) (R : Log) (P Q : Pages) (x : ℕ) : Type 0 where
  pub runs_on : RunsOn v.seen R P Q x
  pub placed_same : placed R x ≡ placed v.seen x
  pub marked_same : marked R x ≡ marked v.seen x

-- it holds of each own transaction that runs
abbrev pub OwnHolds : Type 0
OwnHolds =
    (v : View) (R : Log) (a : IsAllowed v R) (P : Pages) (x : ℕ) → RunsOwn v x → Shows v.seen P
    → OwnStays v R P a.pages x

-- to a session without xids and without the right of maintenance each legal log is allowed that
-- goes on from what it has seen, keeps its pin, shows its pages and has its readings
abbrev pub IdleHolds : Type 0
IdleHolds =
    (v : View) (R later : Log) (P : Pages) → v.xids ≡ [] → v.begun ≡ [] → v.work ≡ None
    → R ≡ later ++ v.seen → IsLegal R → IfSome v.pin (Keeps R) → Shows R P → AreHeld P v.held
    → AreReads R v.from v.readings → IsAllowed v R

-- an xid that isn't drawn hasn't begun, and has placed and marked nothing
abbrev pub NotDrawnHolds : Type 0
NotDrawnHolds =
    (R : Log) (x : ℕ) → IsLegal R → next_xid R ≤ x
    → (fate R x ≡ Unused) × (placed R x ≡ []) × (marked R x ≡ [])

-- where a session shows this of a step, it may log it: of the log that it has seen, which is legal,
-- and the pages P of that log
abbrev pub MayBy : (View → Pages → Step → Type 0) → Type 0
MayBy Can =
    (v : View) (s : Step) → ((P : Pages) → IsLegal v.seen → Shows v.seen P → Can v P s) → MayLog v s

-- what was there under a session's pin, in the log that it has seen, is there in each allowed log,
-- and whole
abbrev pub PinHolds : Type 0
PinHolds =
    (v : View) (pin : Pin) (R : Log) (a : IsAllowed v R) (d : Doc) → v.pin ≡ Some pin
    → pin.length ≤ length v.seen → IsThere v.seen pin.commits d
    → IsThere R pin.commits d × ((w : Vector) × HasVector a.pages d w)

-- what a session with the right of maintenance has seen of the index, at any length since it got
-- the right, stays as it is in each allowed log
abbrev pub RightHolds : Type 0
RightHolds =
    (v : View) (at : ℕ) (R : Log) (a : IsAllowed v R) (P : Pages) → v.work ≡ Some at
    → at ≤ length v.seen → v.seen ≢ [] → Shows v.seen P → IndexStays v.seen R P a.pages
