-- When a record of the kinds 6 to 8 may come next: heads are placed and marked, parts of long
-- vectors are put.
use Rattle.std.specs.Prelude.{◌≡◌, ◌≢◌, ◌⊎◌, ℕ, ◌<◌, ◌≤◌, List, [], ◌∷◌, length, Option, Some, None}
use Rattle.ts_base.specs.Vectors.{Vector}
use Rattle.page_types.specs.Numbers.{most_short, most_body}
use Rattle.page_types.specs.Views.{slot_at}
use Rattle.page_types.specs.declared.page.Page.{Page}
use Rattle.page_types.specs.declared.page.Head.{Head}
use Rattle.page_types.specs.declared.page.Body.TheVariants as body
use Rattle.page_types.specs.declared.record.Record.{Record}
use Rattle.page_types.specs.declared.record.Kind.TheVariants as kind
use Rattle.core_state.specs.Log.{Log, Pages, changed}
use Rattle.core_state.specs.Documents.{Doc, IsWhole, page_of, slot_of}
use Rattle.core_state.specs.Index.{NoPair}
use Rattle.core_state.specs.Known.{Known}
use Rattle.core_state.specs.Changes.{Here, made_with, IsNew, PutsSlot, IsHeadChange, IsOwn}
use Rattle.core_state.specs.declared.answers.Fate.TheVariants.{Running, Aborted, Committed}

-- a new head: the deleting xid is 0, and both chains are empty
pub record IsNewHead (head : Head) (serial xid : ℕ) : Type 0 where
  pub serial_is : head.serial ≡ serial
  pub inserted_by : head.inserted_by ≡ xid
  pub deleted_by : head.deleted_by ≡ 0
  pub overflow : head.overflow ≡ 0
  pub private : head.private ≡ 0

-- The transaction runs, the serial is the next, the slot is free or the next, and the page an old
-- heap page or a new page; the new head has this serial and xid, the deleting xid 0 and two empty
-- chains.
pub record IsPlaceHeadHere (since : ℕ) (k : Known) (r : Record)
    (before after : List Page) : Type 0 where
  pub doc : Doc
  pub head : Head
  pub old : Page
  pub slots : List (Option Head)
  pub new_slots : List (Option Head)
  pub right : ℕ
  pub kind_is : r.kind ≡ kind.PlaceHead doc.item doc.serial
  pub pages : changed r ≡ page_of doc.item ∷ []
  pub runs : k.fates r.xid ≡ Running
  pub next : doc.serial ≡ k.next_serial
  pub before_is : before ≡ old ∷ []
  pub page : ((old.body ≡ body.Heap slots) × (right ≡ old.right))
      ⊎ ((slots ≡ []) × (right ≡ 0) × IsNew k.uses since (page_of doc.item))
  pub was_free : slot_at slots (slot_of doc.item) ≡ None
  pub in_row : slot_of doc.item ≤ length slots
  pub new_head : IsNewHead head doc.serial r.xid
  pub put : PutsSlot slots (slot_of doc.item) (Some head) new_slots
  pub after_is : after ≡ made_with r right (body.Heap new_slots) ∷ []

-- 6 PlaceHead: no row and no posting has the item
pub record IsPlaceHead (R : Log) (P Q : Pages) (r : Record) (since : ℕ) : Type 0 where
  pub here : Here (IsPlaceHeadHere since) R P Q r
  pub rest : NoPair P here.doc.item

-- The transaction placed the head and runs; the vector is too long for its head; the new page leads
-- to the head's first overflow page, and becomes the first; unless it is the last of the chain it
-- is full.
pub record IsPutOverflowHere (since : ℕ) (k : Known) (r : Record)
    (before after : List Page) : Type 0 where
  pub doc : Doc
  pub head : Head
  pub new : ℕ
  pub part : List ℕ
  pub old : Page
  pub was : Page
  pub heap_then : Page
  pub kind_is : r.kind ≡ kind.PutOverflow doc.item doc.serial
  pub pages : changed r ≡ page_of doc.item ∷ new ∷ []
  pub own : IsOwn k r head
  pub long : most_short < head.bytes
  pub full : head.overflow ≢ 0 → length part ≡ most_body
  pub is_new : IsNew k.uses since new
  pub before_is : before ≡ old ∷ was ∷ []
  pub head_after : IsHeadChange r doc old head (record head { overflow = new }) heap_then
  pub after_is : after ≡ heap_then ∷ made_with r head.overflow (body.Overflow part) ∷ []

-- 7 PutOverflow: the document isn't whole
pub record IsPutOverflow (R : Log) (P Q : Pages) (r : Record) (since : ℕ) : Type 0 where
  pub here : Here (IsPutOverflowHere since) R P Q r
  pub rest : (v : Vector) → IsWhole P here.head v → ⊥

-- The transaction runs; the slot's head has the serial, its inserting xid has committed, and its
-- deleting xid was 0 or an aborted one; it becomes the record's xid.
pub record IsMarkDeletedHere (k : Known) (r : Record) (before after : List Page) : Type 0 where
  pub doc : Doc
  pub head : Head
  pub number : ℕ
  pub old : Page
  pub heap_then : Page
  pub kind_is : r.kind ≡ kind.MarkDeleted doc.item doc.serial
  pub pages : changed r ≡ page_of doc.item ∷ []
  pub runs : k.fates r.xid ≡ Running
  pub inserted : k.fates head.inserted_by ≡ Committed number
  pub unmarked : (head.deleted_by ≡ 0) ⊎ (k.fates head.deleted_by ≡ Aborted)
  pub before_is : before ≡ old ∷ []
  pub head_after : IsHeadChange r doc old head (record head { deleted_by = r.xid }) heap_then
  pub after_is : after ≡ heap_then ∷ []

-- 8 MarkDeleted: nothing is asked beside that
pub record IsMarkDeleted (R : Log) (P Q : Pages) (r : Record) : Type 0 where
  pub here : Here IsMarkDeletedHere R P Q r
