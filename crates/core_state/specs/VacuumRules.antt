-- When a record of the kinds 18, 20 and 21 may come next: items of dead documents leave their
-- lists, their chains lose pages, and their slots become free.
use Rattle.std.specs.Prelude.{◌≡◌, ◌≢◌, ◌⊎◌, ℕ, ◌<◌, List, [], ◌∷◌, length, Option, Some, None, ⊤}
use Rattle.std.specs.List.{slice_get}
use Rattle.ts_base.specs.Keys.{Key}
use Rattle.page_types.specs.Items.{items_of}
use Rattle.page_types.specs.Keys.{Rising}
use Rattle.page_types.specs.Views.{slot_at}
use Rattle.page_types.specs.declared.page.Page.{Page}
use Rattle.page_types.specs.declared.page.Head.{Head}
use Rattle.page_types.specs.declared.page.Row.{Row}
use Rattle.page_types.specs.declared.page.Entry.{Entry}
use Rattle.page_types.specs.declared.page.Postings.TheVariants.{Inline}
use Rattle.page_types.specs.declared.page.Body.{Body}
use Rattle.page_types.specs.declared.page.Body.TheVariants as body
use Rattle.page_types.specs.declared.page.Gone.{Gone}
use Rattle.page_types.specs.declared.page.Gone.TheVariants as gone
use Rattle.page_types.specs.declared.record.Record.{Record}
use Rattle.page_types.specs.declared.record.Kind.TheVariants as kind
use Rattle.core_state.specs.Log.{Log, Pages, In, changed}
use Rattle.core_state.specs.Documents.{Doc, Has, IsDead, page_of, item_at}
use Rattle.core_state.specs.Index.{HasRow, NoPair}
use Rattle.core_state.specs.Known.{Known}
use Rattle.core_state.specs.Changes.{Here, made_with, IsHeadChange, IsDeadHead}

-- items went from the list, all of them among those removed
pub record ItemsLeave (removed old new : List ℕ) : Type 0 where
  pub rises : Rising (λ (i j : ℕ). i < j) (items_of new)
  pub no_other : (i : ℕ) → In i (items_of new) → In i (items_of old)
  pub each : (i : ℕ) → In i (items_of old) → In i (items_of new) ⊎ In i removed

-- the entry stays as it is, or items went from its inline list
pub data EntryLoses (removed : List ℕ) (old new : Entry) : Type 0 where
  same : old ≡ new → EntryLoses removed old new
  less : (a b : List ℕ) → old.key ≡ new.key → old.postings ≡ Inline a → new.postings ≡ Inline b
      → ItemsLeave removed a b → EntryLoses removed old new

-- entry by entry
abbrev pub EntriesLose : List ℕ → List Entry → List Entry → Type 0
EntriesLose removed [] [] = ⊤
EntriesLose removed [] (f ∷ fs) = ⊥
EntriesLose removed (e ∷ es) [] = ⊥
EntriesLose removed (e ∷ es) (f ∷ fs) = EntryLoses removed e f × EntriesLose removed es fs

-- items went from the lists of an entry leaf, or the list of a posting leaf
pub data ListsLose (removed : List ℕ) : Body → Body → Type 0 where
  entries : (high : Key) (old new : List Entry) → EntriesLose removed old new
      → ListsLose removed (body.EntryLeaf high old) (body.EntryLeaf high new)
  postings : (high : ℕ) (old new : List ℕ) → ItemsLeave removed old new
      → ListsLose removed (body.PostLeaf high old) (body.PostLeaf high new)

-- an item was in a list of a leaf, and went from this list
pub data ItemGoes (i : ℕ) : Body → Body → Type 0 where
  from_entry : (high : Key) (old new : List Entry) (k : ℕ) (e f : Entry) (a b : List ℕ)
      → slice_get old k ≡ Some e → slice_get new k ≡ Some f → e.postings ≡ Inline a
      → f.postings ≡ Inline b → In i (items_of a) → (In i (items_of b) → ⊥)
      → ItemGoes i (body.EntryLeaf high old) (body.EntryLeaf high new)
  from_postings : (high : ℕ) (old new : List ℕ) → In i (items_of old) → (In i (items_of new) → ⊥)
      → ItemGoes i (body.PostLeaf high old) (body.PostLeaf high new)

-- items leave the lists of a leaf, at least one; the removed ones are just those that went from a list
pub record IsRemoveItemsHere (k : Known) (r : Record) (before after : List Page) : Type 0 where
  pub page : ℕ
  pub removed : List ℕ
  pub content : Body
  pub old : Page
  pub kind_is : r.kind ≡ kind.RemoveItems
  pub pages : changed r ≡ page ∷ []
  pub before_is : before ≡ old ∷ []
  pub lists : ListsLose removed old.body content
  pub went : (i : ℕ) → In i removed → ItemGoes i old.body content
  pub some : content ≢ old.body
  pub after_is : after ≡ made_with r old.right content ∷ []

-- the item may leave: its document is dead and has no linked row
pub record MayLeave (R : Log) (P : Pages) (floor i : ℕ) : Type 0 where
  pub doc : Doc
  pub head : Head
  pub item : doc.item ≡ i
  pub has : Has P doc head
  pub dead : IsDead R floor doc
  pub no_row : HasRow P i → ⊥

-- 18 RemoveItems: each removed item may leave
pub record IsRemoveItems (R : Log) (P Q : Pages) (r : Record) (floor : ℕ) : Type 0 where
  pub here : Here IsRemoveItemsHere R P Q r
  pub rest : (i : ℕ) → In i here.removed → MayLeave R P floor i

-- the page is the first of one of the head's chains, which goes on to the next; it has content of
-- that chain's kind, and keeps it as it is deleted
pub data IsDropped (head : Head) (page right : ℕ) : Body → Gone → Head → Type 0 where
  overflow : (bytes : List ℕ) → head.overflow ≡ page
      → IsDropped head page right (body.Overflow bytes) (gone.Overflow bytes)
      (record head { overflow = right })
  private : (rows : List Row) → head.private ≡ page
      → IsDropped head page right (body.Pending rows) (gone.Pending rows)
      (record head { private = right })

-- the head is a dead document's, and the first page of one of its chains is deleted
pub record IsDropPageHere (floor : ℕ) (k : Known) (r : Record)
    (before after : List Page) : Type 0 where
  pub doc : Doc
  pub head : Head
  pub head_then : Head
  pub page : ℕ
  pub content : Gone
  pub old : Page
  pub heap_then : Page
  pub was : Page
  pub kind_is : r.kind ≡ kind.DropPage doc.item doc.serial
  pub pages : changed r ≡ page_of doc.item ∷ page ∷ []
  pub before_is : before ≡ old ∷ was ∷ []
  pub dead : IsDeadHead k.fates floor head
  pub not_none : page ≢ 0
  pub dropped : IsDropped head page was.right was.body content head_then
  pub head_after : IsHeadChange r doc old head head_then heap_then
  pub after_is : after ≡ heap_then ∷ made_with r was.right (body.Deleted content) ∷ []

-- the document is dead, and no row and no posting has its item
pub record IsGoneFrom (R : Log) (P : Pages) (floor : ℕ) (doc : Doc) : Type 0 where
  pub dead : IsDead R floor doc
  pub no_pair : NoPair P doc.item

-- 20 DropPage: the document is dead by the log, and no row and no posting has its item
pub record IsDropPage (R : Log) (P Q : Pages) (r : Record) (floor : ℕ) : Type 0 where
  pub here : Here (IsDropPageHere floor) R P Q r
  pub rest : IsGoneFrom R P floor here.doc

-- the slot's head is a dead document's, and its chains are empty
pub record MayFree (k : Known) (floor : ℕ) (h : Head) : Type 0 where
  pub dead : IsDeadHead k.fates floor h
  pub no_overflow : h.overflow ≡ 0
  pub no_private : h.private ≡ 0

-- the slot stays as it is, or becomes free
pub data SlotLoses (k : Known) (floor : ℕ) (old new : Option Head) : Type 0 where
  same : new ≡ old → SlotLoses k floor old new
  freed : (h : Head) → old ≡ Some h → new ≡ None → MayFree k floor h → SlotLoses k floor old new

-- slots of dead documents become free, at least one
pub record IsFreeSlotsHere (floor : ℕ) (k : Known) (r : Record)
    (before after : List Page) : Type 0 where
  pub page : ℕ
  pub slots : List (Option Head)
  pub new_slots : List (Option Head)
  pub old : Page
  pub kind_is : r.kind ≡ kind.FreeSlots
  pub pages : changed r ≡ page ∷ []
  pub before_is : before ≡ old ∷ []
  pub was : old.body ≡ body.Heap slots
  pub same_length : length new_slots ≡ length slots
  pub each : (slot : ℕ) → SlotLoses k floor (slot_at slots slot) (slot_at new_slots slot)
  pub some : new_slots ≢ slots
  pub after_is : after ≡ made_with r old.right (body.Heap new_slots) ∷ []

-- 21 FreeSlots: each freed document is dead, and no row and no posting has its item
pub record IsFreeSlots (R : Log) (P Q : Pages) (r : Record) (floor : ℕ) : Type 0 where
  pub here : Here (IsFreeSlotsHere floor) R P Q r
  pub rest : (slot : ℕ) (h : Head) → slot_at here.slots slot ≡ Some h
      → slot_at here.new_slots slot ≡ None
      → IsGoneFrom R P floor (record { item = item_at here.page slot; serial = h.serial })
