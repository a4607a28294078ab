-- What a dead document leaves on its heap page: a chain without its first page, and a free slot.
use Rattle.std.specs.Prelude.{◌≡◌, ◌⊎◌, ℕ, List, length, Option, Some, None}
use Rattle.page_types.specs.Views.{slot_at}
use Rattle.page_types.specs.declared.page.Page.{Page}
use Rattle.page_types.specs.declared.page.Head.{Head}
use Rattle.page_types.specs.declared.page.Body.TheVariants as body
use Rattle.page_types.specs.declared.slots.HeadFields.{HeadFields}
use Rattle.core_state.specs.Log.{In}
use Rattle.core_state.specs.Documents.{Doc, slot_of}
use Rattle.core_state.specs.Steps.{ChangesHead}
use Rattle.doc_heap.specs.HeapPages.{head_on, ChangesSlot}
use Rattle.doc_heap.specs.declared.leaving.Chain.{Chain}
use Rattle.doc_heap.specs.declared.leaving.Chain.TheVariants as chain

-- the first page of this chain of a head, 0 where it has none
abbrev pub first_of : Chain → Head → ℕ
first_of chain.Overflow h = h.overflow
first_of chain.Private h = h.private

-- the head whose chain begins with this page
abbrev pub with_first : Chain → ℕ → Head → Head
with_first chain.Overflow page h = record h { overflow = page }
with_first chain.Private page h = record h { private = page }

-- likewise of its fields
abbrev pub fields_with : Chain → ℕ → HeadFields → HeadFields
fields_with chain.Overflow page f = record f { overflow = page }
fields_with chain.Private page f = record f { private = page }

-- the slot is as it was, or it is that of one of the items, and free
abbrev pub StaysOrFree : List ℕ → ℕ → Option Head → Option Head → Type 0
StaysOrFree items k old new = (new ≡ old) ⊎ ((new ≡ None) × (i : ℕ) × In i items × (slot_of i ≡ k))

-- the slots of these items are free, and the others as they were
pub record FreesSlots (items : List ℕ) (slots new : List (Option Head)) : Type 0 where
  pub same_length : length new ≡ length slots
  pub freed : (i : ℕ) → In i items → slot_at new (slot_of i) ≡ None
  pub others : (k : ℕ) → StaysOrFree items k (slot_at slots k) (slot_at new k)

-- so it is on a heap page, of which nothing else changes
pub record FreesItems (old : Page) (items : List ℕ) (new : Page) : Type 0 where
  pub slots : List (Option Head)
  pub new_slots : List (Option Head)
  pub was : old.body ≡ body.Heap slots
  pub frees : FreesSlots items slots new_slots
  pub after : new ≡ record old { body = body.Heap new_slots }

-- A slot that is changed from the head of a document to another one changes this document's head.
abbrev pub SlotIsHead : Type 0
SlotIsHead =
    (d : Doc) (old new : Page) (h h' : Head) → ChangesSlot old (slot_of d.item) (Some h') new
    → head_on old (slot_of d.item) ≡ Some h → h.serial ≡ d.serial → ChangesHead d old h h' new
