-- What is found on a heap page of dead documents, and the steps by which their chains and slots go.
use Rattle.std.specs.Prelude.{◌≡◌, ◌≢◌, ◌⊎◌, ℕ, ◌<◌, List, [], ◌∷◌, Some, None}
use Rattle.disk_trait.specs.declared.device.Disk.{Ghosts as Disk}
use Rattle.page_types.specs.Numbers.{page_limit}
use Rattle.page_types.specs.Pages.{IsPage}
use Rattle.page_types.specs.declared.page.Page.{Page}
use Rattle.page_types.specs.declared.page.Head.{Head}
use Rattle.page_types.specs.declared.page.Row.{Row}
use Rattle.page_types.specs.declared.page.Body.TheVariants as body
use Rattle.page_types.specs.declared.page.Gone.{Gone}
use Rattle.page_types.specs.declared.page.Gone.TheVariants as gone
use Rattle.page_types.specs.declared.record.Kind.TheVariants as kind
use Rattle.core_state.specs.Log.{In}
use Rattle.core_state.specs.Documents.{slot_of}
use Rattle.core_state.specs.Allowed.{Sheet, Step}
use Rattle.core_state.specs.Steps.{sheet}
use Rattle.buffer_frames.specs.Frames.{FramesValue}
use Rattle.buffer_frames.specs.declared.pass.Pass.{Pass}
use Rattle.doc_heap.specs.HeapPages.{head_on, ChangesSlot}
use Rattle.doc_heap.specs.Leaving.{first_of, with_first, FreesItems}
use Rattle.doc_heap.specs.declared.leaving.Chain.{Chain}
use Rattle.doc_heap.specs.declared.leaving.Chain.TheVariants as chain
use Rattle.gin_place.specs.Holding.{ReadsOn}
use Rattle.gin_vacuum.specs.Inner.Logging.{LogsStep}
use Rattle.gin_vacuum.specs.declared.freeing.Chained.{Chained}

-- the head in the item's slot on the page has a chain, the first page of which is this
pub record IsChained (c : Page) (found : Chained) : Type 0 where
  pub head : Head
  pub at : head_on c (slot_of found.item) ≡ Some head
  pub serial : head.serial ≡ found.serial
  pub first : first_of found.chain head ≡ found.page
  pub some : found.page ≢ 0

-- the head in the item's slot, if there is one, has no chain
abbrev pub HasNoChain : Page → ℕ → Type 0
HasNoChain c item = (h : Head) → head_on c (slot_of item) ≡ Some h → (h.overflow ≡ 0) × (h.private ≡ 0)

-- the slot of each of the items is free
abbrev pub AreFree : Page → List ℕ → Type 0
AreFree c items = (i : ℕ) → In i items → head_on c (slot_of i) ≡ None

-- what a page of such a chain keeps as it is deleted
abbrev pub KeepsAs : Chain → Page → Gone → Type 0
KeepsAs chain.Overflow c g = (bytes : List ℕ) × (c.body ≡ body.Overflow bytes) × (g ≡ gone.Overflow bytes)
KeepsAs chain.Private c g = (rows : List Row) × (c.body ≡ body.Pending rows) × (g ≡ gone.Pending rows)

-- the page, deleted
pub record IsDeletedOf (of : Chain) (old new : Page) : Type 0 where
  pub content : Gone
  pub keeps : KeepsAs of old content
  pub same : new ≡ record old { body = body.Deleted content }

-- the step by which the first page of a chain goes
pub record IsDropStep (heap page : Sheet) (found : Chained) (s : Step) : Type 0 where
  pub heap_then : Page
  pub deleted : Page
  pub kind_is : s.kind ≡ kind.DropPage found.item found.serial
  pub xid : s.xid ≡ 0
  pub after_is : s.after ≡ sheet heap.page heap_then ∷ sheet page.page deleted ∷ []
  pub changes : (h : Head) → head_on heap.content (slot_of found.item) ≡ Some h
      → ChangesSlot heap.content (slot_of found.item) (Some (with_first found.chain page.content.right h)) heap_then
  pub deleted_is : IsDeletedOf found.chain page.content deleted
  pub pages : IsPage heap_then × IsPage deleted
  pub low : (heap.page < page_limit) × (page.page < page_limit)

-- the step by which the slots of items become free, one at least
pub record IsFreeStep (heap : Sheet) (items : List ℕ) (s : Step) : Type 0 where
  pub new : Page
  pub kind_is : s.kind ≡ kind.FreeSlots
  pub xid : s.xid ≡ 0
  pub after_is : s.after ≡ sheet heap.page new ∷ []
  pub frees : FreesItems heap.content items new
  pub some : new ≢ heap.content
  pub page : IsPage new
  pub low : heap.page < page_limit

module _ {D : Type 0} (device : Disk D) (f : FramesValue D) (pass : Pass) (heap : Sheet) (f' : FramesValue D)
    (pass' : Pass) where
  -- the first page of a chain was held, and is gone
  pub record LogsDrop (found : Chained) : Type 0 where
    pub frames_held : FramesValue D
    pub pass_held : Pass
    pub reads : ReadsOn device f pass frames_held pass_held
    pub page : Sheet
    pub step : Step
    pub is_step : IsDropStep heap page found step
    pub logged : LogsStep device frames_held pass_held (page ∷ heap ∷ []) step f' pass'

  -- the slots of items were free, or became so
  abbrev pub LogsFree : List ℕ → Type 0
  LogsFree items =
      (ReadsOn device f pass f' pass' × AreFree heap.content items)
      ⊎ ((step : Step) × IsFreeStep heap items step × LogsStep device f pass (heap ∷ []) step f' pass')
