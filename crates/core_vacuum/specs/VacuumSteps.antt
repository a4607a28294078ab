-- What a session with the right of maintenance shows before it takes dead documents out of the trees of
-- the index, and off their pages: facts of the log that it has seen, with the pages P of that log, and
-- the pages that it holds. Such a step is valid after each log that is allowed to it.
use Rattle.std.specs.Prelude.{◌≡◌, ◌≢◌, ℕ, List, [], ◌∷◌, ◌++◌, length, Option, Some, None}
use Rattle.page_types.specs.Views.{slot_at}
use Rattle.page_types.specs.declared.page.Page.{Page}
use Rattle.page_types.specs.declared.page.Head.{Head}
use Rattle.page_types.specs.declared.page.PostChild.{PostChild}
use Rattle.page_types.specs.declared.page.Gone.{Gone}
use Rattle.page_types.specs.declared.page.Body.TheVariants as body
use Rattle.page_types.specs.declared.page.Gone.TheVariants as gone
use Rattle.page_types.specs.declared.record.Kind.TheVariants as kind
use Rattle.core_state.specs.Log.{Pages, In}
use Rattle.core_state.specs.Documents.{Doc, page_of, item_at}
use Rattle.core_state.specs.TreeRules.{IsLeftLeaf}
use Rattle.core_state.specs.VacuumRules.{ListsLose, ItemGoes, MayLeave, IsDropped}
use Rattle.core_state.specs.Allowed.{Sheet, View, Step}
use Rattle.core_state.specs.Steps.{sheet, ChangesHead}
use Rattle.core_maintenance.specs.Right.{HasRight}
use Rattle.core_vacuum.specs.Leaving.{IsOut}

-- Items leave the lists of a leaf of either tree, at least one. The document of each is dead, and no
-- linked row has it.
pub record CanRemoveItems (v : View) (P : Pages) (s : Step) : Type 0 where
  pub page : ℕ
  pub removed : List ℕ
  pub old : Page
  pub new : Page
  pub kind_is : s.kind ≡ kind.RemoveItems
  pub after_is : s.after ≡ sheet page new ∷ []
  pub may : HasRight v
  pub held : In (sheet page old) v.held
  pub lists : ListsLose removed old.body new.body
  pub went : (i : ℕ) → In i removed → ItemGoes i old.body new.body
  pub some : new.body ≢ old.body
  pub leave : (i : ℕ) → In i removed → MayLeave v.seen P v.floor i
  pub right : new.right ≡ old.right

-- No leaf's right link is the page; or that of this leaf is, which is held, and becomes the page's.
pub data LinksOn (v : View) (P : Pages) (page to : ℕ) : List Sheet → Type 0 where
  none : ((q : ℕ) → IsLeftLeaf P q page → ⊥) → LinksOn v P page to []
  one : (q : ℕ) (old new : Page) (high : ℕ) (items : List ℕ) → In (sheet q old) v.held
      → old.body ≡ body.PostLeaf high items → old.right ≡ page → new.right ≡ to
      → new.body ≡ old.body → LinksOn v P page to (sheet q new ∷ [])

-- A leaf of a posting tree without items, not its parent's last child, is deleted: its parent loses it
-- with its bound, and the leaf before it, if any, leads on to the leaf after it.
pub record CanDeletePost (v : View) (P : Pages) (s : Step) : Type 0 where
  pub page : ℕ
  pub parent : ℕ
  pub high : ℕ
  pub bound : ℕ
  pub front : List PostChild
  pub next : PostChild
  pub back : List PostChild
  pub lefts : List Sheet
  pub old : Page
  pub old_parent : Page
  pub deleted : Page
  pub without : Page
  pub kind_is : s.kind ≡ kind.DeletePost
  pub after_is : s.after ≡ sheet page deleted ∷ (lefts ++ sheet parent without ∷ [])
  pub may : HasRight v
  pub held : In (sheet page old) v.held
  pub held_parent : In (sheet parent old_parent) v.held
  pub empty : old.body ≡ body.PostLeaf high []
  pub child : old_parent.body
      ≡ body.PostInner (front ++ record { page = page; bound = bound } ∷ next ∷ back)
  pub links : LinksOn v P page old.right lefts
  pub right : deleted.right ≡ old.right
  pub content : deleted.body ≡ body.Deleted (gone.PostLeaf high [])
  pub parent_right : without.right ≡ old_parent.right
  pub parent_content : without.body ≡ body.PostInner (front ++ next ∷ back)

-- The first page of a chain of a dead document, whose item is out of the index, is deleted; the head
-- goes on to the next.
pub record CanDropPage (v : View) (P : Pages) (s : Step) : Type 0 where
  pub doc : Doc
  pub head : Head
  pub head_then : Head
  pub page : ℕ
  pub content : Gone
  pub old : Page
  pub was : Page
  pub heap : Page
  pub dropped : Page
  pub kind_is : s.kind ≡ kind.DropPage doc.item doc.serial
  pub after_is : s.after ≡ sheet (page_of doc.item) heap ∷ sheet page dropped ∷ []
  pub may : HasRight v
  pub held : In (sheet (page_of doc.item) old) v.held
  pub held_page : In (sheet page was) v.held
  pub out : IsOut v.seen P v.floor doc.item
  pub not_none : page ≢ 0
  pub first : IsDropped head page was.right was.body content head_then
  pub head_after : ChangesHead doc old head head_then heap
  pub right : dropped.right ≡ was.right
  pub deleted : dropped.body ≡ body.Deleted content

-- the slot stays as it is, or becomes free: its document's chains are empty, and its item is out of the
-- index
pub data SlotGoes (v : View) (P : Pages) (item : ℕ) (old new : Option Head) : Type 0 where
  same : new ≡ old → SlotGoes v P item old new
  freed : (h : Head) → old ≡ Some h → new ≡ None → h.overflow ≡ 0 → h.private ≡ 0
      → IsOut v.seen P v.floor item → SlotGoes v P item old new

-- slots of a heap page become free, at least one
pub record CanFreeSlots (v : View) (P : Pages) (s : Step) : Type 0 where
  pub page : ℕ
  pub slots : List (Option Head)
  pub new_slots : List (Option Head)
  pub old : Page
  pub new : Page
  pub kind_is : s.kind ≡ kind.FreeSlots
  pub after_is : s.after ≡ sheet page new ∷ []
  pub may : HasRight v
  pub held : In (sheet page old) v.held
  pub was : old.body ≡ body.Heap slots
  pub same_length : length new_slots ≡ length slots
  pub each : (slot : ℕ)
      → SlotGoes v P (item_at page slot) (slot_at slots slot) (slot_at new_slots slot)
  pub some : new_slots ≢ slots
  pub right : new.right ≡ old.right
  pub content : new.body ≡ body.Heap new_slots
