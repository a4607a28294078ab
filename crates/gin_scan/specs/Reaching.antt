-- How a scan comes to the pages that it reads, by pages as they lie in memory.
use Rattle.std.specs.Prelude.{◌≡◌, ◌≢◌, ℕ, ◌-◌, ◌<◌, ◌≤◌, ⊤, false, List, [], ◌∷◌, map, Some}
use Rattle.std.specs.List.{slice_get, flat_map}
use Rattle.page_types.specs.Numbers.{most_short}
use Rattle.page_types.specs.Pages.{IsPage}
use Rattle.page_types.specs.Views.{first_of}
use Rattle.page_types.specs.declared.page.Page.{Page}
use Rattle.page_types.specs.declared.page.Head.{Head}
use Rattle.core_state.specs.Log.{In}
use Rattle.core_state.specs.Documents.{page_of, slot_of}
use Rattle.core_state.specs.Readings.{Read}
use Rattle.doc_heap.specs.HeapPages.{head_on}
use Rattle.gin_opclass.specs.Class.{Meaning}
use Rattle.core_moments.specs.Walk.{Walk, KeyWalk, LeafRead, Sought, tree_reads}
use Rattle.core_moments.specs.Law.{AreSought}
use Rattle.core_moments.specs.Judging.{IsKept}
use Rattle.buffer_frames.specs.Frames.{FramesValue, Lies}
use Rattle.gin_hits.specs.Sides.{AreKept}
use Rattle.gin_scan.specs.Causes.{HasMeta, HasRows, HasWay, HasSlots, HasPart, CannotUse}
use Rattle.gin_scan.specs.Ways.{IsGoingDown, IsGoingAlong, IsGoingInTrees}
use Rattle.core_moments.specs.OpenLaws.{IsLeaf, IsPostingPage}
use Rattle.core_moments.specs.OpenWalk.{NamedTree, ReadsInTree, IsOnWay, IsAmongLeaves, IsInTrees, WayLeads}
use Rattle.gin_scan.specs.Reading.{LeadOn, IsUnread, ReadsListBy, ReadsKeysBy}
use Rattle.gin_scan.specs.Scanning.{sought_in, trees_from}
use Rattle.gin_scan.specs.declared.scan_core.ScanCore.{ScanCore}
use Rattle.gin_scan.specs.declared.stage.Stage.{Stage}
use Rattle.gin_scan.specs.declared.stage.Stage.TheVariants as stage
use Rattle.gin_scan.specs.declared.stage.LongVector.{LongVector}

-- a walk was read to some page, or to its end, and so was each posting tree of its leaves
abbrev pub LeadsSomewhere : KeyWalk → Type 0
LeadsSomewhere k = (p : ℕ) × WayLeads ReadsInTree k p

-- the pages of posting trees that it has read
abbrev pub posting_reads : KeyWalk → List Read
posting_reads k = flat_map (λ (l : LeafRead). tree_reads l.trees) k.leaves

module _ {D : Type 0} (f : FramesValue D) where
  -- these pages lie there as they were read, and are of this kind
  abbrev pub AreLying : (Page → Type 0) → List Read → Type 0
  AreLying Is [] = ⊤
  AreLying Is (x ∷ xs) = (IsPage x.content × Lies f x.page x.content × Is x.content) × AreLying Is xs

  -- so do the metapage and pages of the list
  abbrev pub ListLies : List Read → Type 0
  ListLies [] = ⊤
  ListLies (x ∷ xs) = (IsPage x.content × Lies f x.page x.content × HasMeta x.content) × AreLying HasRows xs

  -- from the metapage right links lead along these pages of the list to this one, or to 0
  pub record ListLeads (w : Walk) (p : ℕ) : Type 0 where
    pub meta_page : w.meta.page ≡ 0
    pub leads : LeadOn (first_of w.meta.content) w.pending p
    pub lie : ListLies (w.meta ∷ w.pending)

  -- the pages of a walk through the tree lie there
  pub record WayLies (k : KeyWalk) : Type 0 where
    pub down : AreLying (HasWay k.sought) k.down
    pub leaves : AreLying IsLeaf (map (λ (l : LeafRead). l.leaf) k.leaves)
    pub postings : AreLying IsPostingPage (posting_reads k)

  abbrev pub WaysLie : List KeyWalk → Type 0
  WaysLie ks = (k : KeyWalk) → In k ks → WayLies k

  -- so do those of a walk through the list, which leads to some page of it or to its end, and through the tree
  pub record WalkLies (w : Walk) : Type 0 where
    pub list : ListLies (w.meta ∷ w.pending)
    pub leads : (p : ℕ) × LeadOn (first_of w.meta.content) w.pending p
    pub ways : WaysLie w.keys

  -- What was read of the list leads to this page, and each walk through the tree to some page; all lie there.
  pub record WalkLeads (sought : List Sought) (w : Walk) (p : ℕ) : Type 0 where
    pub list : ListLeads w p
    pub ways : WaysLie w.keys
    pub each : (k : KeyWalk) → In k w.keys → In k.sought sought × LeadsSomewhere k

  -- the head of an item, on its heap page, leads to this first page of a long vector
  pub record HeadLeads (item first : ℕ) : Type 0 where
    pub content : Page
    pub is_page : IsPage content
    pub lies : Lies f (page_of item) content
    pub head : Head
    pub at : head_on content (slot_of item) ≡ Some head
    pub long : most_short < head.bytes
    pub first_is : head.overflow ≡ first

  -- from a first page right links lead along pages with parts to this one, or to 0
  pub record PartsLead (first p : ℕ) : Type 0 where
    pub parts : List Read
    pub leads : LeadOn first parts p
    pub lie : AreLying HasPart parts

module _ {D Q : Type 0} (M : Meaning Q) (q : Q) (f : FramesValue D) where
  -- the kept items are those that a walk keeps, of the list and the tree as they lie there
  pub record HasMet (s : ScanCore) : Type 0 where
    pub walk : Walk
    pub page : ℕ
    pub leads : WalkLeads f (sought_in s) walk page
    pub kept : AreKept M q walk s.kept.items

  -- how the page is reached that is next on a walk through the tree
  abbrev pub IsOnTree : ScanCore → ℕ → ℕ → (Sought → List KeyWalk → Type 0) → Type 0
  IsOnTree s key left Open = ReadsKeysBy (WalkLies f) LeadsSomewhere (M.asked q) (sought_in s) s key left Open

  -- the vectors that wait are those of kept items without a yes, by their heads
  abbrev pub HasMetLong : ScanCore → Type 0
  HasMetLong s =
      (l : LongVector) → In l s.long.items
      → (item : ℕ) × In (item, false) s.kept.items × HeadLeads f item l.first

  -- how the page is reached that is read next
  abbrev pub IsReached : ScanCore → Stage → Type 0
  IsReached s stage.Meta = IsUnread s
  IsReached s (stage.Pending page left) = ReadsListBy (ListLies f) (M.asked q) s page left
  IsReached s (stage.Down key page left) = IsOnTree s key left (IsGoingDown page)
  IsReached s (stage.Leaf key page left) = IsOnTree s key left (IsGoingAlong ReadsInTree page)
  IsReached s (stage.Posting key at page left next read) =
      (read ≤ s.extent)
      × IsOnTree s key (s.extent - read) (IsGoingInTrees ReadsInTree page left s.extent (trees_from at s) next)
  IsReached s (stage.Heads at) = HasMet s × HasMetLong s
  IsReached s (stage.Parts at page left) =
      HasMet s × HasMetLong s
      × ((l : LongVector) → slice_get s.long.items at ≡ Some l → PartsLead f l.first page)
  IsReached s stage.Done = ⊤

  -- A page that a search for the query has to read, and that is none or not what it has to be: the metapage; a
  -- page above 0 that the list leads to; one above 0 that the tree leads to, on the way of a key or of all, or that a
  -- posting tree leads to which an entry on such a way names; the heap page of an item that these keep; a page above 0
  -- that the long vector of such an item leads to.
  pub data IsBadOnPath (p : ℕ) : Type 0 where
    meta : p ≡ 0 → CannotUse f HasMeta p → IsBadOnPath p
    rows : (w : Walk) → ListLeads f w p → p ≢ 0 → CannotUse f HasRows p → IsBadOnPath p
    way : (sought : List Sought) (k : KeyWalk) → AreSought M q sought → In k.sought sought → WayLies f k
        → IsOnWay k p → CannotUse f (HasWay k.sought) p → IsBadOnPath p
    leaf : (sought : List Sought) (k : KeyWalk) → AreSought M q sought → In k.sought sought → WayLies f k
        → IsAmongLeaves ReadsInTree k p → p ≢ 0 → CannotUse f IsLeaf p → IsBadOnPath p
    posting : (sought : List Sought) (k : KeyWalk) (rest : List NamedTree) (next : ℕ) → AreSought M q sought
        → In k.sought sought → WayLies f k → IsInTrees ReadsInTree k p rest next → p ≢ 0
        → CannotUse f IsPostingPage p → IsBadOnPath p
    heap : (sought : List Sought) (w : Walk) (last item : ℕ) → AreSought M q sought → WalkLeads f sought w last
        → IsKept M q w item → page_of item ≡ p → CannotUse f HasSlots p → IsBadOnPath p
    part : (sought : List Sought) (w : Walk) (last item first : ℕ) → AreSought M q sought
        → WalkLeads f sought w last → IsKept M q w item → HeadLeads f item first → PartsLead f first p → p ≢ 0
        → CannotUse f HasPart p → IsBadOnPath p
