-- The laws over walks that are open, and over the items that a walk keeps.
use Rattle.std.specs.Prelude.{◌≡◌, ◌≢◌, ◌⊎◌, ℕ, ◌≤◌, ◌<◌, List, [], ◌∷◌, length, Option}
use Rattle.ts_base.specs.Keys.{Key}
use Rattle.page_types.specs.Views.{entries_of, first_of, kept_rows_of}
use Rattle.page_types.specs.declared.page.Page.{Page}
use Rattle.page_types.specs.declared.page.Head.{Head}
use Rattle.page_types.specs.declared.page.Row.{Row}
use Rattle.page_types.specs.declared.page.Entry.{Entry}
use Rattle.page_types.specs.declared.page.EntryChild.{EntryChild}
use Rattle.page_types.specs.declared.page.PostChild.{PostChild}
use Rattle.page_types.specs.declared.page.Postings.TheVariants.{Root}
use Rattle.page_types.specs.declared.page.Body.TheVariants as body
use Rattle.page_types.specs.declared.page.Gone.TheVariants as gone
use Rattle.core_state.specs.Documents.{page_of}
use Rattle.core_state.specs.Legal.{IsLegal, Pin, Keeps}
use Rattle.core_state.specs.Log.{Log, Pages, In, Shows, cut}
use Rattle.core_state.specs.Readings.{Read, AreReads}
use Rattle.gin_opclass.specs.Class.{Meaning}
use Rattle.core_moments.specs.Walk.{Walk, KeyWalk, Sought, IsWalk, toward, along, rightward, reads_of}
use Rattle.core_moments.specs.OpenWalk.{LeadOn, IsAmongLeaves, WayLeads, last_length}
use Rattle.core_moments.specs.Judging.{IsKept}
use Rattle.core_moments.specs.Law.{ReadOnce, path_of}

-- ── pages of the index and of the heap ──

-- a page of the pending list, or one that was deleted with its rows
abbrev pub IsRowPage : Page → Type 0
IsRowPage c = (rows : List Row) × ((c.body ≡ body.Pending rows) ⊎ (c.body ≡ body.Deleted (gone.Pending rows)))

-- a leaf of the entry tree
abbrev pub IsLeaf : Page → Type 0
IsLeaf c = (high : Key) × (es : List Entry) × (c.body ≡ body.EntryLeaf high es)

-- such a leaf, or a page above, which leads on towards the leaf of each key
abbrev pub IsOfTree : Page → Type 0
IsOfTree c =
    IsLeaf c ⊎ ((cs : List EntryChild) × (c.body ≡ body.EntryInner cs) × ((k : Key) → toward k c ≢ 0))

abbrev pub IsHeapPage : Page → Type 0
IsHeapPage c = (slots : List (Option Head)) × (c.body ≡ body.Heap slots)

-- a page of a posting tree, or a leaf that was deleted
abbrev pub IsPostingPage : Page → Type 0
IsPostingPage c =
    ((high : ℕ) × (items : List ℕ)
    × ((c.body ≡ body.PostLeaf high items) ⊎ (c.body ≡ body.Deleted (gone.PostLeaf high items))))
    ⊎ ((cs : List PostChild) × (c.body ≡ body.PostInner cs))

-- all used pages are below this number
abbrev pub AreAllBelow : Pages → ℕ → Type 0
AreAllBelow P n = (p : ℕ) → (P p).body ≢ body.Free → p < n

-- ── through the entry tree ──

-- What holds of a walk through the entry tree, from a length of the log on, that leads to page q. No page was read
-- twice, and q wasn't read. From when they were read or named on, while there is a record, these are pages of the tree,
-- and q is a leaf where leaves were read before it. So fewer were read than there are pages.
pub record OpenWay (R : Log) (from : ℕ) (Is : ℕ → List Read → Type 0) (k : KeyWalk) (q : ℕ) : Type 0 where
  pub once : ReadOnce (path_of k)
  pub next_new : q ≢ 0 → (x : Read) → In x (path_of k) → x.page ≢ q
  pub next_is : q ≢ 0 → (t : ℕ) (P : Pages) → last_length from (path_of k) ≤ t → 1 ≤ t → t ≤ length R
      → Shows (cut t R) P → IsOfTree (P q)
  pub next_leaf : IsAmongLeaves Is k q → q ≢ 0 → (t : ℕ) (P : Pages) → last_length from (path_of k) ≤ t → 1 ≤ t
      → t ≤ length R → Shows (cut t R) P → IsLeaf (P q)
  pub stay : (x : Read) → In x (path_of k) → (t : ℕ) (P : Pages) → x.length ≤ t → 1 ≤ t → t ≤ length R
      → Shows (cut t R) P → IsOfTree (P x.page)
  pub fewer : R ≢ [] → (P : Pages) (n : ℕ) → Shows R P → AreAllBelow P n → length (path_of k) < n

-- it holds of each such walk whose pages were read since a pin, where the reads of posting trees are so
abbrev pub WaysAreOpen : (ℕ → List Read → Type 0) → Type 0
WaysAreOpen Is =
    (R : Log) (pin : Pin) (k : KeyWalk) (q : ℕ) → IsLegal R → Keeps R pin → WayLeads Is k q
    → AreReads R pin.length (path_of k) → OpenWay R pin.length Is k q

-- ── through a posting tree ──

-- What holds of reads of a posting tree, after the leaf that names it, which lead to page q: likewise. A page of the
-- tree stays one, or is a leaf that was deleted.
pub record OpenTree (R : Log) (leaf : Read) (t : List Read) (q : ℕ) : Type 0 where
  pub once : ReadOnce t
  pub next_new : q ≢ 0 → (x : Read) → In x t → x.page ≢ q
  pub next_is : q ≢ 0 → (n : ℕ) (P : Pages) → last_length leaf.length t ≤ n → n ≤ length R → Shows (cut n R) P
      → IsPostingPage (P q)
  pub stay : (x : Read) → In x t → (n : ℕ) (P : Pages) → x.length ≤ n → n ≤ length R → Shows (cut n R) P
      → IsPostingPage (P x.page)
  pub fewer : (P : Pages) (n : ℕ) → Shows R P → AreAllBelow P n → length t < n

-- it holds of each tree that an entry named which was read since a pin
abbrev pub TreesAreOpen : Type 0
TreesAreOpen =
    (R : Log) (pin : Pin) (leaf : Read) (e : Entry) (r : ℕ) (t : List Read) (q : ℕ) → IsLegal R → Keeps R pin
    → In e (entries_of leaf.content) → e.postings ≡ Root r → LeadOn along r t q → AreReads R pin.length (leaf ∷ t)
    → OpenTree R leaf t q

-- ── along the pending list ──

-- What holds of a walk along the pending list, from the metapage on, that leads to page q: likewise. A page of the list
-- stays one, or is deleted with its rows; and the pages of the rows' items are heap pages.
pub record OpenList (R : Log) (meta : Read) (pending : List Read) (q : ℕ) : Type 0 where
  pub once : ReadOnce pending
  pub next_new : q ≢ 0 → (x : Read) → In x pending → x.page ≢ q
  pub next_is : q ≢ 0 → (t : ℕ) (P : Pages) → last_length meta.length pending ≤ t → t ≤ length R → Shows (cut t R) P
      → IsRowPage (P q)
  pub stay : (x : Read) → In x pending → (t : ℕ) (P : Pages) → x.length ≤ t → t ≤ length R → Shows (cut t R) P
      → IsRowPage (P x.page)
  pub fewer : q ≢ 0 → (P : Pages) (n : ℕ) → Shows R P → AreAllBelow P n → length pending < n
  pub rows : (x : Read) → In x pending → (w : Row) → In w (kept_rows_of x.content) → (P : Pages) → Shows R P
      → IsHeapPage (P (page_of w.item))

abbrev pub ListsAreOpen : Type 0
ListsAreOpen =
    (R : Log) (pin : Pin) (meta : Read) (pending : List Read) (q : ℕ) → IsLegal R → Keeps R pin → meta.page ≡ 0
    → LeadOn rightward (first_of meta.content) pending q → AreReads R pin.length (meta ∷ pending)
    → OpenList R meta pending q

-- ── what a walk keeps ──

-- the page of each item that a walk from a pin keeps is a heap page
abbrev pub KeptLie : {Q : Type 0} → Meaning Q → Type 0
KeptLie {Q} M =
    (R : Log) (pin : Pin) (q : Q) (sought : List Sought) (w : Walk) (i : ℕ) (P : Pages) → IsLegal R → Keeps R pin
    → IsWalk sought w → AreReads R pin.length (reads_of w) → IsKept M q w i → Shows R P → IsHeapPage (P (page_of i))
