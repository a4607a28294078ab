-- The place of a page says its kind, and its kind its place; the first pages, the pending list and
-- the chains of documents.
use Rattle.std.specs.Prelude.{◌≡◌, ◌≢◌, ◌↔◌, ℕ, zero, suc, ◌<◌, ◌≤◌, List, [], ◌∷◌, length, Option}
use Rattle.ts_base.specs.Keys.{Key}
use Rattle.page_types.specs.Views.{free_page, rows_of}
use Rattle.page_types.specs.declared.page.Page.{Page}
use Rattle.page_types.specs.declared.page.Head.{Head}
use Rattle.page_types.specs.declared.page.Row.{Row}
use Rattle.page_types.specs.declared.page.Entry.{Entry}
use Rattle.page_types.specs.declared.page.EntryChild.{EntryChild}
use Rattle.page_types.specs.declared.page.PostChild.{PostChild}
use Rattle.page_types.specs.declared.page.Gone.{Gone}
use Rattle.page_types.specs.declared.page.Gone.TheVariants as gone
use Rattle.page_types.specs.declared.page.Body.TheVariants as body
use Rattle.core_state.specs.Log.{Log, Pages, In}
use Rattle.core_state.specs.Index.{Line}
use Rattle.core_state.specs.Inner.ItemChains.{Chains}
use Rattle.core_state.specs.Inner.Ghosts.{Place, Ghost}
use Rattle.core_state.specs.Inner.Ghosts.Place.{unused, meta, heap, line, past, shifted, left, entry, post}
use Rattle.core_state.specs.Inner.Ghosts.Place.{overflow_of, private_of}

-- the page has the kind of this place; what was deleted since L has a stamp above it
abbrev pub Fits : ℕ → Place → Page → Type 0
Fits L unused p = p ≡ free_page
Fits L meta p =
    (first : ℕ) × (last : ℕ) × (count : ℕ) × (p.body ≡ body.Meta first last count)
Fits L heap p = (slots : List (Option Head)) × (p.body ≡ body.Heap slots)
Fits L line p = (rows : List Row) × (p.body ≡ body.Pending rows)
Fits L past p = (x : Gone) × (p.body ≡ body.Deleted x)
Fits L shifted p =
    (rows : List Row) × (p.body ≡ body.Deleted (gone.Pending rows)) × (L < p.stamp)
Fits L (left r) p =
    (high : ℕ) × (p.body ≡ body.Deleted (gone.PostLeaf high [])) × (L < p.stamp)
Fits L (entry zero) p =
    (high : Key) × (entries : List Entry) × (p.body ≡ body.EntryLeaf high entries)
Fits L (entry (suc h)) p = (children : List EntryChild) × (p.body ≡ body.EntryInner children)
Fits L (post r zero) p =
    (high : ℕ) × (items : List ℕ) × (p.body ≡ body.PostLeaf high items)
Fits L (post r (suc h)) p = (children : List PostChild) × (p.body ≡ body.PostInner children)
Fits L (overflow_of i) p = (bytes : List ℕ) × (p.body ≡ body.Overflow bytes)
Fits L (private_of i) p = (rows : List Row) × (p.body ≡ body.Pending rows)

-- each page has the kind of its place
abbrev pub KindsFit : ℕ → Pages → Ghost → Type 0
KindsFit L P g = (p : ℕ) → Fits L (g.place p) (P p)

-- Where the log isn't empty the metapage is page 0 and the root of the entry tree page 1; pages
-- come into use from below; no stamp is above the last record's number.
pub record PagesStart (R : Log) (P : Pages) (g : Ghost) : Type 0 where
  pub page_0 : R ≢ [] → g.place 0 ≡ meta
  pub no_other : (p : ℕ) → g.place p ≡ meta → p ≡ 0
  pub page_1 : R ≢ [] → (h : ℕ) × (g.place 1 ≡ entry h)
  pub lower : (p q : ℕ) → q < p → g.place q ≡ unused → g.place p ≡ unused
  pub stamps : (p : ℕ) → (P p).stamp ≤ length R

-- the last page of a list, 0 where it is empty
abbrev pub last_of : List ℕ → ℕ
last_of [] = 0
last_of (p ∷ []) = p
last_of (p ∷ q ∷ qs) = last_of (q ∷ qs)

-- the pages of the pending list are those of the place `line`, each with a row; the metapage has the
-- last one and their number
pub record IsLined (R : Log) (P : Pages) (g : Ghost) : Type 0 where
  pub is_line : Line P g.line
  pub on : (p : ℕ) → In p g.line ↔ (g.place p ≡ line)
  pub some_row : (p : ℕ) → g.place p ≡ line → rows_of (P p) ≢ []
  pub counted : R ≢ []
      → (first : ℕ) × ((P 0).body ≡ body.Meta first (last_of g.line) (length g.line))

-- each head has its two chains, whose pages have the places of its item; the item of a free slot has
-- none
pub record AreChained (P : Pages) (g : Ghost) : Type 0 where
  pub overflow : Chains P (λ h. h.overflow) (λ i q. g.place q ≡ overflow_of i)
  pub private : Chains P (λ h. h.private) (λ i q. g.place q ≡ private_of i)
