-- The pairs of the index: linked rows, entries, posting trees. No bound and no order of a tree
-- enters.
use Rattle.std.specs.Prelude.{◌≡◌, ◌⊎◌, ℕ, List, [], map}
use Rattle.std.specs.List.{flat_map}
use Rattle.ts_base.specs.Vectors.{Vector}
use Rattle.ts_base.specs.Keys.{Key, keys_of}
use Rattle.page_types.specs.Items.{items_of}
use Rattle.page_types.specs.Views.{rows_of, entries_of, first_of, posting_items_in}
use Rattle.page_types.specs.declared.page.Row.{Row}
use Rattle.page_types.specs.declared.page.Entry.{Entry}
use Rattle.page_types.specs.declared.page.EntryChild.{EntryChild}
use Rattle.page_types.specs.declared.page.PostChild.{PostChild}
use Rattle.page_types.specs.declared.page.Postings.TheVariants.{Inline, Root}
use Rattle.page_types.specs.declared.page.Body.{Body}
use Rattle.page_types.specs.declared.page.Body.TheVariants.{EntryInner, PostInner}
use Rattle.core_state.specs.Log.{Pages, In}
use Rattle.core_state.specs.Documents.{Doc, IsChain, HasVector}

-- these are the pages of the pending list: from the metapage's first along right links
abbrev pub Line : Pages → List ℕ → Type 0
Line P qs = IsChain P (first_of (P 0)) qs

-- the rows that are on these pages, in order
abbrev pub rows_on : Pages → List ℕ → List Row
rows_on P qs = flat_map (λ (q : ℕ). rows_of (P q)) qs

-- all keys of rows, in order
abbrev pub keys_on : List Row → List Key
keys_on rows = flat_map (λ (w : Row). w.keys) rows

-- a row among these has the item and the key
abbrev pub InRows : List Row → Key → ℕ → Type 0
InRows rows k i = (w : Row) × In w rows × (w.item ≡ i) × In k w.keys

-- a row is linked: it is on a page of the pending list
pub record IsLinked (P : Pages) (row : Row) : Type 0 where
  pub line : List ℕ
  pub is_line : Line P line
  pub page : ℕ
  pub on : In page line
  pub there : In row (rows_of (P page))

-- the pair of this key and item is in the pending list: a linked row has both
pub record Pending (P : Pages) (k : Key) (i : ℕ) : Type 0 where
  pub row : Row
  pub linked : IsLinked P row
  pub item : row.item ≡ i
  pub key : In k row.keys

-- a linked row has the item
pub record HasRow (P : Pages) (i : ℕ) : Type 0 where
  pub row : Row
  pub linked : IsLinked P row
  pub item : row.item ≡ i

-- the pages that an inner page names as children
abbrev pub children_in : Body → List ℕ
children_in (EntryInner children) = map (λ (c : EntryChild). c.page) children
children_in (PostInner children) = map (λ (c : PostChild). c.page) children
children_in _ = []

-- page q is r, or a child of a page below r
pub data Below (P : Pages) (r : ℕ) : ℕ → Type 0 where
  root : Below P r r
  child : {p q : ℕ} → Below P r p → In q (children_in (P p).body) → Below P r q

-- what is under an entry: its inline items, or those of the posting leaves below its root
pub data Under (P : Pages) (e : Entry) (i : ℕ) : Type 0 where
  inline : (bytes : List ℕ) → e.postings ≡ Inline bytes → In i (items_of bytes) → Under P e i
  posted : (r q : ℕ) → e.postings ≡ Root r → Below P r q → In i (posting_items_in (P q).body)
      → Under P e i

-- the pair of this key and item is in the main part: an entry of some entry leaf has it
pub record Main (P : Pages) (k : Key) (i : ℕ) : Type 0 where
  pub page : ℕ
  pub entry : Entry
  pub on : In entry (entries_of (P page))
  pub key : entry.key ≡ k
  pub under : Under P entry i

-- no linked row and no posting has the item
pub record NoPair (P : Pages) (i : ℕ) : Type 0 where
  pub no_row : HasRow P i → ⊥
  pub no_posting : (k : Key) → Main P k i → ⊥

-- all keys of the vector are in the pending list with this item
abbrev pub AllPending : Pages → ℕ → Vector → Type 0
AllPending P i v = (k : Key) → In k (keys_of v) → Pending P k i

-- all keys of the vector are in the main part with this item
abbrev pub AllMain : Pages → ℕ → Vector → Type 0
AllMain P i v = (k : Key) → In k (keys_of v) → Main P k i

-- the document is whole, and all its keys are in the pending list, or all are in the main part
pub record IsIndexed (P : Pages) (d : Doc) : Type 0 where
  pub vector : Vector
  pub whole : HasVector P d vector
  pub there : AllPending P d.item vector ⊎ AllMain P d.item vector

-- an entry of some entry leaf names this posting tree
pub record IsNamed (P : Pages) (k : Key) (root : ℕ) : Type 0 where
  pub page : ℕ
  pub entry : Entry
  pub on : In entry (entries_of (P page))
  pub key : entry.key ≡ k
  pub names : entry.postings ≡ Root root
