-- What the pages of a legal log say of each other: the pending list, which kind is where, the
-- bounds of trees, and the stamps.
use Rattle.std.specs.Prelude.{◌≡◌, ◌≢◌, ◌⊎◌, ◌↔◌, ℕ, ◌==◌, cond, List, [], ◌∷◌, ◌++◌, length, Option}
use Rattle.ts_base.specs.Vectors.{Vector}
use Rattle.ts_base.specs.Keys.{Key}
use Rattle.page_types.specs.Numbers.{no_bound}
use Rattle.page_types.specs.Views.{entries_of, posting_items_in}
use Rattle.page_types.specs.declared.page.Head.{Head}
use Rattle.page_types.specs.declared.page.Row.{Row}
use Rattle.page_types.specs.declared.page.Entry.{Entry}
use Rattle.page_types.specs.declared.page.EntryChild.{EntryChild}
use Rattle.page_types.specs.declared.page.PostChild.{PostChild}
use Rattle.page_types.specs.declared.page.Gone.{Gone}
use Rattle.page_types.specs.declared.page.Body.{Body}
use Rattle.page_types.specs.declared.page.Body.TheVariants as body
use Rattle.page_types.specs.declared.record.Record.{Record}
use Rattle.core_state.specs.Log.{Log, Pages, In, Shows, changed}
use Rattle.core_state.specs.Documents.{Doc, HasVector, page_of, placed}
use Rattle.core_state.specs.Index.{Line, HasRow, AllPending, IsIndexed, Below, rows_on}
use Rattle.core_state.specs.Changes.{UpTo, ItemUpTo}
use Rattle.core_state.specs.TreeRules.{IsRoot}
use Rattle.core_state.specs.Bullets.{PagePlace, StandsIn}
use Rattle.core_state.specs.Bullets.PagePlace.{meta, heap, entry_tree, posting_tree, overflow_of, private_of, line}
use Rattle.core_state.specs.Legal.{IsLegal}

-- the last page of a list, 0 where it is empty
pub data IsLastOf : List ℕ → ℕ → Type 0 where
  none : IsLastOf [] 0
  some : (front : List ℕ) (last : ℕ) → IsLastOf (front ++ last ∷ []) last

-- a row on one of these pages has the item
abbrev pub HasRowOn : Pages → List ℕ → ℕ → Type 0
HasRowOn P qs i = (w : Row) × In w (rows_on P qs) × (w.item ≡ i)

-- the first row on these pages has the item
abbrev pub StartsWith : Pages → List ℕ → ℕ → Type 0
StartsWith P qs i = (w : Row) × (rest : List Row) × (rows_on P qs ≡ w ∷ rest) × (w.item ≡ i)

-- the document of the item is whole, and all its keys are in the pending list
abbrev pub IsAllPending : Pages → ℕ → Type 0
IsAllPending P i = (d : Doc) × (v : Vector) × (d.item ≡ i) × HasVector P d v × AllPending P i v

-- The metapage names the last page of the pending list and the number of its pages. Each is a page of
-- rows with a row. A document with rows on one of them and further on is that of the first row of the
-- next. A document with a row, but for that of the list's first row, has all its keys in the list;
-- each is whole and indexed.
pub record ListStands (R : Log) (P : Pages) : Type 0 where
  pub pages : List ℕ
  pub is_line : Line P pages
  pub meta : R ≢ []
      → (first last : ℕ) × ((P 0).body ≡ body.Meta first last (length pages)) × IsLastOf pages last
  pub some_row : (p : ℕ) → In p pages
      → (w : Row) × (rest : List Row) × ((P p).body ≡ body.Pending (w ∷ rest))
  pub together : (front back : List ℕ) (p i : ℕ) → pages ≡ front ++ p ∷ back
      → HasRowOn P (p ∷ []) i → HasRowOn P back i → StartsWith P back i
  pub complete : (i : ℕ) → HasRow P i → StartsWith P pages i ⊎ IsAllPending P i
  pub indexed : (i : ℕ) → HasRow P i → (d : Doc) × (d.item ≡ i) × IsIndexed P d

-- what is in a place
abbrev pub IsOfPlace : PagePlace → Body → Type 0
IsOfPlace meta b = (first last count : ℕ) × (b ≡ body.Meta first last count)
IsOfPlace heap b = (slots : List (Option Head)) × (b ≡ body.Heap slots)
IsOfPlace entry_tree b =
    ((high : Key) × (es : List Entry) × (b ≡ body.EntryLeaf high es))
    ⊎ ((cs : List EntryChild) × (b ≡ body.EntryInner cs))
IsOfPlace (posting_tree root) b =
    ((high : ℕ) × (items : List ℕ) × (b ≡ body.PostLeaf high items))
    ⊎ ((cs : List PostChild) × (b ≡ body.PostInner cs))
IsOfPlace (overflow_of item) b = (bytes : List ℕ) × (b ≡ body.Overflow bytes)
IsOfPlace (private_of item) b = (rows : List Row) × (b ≡ body.Pending rows)
IsOfPlace line b = (rows : List Row) × (b ≡ body.Pending rows)

-- the page is neither free nor deleted
pub record IsUsed (b : Body) : Type 0 where
  pub not_free : b ≢ body.Free
  pub not_deleted : (g : Gone) → b ≢ body.Deleted g

-- What is in a place is of its kind, and the page of each head that was placed is a heap page; and
-- each page that is neither free nor deleted is in a place.
pub record KindsStand (R : Log) (P : Pages) : Type 0 where
  pub kinds : R ≢ [] → (p : ℕ) (a : PagePlace) → StandsIn P p a → IsOfPlace a (P p).body
  pub heaps : (x : ℕ) (d : Doc) → In d (placed R x) → IsOfPlace heap (P (page_of d.item)).body
  pub places : (p : ℕ) → IsUsed (P p).body → (a : PagePlace) × StandsIn P p a

-- a page of the entry tree has this high key: that of a leaf, the last child's bound of an inner page
pub data HasHighKey : Body → Key → Type 0 where
  leaf : (high : Key) (es : List Entry) → HasHighKey (body.EntryLeaf high es) high
  inner : (front : List EntryChild) (last : EntryChild)
      → HasHighKey (body.EntryInner (front ++ last ∷ [])) last.bound

-- a page of a posting tree has this bound: a leaf its high item, or none where that is 0; an inner
-- page that of its last child
pub data HasHighItem : Body → ℕ → Type 0 where
  leaf : (high : ℕ) (items : List ℕ)
      → HasHighItem (body.PostLeaf high items) (cond (high == 0) no_bound high)
  inner : (front : List PostChild) (last : PostChild)
      → HasHighItem (body.PostInner (front ++ last ∷ [])) last.bound

-- The leaves of a tree, where `On p k` says that k is on leaf p, and `Up p k` that k may, by the
-- leaf's high key. Right links lead from leaf to leaf; one leaf is before each but the first. The
-- first has just what is up to its high key, and each other what is above that of the leaf before and
-- up to its own.
pub record LeavesInOrder {K : Type 0} (P : Pages) (IsLeaf : ℕ → Type 0)
    (On Up : ℕ → K → Type 0) : Type 0 where
  pub links : (p : ℕ) → IsLeaf p → (P p).right ≢ 0 → IsLeaf (P p).right
  pub first : ℕ
  pub is_first : IsLeaf first
  pub none_before : (p : ℕ) → IsLeaf p → (P p).right ≢ first
  pub before : (q : ℕ) → IsLeaf q → (q ≡ first) ⊎ ((p : ℕ) × IsLeaf p × ((P p).right ≡ q))
  pub one_before : (p q : ℕ) → IsLeaf p → IsLeaf q → (P p).right ≢ 0 → (P p).right ≡ (P q).right
      → p ≡ q
  pub on_first : (x : ℕ) (k : K) → IsLeaf x → On x k → (x ≡ first) ↔ Up first k
  pub on_next : (p x : ℕ) (k : K) → IsLeaf p → (P p).right ≢ 0 → IsLeaf x → On x k
      → (x ≡ (P p).right) ↔ ((Up p k → ⊥) × Up (P p).right k)

-- a leaf of the entry tree; the key is on it; it is up to the high key
abbrev pub IsEntryLeaf : Pages → ℕ → Type 0
IsEntryLeaf P p = (high : Key) × (es : List Entry) × ((P p).body ≡ body.EntryLeaf high es)

abbrev pub OnEntryLeaf : Pages → ℕ → Key → Type 0
OnEntryLeaf P p k = (e : Entry) × In e (entries_of (P p)) × (e.key ≡ k)

abbrev pub UpEntryLeaf : Pages → ℕ → Key → Type 0
UpEntryLeaf P p k =
    (high : Key) × (es : List Entry) × ((P p).body ≡ body.EntryLeaf high es) × UpTo k high

-- a leaf of the posting tree of this root; the item is on it; it is up to the high item
abbrev pub IsPostLeaf : Pages → ℕ → ℕ → Type 0
IsPostLeaf P root p =
    Below P root p
    × ((high : ℕ) × (items : List ℕ) × ((P p).body ≡ body.PostLeaf high items))

abbrev pub OnPostLeaf : Pages → ℕ → ℕ → Type 0
OnPostLeaf P p i = In i (posting_items_in (P p).body)

abbrev pub UpPostLeaf : Pages → ℕ → ℕ → Type 0
UpPostLeaf P p i =
    (high : ℕ) × (items : List ℕ) × ((P p).body ≡ body.PostLeaf high items) × ItemUpTo i high

-- A child's bound is its high key, or its high item; and the leaves of each tree are in order.
pub record BoundsStand (R : Log) (P : Pages) : Type 0 where
  pub keys : (p : ℕ) (cs : List EntryChild) (c : EntryChild) → (P p).body ≡ body.EntryInner cs
      → In c cs → HasHighKey (P c.page).body c.bound
  pub items : (p : ℕ) (cs : List PostChild) (c : PostChild) → (P p).body ≡ body.PostInner cs
      → In c cs → HasHighItem (P c.page).body c.bound
  pub entry_leaves : R ≢ [] → LeavesInOrder P (IsEntryLeaf P) (OnEntryLeaf P) (UpEntryLeaf P)
  pub post_leaves : (root : ℕ) → IsRoot P root → root ≢ 1
      → LeavesInOrder P (IsPostLeaf P root) (OnPostLeaf P) (UpPostLeaf P)

-- none of these records changes the page
abbrev pub NoneChanges : List Record → ℕ → Type 0
NoneChanges rs p = (r : Record) → In r rs → In p (changed r) → ⊥

-- n is the number of the last record that changes the page, 0 where none does
pub data IsLastChange (R : Log) (p : ℕ) : ℕ → Type 0 where
  none : NoneChanges R p → IsLastChange R p 0
  by : (later : List Record) (r : Record) (earlier : Log) → R ≡ later ++ r ∷ earlier
      → In p (changed r) → NoneChanges later p → IsLastChange R p r.number

-- a page's stamp is the number of the last record that changed it
abbrev pub StampsStand : Log → Pages → Type 0
StampsStand R P = (p : ℕ) → IsLastChange R p (P p).stamp

-- what holds of the pages of a legal log
pub record PagesTold (R : Log) (P : Pages) : Type 0 where
  pub list : ListStands R P
  pub kinds : KindsStand R P
  pub bounds : BoundsStand R P
  pub stamps : StampsStand R P

-- it holds in every legal log
abbrev pub PagesHold : Type 0
PagesHold = (R : Log) (P : Pages) → IsLegal R → Shows R P → PagesTold R P
