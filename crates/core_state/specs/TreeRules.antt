-- When a record of the kinds 13 to 17 and 19 may come next: items come into the trees of the index,
-- which grow, split and lose empty leaves.
use Rattle.std.specs.Prelude.{◌≡◌, ◌≢◌, ◌⊎◌, ◌↔◌, ℕ, ◌*◌, ◌<◌, ◌≤◌, List, [], ◌∷◌, ◌++◌, length}
use Rattle.std.specs.List.{flat_map}
use Rattle.ts_base.specs.Keys.{Key}
use Rattle.page_types.specs.Numbers.{most_inline, most_body, no_bound}
use Rattle.page_types.specs.Items.{items_of, IsItemList}
use Rattle.page_types.specs.Keys.{KeyLess, Rising}
use Rattle.page_types.specs.Encoding.{body_bytes, count_of, entry_bytes, entry_child_bytes, post_child_bytes}
use Rattle.page_types.specs.declared.page.Page.{Page}
use Rattle.page_types.specs.declared.page.Entry.{Entry}
use Rattle.page_types.specs.declared.page.EntryChild.{EntryChild}
use Rattle.page_types.specs.declared.page.PostChild.{PostChild}
use Rattle.page_types.specs.declared.page.Postings.TheVariants.{Inline, Root}
use Rattle.page_types.specs.declared.page.Body.{Body}
use Rattle.page_types.specs.declared.page.Body.TheVariants as body
use Rattle.page_types.specs.declared.page.Gone.TheVariants as gone
use Rattle.page_types.specs.declared.record.Record.{Record}
use Rattle.page_types.specs.declared.record.Kind.TheVariants as kind
use Rattle.core_state.specs.Log.{Log, Pages, In, changed}
use Rattle.core_state.specs.Index.{Pending, IsNamed}
use Rattle.core_state.specs.Known.{Known}
use Rattle.core_state.specs.Changes.{Here, made_with, IsNew, KeyAtMost, UpTo, ItemUpTo}

-- from page p down to page q, where the key may be: each time to the first child whose bound
-- isn't below it
pub data Toward (P : Pages) (k : Key) : ℕ → ℕ → Type 0 where
  here : {p : ℕ} → Toward P k p p
  down : {p q : ℕ} (front back : List EntryChild) (c : EntryChild)
      → (P p).body ≡ body.EntryInner (front ++ c ∷ back)
      → ((b : EntryChild) → In b front → KeyLess b.bound k) → UpTo k c.bound → Toward P k c.page q
      → Toward P k p q

-- from page p down to page q, where the item may be
pub data TowardItem (P : Pages) (i : ℕ) : ℕ → ℕ → Type 0 where
  here : {p : ℕ} → TowardItem P i p p
  down : {p q : ℕ} (front back : List PostChild) (c : PostChild)
      → (P p).body ≡ body.PostInner (front ++ c ∷ back)
      → ((b : PostChild) → In b front → b.bound < i) → i ≤ c.bound → TowardItem P i c.page q
      → TowardItem P i p q

-- the list with these items added, of which at least one is new
pub record ItemsAdded (old new : List ℕ) (items : List ℕ) : Type 0 where
  pub rises : Rising (λ (i j : ℕ). i < j) (items_of new)
  pub just : (i : ℕ) → In i (items_of new) ↔ (In i (items_of old) ⊎ In i items)
  pub adds : (i : ℕ) × In i items × (In i (items_of old) → ⊥)

-- an entry with the key and this inline list is between these, or there is none and the list is
-- empty
abbrev pub IsEntryBetween : List Entry → List Entry → List Entry → Key → List ℕ → Type 0
IsEntryBetween entries front back key old =
    (entries ≡ front ++ record { key = key; postings = Inline old } ∷ back)
    ⊎ ((entries ≡ front ++ back) × (old ≡ []))

-- items are added under one key within the leaf's high key; the entry is made, at its place by key
-- order, where the key has none; the list fits
pub record IsAddItemsHere (k : Known) (r : Record) (before after : List Page) : Type 0 where
  pub page : ℕ
  pub key : Key
  pub items : List ℕ
  pub high : Key
  pub entries : List Entry
  pub front : List Entry
  pub back : List Entry
  pub old_list : List ℕ
  pub new_list : List ℕ
  pub old : Page
  pub kind_is : r.kind ≡ kind.AddItems
  pub pages : changed r ≡ page ∷ []
  pub within : UpTo key high
  pub before_is : before ≡ old ∷ []
  pub was : old.body ≡ body.EntryLeaf high entries
  pub entry : IsEntryBetween entries front back key old_list
  pub above : (e : Entry) → In e front → KeyLess e.key key
  pub below : (e : Entry) → In e back → KeyLess key e.key
  pub added : ItemsAdded old_list new_list items
  pub short : length new_list ≤ most_inline
  pub after_is : after
      ≡ made_with r old.right
      (body.EntryLeaf high (front ++ record { key = key; postings = Inline new_list } ∷ back))
      ∷ []

-- the way down for the key leads to this page, and each item has a linked row with the key
pub record IsAddItemsRest (P : Pages) (key : Key) (items : List ℕ) (page : ℕ) : Type 0 where
  pub place : Toward P key 1 page
  pub rows : (i : ℕ) → In i items → Pending P key i

-- 13 AddItems: its page, and what the way down and the rows say
pub record IsAddItems (R : Log) (P Q : Pages) (r : Record) : Type 0 where
  pub here : Here IsAddItemsHere R P Q r
  pub rest : IsAddItemsRest P here.key here.items here.page

-- the new posting leaf has exactly the inline items of an entry, which names it then
pub record IsMakeTreeHere (since : ℕ) (k : Known) (r : Record)
    (before after : List Page) : Type 0 where
  pub page : ℕ
  pub new : ℕ
  pub key : Key
  pub high : Key
  pub items : List ℕ
  pub front : List Entry
  pub back : List Entry
  pub old : Page
  pub was : Page
  pub kind_is : r.kind ≡ kind.MakeTree
  pub pages : changed r ≡ page ∷ new ∷ []
  pub is_new : IsNew k.uses since new
  pub before_is : before ≡ old ∷ was ∷ []
  pub inline : old.body
      ≡ body.EntryLeaf high (front ++ record { key = key; postings = Inline items } ∷ back)
  pub after_is : after
      ≡ made_with r old.right
      (body.EntryLeaf high (front ++ record { key = key; postings = Root new } ∷ back))
      ∷ made_with r 0 (body.PostLeaf 0 items) ∷ []

-- 14 MakeTree: nothing is asked beside that
pub record IsMakeTree (R : Log) (P Q : Pages) (r : Record) (since : ℕ) : Type 0 where
  pub here : Here (IsMakeTreeHere since) R P Q r

-- items within the leaf's high item are added to a posting leaf
pub record IsAddPostingsHere (k : Known) (r : Record) (before after : List Page) : Type 0 where
  pub page : ℕ
  pub items : List ℕ
  pub high : ℕ
  pub old_list : List ℕ
  pub new_list : List ℕ
  pub old : Page
  pub kind_is : r.kind ≡ kind.AddPostings
  pub pages : changed r ≡ page ∷ []
  pub within : (i : ℕ) → In i items → ItemUpTo i high
  pub before_is : before ≡ old ∷ []
  pub was : old.body ≡ body.PostLeaf high old_list
  pub added : ItemsAdded old_list new_list items
  pub after_is : after ≡ made_with r old.right (body.PostLeaf high new_list) ∷ []

-- the leaf is below the root that some entry names, the way down for each item leads to it, and
-- each item has a linked row with the entry's key
pub record IsAddPostingsRest (P : Pages) (items : List ℕ) (page : ℕ) : Type 0 where
  pub key : Key
  pub root : ℕ
  pub named : IsNamed P key root
  pub place : (i : ℕ) → In i items → TowardItem P i root page
  pub rows : (i : ℕ) → In i items → Pending P key i

-- 15 AddPostings: its page, and what the entry, the way down and the rows say
pub record IsAddPostings (R : Log) (P Q : Pages) (r : Record) : Type 0 where
  pub here : Here IsAddPostingsHere R P Q r
  pub rest : IsAddPostingsRest P here.items here.page

-- a page grows or is split only where its body has more bytes than this
abbrev pub half_body : ℕ
half_body = 4084

-- a root page: that of the entry tree, or one that an entry names
pub data IsRoot (P : Pages) : ℕ → Type 0 where
  of_entries : IsRoot P 1
  of_postings : {root : ℕ} (k : Key) → IsNamed P k root → IsRoot P root

-- the inner page with the new page as its one child, without bound, that a root with this content
-- becomes
pub data OneChild (new : ℕ) : Body → Body → Type 0 where
  of_leaf : (high : Key) (entries : List Entry)
      → OneChild new (body.EntryLeaf high entries)
      (body.EntryInner (record { page = new; bound = [] } ∷ []))
  of_inner : (children : List EntryChild)
      → OneChild new (body.EntryInner children)
      (body.EntryInner (record { page = new; bound = [] } ∷ []))
  of_post_leaf : (high : ℕ) (items : List ℕ)
      → OneChild new (body.PostLeaf high items)
      (body.PostInner (record { page = new; bound = no_bound } ∷ []))
  of_post_inner : (children : List PostChild)
      → OneChild new (body.PostInner children)
      (body.PostInner (record { page = new; bound = no_bound } ∷ []))

-- a root's content moves to a new page, which becomes its one child
pub record IsGrowRootHere (since : ℕ) (k : Known) (r : Record)
    (before after : List Page) : Type 0 where
  pub root : ℕ
  pub new : ℕ
  pub inner : Body
  pub old : Page
  pub was : Page
  pub kind_is : r.kind ≡ kind.GrowRoot
  pub pages : changed r ≡ root ∷ new ∷ []
  pub is_new : IsNew k.uses since new
  pub before_is : before ≡ old ∷ was ∷ []
  pub large : half_body < length (body_bytes old.body)
  pub one_child : OneChild new old.body inner
  pub after_is : after ≡ made_with r old.right inner ∷ made_with r 0 old.body ∷ []

-- 16 GrowRoot: the page is a root
pub record IsGrowRoot (R : Log) (P Q : Pages) (r : Record) (since : ℕ) : Type 0 where
  pub here : Here (IsGrowRootHere since) R P Q r
  pub rest : IsRoot P here.root

-- A page of the entry tree in two parts, neither of them empty. `mid` divides them: for a leaf it
-- is at least the last key of the first part and below the first of the second, for an inner page
-- it is the last bound of the first part.
pub data EntryHalves (mid : Key) : Body → Body → Body → Type 0 where
  leaves : (high : Key) (front back : List Entry) → front ≢ [] → back ≢ []
      → ((e : Entry) → In e front → KeyAtMost e.key mid)
      → ((e : Entry) → In e back → KeyLess mid e.key)
      → EntryHalves mid (body.EntryLeaf high (front ++ back)) (body.EntryLeaf mid front)
      (body.EntryLeaf high back)
  inners : (last : EntryChild) (front back : List EntryChild) → back ≢ [] → last.bound ≡ mid
      → EntryHalves mid (body.EntryInner (front ++ last ∷ back))
      (body.EntryInner (front ++ last ∷ [])) (body.EntryInner back)

-- a page of a posting tree in two parts, neither of them empty, likewise
pub data PostHalves (mid : ℕ) : Body → Body → Body → Type 0 where
  leaves : (high : ℕ) (items front back : List ℕ) → items_of front ≢ [] → items_of back ≢ []
      → items_of items ≡ items_of front ++ items_of back
      → ((i : ℕ) → In i (items_of front) → i ≤ mid) → ((i : ℕ) → In i (items_of back) → mid < i)
      → PostHalves mid (body.PostLeaf high items) (body.PostLeaf mid front)
      (body.PostLeaf high back)
  inners : (last : PostChild) (front back : List PostChild) → back ≢ [] → last.bound ≡ mid
      → PostHalves mid (body.PostInner (front ++ last ∷ back)) (body.PostInner (front ++ last ∷ []))
      (body.PostInner back)

-- A page's content in two parts, neither of them empty, divided at the end of the first: a leaf of
-- entries at its last key, an inner page at its last child's bound. That some other key would
-- divide as well is not asked.
pub data Halves : Body → Body → Body → Type 0 where
  of_leaf : (high : Key) (last : Entry) (front back : List Entry) → back ≢ []
      → Halves (body.EntryLeaf high (front ++ last ∷ back))
      (body.EntryLeaf last.key (front ++ last ∷ [])) (body.EntryLeaf high back)
  of_inner : (mid : Key) (children : List EntryChild) {left right : Body}
      → EntryHalves mid (body.EntryInner children) left right
      → Halves (body.EntryInner children) left right
  of_post_leaf : (high mid : ℕ) (items front back : List ℕ) → IsItemList front → IsItemList back
      → PostHalves mid (body.PostLeaf high items) (body.PostLeaf mid front)
      (body.PostLeaf high back)
      → Halves (body.PostLeaf high items) (body.PostLeaf mid front) (body.PostLeaf high back)
  of_post_inner : (mid : ℕ) (children : List PostChild) {left right : Body}
      → PostHalves mid (body.PostInner children) left right
      → Halves (body.PostInner children) left right

-- the bytes of what a tree page lists: its entries, children or items
abbrev pub listed_bytes : Body → List ℕ
listed_bytes (body.EntryLeaf high entries) = flat_map entry_bytes entries
listed_bytes (body.EntryInner children) = flat_map entry_child_bytes children
listed_bytes (body.PostLeaf high items) = items
listed_bytes (body.PostInner children) = flat_map post_child_bytes children
listed_bytes _ = []

-- the first part has at least half of the bytes
abbrev pub KeepsHalf : Body → Body → Type 0
KeepsHalf whole left = length (listed_bytes whole) ≤ 2 * length (listed_bytes left)

-- the content fits on a page
abbrev pub FitsPage : Body → Type 0
FitsPage content = length (body_bytes content) ≤ most_body

-- The first part has at least half of the bytes. Or it has less: then no division at the end of
-- such a part has two sides that fit, and the first part is the longest that fits.
pub data IsSplitPlace (whole left : Body) : Type 0 where
  half : KeepsHalf whole left → IsSplitPlace whole left
  longest : ((l r : Body) → Halves whole l r → KeepsHalf whole l → FitsPage l → FitsPage r → ⊥)
      → ((l r : Body) → Halves whole l r → FitsPage l → count_of l ≤ count_of left)
      → IsSplitPlace whole left

-- the parent of a split page of the entry tree, before and after: the new page comes after the
-- page and takes its bound
pub record EntryParent (page new : ℕ) (mid : Key) (old left : Body) : Type 0 where
  pub bound : Key
  pub front : List EntryChild
  pub back : List EntryChild
  pub before : old ≡ body.EntryInner (front ++ record { page = page; bound = bound } ∷ back)
  pub after : left
      ≡ body.EntryInner
      (front ++ record { page = page; bound = mid } ∷ record { page = new; bound = bound } ∷ back)

-- the same of a posting tree
pub record PostParent (page new mid : ℕ) (old left : Body) : Type 0 where
  pub bound : ℕ
  pub front : List PostChild
  pub back : List PostChild
  pub before : old ≡ body.PostInner (front ++ record { page = page; bound = bound } ∷ back)
  pub after : left
      ≡ body.PostInner
      (front ++ record { page = page; bound = mid } ∷ record { page = new; bound = bound } ∷ back)

-- a page in two parts and its parent with the new page, in either tree
pub data IsDivided (page new : ℕ)
    (whole left right parent_before parent_after : Body) : Type 0 where
  in_entries : (mid : Key) → EntryHalves mid whole left right
      → EntryParent page new mid parent_before parent_after
      → IsDivided page new whole left right parent_before parent_after
  in_postings : (mid : ℕ) → PostHalves mid whole left right
      → PostParent page new mid parent_before parent_after
      → IsDivided page new whole left right parent_before parent_after

-- a page with a large body is split: the new page takes the second part, the right link, and the
-- bound and place after the page in its parent
pub record IsSplitHere (since : ℕ) (k : Known) (r : Record)
    (before after : List Page) : Type 0 where
  pub page : ℕ
  pub new : ℕ
  pub parent : ℕ
  pub old : Page
  pub was : Page
  pub old_parent : Page
  pub left : Body
  pub right : Body
  pub parent_after : Body
  pub kind_is : r.kind ≡ kind.Split
  pub pages : changed r ≡ page ∷ new ∷ parent ∷ []
  pub is_new : IsNew k.uses since new
  pub before_is : before ≡ old ∷ was ∷ old_parent ∷ []
  pub large : half_body < length (body_bytes old.body)
  pub divided : IsDivided page new old.body left right old_parent.body parent_after
  pub split_place : IsSplitPlace old.body left
  pub after_is : after
      ≡ made_with r new left ∷ made_with r old.right right
      ∷ made_with r old_parent.right parent_after ∷ []

-- 17 Split: nothing is asked beside that
pub record IsSplit (R : Log) (P Q : Pages) (r : Record) (since : ℕ) : Type 0 where
  pub here : Here (IsSplitHere since) R P Q r

-- a live posting leaf whose right link is the page
pub record IsLeftLeaf (P : Pages) (left page : ℕ) : Type 0 where
  pub high : ℕ
  pub items : List ℕ
  pub body_is : (P left).body ≡ body.PostLeaf high items
  pub link : (P left).right ≡ page

-- the left leaf of a page, before and after its right link becomes another, or none
pub data IsUnlinked (r : Record) (page to : ℕ) : List ℕ → List Page → List Page → Type 0 where
  none : IsUnlinked r page to [] [] []
  one : (q : ℕ) (left : Page) (high : ℕ) (items : List ℕ) → left.body ≡ body.PostLeaf high items
      → left.right ≡ page
      → IsUnlinked r page to (q ∷ []) (left ∷ []) (made_with r to left.body ∷ [])

-- an empty posting leaf, not its parent's last child, is deleted; the left leaf's right link
-- becomes the leaf's, and the parent loses the leaf with its bound
pub record IsDeletePostHere (k : Known) (r : Record) (before after : List Page) : Type 0 where
  pub page : ℕ
  pub parent : ℕ
  pub lefts : List ℕ
  pub high : ℕ
  pub bound : ℕ
  pub front : List PostChild
  pub next : PostChild
  pub back : List PostChild
  pub old : Page
  pub old_parent : Page
  pub lefts_before : List Page
  pub lefts_after : List Page
  pub kind_is : r.kind ≡ kind.DeletePost
  pub pages : changed r ≡ page ∷ (lefts ++ parent ∷ [])
  pub before_is : before ≡ old ∷ (lefts_before ++ old_parent ∷ [])
  pub empty : old.body ≡ body.PostLeaf high []
  pub child : old_parent.body
      ≡ body.PostInner (front ++ record { page = page; bound = bound } ∷ next ∷ back)
  pub unlinked : IsUnlinked r page old.right lefts lefts_before lefts_after
  pub after_is : after ≡ made_with r old.right (body.Deleted (gone.PostLeaf high []))
      ∷ (lefts_after ++ made_with r old_parent.right (body.PostInner (front ++ next ∷ back)) ∷ [])

-- 19 DeletePost: where no left leaf is changed, there is none
pub record IsDeletePost (R : Log) (P Q : Pages) (r : Record) : Type 0 where
  pub here : Here IsDeletePostHere R P Q r
  pub rest : here.lefts ≡ [] → (q : ℕ) → IsLeftLeaf P q here.page → ⊥
