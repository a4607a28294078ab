-- What a record leaves of pages of the trees that become others.
use Rattle.std.specs.Prelude.{◌≡◌, ℕ, ◌<◌, List, [], ◌∷◌, ◌++◌, length}
use Rattle.ts_base.specs.Keys.{Key}
use Rattle.page_types.specs.Encoding.{body_bytes}
use Rattle.page_types.specs.declared.page.Page.{Page}
use Rattle.page_types.specs.declared.page.Entry.{Entry}
use Rattle.page_types.specs.declared.page.EntryChild.{EntryChild}
use Rattle.page_types.specs.declared.page.PostChild.{PostChild}
use Rattle.page_types.specs.declared.page.Postings.TheVariants.{Inline, Root}
use Rattle.page_types.specs.declared.page.Body.{Body}
use Rattle.page_types.specs.declared.page.Body.TheVariants as body
use Rattle.page_types.specs.declared.record.Record.{Record}
use Rattle.core_state.specs.Log.{changed}
use Rattle.core_state.specs.Changes.{made_with, IsNew}
use Rattle.core_state.specs.TreeRules.{OneChild, half_body}
use Rattle.core_state.specs.Inner.TreeItems.{LeafLeft}
use Rattle.core_state.specs.declared.answers.PageUse.{PageUse}

-- a record changes two pages, of which the second is this new one
pub record SecondIsNew (uses : ℕ → PageUse) (since : ℕ) (r : Record) (new : ℕ) : Type 0 where
  pub page : ℕ
  pub pages : changed r ≡ page ∷ new ∷ []
  pub is_new : IsNew uses since new

-- an entry with this item list becomes one with this root, and the others stay
pub record BecomesRoot (list : List ℕ) (root : ℕ) (old new : List Entry) : Type 0 where
  pub key : Key
  pub front : List Entry
  pub back : List Entry
  pub was : old ≡ front ++ record { key = key; postings = Inline list } ∷ back
  pub after : new ≡ front ++ record { key = key; postings = Root root } ∷ back

-- a record leaves a leaf of the entry tree with a root in place of an entry's item list, and that list on the leaf of
-- a posting tree
pub record MakesRoot (r : Record) (root : ℕ) (old new leaf : Page) : Type 0 where
  pub high : Key
  pub entries : List Entry
  pub then : List Entry
  pub items : List ℕ
  pub left : LeafLeft r old new high entries then
  pub becomes : BecomesRoot items root entries then
  pub leaf_is : leaf ≡ made_with r 0 (body.PostLeaf 0 items)

-- a page of a tree, and one with the same content
pub data SameTree : Body → Body → Type 0 where
  leaf : (high : Key) (entries : List Entry)
      → SameTree (body.EntryLeaf high entries) (body.EntryLeaf high entries)
  inner : (children : List EntryChild) → SameTree (body.EntryInner children) (body.EntryInner children)
  post_leaf : (high : ℕ) (items : List ℕ) → SameTree (body.PostLeaf high items) (body.PostLeaf high items)
  post_inner : (children : List PostChild) → SameTree (body.PostInner children) (body.PostInner children)

-- a record leaves a root with a large body as an inner page over this one, and its content on that page
pub record GrowsRoot (r : Record) (page : ℕ) (old root moved : Page) : Type 0 where
  pub inner : Body
  pub large : half_body < length (body_bytes old.body)
  pub one_child : OneChild page old.body inner
  pub root_is : root ≡ made_with r old.right inner
  pub moved_is : moved ≡ made_with r 0 old.body
