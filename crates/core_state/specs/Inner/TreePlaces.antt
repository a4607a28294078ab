-- What places of the trees say of pages.
use Rattle.std.specs.Prelude.{◌≡◌, ℕ, suc, List, ⊤}
use Rattle.ts_base.specs.Keys.{Key}
use Rattle.page_types.specs.declared.page.Entry.{Entry}
use Rattle.page_types.specs.declared.page.EntryChild.{EntryChild}
use Rattle.page_types.specs.declared.page.PostChild.{PostChild}
use Rattle.page_types.specs.declared.page.Body.{Body}
use Rattle.page_types.specs.declared.page.Body.TheVariants.{Meta, EntryLeaf, EntryInner, PostLeaf, PostInner, Deleted}
use Rattle.page_types.specs.declared.page.Gone.TheVariants as gone
use Rattle.core_state.specs.Log.{Pages}
use Rattle.core_state.specs.Known.{use_in}
use Rattle.core_state.specs.Changes.{IsNew}
use Rattle.core_state.specs.Index.{IsNamed}
use Rattle.core_state.specs.Trees.Ext.{Ext}
use Rattle.core_state.specs.Trees.Nodes.{TreeGhost}
use Rattle.core_state.specs.Trees.Nodes.TreePlace.{none, tree}

-- the page is no page of the entry tree
abbrev pub IsNoEntryPage : Body → Type 0
IsNoEntryPage (EntryLeaf high entries) = ⊥
IsNoEntryPage (EntryInner children) = ⊥
IsNoEntryPage _ = ⊤

-- the page is no page of a posting tree, nor was it one when it was deleted
abbrev pub IsNoPostPage : Body → Type 0
IsNoPostPage (PostLeaf high items) = ⊥
IsNoPostPage (PostInner children) = ⊥
IsNoPostPage (Deleted (gone.PostLeaf high items)) = ⊥
IsNoPostPage _ = ⊤

-- the pages of entries are in the tree 1, leaves at height 0 and inner pages above, and no others
pub record EntryPlaces (P : Pages) (g : TreeGhost (Ext Key)) : Type 0 where
  pub leaf_at : (p : ℕ) (high : Key) (es : List Entry) → (P p).body ≡ EntryLeaf high es
      → g.place p ≡ tree 1 0
  pub inner_at : (p : ℕ) (cs : List EntryChild) → (P p).body ≡ EntryInner cs
      → (h : ℕ) × (g.place p ≡ tree 1 (suc h))
  pub none_at : (p : ℕ) → IsNoEntryPage (P p).body → g.place p ≡ none

-- The pages of postings are in some tree, leaves at height 0 and inner pages above, and no others
-- but leaves that were deleted. A page that may be taken is in none.
pub record PostPlaces (P : Pages) (since : ℕ) (g : TreeGhost (Ext ℕ)) : Type 0 where
  pub leaf_at : (p high : ℕ) (items : List ℕ) → (P p).body ≡ PostLeaf high items
      → (r : ℕ) × (g.place p ≡ tree r 0)
  pub inner_at : (p : ℕ) (cs : List PostChild) → (P p).body ≡ PostInner cs
      → (r : ℕ) × (h : ℕ) × (g.place p ≡ tree r (suc h))
  pub none_at : (p : ℕ) → IsNoPostPage (P p).body → g.place p ≡ none
  pub new_at : (p : ℕ) → IsNew (use_in P) since p → g.place p ≡ none

-- page 0 is the metapage
abbrev pub HasMeta : Pages → Type 0
HasMeta P = (first last count : ℕ) × ((P 0).body ≡ Meta first last count)

-- each posting tree that an entry names is there
abbrev pub AreNamed : Pages → TreeGhost (Ext ℕ) → Type 0
AreNamed P g = (k : Key) (r : ℕ) → IsNamed P k r → (h : ℕ) × (g.place r ≡ tree r h)
