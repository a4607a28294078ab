-- What is found is on the way of an item, and the pages that are made here are what their records ask of pages.
use Rattle.std.specs.Prelude.{◌≡◌, ℕ, ◌<◌, List, [], ◌∷◌, length, Some}
use Rattle.std.specs.List.{slice_get, Contains}
use Rattle.page_types.specs.Encoding.{body_bytes}
use Rattle.page_types.specs.Pages.{IsPage}
use Rattle.page_types.specs.Views.{entries_in, posting_items_in}
use Rattle.page_types.specs.declared.page.Page.{Page}
use Rattle.page_types.specs.declared.record.Record.{Record}
use Rattle.page_types.specs.declared.record.Kind.TheVariants as kind
use Rattle.core_state.specs.Log.{Pages, changed}
use Rattle.core_state.specs.Known.{Known}
use Rattle.core_state.specs.Changes.{made_with, IsNew, ItemUpTo}
use Rattle.core_state.specs.TreeRules.{TowardItem, IsMakeTreeHere, IsAddPostingsHere, IsGrowRootHere, PostParent}
use Rattle.core_state.specs.TreeRules.{IsSplitHere, half_body}
use Rattle.posting_code.specs.declared.dividing.Keep.{Keep}
use Rattle.entry_tree.specs.Adding.{IsEntryLeaf, list_entry}
use Rattle.entry_tree.specs.Rooting.{rooted}
use Rattle.entry_tree.specs.Growing.{moved_down}
use Rattle.entry_tree.specs.Splitting.{AreParts}
use Rattle.posting_tree.specs.declared.finding.Found.TheVariants as found
use Rattle.posting_tree.specs.declared.adding.Added.TheVariants as added
use Rattle.posting_tree.specs.Reading.{IsPostBody, upper_in}
use Rattle.posting_tree.specs.Finding.{IsFound}
use Rattle.posting_tree.specs.Adding.{first_leaf, IsAdded}
use Rattle.posting_tree.specs.Growing.{root_over}

-- the way of an item goes from a page on to the child that is found there
abbrev pub FoundLeadsDown : Type 0
FoundLeadsDown =
    (P : Pages) (item p child q : ℕ)
    → IsFound (P p) item (found.Down child) → TowardItem P item child q → TowardItem P item p q

-- the first leaf of a key's list, and the leaf of entries where the key's entry then leads to it, are what a MakeTree
-- asks of its pages
abbrev pub FirstLeafIsLogged : Type 0
FirstLeafIsLogged =
    (k : Known) (r : Record) (since page new place : ℕ) (key list : List ℕ) (old was : Page)
    → IsEntryLeaf old.body → slice_get (entries_in old.body) place ≡ Some (list_entry key list)
    → r.kind ≡ kind.MakeTree → changed r ≡ page ∷ new ∷ [] → IsNew k.uses since new
    → IsMakeTreeHere since k r (old ∷ was ∷ [])
    (made_with r old.right (rooted old.body place new)
    ∷ made_with r (first_leaf list).right (first_leaf list).body ∷ [])

-- what an AddPostings of these items asks of its page
pub record AddsPostings (k : Known) (r : Record) (page : ℕ) (items : List ℕ) (before after : List Page) : Type 0 where
  pub here : IsAddPostingsHere k r before after
  pub page_is : here.page ≡ page
  pub items_are : here.items ≡ items

-- a leaf with items added up to its high item, one of which at least is new there, is that
abbrev pub AddedPostingsAreLogged : Type 0
AddedPostingsAreLogged =
    (k : Known) (r : Record) (page : ℕ) (items : List ℕ) (old new : Page)
    → IsAdded old items (added.Done new) → ((i : ℕ) → Contains items i → ItemUpTo i (upper_in old.body))
    → ((i : ℕ) × Contains items i × (Contains (posting_items_in old.body) i → ⊥))
    → r.kind ≡ kind.AddPostings → changed r ≡ page ∷ []
    → AddsPostings k r page items (old ∷ []) (made_with r new.right new.body ∷ [])

-- a root with a large body, and the new page that takes it, are what a GrowRoot asks of its pages
abbrev pub GrownRootIsLogged : Type 0
GrownRootIsLogged =
    (k : Known) (r : Record) (since root new : ℕ) (old was : Page)
    → IsPostBody old.body → half_body < length (body_bytes old.body)
    → r.kind ≡ kind.GrowRoot → changed r ≡ root ∷ new ∷ [] → IsNew k.uses since new
    → IsGrowRootHere since k r (old ∷ was ∷ [])
    (made_with r (root_over old new).right (root_over old new).body
    ∷ made_with r (moved_down old).right (moved_down old).body ∷ [])

-- the two pages of a page with a large body, and the parent that has taken the new one with the first part's greatest
-- item, are what a Split asks of its pages
abbrev pub SplitPagesAreLogged : Type 0
SplitPagesAreLogged =
    (k : Known) (r : Record) (since page new parent : ℕ) (keep : Keep) (old was old_parent left right adopted : Page)
    → IsPostBody old.body → IsPage old → half_body < length (body_bytes old.body)
    → AreParts old new keep left right
    → PostParent page new (upper_in left.body) old_parent.body adopted.body
    → adopted ≡ record old_parent { body = adopted.body }
    → r.kind ≡ kind.Split → changed r ≡ page ∷ new ∷ parent ∷ [] → IsNew k.uses since new
    → IsSplitHere since k r (old ∷ was ∷ old_parent ∷ [])
    (made_with r left.right left.body ∷ made_with r right.right right.body
    ∷ made_with r adopted.right adopted.body ∷ [])
