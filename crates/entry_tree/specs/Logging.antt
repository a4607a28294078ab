-- What is found is on the way of a key, and the pages that are made here are what their records ask of pages.
use Rattle.std.specs.Prelude.{◌≡◌, ℕ, ◌<◌, List, [], ◌∷◌, length}
use Rattle.std.specs.List.{Contains}
use Rattle.page_types.specs.Items.{items_of}
use Rattle.page_types.specs.Encoding.{body_bytes}
use Rattle.page_types.specs.Pages.{IsPage}
use Rattle.page_types.specs.Views.{entries_in}
use Rattle.page_types.specs.declared.page.Page.{Page}
use Rattle.page_types.specs.declared.page.Body.{Body}
use Rattle.page_types.specs.declared.record.Record.{Record}
use Rattle.page_types.specs.declared.record.Kind.TheVariants as kind
use Rattle.core_state.specs.Log.{Pages, In, changed}
use Rattle.core_state.specs.Known.{Known}
use Rattle.core_state.specs.Changes.{made_with, IsNew, UpTo}
use Rattle.core_state.specs.TreeRules.{Toward, IsAddItemsHere, IsGrowRootHere, EntryParent, IsSplitHere, half_body}
use Rattle.posting_code.specs.declared.dividing.Keep.{Keep}
use Rattle.entry_tree.specs.declared.finding.Found.TheVariants as found
use Rattle.entry_tree.specs.declared.adding.Added.TheVariants as added
use Rattle.entry_tree.specs.Finding.{IsEntryBody, IsFound}
use Rattle.entry_tree.specs.Reading.{upper_in}
use Rattle.entry_tree.specs.Adding.{IsEntryLeaf, list_entry, IsAdded}
use Rattle.entry_tree.specs.Growing.{root_over, moved_down}
use Rattle.entry_tree.specs.Splitting.{AreParts}

-- the way of a key goes from a page on to the child that is found there
abbrev pub FoundLeadsDown : Type 0
FoundLeadsDown =
    (P : Pages) (key : List ℕ) (p child q : ℕ)
    → IsFound (P p) key (found.Down child) → Toward P key child q → Toward P key p q

-- a root with a large body, and the new page that takes it, are what a GrowRoot asks of its pages
abbrev pub GrownRootIsLogged : Type 0
GrownRootIsLogged =
    (k : Known) (r : Record) (since root new : ℕ) (old was : Page)
    → IsEntryBody old.body → half_body < length (body_bytes old.body)
    → r.kind ≡ kind.GrowRoot → changed r ≡ root ∷ new ∷ [] → IsNew k.uses since new
    → IsGrowRootHere since k r (old ∷ was ∷ [])
    (made_with r (root_over old new).right (root_over old new).body
    ∷ made_with r (moved_down old).right (moved_down old).body ∷ [])

-- no list of the key has the item
abbrev pub IsNewUnder : Body → List ℕ → ℕ → Type 0
IsNewUnder content key i =
    (list : List ℕ) → In (list_entry key list) (entries_in content) → Contains (items_of list) i → ⊥

-- what an AddItems of these items under this key asks of its page
pub record AddsItems (k : Known) (r : Record) (page : ℕ) (key items : List ℕ) (before after : List Page) : Type 0 where
  pub here : IsAddItemsHere k r before after
  pub page_is : here.page ≡ page
  pub key_is : here.key ≡ key
  pub items_are : here.items ≡ items

-- a leaf with items added under a key up to its high key, one of which at least is new there, is that
abbrev pub AddedItemsAreLogged : Type 0
AddedItemsAreLogged =
    (k : Known) (r : Record) (page : ℕ) (key items : List ℕ) (old new : Page)
    → IsEntryLeaf old.body → IsAdded old key items (added.Done new) → UpTo key (upper_in old.body)
    → ((i : ℕ) × Contains items i × IsNewUnder old.body key i)
    → r.kind ≡ kind.AddItems → changed r ≡ page ∷ []
    → AddsItems k r page key items (old ∷ []) (made_with r new.right new.body ∷ [])

-- the two pages of a page with a large body, and the parent that has taken the new one with the first part's greatest
-- key, are what a Split asks of its pages
abbrev pub SplitPagesAreLogged : Type 0
SplitPagesAreLogged =
    (k : Known) (r : Record) (since page new parent : ℕ) (keep : Keep) (old was old_parent left right adopted : Page)
    → IsEntryBody old.body → IsPage old → half_body < length (body_bytes old.body)
    → AreParts old new keep left right
    → EntryParent page new (upper_in left.body) old_parent.body adopted.body
    → adopted ≡ record old_parent { body = adopted.body }
    → r.kind ≡ kind.Split → changed r ≡ page ∷ new ∷ parent ∷ [] → IsNew k.uses since new
    → IsSplitHere since k r (old ∷ was ∷ old_parent ∷ [])
    (made_with r left.right left.body ∷ made_with r right.right right.body
    ∷ made_with r adopted.right adopted.body ∷ [])
