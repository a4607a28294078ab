-- What is read of a leaf from which dead items go.
use Rattle.std.specs.Prelude.{◌≡◌, ◌↔◌, ◌≤◌, ℕ, List, [], length, true, Option, Some, None, IfSome, IfNone}
use Rattle.std.specs.List.{Contains}
use Rattle.page_types.specs.Pages.{IsPage}
use Rattle.page_types.specs.Views.{entries_in, posting_items_in}
use Rattle.page_types.specs.declared.page.Page.{Page}
use Rattle.page_types.specs.declared.page.Entry.{Entry}
use Rattle.page_types.specs.declared.page.Postings.TheVariants.{Root}
use Rattle.page_types.specs.declared.page.Body.{Body}
use Rattle.page_types.specs.declared.page.Body.TheVariants as body
use Rattle.core_state.specs.Log.{In}
use Rattle.core_state.specs.Allowed.{Sheet}
use Rattle.entry_tree.specs.Reading as entries
use Rattle.entry_tree.specs.Adding.{IsEntryLeaf}
use Rattle.posting_tree.specs.Reading as posts
use Rattle.posting_tree.specs.Adding.{IsPostLeaf}
use Rattle.posting_tree.specs.Removing.{IsLeafLeft, IsListed}
use Rattle.gin_place.specs.declared.error.PlaceError.{PlaceError}
use Rattle.gin_place.specs.declared.error.PlaceError.TheVariants.{BadPage, OutOfMemory}
use Rattle.gin_vacuum.specs.declared.sweeping.Below.{Below}
use Rattle.gin_vacuum.specs.declared.sweeping.Below.TheVariants as below
use Rattle.gin_vacuum.specs.declared.sweeping.ReadLeaf.{ReadLeaf}
use Rattle.gin_vacuum.specs.declared.sweeping.ReadPosts.{ReadPosts}

-- the page is a leaf of the entry tree; its first child is this; it is neither
abbrev pub IsBelow : Body → Below → Type 0
IsBelow content below.Leaf = IsEntryLeaf content
IsBelow content (below.Child page) = entries.first_child_in content ≡ Some page
IsBelow content below.Bad = (IsEntryLeaf content → ⊥) × (entries.first_child_in content ≡ None)

-- likewise in a posting tree
abbrev pub IsBelowInTree : Body → Below → Type 0
IsBelowInTree content below.Leaf = IsPostLeaf content
IsBelowInTree content (below.Child page) = posts.first_child_in content ≡ Some page
IsBelowInTree content below.Bad = (IsPostLeaf content → ⊥) × (posts.first_child_in content ≡ None)

-- these are the roots that entries name
pub record AreRoots (es : List Entry) (roots : List ℕ) : Type 0 where
  pub all : (e : Entry) (root : ℕ) → In e es → e.postings ≡ Root root → In root roots
  pub named : (root : ℕ) → In root roots → (e : Entry) × In e es × (e.postings ≡ Root root)
  pub few : length roots ≤ length es

-- the page without dead items, where it has some
pub record IsCleaned (dead : List ℕ) (page : Page) (cleaned : Option Page) : Type 0 where
  pub left : IfSome cleaned (λ p. IsLeafLeft dead page.body p.body × (p ≡ record page { body = p.body }) × IsPage p)
  pub some : IfSome cleaned (λ p. ((i : ℕ) → IsListed page.body i → Contains dead i → ⊥) → ⊥)
  pub none : IfNone cleaned ((i : ℕ) → IsListed page.body i → Contains dead i → ⊥)

-- what is left on the page
abbrev pub body_after : Page → Option Page → Body
body_after page None = page.body
body_after page (Some p) = p.body

pub record IsReadLeaf (dead : List ℕ) (page : Page) (r : ReadLeaf) : Type 0 where
  pub is_page : IsPage page
  pub leaf : IsEntryLeaf page.body
  pub roots : AreRoots (entries_in page.body) r.roots.items
  pub link : r.link ≡ page.right
  pub cleaned : IsCleaned dead page r.cleaned

pub record IsReadPosts (dead : List ℕ) (page : Page) (r : ReadPosts) : Type 0 where
  pub is_page : IsPage page
  pub list : List ℕ
  pub leaf : page.body ≡ body.PostLeaf r.high list
  pub link : r.link ≡ page.right
  pub cleaned : IsCleaned dead page r.cleaned
  pub empty : (r.is_empty ≡ true) ↔ (posting_items_in (body_after page r.cleaned) ≡ [])

-- why a page that is held is not read: it is none of these leaves, or memory ran out
pub data IsUnread (held : Sheet) (IsLeaf : Body → Type 0) : PlaceError → Type 0 where
  other : IsPage held.content → (IsLeaf held.content.body → ⊥) → IsUnread held IsLeaf (BadPage held.page)
  memory : IsUnread held IsLeaf OutOfMemory
