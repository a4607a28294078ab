-- Where a key is sought, on a page of the entry tree.
use Rattle.std.specs.Prelude.{◌≡◌, ◌≢◌, ℕ, List, [], ◌∷◌, ◌++◌, length}
use Rattle.page_types.specs.Keys.{KeyLess}
use Rattle.page_types.specs.declared.page.Page.{Page}
use Rattle.page_types.specs.declared.page.Entry.{Entry}
use Rattle.page_types.specs.declared.page.EntryChild.{EntryChild}
use Rattle.page_types.specs.declared.page.Body.{Body}
use Rattle.page_types.specs.declared.page.Body.TheVariants as body
use Rattle.core_state.specs.Log.{In}
use Rattle.core_state.specs.Changes.{UpTo}
use Rattle.entry_tree.specs.declared.finding.Found.{Found}
use Rattle.entry_tree.specs.declared.finding.Found.TheVariants as found

-- a leaf of the entry tree, or an inner page of it
pub data IsEntryBody : Body → Type 0 where
  leaf : (high : List ℕ) (entries : List Entry) → IsEntryBody (body.EntryLeaf high entries)
  inner : (children : List EntryChild) → IsEntryBody (body.EntryInner children)

-- a bound that is there is below a key; no bytes are no bound
abbrev pub IsBelow : List ℕ → List ℕ → Type 0
IsBelow bound key = (bound ≢ []) × KeyLess bound key

-- What is found of a key where this is the right link and this the content. On a leaf, up to its
-- high key: the entry with the key; or none has it, those before the place are less and the others
-- greater. On an inner page the first child whose bound isn't below the key. On both the right link
-- where the high key, or each bound, is below it.
pub data IsFoundIn (right : ℕ) (content : Body) (key : List ℕ) : Found → Type 0 where
  here : (place : ℕ) (high : List ℕ) (front back : List Entry) (e : Entry)
      → content ≡ body.EntryLeaf high (front ++ e ∷ back) → place ≡ length front → e.key ≡ key
      → UpTo key high → IsFoundIn right content key (found.Here place)
  absent : (place : ℕ) (high : List ℕ) (front back : List Entry)
      → content ≡ body.EntryLeaf high (front ++ back) → place ≡ length front
      → ((e : Entry) → In e front → KeyLess e.key key)
      → ((e : Entry) → In e back → KeyLess key e.key)
      → UpTo key high → IsFoundIn right content key (found.Absent place)
  down : (front back : List EntryChild) (c : EntryChild)
      → content ≡ body.EntryInner (front ++ c ∷ back)
      → ((b : EntryChild) → In b front → KeyLess b.bound key) → UpTo key c.bound
      → IsFoundIn right content key (found.Down c.page)
  past_leaf : (high : List ℕ) (entries : List Entry) → content ≡ body.EntryLeaf high entries
      → IsBelow high key → IsFoundIn right content key (found.Right right)
  past_inner : (children : List EntryChild) → content ≡ body.EntryInner children
      → ((b : EntryChild) → In b children → IsBelow b.bound key)
      → IsFoundIn right content key (found.Right right)

-- what is found of a key on a page
abbrev pub IsFound : Page → List ℕ → Found → Type 0
IsFound p key f = IsFoundIn p.right p.body key f
