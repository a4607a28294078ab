-- A leaf of the entry tree with items added under a key.
use Rattle.std.specs.Prelude.{ℕ, ◌<◌, ◌≤◌, List, ◌∷◌, ◌++◌, length}
use Rattle.page_types.specs.Numbers.{most_inline, most_body}
use Rattle.page_types.specs.Keys.{KeyLess}
use Rattle.page_types.specs.Encoding.{body_bytes}
use Rattle.page_types.specs.Views.{entries_in}
use Rattle.page_types.specs.declared.page.Page.{Page}
use Rattle.page_types.specs.declared.page.Entry.{Entry}
use Rattle.page_types.specs.declared.page.Postings.TheVariants.{Inline, Root}
use Rattle.page_types.specs.declared.page.Body.{Body}
use Rattle.page_types.specs.declared.page.Body.TheVariants as body
use Rattle.core_state.specs.Log.{In}
use Rattle.core_state.specs.TreeRules.{IsEntryBetween}
use Rattle.posting_code.specs.Uniting.{IsUnited}
use Rattle.entry_tree.specs.Reading.{upper_in}
use Rattle.entry_tree.specs.declared.adding.Added.{Added}
use Rattle.entry_tree.specs.declared.adding.Added.TheVariants as added

-- a leaf of the entry tree
pub data IsEntryLeaf : Body → Type 0 where
  leaf : (high : List ℕ) (entries : List Entry) → IsEntryLeaf (body.EntryLeaf high entries)

-- the entry of a key with its items in this list, and one with its items in a posting tree
abbrev pub list_entry : List ℕ → List ℕ → Entry
list_entry key list = record { key = key; postings = Inline list }

abbrev pub tree_entry : List ℕ → ℕ → Entry
tree_entry key root = record { key = key; postings = Root root }

-- no entry of the key leads to a posting tree
abbrev pub HasNoTree : Body → List ℕ → Type 0
HasNoTree content key = (root : ℕ) → In (tree_entry key root) (entries_in content) → ⊥

-- A key on a leaf, between the entries below and above it: its entry with its old list, or none, and the old list is
-- empty. The new list has just the old one's items and these.
pub record IsUnder (content : Body) (key items : List ℕ) : Type 0 where
  pub front : List Entry
  pub back : List Entry
  pub old : List ℕ
  pub list : List ℕ
  pub entry : IsEntryBetween (entries_in content) front back key old
  pub above : (e : Entry) → In e front → KeyLess e.key key
  pub below : (e : Entry) → In e back → KeyLess key e.key
  pub united : IsUnited old items list

-- the leaf with the new list under the key
abbrev pub leaf_with : {content : Body} {key items : List ℕ} → IsUnder content key items → Body
leaf_with {content} {key} {items} u = body.EntryLeaf (upper_in content) (u.front ++ list_entry key u.list ∷ u.back)

-- what is answered where the key's list and the page's content would be these
pub data IsAnswer (p : Page) (list : List ℕ) (content : Body) : Added → Type 0 where
  done : length list ≤ most_inline → length (body_bytes content) ≤ most_body
      → IsAnswer p list content (added.Done (record p { body = content }))
  too_long : most_inline < length list → IsAnswer p list content added.TooLong
  full : length list ≤ most_inline → most_body < length (body_bytes content) → IsAnswer p list content added.Full

-- what adding items under a key answers
pub record IsAdded (p : Page) (key items : List ℕ) (answer : Added) : Type 0 where
  pub under : IsUnder p.body key items
  pub is : IsAnswer p under.list (leaf_with under) answer
