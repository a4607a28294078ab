-- Where an item is sought, on a page of a posting tree.
use Rattle.std.specs.Prelude.{◌≡◌, ℕ, ◌<◌, ◌≤◌, List, ◌∷◌, ◌++◌}
use Rattle.std.specs.List.{Contains}
use Rattle.page_types.specs.Items.{items_of}
use Rattle.page_types.specs.declared.page.Page.{Page}
use Rattle.page_types.specs.declared.page.PostChild.{PostChild}
use Rattle.page_types.specs.declared.page.Body.{Body}
use Rattle.page_types.specs.declared.page.Body.TheVariants as body
use Rattle.core_state.specs.Log.{In}
use Rattle.core_state.specs.Changes.{ItemUpTo}
use Rattle.posting_tree.specs.declared.finding.Found.{Found}
use Rattle.posting_tree.specs.declared.finding.Found.TheVariants as found

-- What is found of an item where this is the right link and this the content. On a leaf, up to its high item, whether
-- the item is in its list. On an inner page the first child whose bound isn't below the item. On both the right link
-- where the item is above the high item, or above each bound.
pub data IsFoundIn (right : ℕ) (content : Body) (item : ℕ) : Found → Type 0 where
  here : (high : ℕ) (list : List ℕ) → content ≡ body.PostLeaf high list → ItemUpTo item high
      → Contains (items_of list) item → IsFoundIn right content item found.Here
  absent : (high : ℕ) (list : List ℕ) → content ≡ body.PostLeaf high list → ItemUpTo item high
      → (Contains (items_of list) item → ⊥) → IsFoundIn right content item found.Absent
  down : (front back : List PostChild) (c : PostChild) → content ≡ body.PostInner (front ++ c ∷ back)
      → ((b : PostChild) → In b front → b.bound < item) → item ≤ c.bound
      → IsFoundIn right content item (found.Down c.page)
  past_leaf : (high : ℕ) (list : List ℕ) → content ≡ body.PostLeaf high list → (ItemUpTo item high → ⊥)
      → IsFoundIn right content item (found.Right right)
  past_inner : (children : List PostChild) → content ≡ body.PostInner children
      → ((b : PostChild) → In b children → b.bound < item) → IsFoundIn right content item (found.Right right)

-- what is found of an item on a page
abbrev pub IsFound : Page → ℕ → Found → Type 0
IsFound p item f = IsFoundIn p.right p.body item f
