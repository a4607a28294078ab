-- New leaves of a posting tree, and leaves with items added.
use Rattle.std.specs.Prelude.{◌≡◌, ℕ, ◌<◌, ◌≤◌, List, length}
use Rattle.page_types.specs.Numbers.{most_body}
use Rattle.page_types.specs.Encoding.{body_bytes}
use Rattle.page_types.specs.declared.page.Page.{Page}
use Rattle.page_types.specs.declared.page.Body.{Body}
use Rattle.page_types.specs.declared.page.Body.TheVariants as body
use Rattle.posting_code.specs.Uniting.{IsUnited}
use Rattle.posting_tree.specs.declared.adding.Added.{Added}
use Rattle.posting_tree.specs.declared.adding.Added.TheVariants as added

-- the one leaf of a new tree, with this item list
abbrev pub first_leaf : List ℕ → Page
first_leaf list = record { right = 0; stamp = 0; body = body.PostLeaf 0 list }

-- a leaf of a posting tree
pub data IsPostLeaf : Body → Type 0 where
  leaf : (high : ℕ) (list : List ℕ) → IsPostLeaf (body.PostLeaf high list)

-- what is answered where the leaf's content would be this
pub data IsAnswer (p : Page) (content : Body) : Added → Type 0 where
  done : length (body_bytes content) ≤ most_body → IsAnswer p content (added.Done (record p { body = content }))
  full : most_body < length (body_bytes content) → IsAnswer p content added.Full

-- what adding items to a leaf answers: the new list has just the old one's items and these
pub record IsAdded (p : Page) (items : List ℕ) (answer : Added) : Type 0 where
  pub high : ℕ
  pub old : List ℕ
  pub list : List ℕ
  pub was : p.body ≡ body.PostLeaf high old
  pub united : IsUnited old items list
  pub is : IsAnswer p (body.PostLeaf high list) answer
