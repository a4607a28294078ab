-- A parent with one child fewer.
use Rattle.std.specs.Prelude.{◌≡◌, ℕ, ◌∷◌, ◌++◌, List}
use Rattle.page_types.specs.Views.{post_children_in}
use Rattle.page_types.specs.declared.page.PostChild.{PostChild}
use Rattle.page_types.specs.declared.page.Body.{Body}
use Rattle.page_types.specs.declared.page.Body.TheVariants as body

-- these children, of which one but the last has the page
pub record IsBeforeLast (page : ℕ) (children : List PostChild) : Type 0 where
  pub bound : ℕ
  pub front : List PostChild
  pub next : PostChild
  pub back : List PostChild
  pub children_are : children ≡ front ++ record { page = page; bound = bound } ∷ next ∷ back

-- a parent names the page by a child but the last, and then lacks this child with its bound
pub record IsUnlinked (page : ℕ) (old new : Body) : Type 0 where
  pub child : IsBeforeLast page (post_children_in old)
  pub before : old ≡ body.PostInner (post_children_in old)
  pub after : new ≡ body.PostInner (child.front ++ child.next ∷ child.back)
