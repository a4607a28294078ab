-- The pages of a posting tree: the first child, the greatest item, and the room of one.
use Rattle.std.specs.Prelude.{ℕ, ◌+◌, ◌≤◌, List, ◌∷◌, length, map, Option, Some, None}
use Rattle.page_types.specs.Numbers.{most_body}
use Rattle.page_types.specs.ItemReading.{last_or}
use Rattle.page_types.specs.Encoding.{body_bytes}
use Rattle.page_types.specs.declared.page.Page.{Page}
use Rattle.page_types.specs.declared.page.PostChild.{PostChild}
use Rattle.page_types.specs.declared.page.Body.{Body}
use Rattle.page_types.specs.declared.page.Body.TheVariants as body

-- a leaf of a posting tree, or an inner page of one
pub data IsPostBody : Body → Type 0 where
  leaf : (high : ℕ) (list : List ℕ) → IsPostBody (body.PostLeaf high list)
  inner : (children : List PostChild) → IsPostBody (body.PostInner children)

-- the leftmost child of an inner page
abbrev pub first_child_in : Body → Option ℕ
first_child_in (body.PostInner (c ∷ cs)) = Some c.page
first_child_in _ = None

-- the bounds of these children
abbrev pub bounds_of : List PostChild → List ℕ
bounds_of children = map (λ (c : PostChild). c.bound) children

-- the greatest item that may be on the page or below it: its high item, 0 where there is none, or its last bound
abbrev pub upper_in : Body → ℕ
upper_in (body.PostLeaf high list) = high
upper_in (body.PostInner children) = last_or 0 (bounds_of children)
upper_in _ = 0

-- the bytes of a child: its page and its bound
abbrev pub child_size : ℕ
child_size = 4 + 4

-- a child more fits on the page
abbrev pub HasRoomForChild : Page → Type 0
HasRoomForChild p = length (body_bytes p.body) + child_size ≤ most_body
