-- Pages without room can be split, and as roots they can grow.
use Rattle.std.specs.Prelude.{◌≡◌, ◌≢◌, ℕ, ◌-◌, ◌<◌, ◌≤◌, List, [], length}
use Rattle.page_types.specs.Numbers.{most_body}
use Rattle.page_types.specs.Items.{AreItems}
use Rattle.page_types.specs.Encoding.{body_bytes, count_of}
use Rattle.page_types.specs.Pages.{IsPage}
use Rattle.page_types.specs.declared.page.Page.{Page}
use Rattle.page_types.specs.declared.page.PostChild.{PostChild}
use Rattle.page_types.specs.declared.page.Body.{Body}
use Rattle.page_types.specs.declared.page.Body.TheVariants as body
use Rattle.core_state.specs.TreeRules.{half_body}
use Rattle.posting_code.specs.Uniting.{TakesFirst}
use Rattle.posting_tree.specs.Reading.{HasRoomForChild}

-- the most bytes of a leaf's list, before which the body has a high item
abbrev pub most_list : ℕ
most_list = most_body - 4

-- large enough for a GrowRoot and a Split, with two members or more
pub record IsLarge (content : Body) : Type 0 where
  pub bytes : half_body < length (body_bytes content)
  pub members : 2 ≤ count_of content

-- a leaf whose list takes none of some items is large
abbrev pub FullLeafIsLarge : Type 0
FullLeafIsLarge =
    (p : Page) (high : ℕ) (list items : List ℕ)
    → IsPage p → p.body ≡ body.PostLeaf high list → AreItems items → items ≢ [] → TakesFirst list items most_list 0
    → IsLarge p.body

-- so is an inner page without room for a child
abbrev pub FullInnerIsLarge : Type 0
FullInnerIsLarge =
    (p : Page) (children : List PostChild) → p.body ≡ body.PostInner children → (HasRoomForChild p → ⊥)
    → IsLarge p.body
