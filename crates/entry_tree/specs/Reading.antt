-- The first child, the greatest key, and the room of a page of the entry tree.
use Rattle.std.specs.Prelude.{ℕ, ◌+◌, ◌≤◌, List, [], ◌∷◌, length, Option, Some, None}
use Rattle.page_types.specs.Numbers.{most_body, most_key_text}
use Rattle.page_types.specs.Encoding.{body_bytes}
use Rattle.page_types.specs.declared.page.Page.{Page}
use Rattle.page_types.specs.declared.page.EntryChild.{EntryChild}
use Rattle.page_types.specs.declared.page.Body.{Body}
use Rattle.page_types.specs.declared.page.Body.TheVariants as body

-- the leftmost child of an inner page
abbrev pub first_child_in : Body → Option ℕ
first_child_in (body.EntryInner (c ∷ cs)) = Some c.page
first_child_in _ = None

-- the bound of the last of these children
abbrev pub last_bound : List EntryChild → List ℕ
last_bound [] = []
last_bound (c ∷ []) = c.bound
last_bound (c ∷ d ∷ cs) = last_bound (d ∷ cs)

-- the greatest key that may be on the page or below it, by its high key or its last bound; no bytes
-- where there is none
abbrev pub upper_in : Body → List ℕ
upper_in (body.EntryLeaf high entries) = high
upper_in (body.EntryInner children) = last_bound children
upper_in _ = []

-- the bytes of the longest child: a page, and as bound the longest key, with its length
abbrev pub longest_child : ℕ
longest_child = 4 + (2 + (1 + most_key_text))

-- such a child more fits on the page
abbrev pub HasRoomForChild : Page → Type 0
HasRoomForChild p = length (body_bytes p.body) + longest_child ≤ most_body
