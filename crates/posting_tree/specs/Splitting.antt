-- The first of the two pages of a leaf that is split.
use Rattle.std.specs.Prelude.{◌≡◌, ⊤}
use Rattle.page_types.specs.Items.{items_of}
use Rattle.page_types.specs.ItemReading.{last_or}
use Rattle.page_types.specs.declared.page.Body.{Body}
use Rattle.page_types.specs.declared.page.Body.TheVariants as body

-- the high item of a leaf is its last item
abbrev pub EndsAtLast : Body → Type 0
EndsAtLast (body.PostLeaf high list) = high ≡ last_or 0 (items_of list)
EndsAtLast _ = ⊤
