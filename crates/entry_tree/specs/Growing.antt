-- A root whose content moves to a page of its own, and a parent of a page that was split.
use Rattle.std.specs.Prelude.{ℕ, [], ◌∷◌}
use Rattle.page_types.specs.declared.page.Page.{Page}
use Rattle.page_types.specs.declared.page.Body.TheVariants as body

-- the root as an inner page with this one child, without bound
abbrev pub root_over : Page → ℕ → Page
root_over p child =
    record p { body = body.EntryInner (record { page = child; bound = [] } ∷ []) }

-- the page that takes the root's content
abbrev pub moved_down : Page → Page
moved_down p = record p { right = 0 }
