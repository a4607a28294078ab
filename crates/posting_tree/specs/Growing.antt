-- A root whose content moves to a page of its own.
use Rattle.std.specs.Prelude.{ℕ, [], ◌∷◌}
use Rattle.page_types.specs.Numbers.{no_bound}
use Rattle.page_types.specs.declared.page.Page.{Page}
use Rattle.page_types.specs.declared.page.Body.TheVariants as body

-- the root as an inner page with this one child, without bound
abbrev pub root_over : Page → ℕ → Page
root_over p child = record p { body = body.PostInner (record { page = child; bound = no_bound } ∷ []) }
