-- The two pages of a page of the entry tree that is split.
use Rattle.std.specs.Prelude.{◌≡◌, ℕ}
use Rattle.page_types.specs.Encoding.{count_of}
use Rattle.page_types.specs.declared.page.Page.{Page}
use Rattle.page_types.specs.declared.page.Body.{Body}
use Rattle.core_state.specs.TreeRules.{Halves, KeepsHalf, FitsPage}
use Rattle.posting_code.specs.Cutting.{Cutting, IsCut}
use Rattle.posting_code.specs.declared.dividing.Keep.{Keep}

-- how a page's content may be divided
abbrev pub body_cutting : Body → Cutting Body
body_cutting whole =
    record { Divides = Halves whole; Keeps = KeepsHalf whole; Fits = FitsPage; count = count_of }

-- the left page leads to the new one, which is the right page and takes the old right link
pub record AreParts (p : Page) (new : ℕ) (keep : Keep) (left right : Page) : Type 0 where
  pub cut : IsCut (body_cutting p.body) left.body right.body keep
  pub left_is : left ≡ record p { right = new; body = left.body }
  pub right_is : right ≡ record p { body = right.body }
