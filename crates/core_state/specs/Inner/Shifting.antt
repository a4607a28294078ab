-- What a record Shift leaves of its two pages.
use Rattle.std.specs.Prelude.{◌≡◌, ℕ, suc, List}
use Rattle.page_types.specs.declared.page.Page.{Page}
use Rattle.page_types.specs.declared.page.Row.{Row}
use Rattle.page_types.specs.declared.page.Body.TheVariants as body
use Rattle.page_types.specs.declared.page.Gone.TheVariants as gone
use Rattle.page_types.specs.declared.record.Record.{Record}
use Rattle.core_state.specs.Changes.{made_with}
use Rattle.core_state.specs.PendingRules.{IsLastAfter}

-- a record leaves the metapage, which names this page first, with this right link of it in its place,
-- and with one page less
pub record DropsFirst (r : Record) (page right : ℕ) (old new : Page) : Type 0 where
  pub last : ℕ
  pub count : ℕ
  pub new_last : ℕ
  pub was : old.body ≡ body.Meta page last (suc count)
  pub last_is : IsLastAfter right last new_last
  pub after : new ≡ made_with r old.right (body.Meta right new_last count)

-- a record leaves a pending page deleted, with its rows
pub record KeepsRows (r : Record) (old new : Page) : Type 0 where
  pub rows : List Row
  pub was : old.body ≡ body.Pending rows
  pub after : new ≡ made_with r old.right (body.Deleted (gone.Pending rows))
