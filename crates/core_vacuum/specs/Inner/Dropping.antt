-- What a record DropPage leaves of the page that it deletes.
use Rattle.std.specs.Prelude.{◌≡◌, ℕ}
use Rattle.page_types.specs.declared.page.Page.{Page}
use Rattle.page_types.specs.declared.page.Head.{Head}
use Rattle.page_types.specs.declared.page.Body.TheVariants as body
use Rattle.page_types.specs.declared.page.Gone.{Gone}
use Rattle.page_types.specs.declared.record.Record.{Record}
use Rattle.core_state.specs.Changes.{made_with}
use Rattle.core_state.specs.VacuumRules.{IsDropped}

-- a record leaves the page, the first of one of the head's chains, deleted, and the head goes on to the next
pub record FirstGone (r : Record) (page : ℕ) (was new : Page) (head then : Head) : Type 0 where
  pub content : Gone
  pub dropped : IsDropped head page was.right was.body content then
  pub after : new ≡ made_with r was.right (body.Deleted content)
