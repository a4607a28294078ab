-- What a record DeletePost leaves of its pages.
use Rattle.std.specs.Prelude.{◌≡◌, ℕ, suc, ◌<◌, List, [], ◌++◌, length, take, drop, Some}
use Rattle.std.specs.List.{slice_get}
use Rattle.page_types.specs.declared.page.Page.{Page}
use Rattle.page_types.specs.declared.page.PostChild.{PostChild}
use Rattle.page_types.specs.declared.page.Body.TheVariants as body
use Rattle.page_types.specs.declared.page.Gone.TheVariants as gone
use Rattle.page_types.specs.declared.record.Record.{Record}
use Rattle.core_state.specs.Changes.{made_with}

-- a record leaves an empty leaf of a posting tree deleted
pub record LeavesDeleted (r : Record) (old new : Page) : Type 0 where
  pub high : ℕ
  pub was : old.body ≡ body.PostLeaf high []
  pub after : new ≡ made_with r old.right (body.Deleted (gone.PostLeaf high []))

-- the child with this number, which isn't the last, is the page, and it goes
pub record GoesAt (page : ℕ) (old new : List PostChild) (k : ℕ) : Type 0 where
  pub child : PostChild
  pub at : slice_get old k ≡ Some child
  pub page_is : child.page ≡ page
  pub not_last : suc k < length old
  pub others : new ≡ take k old ++ drop (suc k) old

-- so it is of one of them
abbrev pub LosesChild : ℕ → List PostChild → List PostChild → Type 0
LosesChild page old new = (k : ℕ) × GoesAt page old new k

-- a record leaves a parent without the page
pub record LeavesParent (r : Record) (page : ℕ) (old new : Page) : Type 0 where
  pub children : List PostChild
  pub then : List PostChild
  pub was : old.body ≡ body.PostInner children
  pub loses : LosesChild page children then
  pub after : new ≡ made_with r old.right (body.PostInner then)

-- a record leaves a leaf, whose right link was the page, with this right link
pub record LinksPast (r : Record) (page to : ℕ) (old new : Page) : Type 0 where
  pub high : ℕ
  pub items : List ℕ
  pub was : old.body ≡ body.PostLeaf high items
  pub link : old.right ≡ page
  pub after : new ≡ made_with r to (body.PostLeaf high items)
