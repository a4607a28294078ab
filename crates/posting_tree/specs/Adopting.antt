-- A parent with one child more, where its child was split.
use Rattle.std.specs.Prelude.{ℕ, ◌<◌, List}
use Rattle.page_types.specs.Numbers.{item_limit}
use Rattle.page_types.specs.declared.page.PostChild.{PostChild}
use Rattle.core_state.specs.Log.{In}

-- an item divides what is below a child with this bound, which comes after these
pub record IsDivider (mid bound : ℕ) (front : List PostChild) : Type 0 where
  pub item : mid < item_limit
  pub above : (b : PostChild) → In b front → b.bound < mid
  pub below : mid < bound
