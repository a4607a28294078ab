-- A parent with one child more, where its child was split.
use Rattle.std.specs.Prelude.{◌≡◌, ℕ, suc, List, ◌∷◌, ◌++◌, take, drop, Some}
use Rattle.std.specs.List.{slice_get}
use Rattle.page_types.specs.Keys.{IsKey, KeyLess, BoundLess}
use Rattle.page_types.specs.declared.page.EntryChild.{EntryChild}
use Rattle.core_state.specs.Log.{In}

-- a key divides what is below a child with this bound, which comes after these
pub record IsDivider (mid bound : List ℕ) (front : List EntryChild) : Type 0 where
  pub key : IsKey mid
  pub above : (b : EntryChild) → In b front → KeyLess b.bound mid
  pub below : BoundLess mid bound

-- child k gets the bound `mid`, and a child with the new page comes after it, with its old bound
pub record IsOneMore (old : List EntryChild) (k new : ℕ) (mid : List ℕ) (more : List EntryChild) : Type 0 where
  pub child : EntryChild
  pub was : slice_get old k ≡ Some child
  pub after : more ≡ take k old ++ record { page = child.page; bound = mid }
      ∷ record { page = new; bound = child.bound } ∷ drop (suc k) old
