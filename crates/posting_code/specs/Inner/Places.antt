-- Places in an item list.
use Rattle.std.specs.Prelude.{◌≡◌, ℕ, ◌+◌, ◌-◌, ◌<◌, List, ◌++◌, ◌≤◌, length}
use Rattle.std.specs.List.{AllByRecursion, Contains}
use Rattle.page_types.specs.Items.{varbyte, item_list_from, AreItemsFrom, differences, sums_from}
use Rattle.page_types.specs.ItemReading.{last_or}

-- the items after a place
abbrev pub items_left : ℕ → List ℕ → List ℕ
items_left last rest = sums_from last (differences rest)

-- the bytes are the list of the items after a place
pub record IsListAfter (last : ℕ) (rest : List ℕ) : Type 0 where
  pub items : AreItemsFrom last (items_left last rest)
  pub list : rest ≡ item_list_from last (items_left last rest)

-- from one place to a later one, before the first item that is not below a bound
pub record Passes (bound last : ℕ) (rest : List ℕ) (last' : ℕ) (rest' : List ℕ) : Type 0 where
  pub front : List ℕ
  pub all : items_left last rest ≡ front ++ items_left last' rest'
  pub ends : last' ≡ last_or last front
  pub below : AllByRecursion (λ i. i < bound) front
  pub above : AllByRecursion (λ i. bound ≤ i) (items_left last' rest')
  pub stands : IsListAfter last' rest'

-- an item is taken after the last one, with the bytes of their difference, where it is not among those that are left
pub data TakesItem (left : List ℕ) (item last size last' size' : ℕ) : Type 0 where
  there : Contains left item → last' ≡ last → size' ≡ size → TakesItem left item last size last' size'
  new : (Contains left item → ⊥) → last' ≡ item → size' ≡ size + length (varbyte (item - last))
      → TakesItem left item last size last' size'
