-- A place among the children of an inner page.
use Rattle.std.specs.Prelude.{ℕ, ◌<◌, ◌≤◌, List}
use Rattle.std.specs.List.Sorted.{IsPartitionPoint}
use Rattle.page_types.specs.declared.page.PostChild.{PostChild}

-- a child has a lower bound than another
abbrev pub Below : PostChild → PostChild → Type 0
Below c d = c.bound < d.bound

-- the children before a place have bounds below an item, and those from it on have not
abbrev pub IsDividedAt : List PostChild → ℕ → ℕ → Type 0
IsDividedAt children item place =
    IsPartitionPoint (λ (c : PostChild). c.bound < item) (λ (c : PostChild). item ≤ c.bound) children place
