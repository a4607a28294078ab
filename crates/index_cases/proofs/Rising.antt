-- Items that one more comes after.
use Rattle.std.proofs.Common.{◌<◌, ℕ, List, [], ◌∷◌, ◌++◌}
use Rattle.page_types.specs.Numbers.{item_limit}
use Rattle.page_types.specs.Items.{AreItemsFrom}

-- a number is above all of the items, and above this one where there are none
abbrev pub IsAboveFrom : ℕ → List ℕ → ℕ → Type 0
IsAboveFrom last [] n = last < n
IsAboveFrom last (i ∷ is) n = IsAboveFrom i is n

-- one more, which is above them, comes after them, and what is above it is above all
pub more_from : (last : ℕ) (items : List ℕ) (n : ℕ) → AreItemsFrom last items → IsAboveFrom last items n
    → n < item_limit → AreItemsFrom last (items ++ n ∷ [])
more_from last [] n rise above low = (above, low, rise)
more_from last (i ∷ is) n rise above low = (rise.0, rise.1, more_from i is n rise.2 above low)

pub above_from : (last : ℕ) (items : List ℕ) (n next : ℕ) → n < next → IsAboveFrom last (items ++ n ∷ []) next
above_from last [] n next less = less
above_from last (i ∷ is) n next less = above_from i is n next less
