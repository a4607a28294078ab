-- Where an item is sought among rising ones.
use Rattle.std.specs.Prelude.{ℕ, ◌*◌, ◌<◌, ◌≤◌, List, length, get_or}
use Rattle.page_types.specs.Numbers.{most_slots}

-- the items before the one place are below the item, and those from the other place on are not
pub record IsWindow (items : List ℕ) (item low high : ℕ) : Type 0 where
  pub in_order : low ≤ high
  pub within : high ≤ length items
  pub below : (j : ℕ) → j < low → get_or items j 0 < item
  pub above : (j : ℕ) → high ≤ j → j < length items → item ≤ get_or items j 0

-- so many of the items are on pages before each of the first heap pages
abbrev pub AreStarts : List ℕ → List ℕ → Type 0
AreStarts items starts =
    (k : ℕ) → k < length starts → IsWindow items (k * most_slots) (get_or starts k 0) (get_or starts k 0)
