-- Where an iterator over an item list is.
use Rattle.std.specs.Prelude.{◌≡◌, ℕ, List, length}
use Rattle.page_types.specs.Items.{item_list_from, AreItemsFrom}
use Rattle.page_types.specs.ItemReading.{last_or}
use Rattle.posting_code.specs.Inner.Places.{items_left}

-- the rest is the list of the items that are left; so many are left, and this is the last of them
pub record IsAt (previous : ℕ) (rest : List ℕ) (count last : ℕ) : Type 0 where
  pub items : AreItemsFrom previous (items_left previous rest)
  pub list : rest ≡ item_list_from previous (items_left previous rest)
  pub counted : count ≡ length (items_left previous rest)
  pub ends : last ≡ last_or previous (items_left previous rest)
