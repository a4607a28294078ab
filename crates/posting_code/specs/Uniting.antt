-- Item lists that come of another one and of other items.
use Rattle.std.specs.Prelude.{◌⊎◌, ◌↔◌, ℕ, ◌+◌, ◌<◌, ◌≤◌, List, length, take}
use Rattle.std.specs.List.{Contains}
use Rattle.page_types.specs.Items.{items_of, IsItemList}

-- the list of the items of another one and of these
pub record IsUnited (list items bytes : List ℕ) : Type 0 where
  pub is_list : IsItemList bytes
  pub has : (i : ℕ) → Contains (items_of bytes) i ↔ (Contains (items_of list) i ⊎ Contains items i)

-- the list of the items of another one, but of these, no longer than it was
pub record IsLeft (list gone bytes : List ℕ) : Type 0 where
  pub is_list : IsItemList bytes
  pub has : (i : ℕ) → Contains (items_of bytes) i ↔ (Contains (items_of list) i × (Contains gone i → ⊥))
  pub short : length bytes ≤ length list

-- A list takes just so many of these items, the first of them, within so many bytes: with them it has no more bytes,
-- and with the next one too it has more. It takes none where it has more bytes already.
pub record TakesFirst (list items : List ℕ) (most n : ℕ) : Type 0 where
  pub among : n ≤ length items
  pub fits : (bytes : List ℕ) → 0 < n → IsUnited list (take n items) bytes → length bytes ≤ most
  pub no_more : (bytes : List ℕ) → n < length items → IsUnited list (take (n + 1) items) bytes → most < length bytes
