-- Item lists: rising items as the differences between them, the first from 0, each as a varbyte.
use Rattle.std.specs.Prelude.{◌≡◌, ℕ, zero, suc, ◌+◌, ◌-◌, ◌*◌, ◌/◌, ◌%◌, ◌<◌, nat_lt, cond, List, [], ◌∷◌, ◌++◌, ⊤}
use Rattle.page_types.specs.Numbers.{item_limit}

-- A number as a varbyte: seven bits at a time, the low ones first, 128 added where more follow, in the fewest bytes.
-- The first argument is the most bytes.
abbrev pub varbyte_within : ℕ → ℕ → List ℕ
varbyte_within zero n = []
varbyte_within (suc most) n = cond (nat_lt n 128) (n ∷ []) ((n % 128 + 128) ∷ varbyte_within most (n / 128))

-- a difference of items is below 2 ^ 31
unfoldable pub varbyte : ℕ → List ℕ
varbyte n = varbyte_within 5 n

-- the list of these items, which come after the item `last`
abbrev pub item_list_from : ℕ → List ℕ → List ℕ
item_list_from last [] = []
item_list_from last (i ∷ is) = varbyte (i - last) ++ item_list_from i is

abbrev pub item_list : List ℕ → List ℕ
item_list items = item_list_from 0 items

-- each item is above the one before it, and all are items
abbrev pub AreItemsFrom : ℕ → List ℕ → Type 0
AreItemsFrom last [] = ⊤
AreItemsFrom last (i ∷ is) = (last < i) × (i < item_limit) × AreItemsFrom i is

-- rising items above 0
abbrev pub AreItems : List ℕ → Type 0
AreItems items = AreItemsFrom 0 items

-- low are the seven bits of a number whose others come first in the list; a number that is cut short is none
abbrev pub carried : ℕ → List ℕ → List ℕ
carried low [] = []
carried low (n ∷ ns) = (low + 128 * n) ∷ ns

abbrev pub with_byte : ℕ → List ℕ → List ℕ
with_byte b ns = cond (nat_lt b 128) (b ∷ ns) (carried (b - 128) ns)

-- the numbers that are in a row of varbytes
abbrev pub differences : List ℕ → List ℕ
differences [] = []
differences (b ∷ bs) = with_byte b (differences bs)

abbrev pub sums_from : ℕ → List ℕ → List ℕ
sums_from last [] = []
sums_from last (n ∷ ns) = (last + n) ∷ sums_from (last + n) ns

-- the items that are in a list
unfoldable pub items_of : List ℕ → List ℕ
items_of bytes = sums_from 0 (differences bytes)

-- the bytes are the list of rising items
pub record IsItemList (bytes : List ℕ) : Type 0 where
  pub items : AreItems (items_of bytes)
  pub encoding : bytes ≡ item_list (items_of bytes)
