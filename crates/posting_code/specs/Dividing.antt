-- Where a page's item list is divided when the page is split.
use Rattle.std.specs.Prelude.{◌≡◌, ◌≢◌, ℕ, ◌+◌, ◌*◌, ◌≤◌, List, [], ◌∷◌, ◌++◌, length}
use Rattle.page_types.specs.Numbers.{most_body}
use Rattle.page_types.specs.Items.{varbyte, item_list, items_of}
use Rattle.page_types.specs.ItemReading.{last_or}
use Rattle.posting_code.specs.Cutting.{Cutting}
use Rattle.posting_code.specs.declared.dividing.Halves.{Halves}

-- the items of a list in two parts, neither of them empty
pub record IsDivision (list front back : List ℕ) : Type 0 where
  pub all : items_of list ≡ front ++ back
  pub some_front : front ≢ []
  pub some_back : back ≢ []

-- the part has at least half of the bytes
abbrev pub KeepsHalf : List ℕ → List ℕ → Type 0
KeepsHalf list part = length list ≤ 2 * length (item_list part)

-- the list of the part fits on a leaf, whose body begins with a high item in four bytes
abbrev pub FitsLeaf : List ℕ → Type 0
FitsLeaf part = 4 + length (item_list part) ≤ most_body

-- how a page's list may be divided
abbrev pub list_cutting : List ℕ → Cutting (List ℕ)
list_cutting list = record { Divides = IsDivision list; Keeps = KeepsHalf list; Fits = FitsLeaf; count = length }

-- what is said of two parts
pub record AreHalves (h : Halves) (front back : List ℕ) : Type 0 where
  pub front_is : h.front.now ≡ item_list front
  pub last_is : h.last ≡ last_or 0 front
  pub next_is : (is : List ℕ) × (back ≡ h.next ∷ is)
  pub back_is : varbyte h.next ++ h.rest.now ≡ item_list back
