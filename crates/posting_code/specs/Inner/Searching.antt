-- Divisions of a list by the bytes of the first part.
use Rattle.std.specs.Prelude.{ℕ, ◌≤◌, List, length}
use Rattle.page_types.specs.Items.{item_list}
use Rattle.posting_code.specs.Dividing.{IsDivision}

-- the shortest first part of at least so many bytes
pub record IsFirstFrom (least : ℕ) (list front back : List ℕ) : Type 0 where
  pub divides : IsDivision list front back
  pub reaches : least ≤ length (item_list front)
  pub first : (f b : List ℕ) → IsDivision list f b → least ≤ length (item_list f) → length front ≤ length f

-- the longest first part of at most so many bytes
pub record IsLastWithin (most : ℕ) (list front back : List ℕ) : Type 0 where
  pub divides : IsDivision list front back
  pub within : length (item_list front) ≤ most
  pub last : (f b : List ℕ) → IsDivision list f b → length (item_list f) ≤ most → length f ≤ length front
