-- The rows of a web text's items: the items between two operators `|`.
use Rattle.std.specs.Prelude.{◌≡◌, ◌≢◌, List, [], ◌∷◌, ◌++◌, true, false, codes}
use Rattle.ts_base.specs.Words.{lower}
use Rattle.ts_websearch.specs.Items.{WebItem, quoted, row, hyphen}

-- a row of characters that is `or` in any mix of cases, not negated
abbrev pub IsOr : WebItem → Type 0
IsOr (quoted negated text) = ⊥
IsOr (row true text) = ⊥
IsOr (row false text) = lower text ≡ codes "or"
IsOr hyphen = ⊥

-- After the items `a` of a row the item i, which these items follow, is an operator: not first,
-- not last, not right after another.
abbrev pub IsOperator : List WebItem → WebItem → List WebItem → Type 0
IsOperator a i is = (a ≢ []) × IsOr i × (is ≢ [])

-- after the beginning `a` of a row, these items go on so that the rows are these
pub data AreRows : List WebItem → List WebItem → List (List WebItem) → Type 0 where
  rows_end : (a : List WebItem) → AreRows a [] (a ∷ [])
  item_more : (a : List WebItem) (i : WebItem) (is : List WebItem) (rows : List (List WebItem))
      → ¬ IsOperator a i is → AreRows (a ++ i ∷ []) is rows → AreRows a (i ∷ is) rows
  or_between : (a : List WebItem) (i : WebItem) (is : List WebItem) (rows : List (List WebItem))
      → IsOperator a i is → AreRows [] is rows → AreRows a (i ∷ is) (a ∷ rows)
