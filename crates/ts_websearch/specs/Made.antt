-- What query a web text is made, and why it is refused.
use Rattle.std.specs.Prelude.{ℕ, List, [], ◌∷◌, map, fold, option_to_list, Bool, true, false, Some, None}
use Rattle.std.specs.List.{flat_map}
use Rattle.ts_query.specs.declared.error.QueryError.{QueryError}
use Rattle.ts_query.specs.Queries.{Joint, or_joint, and_joint, Tree, leaf, negated, joined, Query}
use Rattle.ts_query.specs.Tokens.{operand, no_weights}
use Rattle.ts_config.specs.Mappings.{Mapping}
use Rattle.ts_config.specs.Known.{Known}
use Rattle.ts_make.specs.Made.{IsMadeOf, RemakingFails}
use Rattle.ts_websearch.specs.Items.{WebItem, quoted, row, hyphen, AreItems}
use Rattle.ts_websearch.specs.Rows.{AreRows}

-- an operand that stands for this text, without weights and without a mark, negated or not
abbrev pub text_tree : Bool → List ℕ → Tree
text_tree false text = leaf (operand text no_weights false)
text_tree true text = negated (leaf (operand text no_weights false))

-- a lone hyphen stands for no text
abbrev pub item_tree : WebItem → Tree
item_tree (quoted b text) = text_tree b text
item_tree (row b text) = text_tree b text
item_tree hyphen = text_tree false []

-- trees joined from the left; the empty query where there are none
abbrev pub all_by : Joint → List Tree → Query
all_by j [] = None
all_by j (x ∷ ys) = Some (fold (joined j) x ys)

-- the items of a row joined by `&`
abbrev pub row_query : List WebItem → Query
row_query items = all_by and_joint (map item_tree items)

-- the rows joined by `|`; a row without items is left out
abbrev pub web_query : List (List WebItem) → Query
web_query rows = all_by or_joint (flat_map (λ r. option_to_list (row_query r)) rows)

-- the rows of a web text's items
pub record AreWebRows (text : List ℕ) (rows : List (List WebItem)) : Type 0 where
  pub items : List WebItem
  pub are_items : AreItems text items
  pub are_rows : AreRows [] items rows

-- the query of the rows, whose operands are texts, made without its stop operands
abbrev pub IsWebQuery : Known → Mapping → List ℕ → Query → Type 0
IsWebQuery known mapping text query =
    (rows : List (List WebItem)) × AreWebRows text rows
    × IsMadeOf known mapping (web_query rows) query

-- it is refused for the number of its nodes alone
abbrev pub WebQueryFails : Known → Mapping → List ℕ → QueryError → Type 0
WebQueryFails known mapping text error =
    (rows : List (List WebItem)) × AreWebRows text rows
    × RemakingFails known mapping (web_query rows) error
