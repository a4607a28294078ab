-- Laws of web texts.
use Rattle.std.specs.Prelude.{◌≡◌, ◌≢◌, ℕ, List, [], Result, Ok, Err}
use Rattle.ts_query.specs.declared.error.QueryError.{QueryError}
use Rattle.ts_query.specs.declared.error.QueryError.TheVariants.{OutOfMemory}
use Rattle.ts_query.specs.Queries.{Query}
use Rattle.ts_config.specs.Mappings.{Mapping}
use Rattle.ts_config.specs.Known.{Known}
use Rattle.ts_websearch.specs.Items.{WebItem, AreItems}
use Rattle.ts_websearch.specs.Rows.{AreRows}
use Rattle.ts_websearch.specs.Made.{IsWebQuery, WebQueryFails}

-- a text has exactly one list of items
pub record HasOneItemList (text : List ℕ) : Type 0 where
  pub items : List WebItem
  pub are : AreItems text items
  pub only : (others : List WebItem) → AreItems text others → others ≡ items

abbrev pub ItemsAreOne : Type 0
ItemsAreOne = (text : List ℕ) → HasOneItemList text

-- items have exactly one list of rows
pub record HasOneRowList (items : List WebItem) : Type 0 where
  pub rows : List (List WebItem)
  pub are : AreRows [] items rows
  pub only : (others : List (List WebItem)) → AreRows [] items others → others ≡ rows

abbrev pub RowsAreOne : Type 0
RowsAreOne = (items : List WebItem) → HasOneRowList items

-- the query that a web text is made, or why there is none
abbrev pub IsWebAnswer : Known → Mapping → List ℕ → Result Query QueryError → Type 0
IsWebAnswer known mapping text (Ok query) = IsWebQuery known mapping text query
IsWebAnswer known mapping text (Err error) = WebQueryFails known mapping text error

-- running out of memory aside, a text has at most one answer by a configuration
abbrev pub WebAnswerIsOne : Type 0
WebAnswerIsOne = (known : Known) (mapping : Mapping) (text : List ℕ)
    (a b : Result Query QueryError) → a ≢ Err OutOfMemory → b ≢ Err OutOfMemory
    → IsWebAnswer known mapping text a → IsWebAnswer known mapping text b → a ≡ b
