-- A web query that is made item by item: the trees of what was read so far.
use Rattle.std.specs.Prelude.{◌≡◌, ℕ, ◌≤◌, List, [], ◌∷◌, ◌++◌, is_some}
use Rattle.ts_query.specs.declared.TheConstants.{NODE_LIMIT}
use Rattle.ts_query.specs.declared.error.QueryError.{QueryError}
use Rattle.ts_query.specs.declared.error.QueryError.TheVariants.{Syntax, DistanceTooLarge, TooManyNodes, LexemeTooLong}
use Rattle.ts_query.specs.declared.error.QueryError.TheVariants.{OutOfMemory}
use Rattle.ts_query.specs.Queries.{Tree}
use Rattle.ts_config.specs.Mappings.{Mapping}
use Rattle.ts_config.specs.Known.{Known}
use Rattle.ts_make.specs.Removal.{Sketch}
use Rattle.ts_make.specs.Made.{IsSketched, RemakingFails}
use Rattle.ts_make.specs.Making.{with_left, nodes_sketched, IsMaking}
use Rattle.ts_make.specs.Inner.Making.{AreSketched}
use Rattle.ts_make.specs.declared.maker.QueryMaker.{QueryMaker}
use Rattle.ts_websearch.specs.Items.{WebItem, AreItems}
use Rattle.ts_websearch.specs.Rows.{AreRows}
use Rattle.ts_websearch.specs.Made.{row_query, web_query, AreWebRows}
use Rattle.ts_websearch.specs.declared.web.WebMaker.{WebMaker}

-- the row so far, above the rows that have ended
abbrev pub stack_trees : List (List WebItem) → List WebItem → List Tree
stack_trees ended row = with_left (row_query row) (with_left (web_query ended) [])

module _ (known : Known) (mapping : Mapping) where
  -- a tree was made on top of what there was
  abbrev pub IsMadeOn : Tree → QueryMaker → QueryMaker → Type 0
  IsMadeOn tree old new =
      (d : Sketch) × IsSketched known mapping tree d
      × ((ds : List Sketch) → IsMaking old ds → IsMaking new (d ∷ ds))

  -- with it there are too many nodes, or want of memory
  abbrev pub MakingFails : Tree → QueryMaker → QueryError → Type 0
  MakingFails tree old TooManyNodes =
      (d : Sketch) × IsSketched known mapping tree d
      × ((ds : List Sketch) → IsMaking old ds → NODE_LIMIT ≤ nodes_sketched (d ∷ ds))
  MakingFails tree old OutOfMemory = Unit {0}
  MakingFails tree old (Syntax at) = ⊥
  MakingFails tree old (DistanceTooLarge at) = ⊥
  MakingFails tree old (LexemeTooLong at) = ⊥

  -- these rows have ended, and this one is read
  pub record IsWebAt (web : WebMaker) (ended : List (List WebItem)) (row : List WebItem) : Type 0
    where
      pub has_rows : web.rows ≡ is_some (web_query ended)
      pub has_row : web.row ≡ is_some (row_query row)
      pub sketches : List Sketch
      pub making : IsMaking web.maker sketches
      pub are : AreSketched known mapping (stack_trees ended row) sketches

  -- whatever follows, the query has too many nodes, or want of memory
  abbrev pub AddingFails : List (List WebItem) → List WebItem → QueryError → Type 0
  AddingFails ended row error =
      (more : List WebItem) (others : List (List WebItem))
      → RemakingFails known mapping (web_query (ended ++ (row ++ more) ∷ others)) error

  -- the same after the end of the row
  abbrev pub EndingFails : List (List WebItem) → List WebItem → QueryError → Type 0
  EndingFails ended row error =
      (others : List (List WebItem))
      → RemakingFails known mapping (web_query (ended ++ row ∷ others)) error

-- what was read of a text: the rows that have ended, the row so far, and what is left
pub record ReadTo (text : List ℕ) (rest : List ℕ) (ended : List (List WebItem))
    (row : List WebItem) : Type 0 where
  pub goes_on : (is : List WebItem) (rows : List (List WebItem)) → AreItems rest is
      → AreRows row is rows
      → AreWebRows text (ended ++ rows)
