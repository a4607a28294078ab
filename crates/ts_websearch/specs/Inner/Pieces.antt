-- The items of a web text, as code cuts them.
use Rattle.std.specs.Prelude.{ℕ, ◌<◌, List, ◌∷◌, length}
use Rattle.ts_websearch.specs.Items.{WebItem, quoted, row, hyphen, AreItems}
use Rattle.ts_websearch.specs.declared.items.Piece.{Piece}
use Rattle.ts_websearch.specs.declared.items.Piece.TheVariants.{Quoted, Row, Hyphen}

abbrev pub piece_item : Piece → WebItem
piece_item (Quoted negated text) = quoted negated text.now
piece_item (Row negated text) = row negated text.now
piece_item Hyphen = hyphen

-- the text has the item first, and its others are those of the rest, which is shorter
pub record IsNext (text : List ℕ) (i : WebItem) (rest : List ℕ) : Type 0 where
  pub goes_on : (is : List WebItem) → AreItems rest is → AreItems text (i ∷ is)
  pub shorter : length rest < length text
