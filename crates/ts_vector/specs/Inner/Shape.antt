-- What may still follow in each state of the reader of a vector's text.
use Rattle.std.specs.Prelude.{ℕ, List, [], ◌∷◌, ◌++◌, Bool, Option}
use Rattle.ts_base.specs.Vectors.{Position}
use Rattle.ts_base.specs.Inner.Residuals.{QuotedOn, QuoteOn, PlainOn, EscapedOn}
use Rattle.ts_base.specs.Inner.Machine.{Moves, Stuck, Stepped, Finished}
use Rattle.ts_vector.specs.Text.{Written, written, EndsItem, PositionNumber, BehindPosition, Items, LexemeTail}
use Rattle.ts_vector.specs.declared.reader.State.{State}
use Rattle.ts_vector.specs.declared.reader.State.TheVariants.{Between, InQuoted, QuotedEscape, Quote, InPlain}
use Rattle.ts_vector.specs.declared.reader.State.TheVariants.{PlainEscape, Digits, Weighted}
use Rattle.ts_vector.specs.declared.reader.Reader.{Reader}

-- within quotes, after a quote there, and within a plain lexeme of the item that starts at s
abbrev pub ItemQuoted : ℕ → ℕ → List Written → List ℕ → List ℕ → List Written → Type 0
ItemQuoted size s its = QuotedOn (List Written) (LexemeTail size s its)

abbrev pub ItemQuote : ℕ → ℕ → List Written → List ℕ → List ℕ → List Written → Type 0
ItemQuote size s its = QuoteOn (List Written) (LexemeTail size s its)

abbrev pub ItemPlain : ℕ → ℕ → List Written → List ℕ → List ℕ → List Written → Type 0
ItemPlain size s its = PlainOn (List Written) EndsItem (LexemeTail size s its)

abbrev pub PositionNumberOn : ℕ → ℕ → List Written → List ℕ → List Position → ℕ → List ℕ
    → List Written → Type 0
PositionNumberOn size s its a ps n u v = (qs : List Position) × (r : List ℕ)
    × PositionNumber n ps u qs r × Items size (its ++ written s a qs ∷ []) r v

abbrev pub BehindPositionOn : ℕ → ℕ → List Written → List ℕ → List Position → List ℕ → List Written
    → Type 0
BehindPositionOn size s its a ps u v = (qs : List Position) × (r : List ℕ)
    × BehindPosition ps u qs r × Items size (its ++ written s a qs ∷ []) r v

-- What may still follow in a state, and the whole vector's value.
abbrev pub StateRest : ℕ → State → List Written → ℕ → List ℕ → List Position → ℕ → List ℕ
    → List Written → Type 0
StateRest size Between its s a ps n u v = Items size its u v
StateRest size InQuoted its s a ps n u v = ItemQuoted size s its a u v
StateRest size QuotedEscape its s a ps n u v = EscapedOn (List Written) (ItemQuoted size s its) a u v
StateRest size Quote its s a ps n u v = ItemQuote size s its a u v
StateRest size InPlain its s a ps n u v = ItemPlain size s its a u v
StateRest size PlainEscape its s a ps n u v = EscapedOn (List Written) (ItemPlain size s its) a u v
StateRest size Digits its s a ps n u v = PositionNumberOn size s its a ps n u v
StateRest size Weighted its s a ps n u v = BehindPositionOn size s its a ps u v

-- what a reader holds, without where it lies in memory
pub record Shape : Type 0 where
  pub state : State
  pub items : List Written
  pub start : ℕ
  pub word : List ℕ
  pub positions : List Position
  pub value : ℕ

abbrev pub shape : Reader → Shape
shape r =
    record {
      state = r.state;
      items = r.words;
      start = r.start;
      word = r.word.items;
      positions = r.positions.items;
      value = r.value;
    }

-- in a text of this size
abbrev pub VectorRest : Shape → ℕ → List ℕ → List Written → Type 0
VectorRest s size u v = StateRest size s.state s.items s.start s.word s.positions s.value u v

-- a byte is read, can't be here, or one of both; and the text ends or can't end here
abbrev pub ShapeMoves : ℕ → Shape → ℕ → Shape → Type 0
ShapeMoves i old c new = Moves Shape (List Written) VectorRest i old (c ∷ []) new

abbrev pub ShapeStuck : Shape → ℕ → Type 0
ShapeStuck s c = Stuck Shape (List Written) VectorRest s (c ∷ [])

abbrev pub ShapeSteps : ℕ → Shape → ℕ → Bool → Shape → Type 0
ShapeSteps i old c ok new = Stepped Shape (List Written) VectorRest i old (c ∷ []) ok new

abbrev pub ShapeEnds : Shape → Option (List Written) → Type 0
ShapeEnds s r = Finished Shape (List Written) VectorRest s r
