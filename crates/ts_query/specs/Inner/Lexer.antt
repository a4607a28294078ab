-- Where a reader of tokens is in a text, and the bytes that may still follow.
use Rattle.std.specs.Prelude.{◌≡◌, ℕ, ◌+◌, List, [], ◌∷◌, ◌++◌, Bool, length}
use Rattle.ts_base.specs.declared.Weights.{Weights}
use Rattle.ts_query.specs.Queries.{Operand, phrase_joint}
use Rattle.ts_query.specs.Tokens.{QueryToken, word, sign, EndsOperand, Marks, operand, BehindLexeme, DistanceNumber}
use Rattle.ts_query.specs.Tokens.{Distance, Lex}
use Rattle.ts_base.specs.Inner.Residuals.{QuotedOn, QuoteOn, PlainOn, EscapedOn}

-- Within a token it has the offset where that starts. A word has the bytes of its lexeme so far, and after `:` its
-- weights and
-- mark; `<N>` has the number so far.
pub data Lexer : Type 0 where
  between : Lexer
  in_quoted : ℕ → List ℕ → Lexer
  quoted_escaped : ℕ → List ℕ → Lexer
  behind_quote : ℕ → List ℕ → Lexer
  in_plain : ℕ → List ℕ → Lexer
  plain_escaped : ℕ → List ℕ → Lexer
  in_marks : ℕ → List ℕ → Weights → Bool → Lexer
  behind_less : ℕ → Lexer
  behind_dash : ℕ → Lexer
  in_digits : ℕ → ℕ → Lexer

-- In a text of n bytes: u is left, and the tokens ks begin with the one that was begun.
-- after the operand o
abbrev pub WordOn : ℕ → ℕ → Operand → List ℕ → List QueryToken → Type 0
WordOn n s o u ks = (rest : List QueryToken) × (ks ≡ word s o ∷ rest) × Lex n u rest

-- after the lexeme l
abbrev pub BehindLexemeOn : ℕ → ℕ → List ℕ → List ℕ → List QueryToken → Type 0
BehindLexemeOn n s l u ks = (o : Operand) × (r : List ℕ) × BehindLexeme l u o r × WordOn n s o r ks

-- within quotes, after a quote there, and within a plain lexeme
abbrev pub OperandQuoted : ℕ → ℕ → List ℕ → List ℕ → List QueryToken → Type 0
OperandQuoted n s = QuotedOn (List QueryToken) (BehindLexemeOn n s)

abbrev pub OperandQuote : ℕ → ℕ → List ℕ → List ℕ → List QueryToken → Type 0
OperandQuote n s = QuoteOn (List QueryToken) (BehindLexemeOn n s)

abbrev pub OperandPlain : ℕ → ℕ → List ℕ → List ℕ → List QueryToken → Type 0
OperandPlain n s = PlainOn (List QueryToken) EndsOperand (BehindLexemeOn n s)

abbrev pub MarksOn : ℕ → ℕ → List ℕ → Weights → Bool → List ℕ → List QueryToken → Type 0
MarksOn n s l w p u ks = (v : Weights) × (q : Bool) × (r : List ℕ) × Marks w p u v q r
    × WordOn n s (operand l v q) r ks

-- after `<N>`
abbrev pub SignOn : ℕ → ℕ → ℕ → List ℕ → List QueryToken → Type 0
SignOn n s d u ks = (rest : List QueryToken) × (ks ≡ sign s (phrase_joint d) ∷ rest) × Lex n u rest

abbrev pub LessOn : ℕ → ℕ → List ℕ → List QueryToken → Type 0
LessOn n s u ks = (d : ℕ) × (r : List ℕ) × Distance u d r × SignOn n s d r ks

abbrev pub DashOn : ℕ → ℕ → List ℕ → List QueryToken → Type 0
DashOn n s [] ks = ⊥
DashOn n s (c ∷ u) ks = (c ≡ 62) × SignOn n s 1 u ks

abbrev pub DigitsOn : ℕ → ℕ → ℕ → List ℕ → List QueryToken → Type 0
DigitsOn n s m u ks = (d : ℕ) × (r : List ℕ) × DistanceNumber m u d r × SignOn n s d r ks

abbrev pub LexerRest : ℕ → Lexer → List ℕ → List QueryToken → Type 0
LexerRest n between u ks = Lex n u ks
LexerRest n (in_quoted s a) u ks = OperandQuoted n s a u ks
LexerRest n (quoted_escaped s a) u ks = EscapedOn (List QueryToken) (OperandQuoted n s) a u ks
LexerRest n (behind_quote s a) u ks = OperandQuote n s a u ks
LexerRest n (in_plain s a) u ks = OperandPlain n s a u ks
LexerRest n (plain_escaped s a) u ks = EscapedOn (List QueryToken) (OperandPlain n s) a u ks
LexerRest n (in_marks s l w p) u ks = MarksOn n s l w p u ks
LexerRest n (behind_less s) u ks = LessOn n s u ks
LexerRest n (behind_dash s) u ks = DashOn n s u ks
LexerRest n (in_digits s m) u ks = DigitsOn n s m u ks

-- after i bytes come these bytes, and the token goes on
pub record Silent (i : ℕ) (old : Lexer) (bytes : List ℕ) (new : Lexer) : Type 0 where
  pub to : (n : ℕ) (u : List ℕ) (ks : List QueryToken) → n ≡ i + length (bytes ++ u)
      → LexerRest n old (bytes ++ u) ks → LexerRest n new u ks
  pub from : (n : ℕ) (u : List ℕ) (ks : List QueryToken) → n ≡ i + length (bytes ++ u)
      → LexerRest n new u ks → LexerRest n old (bytes ++ u) ks

-- before the bytes u the token k is ready, and the reader is between tokens before the bytes r
pub record Ready (n : ℕ) (old : Lexer) (k : QueryToken) (u r : List ℕ) : Type 0 where
  pub to : (ks : List QueryToken) → LexerRest n old u ks
      → (rest : List QueryToken) × (ks ≡ k ∷ rest) × Lex n r rest
  pub from : (rest : List QueryToken) → Lex n r rest → LexerRest n old u (k ∷ rest)
