-- What a reader of a query's text holds in memory.
use Rattle.std.specs.Prelude.{◌≡◌, ℕ, List, [], ◌∷◌, ◌++◌, map, length, Bool, true, false, Option, Some, None}
use Rattle.std.specs.String.{string_bytes}
use Rattle.ts_base.specs.declared.Weights.{Weights}
use Rattle.ts_base.specs.Inner.Leads.{Leads}
use Rattle.ts_base.specs.Inner.Machine.{RestAt, Moves, Stuck, Unfinished}
use Rattle.ts_query.specs.Queries.{Query}
use Rattle.ts_query.specs.Tokens.{QueryToken}
use Rattle.ts_query.specs.Grammar.{ReadsQuery}
use Rattle.ts_query.specs.Limits.{first_far, first_long}
use Rattle.ts_query.specs.Postfix.{postfix_of}
use Rattle.ts_query.specs.Inner.Frames.{Spot, IsDue, IsHeld, SpotRest}
use Rattle.ts_query.specs.Inner.Parsing.{entry_item, Shows, Takes}
use Rattle.ts_query.specs.Inner.Lexer.{Lexer, between, in_quoted, quoted_escaped, behind_quote, in_plain, plain_escaped}
use Rattle.ts_query.specs.Inner.Lexer.{in_marks, behind_less, behind_dash, in_digits, LexerRest}
use Rattle.ts_query.specs.declared.reader.State.{State}
use Rattle.ts_query.specs.declared.reader.State.TheVariants.{Between, InQuoted, QuotedEscape, Quote, InPlain}
use Rattle.ts_query.specs.declared.reader.State.TheVariants.{PlainEscape, InMarks, Less, Dash, Digits}
use Rattle.ts_query.specs.declared.reader.Reader.{Reader}
use Rattle.ts_query.specs.declared.reader.Outcome.{Outcome}

-- the tokens of a text, and the query that they spell
abbrev pub Reading : Type 0
Reading = List QueryToken × Query

abbrev pub ReadsPair : List ℕ → Reading → Type 0
ReadsPair text v = ReadsQuery text v.0 v.1

-- where the reader is, in a token and between tokens, and the tokens so far
pub record Stand : Type 0 where
  pub lexer : Lexer
  pub spot : Spot
  pub tokens : List QueryToken

-- within an operand one is due, and within a phrase operator one is
abbrev pub FitsSpot : Lexer → Spot → Type 0
FitsSpot between p = Unit {0}
FitsSpot (in_quoted s a) p = IsDue p
FitsSpot (quoted_escaped s a) p = IsDue p
FitsSpot (behind_quote s a) p = IsDue p
FitsSpot (in_plain s a) p = IsDue p
FitsSpot (plain_escaped s a) p = IsDue p
FitsSpot (in_marks s l w m) p = IsDue p
FitsSpot (behind_less s) p = IsHeld p
FitsSpot (behind_dash s) p = IsHeld p
FitsSpot (in_digits s m) p = IsHeld p

-- in a text of n bytes the bytes u are left
pub record QueryRest (s : Stand) (n : ℕ) (u : List ℕ) (v : Reading) : Type 0 where
  pub tokens : List QueryToken
  pub left : LexerRest n s.lexer u tokens
  pub all : v.0 ≡ s.tokens ++ tokens
  pub rest : SpotRest s.spot tokens v.1

abbrev pub lexer_at : State → ℕ → List ℕ → Weights → Bool → ℕ → Lexer
lexer_at Between s a w p m = between
lexer_at InQuoted s a w p m = in_quoted s a
lexer_at QuotedEscape s a w p m = quoted_escaped s a
lexer_at Quote s a w p m = behind_quote s a
lexer_at InPlain s a w p m = in_plain s a
lexer_at PlainEscape s a w p m = plain_escaped s a
lexer_at InMarks s a w p m = in_marks s a w p
lexer_at Less s a w p m = behind_less s
lexer_at Dash s a w p m = behind_dash s
lexer_at Digits s a w p m = in_digits s m

abbrev pub lexer_of : Reader → Lexer
lexer_of r = lexer_at r.state r.start (string_bytes r.word) r.weights r.prefix r.distance

-- of the tokens so far: the operators and operands in the parser, and the first token past each limit
pub record Tracks (r : Reader) (spot : Spot) (tokens : List QueryToken) : Type 0 where
  pub shows : Shows r.parser spot
  pub far : r.far ≡ first_far tokens
  pub long : r.long ≡ first_long tokens

pub record IsReaderAt (r : Reader) (s : Stand) : Type 0 where
  pub lexer : s.lexer ≡ lexer_of r
  pub fits : FitsSpot s.lexer s.spot
  pub tracks : Tracks r s.spot s.tokens

-- what a character within a token leaves as it was
pub record KeepsParsed (old new : Reader) : Type 0 where
  pub parser : new.parser ≡ old.parser
  pub far : new.far ≡ old.far
  pub long : new.long ≡ old.long

-- the parser has got the token k
pub record Gave (spot : Spot) (tokens : List QueryToken) (k : QueryToken) (r : Reader)
    : Type 0 where
  pub new : Spot
  pub tracks : Tracks r new (tokens ++ k ∷ [])
  pub takes : Takes spot k new

-- these bytes are read, and what may follow is the same
pub record Moved (i : ℕ) (old : Stand) (bytes : List ℕ) (r : Reader) : Type 0 where
  pub new : Stand
  pub holds : IsReaderAt r new
  pub moves : Moves Stand Reading QueryRest i old bytes new

-- the bytes are read, or can't be there
abbrev pub MovedOrStuck : ℕ → Stand → List ℕ → Bool → Reader → Type 0
MovedOrStuck i old bytes true r = Moved i old bytes r
MovedOrStuck i old bytes false r = Stuck Stand Reading QueryRest old bytes

-- the text may end here: the postfix list is that of its query, and the first tokens past the limits are those of
-- its tokens
pub record EndsAs (s : Stand) (o : Outcome) : Type 0 where
  pub tokens : List QueryToken
  pub query : Query
  pub entries : map entry_item o.entries.items ≡ postfix_of query
  pub far : o.far ≡ first_far tokens
  pub long : o.long ≡ first_long tokens
  pub found : (n : ℕ) → QueryRest s n [] (tokens, query)

-- the text ends so, or can't end here
abbrev pub EndsOrNot : Stand → Option Outcome → Type 0
EndsOrNot s (Some o) = EndsAs s o
EndsOrNot s None = Unfinished Stand Reading QueryRest s

-- what was read stands for the text
pub record IsOutcome (text : List ℕ) (o : Outcome) : Type 0 where
  pub tokens : List QueryToken
  pub query : Query
  pub entries : map entry_item o.entries.items ≡ postfix_of query
  pub far : o.far ≡ first_far tokens
  pub long : o.long ≡ first_long tokens
  pub reads : ReadsQuery text tokens query

-- the reader has read the text up to the rest, which begins at this offset
pub record ReadTo (text rest : List ℕ) (at : ℕ) (r : Reader) : Type 0 where
  pub front : List ℕ
  pub split : text ≡ front ++ rest
  pub place : length front ≡ at
  pub stand : Stand
  pub holds : IsReaderAt r stand
  pub leads : Leads Reading ReadsPair front (RestAt Reading (QueryRest stand) at)
