-- What a text is read as, and why one is refused.
use Rattle.std.specs.Prelude.{◌≡◌, ◌≢◌, ◌≤◌, ℕ, List, Some, None, Result, Ok, Err}
use Rattle.ts_base.specs.Fault.{FaultAt, Stands}
use Rattle.ts_query.specs.declared.TheConstants.{NODE_LIMIT}
use Rattle.ts_query.specs.Queries.{Query, nodes_of, IsSound}
use Rattle.ts_query.specs.Tokens.{QueryToken}
use Rattle.ts_query.specs.Grammar.{ReadsQuery, IsQueryText}
use Rattle.ts_query.specs.Limits.{first_far, first_long}
use Rattle.ts_query.specs.declared.error.QueryError.{QueryError}
use Rattle.ts_query.specs.declared.error.QueryError.TheVariants.{Syntax, DistanceTooLarge, TooManyNodes, LexemeTooLong}
use Rattle.ts_query.specs.declared.error.QueryError.TheVariants.{OutOfMemory}

-- the text is in the grammar and within the limits, and the query is its value
pub record IsReadAs (text : List ℕ) (query : Query) : Type 0 where
  pub value : IsQueryText text query
  pub sound : IsSound query

-- The text is in the grammar, and the first operator with a distance above 16384 starts there.
pub record IsTooFar (text : List ℕ) (at : ℕ) : Type 0 where
  pub tokens : List QueryToken
  pub query : Query
  pub reads : ReadsQuery text tokens query
  pub far : first_far tokens ≡ Some at

-- No distance is too large, and the first lexeme of more than 2046 bytes starts there.
pub record IsTooLong (text : List ℕ) (at : ℕ) : Type 0 where
  pub tokens : List QueryToken
  pub query : Query
  pub reads : ReadsQuery text tokens query
  pub near : first_far tokens ≡ None
  pub long : first_long tokens ≡ Some at

-- No distance and no lexeme is too large, and the tree has 32768 nodes or more.
pub record IsTooMany (text : List ℕ) : Type 0 where
  pub tokens : List QueryToken
  pub query : Query
  pub reads : ReadsQuery text tokens query
  pub near : first_far tokens ≡ None
  pub short : first_long tokens ≡ None
  pub many : NODE_LIMIT ≤ nodes_of query

abbrev pub IsRefused : List ℕ → QueryError → Type 0
IsRefused text (Syntax at) = FaultAt (Stands Query IsQueryText) text at
IsRefused text (DistanceTooLarge at) = IsTooFar text at
IsRefused text (LexemeTooLong at) = IsTooLong text at
IsRefused text TooManyNodes = IsTooMany text
IsRefused text OutOfMemory = Unit {0}

abbrev pub IsAnswer : List ℕ → Result Query QueryError → Type 0
IsAnswer text (Ok query) = IsReadAs text query
IsAnswer text (Err error) = IsRefused text error

-- running out of memory aside, a text has at most one answer
abbrev pub OneAnswer : Type 0
OneAnswer =
    (text : List ℕ) (a b : Result Query QueryError) → a ≢ Err OutOfMemory → b ≢ Err OutOfMemory
    → IsAnswer text a → IsAnswer text b → a ≡ b
