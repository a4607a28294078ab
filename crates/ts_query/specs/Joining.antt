-- Queries made of queries.
use Rattle.std.specs.Prelude.{◌≤◌, Some, None}
use Rattle.ts_query.specs.declared.TheConstants.{NODE_LIMIT}
use Rattle.ts_query.specs.declared.error.QueryError.{QueryError}
use Rattle.ts_query.specs.declared.error.QueryError.TheVariants.{Syntax, DistanceTooLarge, TooManyNodes, LexemeTooLong}
use Rattle.ts_query.specs.declared.error.QueryError.TheVariants.{OutOfMemory}
use Rattle.ts_query.specs.Queries.{Joint, joined, negated, Query, nodes_of}

-- what joins two queries; beside an empty query the other is given
abbrev pub joined_queries : Joint → Query → Query → Query
joined_queries j None q = q
joined_queries j (Some x) None = Some x
joined_queries j (Some x) (Some y) = Some (joined j x y)

abbrev pub negated_query : Query → Query
negated_query None = None
negated_query (Some x) = Some (negated x)

-- the only cause of a refusal, running out of memory aside, is that the query has too many nodes
abbrev pub IsOnlyTooLarge : Query → QueryError → Type 0
IsOnlyTooLarge q TooManyNodes = NODE_LIMIT ≤ nodes_of q
IsOnlyTooLarge q OutOfMemory = Unit {0}
IsOnlyTooLarge q (Syntax at) = ⊥
IsOnlyTooLarge q (DistanceTooLarge at) = ⊥
IsOnlyTooLarge q (LexemeTooLong at) = ⊥
