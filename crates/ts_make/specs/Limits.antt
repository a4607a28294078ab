-- Trees of too many nodes.
use Rattle.std.specs.Prelude.{ℕ, ◌≤◌}
use Rattle.ts_query.specs.declared.TheConstants.{NODE_LIMIT}
use Rattle.ts_query.specs.declared.error.QueryError.{QueryError}
use Rattle.ts_query.specs.declared.error.QueryError.TheVariants.{Syntax, DistanceTooLarge, TooManyNodes, LexemeTooLong}
use Rattle.ts_query.specs.declared.error.QueryError.TheVariants.{OutOfMemory}

-- a tree of n nodes is refused for their number alone
abbrev pub IsOnlyPast : ℕ → QueryError → Type 0
IsOnlyPast n TooManyNodes = NODE_LIMIT ≤ n
IsOnlyPast n OutOfMemory = Unit {0}
IsOnlyPast n (Syntax at) = ⊥
IsOnlyPast n (DistanceTooLarge at) = ⊥
IsOnlyPast n (LexemeTooLong at) = ⊥
