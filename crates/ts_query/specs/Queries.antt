-- A query as contracts see it: a tree of operands, or the empty query.
use Rattle.std.specs.Prelude.{ℕ, suc, ◌+◌, ◌<◌, ◌≤◌, List, [], ◌∷◌, ◌++◌, Option, Some, None, All}
use Rattle.ts_base.specs.Lexemes.{IsLexeme}
use Rattle.ts_query.specs.declared.TheConstants.{GREATEST_DISTANCE, NODE_LIMIT}
pub use Rattle.ts_query.specs.declared.query.Operand.{Operand}

-- what joins two queries; a phrase has its distance
pub data Joint : Type 0 where
  or_joint : Joint
  and_joint : Joint
  phrase_joint : ℕ → Joint

pub data Tree : Type 0 where
  leaf : Operand → Tree
  negated : Tree → Tree
  joined : Joint → Tree → Tree → Tree

-- None is the empty query
abbrev pub Query : Type 0
Query = Option Tree

-- the operands, in the order of the text
abbrev pub operands_in : Tree → List Operand
operands_in (leaf o) = o ∷ []
operands_in (negated x) = operands_in x
operands_in (joined j x y) = operands_in x ++ operands_in y

abbrev pub operands_of : Query → List Operand
operands_of None = []
operands_of (Some t) = operands_in t

-- how many nodes a tree has, operators and operands counted
abbrev pub nodes_in : Tree → ℕ
nodes_in (leaf o) = 1
nodes_in (negated x) = suc (nodes_in x)
nodes_in (joined j x y) = suc (nodes_in x + nodes_in y)

abbrev pub nodes_of : Query → ℕ
nodes_of None = 0
nodes_of (Some t) = nodes_in t

-- a distance is at most 16384
abbrev pub IsNear : Joint → Type 0
IsNear or_joint = Unit {0}
IsNear and_joint = Unit {0}
IsNear (phrase_joint n) = n ≤ GREATEST_DISTANCE

abbrev pub HasNear : Tree → Type 0
HasNear (leaf o) = Unit {0}
HasNear (negated x) = HasNear x
HasNear (joined j x y) = IsNear j × HasNear x × HasNear y

abbrev pub HasNearPhrases : Query → Type 0
HasNearPhrases None = Unit {0}
HasNearPhrases (Some t) = HasNear t

-- what is asked for is a lexeme
abbrev pub HasLexeme : Operand → Type 0
HasLexeme o = IsLexeme o.lexeme

-- the limits of a query
pub record IsSound (query : Query) : Type 0 where
  pub lexemes : All HasLexeme (operands_of query)
  pub phrases : HasNearPhrases query
  pub nodes : nodes_of query < NODE_LIMIT
