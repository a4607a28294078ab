-- Laws of what is made.
use Rattle.std.specs.Prelude.{◌≡◌, ◌≢◌, ℕ, ◌<◌, ◌≤◌, List, map, All, AllPairs, Bool, Some, Result, Ok, Err}
use Rattle.ts_base.specs.declared.Weights.{Weights}
use Rattle.ts_config.specs.declared.placed.Placed.{Placed}
use Rattle.ts_query.specs.declared.TheConstants.{GREATEST_DISTANCE, NODE_LIMIT}
use Rattle.ts_query.specs.Queries.{Tree, Query, operands_of, nodes_in, nodes_of, HasNear, HasNearPhrases, HasLexeme}
use Rattle.ts_query.specs.Queries.{IsSound}
use Rattle.ts_query.specs.declared.error.QueryError.{QueryError}
use Rattle.ts_query.specs.declared.error.QueryError.TheVariants.{OutOfMemory}
use Rattle.ts_vector.specs.declared.error.VectorError.{VectorError}
use Rattle.ts_vector.specs.declared.error.VectorError.TheVariants as vector_error
use Rattle.ts_base.specs.Vectors.{Vector}
use Rattle.ts_config.specs.Mappings.{Mapping}
use Rattle.ts_config.specs.Known.{Known}
use Rattle.ts_make.specs.Made.{IsMadeVector, MadeVectorFails, IsJoined, JoinedFails, IsSketched, IsMadeQuery}
use Rattle.ts_make.specs.Made.{MadeQueryFails}
use Rattle.ts_make.specs.Groups.{Group, AreGroups}
use Rattle.ts_make.specs.Trees.{operand_for, phrase_of, conjunction_of}
use Rattle.ts_make.specs.Removal.{Sketch, sketch_nodes, sketch_operands, sketch_of, Cleaned, cleaned, clean}

-- ── groups ──
-- placed lexemes whose positions don't fall have exactly one list of groups
pub record HasOneGrouping (placed : List Placed) : Type 0 where
  pub groups : List Group
  pub are : AreGroups placed groups
  pub only : (others : List Group) → AreGroups placed others → others ≡ groups

abbrev pub GroupsAreOne : Type 0
GroupsAreOne =
    (placed : List Placed) → AllPairs (λ p q. p.position ≤ q.position) placed
    → HasOneGrouping placed

-- the operands of a phrase and of a conjunction are those of the lexemes, in turn
pub record HasAllOperands (weights : Weights) (prefix : Bool) (placed : List Placed)
    (groups : List Group) : Type 0 where
  pub phrase : operands_of (phrase_of weights prefix groups)
      ≡ map (operand_for weights prefix) placed
  pub conjunction : operands_of (conjunction_of weights prefix groups)
      ≡ map (operand_for weights prefix) placed

abbrev pub GroupsKeepLexemes : Type 0
GroupsKeepLexemes = (weights : Weights) (prefix : Bool) (placed : List Placed) (groups : List Group)
    → AreGroups placed groups → HasAllOperands weights prefix placed groups

-- their distances are at most 16384
pub record HasNearTrees (weights : Weights) (prefix : Bool) (groups : List Group) : Type 0 where
  pub phrase : HasNearPhrases (phrase_of weights prefix groups)
  pub conjunction : HasNearPhrases (conjunction_of weights prefix groups)

abbrev pub GroupsAreNear : Type 0
GroupsAreNear =
    (weights : Weights) (prefix : Bool) (groups : List Group) → HasNearTrees weights prefix groups

-- ── removal ──
-- of a tree without stop operands nothing is removed
abbrev pub WholeTreesStay : Type 0
WholeTreesStay = (t : Tree) → HasNear t → clean (sketch_of t) ≡ cleaned (Some t) 0 0

-- What is left has the operands that are no stop operands, all of them in their order, has no more
-- nodes, and has only distances of at most 16384.
pub record IsCleaned (sketch : Sketch) (left : Cleaned) : Type 0 where
  pub operands : operands_of left.query ≡ sketch_operands sketch
  pub nodes : nodes_of left.query ≤ sketch_nodes sketch
  pub phrases : HasNearPhrases left.query
  pub near_left : left.left ≤ GREATEST_DISTANCE
  pub near_right : left.right ≤ GREATEST_DISTANCE

abbrev pub RemovalKeepsTheRest : Type 0
RemovalKeepsTheRest = (sketch : Sketch) → IsCleaned sketch (clean sketch)

-- a query of fewer than 32768 nodes, its stop operands counted, is within the limits of queries
-- once they are removed
abbrev pub RemovalIsSound : Type 0
RemovalIsSound =
    (sketch : Sketch) → All HasLexeme (sketch_operands sketch) → sketch_nodes sketch < NODE_LIMIT
    → IsSound (clean sketch).query

-- with its operands made a tree has no fewer nodes, so what is refused for its nodes as it is read
-- has too many then too
abbrev pub SketchesHaveNoFewer : Type 0
SketchesHaveNoFewer =
    (known : Known) (mapping : Mapping) (tree : Tree) (sketch : Sketch)
    → IsSketched known mapping tree sketch → nodes_in tree ≤ sketch_nodes sketch

-- ── what a text is made ──
-- a vector or a query, or why there is none
abbrev pub IsVectorAnswer : Known → Mapping → List ℕ → Result Vector VectorError → Type 0
IsVectorAnswer known mapping text (Ok vector) = IsMadeVector known mapping text vector
IsVectorAnswer known mapping text (Err error) = MadeVectorFails known mapping text error

abbrev pub IsJoinAnswer : (List Group → Query) → Known → Mapping → List ℕ → Result Query QueryError
    → Type 0
IsJoinAnswer join known mapping text (Ok query) = IsJoined join known mapping text query
IsJoinAnswer join known mapping text (Err error) = JoinedFails join known mapping text error

abbrev pub IsQueryAnswer : Known → Mapping → List ℕ → Result Query QueryError → Type 0
IsQueryAnswer known mapping text (Ok query) = IsMadeQuery known mapping text query
IsQueryAnswer known mapping text (Err error) = MadeQueryFails known mapping text error

-- running out of memory aside, a text has at most one answer by a configuration
abbrev pub VectorAnswerIsOne : Type 0
VectorAnswerIsOne =
    (known : Known) (mapping : Mapping) (text : List ℕ) (a b : Result Vector VectorError)
    → a ≢ Err vector_error.OutOfMemory → b ≢ Err vector_error.OutOfMemory
    → IsVectorAnswer known mapping text a → IsVectorAnswer known mapping text b → a ≡ b

abbrev pub JoinAnswerIsOne : Type 0
JoinAnswerIsOne =
    (join : List Group → Query) (known : Known) (mapping : Mapping) (text : List ℕ)
    (a b : Result Query QueryError) → a ≢ Err OutOfMemory → b ≢ Err OutOfMemory
    → IsJoinAnswer join known mapping text a → IsJoinAnswer join known mapping text b → a ≡ b

abbrev pub QueryAnswerIsOne : Type 0
QueryAnswerIsOne =
    (known : Known) (mapping : Mapping) (text : List ℕ) (a b : Result Query QueryError)
    → a ≢ Err OutOfMemory → b ≢ Err OutOfMemory
    → IsQueryAnswer known mapping text a → IsQueryAnswer known mapping text b → a ≡ b
