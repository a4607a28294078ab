-- What vectors and queries a text is made, and why it is refused.
use Rattle.std.specs.Prelude.{◌≡◌, ◌⊎◌, ℕ, ◌<◌, ◌≤◌, min, List, [], ◌∷◌, map, Some, None, false}
use Rattle.ts_base.specs.declared.TheConstants.{LAST_POSITION}
use Rattle.ts_base.specs.declared.Weight.TheVariants.{D}
use Rattle.ts_base.specs.Vectors.{Entry, Vector}
use Rattle.ts_vector.specs.Changes.{IsBuiltOf}
use Rattle.ts_vector.specs.Failures.{AreTooLarge}
use Rattle.ts_vector.specs.declared.error.VectorError.{VectorError}
use Rattle.ts_vector.specs.declared.error.VectorError.TheVariants as vector_error
use Rattle.ts_query.specs.declared.TheConstants.{NODE_LIMIT}
use Rattle.ts_query.specs.declared.error.QueryError.{QueryError}
use Rattle.ts_query.specs.declared.error.QueryError.TheVariants.{Syntax, DistanceTooLarge, TooManyNodes, LexemeTooLong}
use Rattle.ts_query.specs.declared.error.QueryError.TheVariants.{OutOfMemory}
use Rattle.ts_query.specs.declared.query.Operand.{Operand}
use Rattle.ts_query.specs.Queries.{Joint, Tree, leaf, negated, joined, Query, nodes_of}
use Rattle.ts_query.specs.Tokens.{no_weights}
use Rattle.ts_query.specs.Refusals.{IsReadAs, IsRefused}
use Rattle.ts_config.specs.declared.placed.Placed.{Placed}
use Rattle.ts_config.specs.Mappings.{Mapping}
use Rattle.ts_config.specs.Known.{Known}
use Rattle.ts_config.specs.Placing.{ArePlaced}
use Rattle.ts_make.specs.Groups.{Group, AreGroups}
use Rattle.ts_make.specs.Trees.{phrase_of, conjunction_of}
use Rattle.ts_make.specs.Removal.{Sketch, stop, not_sketch, joint_sketch, sketch_nodes, sketch_of, clean}

-- ── vectors ──
-- A lexeme at its position, or at 16383 where that is greater, with the weight D. A mark of a
-- prefix means nothing in a vector.
abbrev pub made_entry : Placed → Entry
made_entry p =
    record {
      lexeme = p.lexeme;
      positions = record { at = min p.position LAST_POSITION; weight = D } ∷ [];
    }

abbrev pub IsMadeVector : Known → Mapping → List ℕ → Vector → Type 0
IsMadeVector known mapping text vector =
    (placed : List Placed) × ArePlaced known mapping text placed
    × IsBuiltOf (map made_entry placed) vector

-- it is refused for its size alone
abbrev pub MadeVectorFails : Known → Mapping → List ℕ → VectorError → Type 0
MadeVectorFails known mapping text (vector_error.VectorTooLarge bytes) =
    (placed : List Placed) × ArePlaced known mapping text placed
    × AreTooLarge (map made_entry placed) bytes
MadeVectorFails known mapping text vector_error.OutOfMemory = Unit {0}
MadeVectorFails known mapping text (vector_error.Syntax at) = ⊥
MadeVectorFails known mapping text (vector_error.LexemeTooLong at) = ⊥
MadeVectorFails known mapping text (vector_error.BadBytes at) = ⊥

-- ── queries of a plain text ──
-- the position groups of a text
pub record HasGroups (known : Known) (mapping : Mapping) (text : List ℕ)
    (groups : List Group) : Type 0 where
  pub placed : List Placed
  pub are_placed : ArePlaced known mapping text placed
  pub grouped : AreGroups placed groups

-- a query is made by joining the groups of a text
pub record IsJoined (join : List Group → Query) (known : Known) (mapping : Mapping) (text : List ℕ)
    (query : Query) : Type 0 where
  pub groups : List Group
  pub has : HasGroups known mapping text groups
  pub value : query ≡ join groups
  pub few : nodes_of query < NODE_LIMIT

-- it is refused for the number of its nodes alone
abbrev pub JoinedFails : (List Group → Query) → Known → Mapping → List ℕ → QueryError → Type 0
JoinedFails join known mapping text TooManyNodes =
    (groups : List Group) × HasGroups known mapping text groups
    × (NODE_LIMIT ≤ nodes_of (join groups))
JoinedFails join known mapping text OutOfMemory = Unit {0}
JoinedFails join known mapping text (Syntax at) = ⊥
JoinedFails join known mapping text (DistanceTooLarge at) = ⊥
JoinedFails join known mapping text (LexemeTooLong at) = ⊥

-- a plain text asks for all its lexemes
abbrev pub IsPlainQuery : Known → Mapping → List ℕ → Query → Type 0
IsPlainQuery = IsJoined (conjunction_of no_weights false)

abbrev pub PlainQueryFails : Known → Mapping → List ℕ → QueryError → Type 0
PlainQueryFails = JoinedFails (conjunction_of no_weights false)

-- or for all of them in its order
abbrev pub IsPhraseQuery : Known → Mapping → List ℕ → Query → Type 0
IsPhraseQuery = IsJoined (phrase_of no_weights false)

abbrev pub PhraseQueryFails : Known → Mapping → List ℕ → QueryError → Type 0
PhraseQueryFails = JoinedFails (phrase_of no_weights false)

-- ── queries of a query's text ──
-- an operand whose text has no lexemes is a stop operand
abbrev pub sketched : Query → Sketch
sketched None = stop
sketched (Some t) = sketch_of t

-- each operand stands for the phrase of its own text's groups, with its weights and its mark
pub data IsSketched (known : Known) (mapping : Mapping) : Tree → Sketch → Type 0 where
  operand_sketched : (o : Operand) (groups : List Group) → HasGroups known mapping o.lexeme groups
      → IsSketched known mapping (leaf o) (sketched (phrase_of o.weights o.prefix groups))
  not_sketched : (x : Tree) (d : Sketch) → IsSketched known mapping x d
      → IsSketched known mapping (negated x) (not_sketch d)
  joint_sketched : (j : Joint) (x y : Tree) (d e : Sketch) → IsSketched known mapping x d
      → IsSketched known mapping y e
      → IsSketched known mapping (joined j x y) (joint_sketch j d e)

-- a query whose operands are texts, made without its stop operands; the empty query stays empty
abbrev pub IsMadeOf : Known → Mapping → Query → Query → Type 0
IsMadeOf known mapping None query = query ≡ None
IsMadeOf known mapping (Some t) query =
    (d : Sketch) × IsSketched known mapping t d × (sketch_nodes d < NODE_LIMIT)
    × (query ≡ (clean d).query)

-- with its operands made, whatever their texts have, a tree has 32768 nodes or more, each stop
-- operand counted
abbrev pub IsTooManyOf : Known → Mapping → Query → Type 0
IsTooManyOf known mapping None = ⊥
IsTooManyOf known mapping (Some t) =
    (d : Sketch) → IsSketched known mapping t d → NODE_LIMIT ≤ sketch_nodes d

abbrev pub RemakingFails : Known → Mapping → Query → QueryError → Type 0
RemakingFails known mapping read TooManyNodes = IsTooManyOf known mapping read
RemakingFails known mapping read OutOfMemory = Unit {0}
RemakingFails known mapping read (Syntax at) = ⊥
RemakingFails known mapping read (DistanceTooLarge at) = ⊥
RemakingFails known mapping read (LexemeTooLong at) = ⊥

-- the query that a text is read as, each operand made and the stop operands removed
abbrev pub IsMadeQuery : Known → Mapping → List ℕ → Query → Type 0
IsMadeQuery known mapping text query =
    (read : Query) × IsReadAs text read × IsMadeOf known mapping read query

-- A text is refused as it is read, or what it is read as has too many nodes once its operands are
-- made.
abbrev pub MadeQueryFails : Known → Mapping → List ℕ → QueryError → Type 0
MadeQueryFails known mapping text error = IsRefused text error
    ⊎ ((read : Query) × IsReadAs text read × RemakingFails known mapping read error)
