-- A query that is made node by node: the sketches that a maker has made, and what it holds of them.
use Rattle.std.specs.Prelude.{◌≡◌, ℕ, ◌+◌, ◌≤◌, ◌<◌, List, [], ◌∷◌, ◌++◌, map, Bool, true, false, Some, None}
use Rattle.ts_query.specs.declared.TheConstants.{NODE_LIMIT}
use Rattle.ts_query.specs.Queries.{Joint, or_joint, and_joint, phrase_joint, Tree, Query}
use Rattle.ts_query.specs.Building.{nodes_among}
use Rattle.ts_query.specs.declared.error.QueryError.{QueryError}
use Rattle.ts_query.specs.declared.error.QueryError.TheVariants.{Syntax, DistanceTooLarge, TooManyNodes, LexemeTooLong}
use Rattle.ts_query.specs.declared.error.QueryError.TheVariants.{OutOfMemory}
use Rattle.ts_base.specs.declared.Weights.{Weights}
use Rattle.ts_config.specs.Mappings.{Mapping}
use Rattle.ts_config.specs.Known.{Known}
use Rattle.ts_make.specs.Groups.{Group}
use Rattle.ts_make.specs.Trees.{phrase_of}
use Rattle.ts_make.specs.Made.{HasGroups, sketched}
use Rattle.ts_make.specs.Removal.{Sketch, sketch_nodes, Cleaned, clean}
use Rattle.ts_make.specs.declared.maker.Link.{Link}
use Rattle.ts_make.specs.declared.maker.Link.TheVariants.{And, Or, Phrase}
use Rattle.ts_make.specs.declared.maker.Part.{Part}
use Rattle.ts_make.specs.declared.maker.QueryMaker.{QueryMaker}

-- the operator that a link is
abbrev pub link_joint : Link → Joint
link_joint And = and_joint
link_joint Or = or_joint
link_joint (Phrase n) = phrase_joint n

abbrev pub is_left : Query → Bool
is_left None = false
is_left (Some t) = true

-- what is kept of the part that is left of a sketch, beside its tree
abbrev pub kept_part : Cleaned → Part
kept_part c = record { there = is_left c.query; left = c.left; right = c.right }

-- the parts of what is left, the last of them at the end
abbrev pub kept_parts : List Cleaned → List Part
kept_parts [] = []
kept_parts (c ∷ cs) = kept_parts cs ++ kept_part c ∷ []

abbrev pub with_left : Query → List Tree → List Tree
with_left None ts = ts
with_left (Some t) ts = t ∷ ts

-- the trees that are left, the last of them first
abbrev pub trees_left : List Cleaned → List Tree
trees_left [] = []
trees_left (c ∷ cs) = with_left c.query (trees_left cs)

abbrev pub nodes_sketched : List Sketch → ℕ
nodes_sketched [] = 0
nodes_sketched (d ∷ ds) = nodes_sketched ds + sketch_nodes d

-- these parts, trees and the number of removed nodes are those of the sketches
pub record IsKept (parts : List Part) (trees : List Tree) (removed : ℕ)
    (sketches : List Sketch) : Type 0 where
  pub has_parts : parts ≡ kept_parts (map clean sketches)
  pub has_trees : trees ≡ trees_left (map clean sketches)
  pub count : removed + nodes_among trees ≡ nodes_sketched sketches

-- the sketches that were made so far, the last of them first
pub record IsMaking (maker : QueryMaker) (sketches : List Sketch) : Type 0 where
  pub kept : IsKept maker.parts.items maker.builder maker.removed sketches
  pub few : nodes_sketched sketches < NODE_LIMIT

-- an operand whose text has groups that are too many, or want of memory
abbrev pub OperandFails : Known → Mapping → List ℕ → Weights → Bool → QueryMaker → QueryError
    → Type 0
OperandFails known mapping text weights prefix maker TooManyNodes =
    (groups : List Group) × HasGroups known mapping text groups
    × ((ds : List Sketch) → IsMaking maker ds
    → NODE_LIMIT ≤ nodes_sketched (sketched (phrase_of weights prefix groups) ∷ ds))
OperandFails known mapping text weights prefix maker OutOfMemory = Unit {0}
OperandFails known mapping text weights prefix maker (Syntax at) = ⊥
OperandFails known mapping text weights prefix maker (DistanceTooLarge at) = ⊥
OperandFails known mapping text weights prefix maker (LexemeTooLong at) = ⊥
