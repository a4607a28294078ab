-- What is kept of two parts with an operator between them; sketches of trees.
use Rattle.std.specs.Prelude.{ℕ, ◌+◌, List, [], ◌∷◌, Bool, true, false, max}
use Rattle.ts_query.specs.Queries.{Joint, or_joint, and_joint, phrase_joint, Tree}
use Rattle.ts_config.specs.Mappings.{Mapping}
use Rattle.ts_config.specs.Known.{Known}
use Rattle.ts_make.specs.Trees.{near}
use Rattle.ts_make.specs.Made.{IsSketched}
use Rattle.ts_make.specs.Removal.{Sketch}
pub use Rattle.ts_make.specs.Making.{with_left, nodes_sketched, IsMaking, OperandFails}
use Rattle.ts_make.specs.declared.maker.Part.{Part}

abbrev pub part : Bool → ℕ → ℕ → Part
part there left right = record { there = there; left = near left; right = near right }

abbrev pub joined_phrase : ℕ → Part → Part → Bool → Bool → Part
joined_phrase n x y true true = part true x.left y.right
joined_phrase n x y true false = part true x.left (x.right + n + y.right)
joined_phrase n x y false true = part true (x.left + n + y.left) y.right
joined_phrase n x y false false = part false (x.left + n + y.left) (x.left + n + y.left)

abbrev pub joined_pair : Part → Part → Bool → Bool → Part
joined_pair x y true true = part true 0 0
joined_pair x y true false = x
joined_pair x y false true = y
joined_pair x y false false = part false (max x.left y.left) (max x.left y.left)

abbrev pub joined_part : Joint → Part → Part → Part
joined_part (phrase_joint n) x y = joined_phrase n x y x.there y.there
joined_part and_joint x y = joined_pair x y x.there y.there
joined_part or_joint x y = joined_pair x y x.there y.there

-- the operator between two parts that are both left
abbrev pub kept_joint : Joint → Part → Part → Joint
kept_joint (phrase_joint n) x y = phrase_joint (near (n + x.right + y.left))
kept_joint and_joint x y = and_joint
kept_joint or_joint x y = or_joint

-- trees and their sketches, one by one
abbrev pub AreSketched : Known → Mapping → List Tree → List Sketch → Type 0
AreSketched known mapping [] [] = Unit {0}
AreSketched known mapping [] (d ∷ ds) = ⊥
AreSketched known mapping (t ∷ ts) [] = ⊥
AreSketched known mapping (t ∷ ts) (d ∷ ds) =
    IsSketched known mapping t d × AreSketched known mapping ts ds
