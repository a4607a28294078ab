-- The trees of position groups.
use Rattle.std.specs.Prelude.{ℕ, ◌-◌, min, List, [], ◌∷◌, map, fold, Bool, ◌||◌, Some, None}
use Rattle.ts_base.specs.declared.Weights.{Weights}
use Rattle.ts_config.specs.declared.placed.Placed.{Placed}
use Rattle.ts_query.specs.declared.TheConstants.{GREATEST_DISTANCE}
use Rattle.ts_query.specs.declared.query.Operand.{Operand}
use Rattle.ts_query.specs.Queries.{and_joint, phrase_joint, Tree, leaf, joined, Query}
use Rattle.ts_query.specs.Tokens.{operand}
use Rattle.ts_make.specs.Groups.{Group}

-- a distance above 16384 counts as 16384
abbrev pub near : ℕ → ℕ
near n = min n GREATEST_DISTANCE

-- a lexeme takes the weights, and the mark of a prefix where it has one itself or the operand has
abbrev pub operand_for : Weights → Bool → Placed → Operand
operand_for weights prefix p = operand p.lexeme weights (p.prefix || prefix)

abbrev pub leaf_for : Weights → Bool → Placed → Tree
leaf_for weights prefix p = leaf (operand_for weights prefix p)

-- x and further trees, joined by `&` from the left
abbrev pub and_on : Tree → List Tree → Tree
and_on x ys = fold (joined and_joint) x ys

abbrev pub group_tree : Weights → Bool → Group → Tree
group_tree weights prefix g =
    and_on (leaf_for weights prefix g.first) (map (leaf_for weights prefix) g.others)

-- x, whose last group is at the position n, and further groups, joined from the left by the
-- distances of their positions
abbrev pub phrase_on : Weights → Bool → ℕ → Tree → List Group → Tree
phrase_on weights prefix n x [] = x
phrase_on weights prefix n x (g ∷ gs) =
    phrase_on weights prefix g.position
    (joined (phrase_joint (near (g.position - n))) x (group_tree weights prefix g)) gs

-- the groups as a phrase
abbrev pub phrase_of : Weights → Bool → List Group → Query
phrase_of weights prefix [] = None
phrase_of weights prefix (g ∷ gs) =
    Some (phrase_on weights prefix g.position (group_tree weights prefix g) gs)

-- the groups joined by `&` from the left
abbrev pub conjunction_of : Weights → Bool → List Group → Query
conjunction_of weights prefix [] = None
conjunction_of weights prefix (g ∷ gs) =
    Some (and_on (group_tree weights prefix g) (map (group_tree weights prefix) gs))
