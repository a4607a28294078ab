-- Placed lexemes that are joined in turn, lexeme by lexeme.
use Rattle.std.specs.Prelude.{ℕ, ◌-◌, ◌≤◌, List, [], ◌∷◌, length, Bool, true, false, ◌==◌, Option, Some, None}
use Rattle.ts_base.specs.declared.Weights.{Weights}
use Rattle.ts_config.specs.declared.placed.Placed.{Placed}
use Rattle.ts_query.specs.Queries.{Joint, and_joint, phrase_joint, Tree}
use Rattle.ts_query.specs.Building.{with_joint}
use Rattle.ts_make.specs.Trees.{near, leaf_for}
use Rattle.ts_make.specs.declared.joining.Way.{Way}
use Rattle.ts_make.specs.declared.joining.Way.TheVariants.{Phrase, Conjunction}
use Rattle.ts_make.specs.declared.joining.Last.{Last}

-- what joins a group to the one that is n positions before it
abbrev pub way_joint : Way → ℕ → Joint
way_joint Phrase n = phrase_joint (near n)
way_joint Conjunction n = and_joint

-- the last group is joined to those before it, where there are any
abbrev pub closed : Way → Option ℕ → List Tree → List Tree
closed way None trees = trees
closed way (Some n) trees = with_joint (way_joint way n) trees

abbrev pub closed_last : Way → Option Last → List Tree → List Tree
closed_last way None trees = trees
closed_last way (Some last) trees = closed way last.distance trees

-- where the joining is: the trees, and the last group
pub record Stage : Type 0 where
  pub last : Option Last
  pub trees : List Tree

abbrev pub stage : Option Last → List Tree → Stage
stage last trees = record { last = last; trees = trees }

abbrev pub group_last : ℕ → Option ℕ → Option Last
group_last n distance = Some (record { position = n; distance = distance })

-- the next lexeme, of the last group or of a new one
abbrev pub with_next : Bool → Way → Last → Placed → Tree → List Tree → Stage
with_next true way last p x trees = stage (Some last) (with_joint and_joint (x ∷ trees))
with_next false way last p x trees =
    stage (group_last p.position (Some (p.position - last.position)))
    (x ∷ closed way last.distance trees)

abbrev pub with_placed : Way → Weights → Bool → Option Last → Placed → List Tree → Stage
with_placed way weights prefix None p trees =
    stage (group_last p.position None) (leaf_for weights prefix p ∷ trees)
with_placed way weights prefix (Some last) p trees =
    with_next (p.position == last.position) way last p (leaf_for weights prefix p) trees

-- all of them, and the last group joined
abbrev pub joined_from : Way → Weights → Bool → Option Last → List Placed → List Tree → List Tree
joined_from way weights prefix last [] trees = closed_last way last trees
joined_from way weights prefix last (p ∷ ps) trees =
    let s = with_placed way weights prefix last p trees in
    joined_from way weights prefix s.last ps s.trees

-- there are trees enough
abbrev pub IsDeepAt : Option ℕ → List Tree → Type 0
IsDeepAt None trees = 1 ≤ length trees
IsDeepAt (Some n) trees = 2 ≤ length trees

abbrev pub IsDeep : Option Last → List Tree → Type 0
IsDeep None trees = Unit {0}
IsDeep (Some last) trees = IsDeepAt last.distance trees
