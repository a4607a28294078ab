-- The tree of a thesaurus, which may be missing.
use Rattle.std.specs.Prelude.{◌≡◌, ℕ, List, Option, Some, None}
use Rattle.ts_base.specs.Dictionary.{WordAnswer}
use Rattle.ts_thesaurus.specs.Rules.{Rule}
use Rattle.ts_thesaurus.specs.Inner.States.{steps_of, HasTree}
use Rattle.ts_thesaurus.specs.Inner.Walks.{then_from, behind, behind_all}
use Rattle.ts_thesaurus.specs.declared.tree.Tree.{Tree}
use denote.Ref.{Bor}

-- where there is a tree, it is that of the rules
abbrev pub MayHaveTree : List Rule → Option Tree → Type 0
MayHaveTree rules None = Unit {0}
MayHaveTree rules (Some tree) = HasTree rules tree.states.items

-- the same of a tree that is looked at
abbrev pub LooksIn : List Rule → Option (Bor Tree) → Type 0
LooksIn rules None = Unit {0}
LooksIn rules (Some tree) = HasTree rules tree.now.states.items

-- and the state is that after the answers
abbrev pub IsOnWay : List Rule → Option (Bor Tree) → List WordAnswer → Option ℕ → Type 0
IsOnWay rules None answers state = Unit {0}
IsOnWay rules (Some tree) answers state =
    HasTree rules tree.now.states.items
    × (state ≡ behind_all (steps_of tree.now.states.items) 0 answers)

-- the state after a state by an answer, if there are a tree and a state
abbrev pub behind_in : Option (Bor Tree) → Option ℕ → WordAnswer → Option ℕ
behind_in None state a = None
behind_in (Some tree) state a = then_from state (λ s. behind (steps_of tree.now.states.items) s a)
