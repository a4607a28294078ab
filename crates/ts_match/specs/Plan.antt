-- A query laid out for matching: its nodes in postfix order, each with the place where it is.
use Rattle.std.specs.Prelude.{ℕ, ◌+◌, true, false, List, [], ◌∷◌, ◌++◌, length, None, Some}
use Rattle.ts_query.specs.declared.query.Node.TheVariants.{Leaf, Not}
use Rattle.ts_query.specs.Queries.{Tree, leaf, negated, joined, Joint, or_joint, and_joint, phrase_joint, Query}
use Rattle.ts_query.specs.Queries.{operands_in, nodes_in}
use Rattle.ts_query.specs.Postfix.{joint_node}
use Rattle.ts_match.specs.declared.work.Place.{Place}
use Rattle.ts_match.specs.declared.work.Place.TheVariants.{Outside, Within}
use Rattle.ts_match.specs.declared.work.Step.{Step}
use Rattle.ts_match.specs.Meaning.{width}

abbrev pub count_in : Tree → ℕ
count_in t = length (operands_in t)

-- Where the operands of an operator are, given where it is itself. Outside phrases a node has the step that is next
-- where
-- it is true and the one where it is false. Within a phrase it has its offset from the phrase's beginning, and
-- whether the phrase
-- needs it: it is neither under a `!` nor under a `|`.
abbrev pub under_not : Place → Place
under_not (Outside on_true on_false) = Outside on_false on_true
under_not (Within offset needed) = Within offset false

-- m is the first step of the right operand
abbrev pub left_place : Joint → ℕ → Place → Place
left_place or_joint m (Outside on_true on_false) = Outside on_true m
left_place and_joint m (Outside on_true on_false) = Outside m on_false
left_place (phrase_joint n) m (Outside on_true on_false) = Within 0 true
left_place or_joint m (Within offset needed) = Within offset false
left_place and_joint m (Within offset needed) = Within offset needed
left_place (phrase_joint n) m (Within offset needed) = Within offset needed

-- w is the width of the left operand
abbrev pub right_place : Joint → ℕ → Place → Place
right_place or_joint w (Outside on_true on_false) = Outside on_true on_false
right_place and_joint w (Outside on_true on_false) = Outside on_true on_false
right_place (phrase_joint n) w (Outside on_true on_false) = Within (w + n) true
right_place or_joint w (Within offset needed) = Within offset false
right_place and_joint w (Within offset needed) = Within offset needed
right_place (phrase_joint n) w (Within offset needed) = Within (offset + (w + n)) needed

-- a tree at a place, its operands numbered from k on and its steps from m on
abbrev pub steps : ℕ → ℕ → Place → Tree → List Step
steps k m p (leaf o) = record { node = Leaf k; place = p } ∷ []
steps k m p (negated x) = steps k m (under_not p) x ++ record { node = Not; place = p } ∷ []
steps k m p (joined j x y) =
    steps k m (left_place j (m + nodes_in x) p) x
    ++ steps (k + count_in x) (m + nodes_in x) (right_place j (width x) p) y
    ++ record { node = joint_node j; place = p } ∷ []

-- after the last step comes the end where the query holds, and after that the one where it does not
abbrev pub plan_of : Query → List Step
plan_of None = []
plan_of (Some t) = steps 0 0 (Outside (nodes_in t) (nodes_in t + 1)) t
