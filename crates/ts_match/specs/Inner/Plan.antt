-- How a plan is made, node by node.
use Rattle.std.specs.Prelude.{ℕ, ◌+◌, max, Bool, false, if◌then◌else◌, List, [], ◌∷◌, ◌++◌, None, Some}
use Rattle.ts_query.specs.declared.query.Node.{Node}
use Rattle.ts_query.specs.declared.query.Node.TheVariants.{Leaf, Not, And, Or, Phrase}
use Rattle.ts_query.specs.Queries.{Tree, leaf, negated, joined, Joint, or_joint, and_joint, phrase_joint, Query}
use Rattle.ts_match.specs.declared.work.Place.{Place}
use Rattle.ts_match.specs.declared.work.Place.TheVariants.{Outside, Within}
use Rattle.ts_match.specs.declared.work.Due.{Due}
use Rattle.ts_match.specs.declared.work.Due.TheVariants.{At, LeftOfAnd, LeftOfOr}
use Rattle.ts_match.specs.Meaning.{width}
use Rattle.ts_match.specs.Plan.{under_not, left_place, right_place}
use Rattle.ts_match.specs.Inner.Stacks.{top_or, below}

-- for each node in postfix order the width of its left operand, 0 where it has none
abbrev pub left_widths : Tree → List ℕ
left_widths (leaf o) = 0 ∷ []
left_widths (negated x) = left_widths x ++ 0 ∷ []
left_widths (joined j x y) = left_widths x ++ left_widths y ++ width x ∷ []

abbrev pub left_widths_of : Query → List ℕ
left_widths_of None = []
left_widths_of (Some t) = left_widths t

-- what one node does to a stack of widths
abbrev pub left_width : Node → List ℕ → ℕ
left_width (Leaf k) st = 0
left_width Not st = 0
left_width And st = top_or 0 (below st)
left_width Or st = top_or 0 (below st)
left_width (Phrase n) st = top_or 0 (below st)

abbrev pub measured : Node → List ℕ → List ℕ
measured (Leaf k) st = 0 ∷ st
measured Not st = st
measured And st = (max (top_or 0 (below st)) (top_or 0 st)) ∷ below (below st)
measured Or st = (max (top_or 0 (below st)) (top_or 0 st)) ∷ below (below st)
measured (Phrase n) st = (top_or 0 (below st) + top_or 0 st + n) ∷ below (below st)

abbrev pub distance : Node → ℕ
distance (Phrase n) = n
distance _ = 0

-- where the node is, if m is the step after it
abbrev pub due_place : ℕ → Due → Place
due_place m (At p) = p
due_place m (LeftOfAnd on_false) = Outside m on_false
due_place m (LeftOfOr on_true) = Outside on_true m

-- what is known of a left operand before the right one is laid out
abbrev pub left_due : Joint → Place → Due
left_due or_joint (Outside on_true on_false) = LeftOfOr on_true
left_due and_joint (Outside on_true on_false) = LeftOfAnd on_false
left_due (phrase_joint n) (Outside on_true on_false) = At (left_place (phrase_joint n) 0 (Outside on_true on_false))
left_due or_joint (Within offset needed) = At (left_place or_joint 0 (Within offset needed))
left_due and_joint (Within offset needed) = At (left_place and_joint 0 (Within offset needed))
left_due (phrase_joint n) (Within offset needed) = At (left_place (phrase_joint n) 0 (Within offset needed))

-- what one node at a place does to a stack of what is due, from the last node back
abbrev pub spread_on : Node → ℕ → Place → List Due → List Due
spread_on (Leaf k) w p due = due
spread_on Not w p due = At (under_not p) ∷ due
spread_on And w p due = At (right_place and_joint w p) ∷ left_due and_joint p ∷ due
spread_on Or w p due = At (right_place or_joint w p) ∷ left_due or_joint p ∷ due
spread_on (Phrase n) w p due = At (right_place (phrase_joint n) w p) ∷ left_due (phrase_joint n) p ∷ due

abbrev pub offset_of : Place → ℕ
offset_of (Outside on_true on_false) = 0
offset_of (Within offset needed) = offset

-- whether the phrase needs what is here
abbrev pub needs : Place → Bool
needs (Outside on_true on_false) = false
needs (Within offset needed) = needed

-- the step that is next where a node has this truth
abbrev pub next_of : Place → Bool → ℕ
next_of (Outside on_true on_false) value = if value then on_true else on_false
next_of (Within offset needed) value = 0
