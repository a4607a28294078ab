-- How a judgement goes over the steps of a query's plan.
use Rattle.std.specs.Prelude.{List, ◌∷◌, drop}
use Rattle.ts_base.specs.declared.Tri.{Tri}
use Rattle.ts_base.specs.declared.Tri.TheVariants.{Maybe}
use Rattle.ts_query.specs.declared.query.Node.{Node}
use Rattle.ts_query.specs.declared.query.Node.TheVariants.{Leaf, Not, And, Or, Phrase}
use Rattle.ts_query.specs.declared.query.Operand.{Operand}
use Rattle.ts_match.specs.declared.work.Place.{Place}
use Rattle.ts_match.specs.declared.work.Place.TheVariants.{Outside, Within}
use Rattle.ts_match.specs.Judging.{least, greatest, opposite, at_most_maybe, given}
use Rattle.ts_match.specs.Inner.Phrases.{operand_at}
use Rattle.ts_match.specs.Inner.Stacks.{top_or, below}

-- what is given of an operand, by its number
abbrev pub given_at : List Operand → List Tri → Node → Tri
given_at os values (Leaf k) = given (operand_at os k) (drop k values)
given_at os values _ = Maybe

-- within a phrase a leaf is no more than Maybe, and a negation is Maybe
abbrev pub leaf_answer : Place → Tri → Tri
leaf_answer (Outside on_true on_false) value = value
leaf_answer (Within offset needed) value = at_most_maybe value

abbrev pub negated_answer : Place → Tri → Tri
negated_answer (Outside on_true on_false) operand = opposite operand
negated_answer (Within offset needed) operand = Maybe

-- what a node at a place does to a stack of answers, where a leaf has this value
abbrev pub weighed : Place → Node → Tri → List Tri → List Tri
weighed p (Leaf k) value st = leaf_answer p value ∷ st
weighed p Not value st = negated_answer p (top_or Maybe st) ∷ below st
weighed p And value st = least (top_or Maybe (below st)) (top_or Maybe st) ∷ below (below st)
weighed p Or value st = greatest (top_or Maybe (below st)) (top_or Maybe st) ∷ below (below st)
weighed p (Phrase n) value st = least (top_or Maybe (below st)) (top_or Maybe st) ∷ below (below st)
