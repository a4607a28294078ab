-- What is known of the steps of a plan.
use Rattle.std.proofs.Common.{◌≡◌, ℕ, ◌+◌, ◌*◌, ◌≤◌, List, [], ◌∷◌, ◌++◌, length, Some, None, refl, sym, ap, subst, ◌∙◌}
use Rattle.std.proofs.Common.{arith, append_assoc, length-append}
use Rattle.std.specs.Prelude.{All, slice_get}
use Rattle.std.proofs.lemmas.List.{append-nil}
use Rattle.std.proofs.lemmas.List.Elements.{All-nil, All-cons, All-append}
use Rattle.ts_query.specs.declared.query.Node.{Node}
use Rattle.ts_query.specs.declared.query.Node.TheVariants.{Leaf, Not}
use Rattle.ts_query.specs.declared.query.Operand.{Operand}
use Rattle.ts_query.specs.Postfix.{joint_node}
use Rattle.ts_query.specs.Queries.{Joint, Tree, leaf, negated, joined, or_joint, and_joint, phrase_joint, Query}
use Rattle.ts_query.specs.Queries.{operands_in, operands_of, nodes_in, HasNear, IsSound}
use Rattle.ts_match.specs.declared.ranges.TheConstants.{FARTHEST}
use Rattle.ts_match.specs.declared.work.Place.{Place}
use Rattle.ts_match.specs.declared.work.Place.TheVariants.{Outside, Within}
use Rattle.ts_match.specs.declared.work.Step.{Step}
use Rattle.ts_match.specs.Meaning.{width}
use Rattle.ts_match.specs.Plan.{count_in, steps, plan_of, under_not, left_place, right_place}
use Rattle.ts_match.specs.Inner.Plan.{offset_of}
use Rattle.ts_match.specs.Inner.Phrases.{HasNumbers, IsStep, HasOperand}

-- the numbers of the operands
slice_get_here : (front back : List Operand) (o : Operand) → slice_get (front ++ o ∷ back) (length front) ≡ Some o
slice_get_here [] back o = refl
slice_get_here (x ∷ front) back o = slice_get_here front back o

numbered_in : (t : Tree) (front back : List Operand) → HasNumbers (front ++ (operands_in t ++ back)) (length front) t
numbered_in (leaf o) front back = slice_get_here front back o
numbered_in (negated x) front back = numbered_in x front back
numbered_in (joined j x y) front back =
    let ox = operands_in x in
    let oy = operands_in y in (
      subst (λ l. HasNumbers (front ++ l) (length front) x) (sym (append_assoc ox oy back))
          (numbered_in x front (oy ++ back)),
      subst (λ l. HasNumbers l (length front + length ox) y)
          (append_assoc front ox (oy ++ back) ∙ ap (λ l. front ++ l) (sym (append_assoc ox oy back)))
          (subst (λ n. HasNumbers ((front ++ ox) ++ (oy ++ back)) n y) (length-append front ox)
          (numbered_in y (front ++ ox) back)),
    )

pub numbered : (t : Tree) → HasNumbers (operands_in t) 0 t
numbered t = subst (λ l. HasNumbers l 0 t) (append-nil (operands_in t)) (numbered_in t [] [])

-- each step of a plan names an operand and is within reach
width_reach : (t : Tree) → HasNear t → width t ≤ 16384 * nodes_in t
width_reach (leaf o) h = omega arith
width_reach (negated x) h = let a = width_reach x h in omega arith
width_reach (joined or_joint x y) h = let a = width_reach x h.1 in let b = width_reach y h.2 in omega arith
width_reach (joined and_joint x y) h = let a = width_reach x h.1 in let b = width_reach y h.2 in omega arith
width_reach (joined (phrase_joint n) x y) h =
    let a = width_reach x h.1 in let b = width_reach y h.2 in let c = h.0 in omega arith

operator_step : (n : ℕ) (m : Node) (p : Place) → HasOperand n m → offset_of p ≤ FARTHEST
    → All (IsStep n) (record { node = m; place = p } ∷ [])
operator_step n m p h o =
    All-cons (IsStep n) (record { node = m; place = p }) [] (record { operand = h; near = o }) (All-nil (IsStep n))

under_not_same : (p : Place) → offset_of (under_not p) ≡ offset_of p
under_not_same (Outside on_true on_false) = refl
under_not_same (Within o b) = refl

left_same : (j : Joint) (m : ℕ) (p : Place) → offset_of (left_place j m p) ≡ offset_of p
left_same or_joint m (Outside on_true on_false) = refl
left_same and_joint m (Outside on_true on_false) = refl
left_same (phrase_joint n) m (Outside on_true on_false) = refl
left_same or_joint m (Within o b) = refl
left_same and_joint m (Within o b) = refl
left_same (phrase_joint n) m (Within o b) = refl

right_reach : (j : Joint) (x y : Tree) (p : Place)
    → offset_of (right_place j (width x) p) + width y ≤ offset_of p + width (joined j x y)
right_reach or_joint x y (Outside on_true on_false) = omega arith
right_reach and_joint x y (Outside on_true on_false) = omega arith
right_reach (phrase_joint n) x y (Outside on_true on_false) = omega arith
right_reach or_joint x y (Within o b) = omega arith
right_reach and_joint x y (Within o b) = omega arith
right_reach (phrase_joint n) x y (Within o b) = omega arith

left_reach : (j : Joint) (x y : Tree) → width x ≤ width (joined j x y)
left_reach or_joint x y = omega arith
left_reach and_joint x y = omega arith
left_reach (phrase_joint n) x y = omega arith

operator_has : (n : ℕ) (j : Joint) → HasOperand n (joint_node j)
operator_has n or_joint = tt
operator_has n and_joint = tt
operator_has n (phrase_joint m) = tt

steps_ok : (n k i : ℕ) (p : Place) (t : Tree) → k + count_in t ≤ n → offset_of p + width t ≤ FARTHEST
    → All (IsStep n) (steps k i p t)
steps_ok n k i p (leaf o) h r = operator_step n (Leaf k) p (omega arith) (omega arith)
steps_ok n k i p (negated x) h r =
    let e = under_not_same p in
    All-append (IsStep n) (steps k i (under_not p) x) (record { node = Not; place = p } ∷ [])
    (steps_ok n k i (under_not p) x h (omega arith)) (operator_step n Not p tt (omega arith))
steps_ok n k i p (joined j x y) h r =
    let m = k + count_in x in
    let a = left_same j (i + nodes_in x) p in
    let b = right_reach j x y p in
    let c = left_reach j x y in
    let e = length-append (operands_in x) (operands_in y) in
    let sx = steps k i (left_place j (i + nodes_in x) p) x in
    let sy = steps m (i + nodes_in x) (right_place j (width x) p) y in
    All-append (IsStep n) (sx ++ sy) (record { node = joint_node j; place = p } ∷ [])
    (All-append (IsStep n) sx sy (steps_ok n k i (left_place j (i + nodes_in x) p) x (omega arith) (omega arith))
    (steps_ok n m (i + nodes_in x) (right_place j (width x) p) y (omega arith) (omega arith)))
    (operator_step n (joint_node j) p (operator_has n j) (omega arith))

pub plan_steps : (q : Query) → IsSound q → All (IsStep (length (operands_of q))) (plan_of q)
plan_steps None s = All-nil (IsStep 0)
plan_steps (Some t) s =
    let w = width_reach t s.phrases in
    let n = s.nodes in
    steps_ok (length (operands_in t)) 0 0 (Outside (nodes_in t) (nodes_in t + 1)) t (omega arith) (omega arith)

pub ready_steps : (q : Query) (ss : List Step) (os : List Operand) → ss ≡ plan_of q → os ≡ operands_of q → IsSound q
    → All (IsStep (length os)) ss
ready_steps q ss os e f s = subst (λ (x : List Step). All (IsStep (length os)) x) (sym e)
    (subst (λ (x : List Operand). All (IsStep (length x)) (plan_of q)) (sym f) (plan_steps q s))
