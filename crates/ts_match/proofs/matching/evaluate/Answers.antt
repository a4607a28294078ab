use Rattle.std.proofs.Common.{◌≡◌, ℕ, ◌+◌, ◌<◌, false, eqb, inl, inr, None, Some, List, length, sym, ap, subst, ◌∙◌}
use Rattle.std.proofs.Common.{refl, arith}
use Rattle.std.proofs.lemmas.Bool.{cases_lt, eq-eqb, eqb-true}
use Rattle.std.proofs.lemmas.List.Elements.{All-take, All-drop}
use Rattle.ts_query.specs.declared.query.Node.TheVariants.{Leaf}
use Rattle.ts_query.specs.declared.query.Operand.{Operand}
use Rattle.ts_base.specs.Vectors.{Vector}
use Rattle.ts_query.specs.Queries.{Query, leaf, negated, joined, operands_of}
use Rattle.ts_match.specs.declared.work.Place.TheVariants.{Outside}
use Rattle.ts_match.specs.declared.work.Step.{Step}
use Rattle.ts_match.specs.Meaning.{Holds}
use Rattle.ts_match.specs.Plan.{plan_of}
use Rattle.ts_match.specs.Inner.Phrases.{IsStep}
use Rattle.ts_match.specs.Inner.Pass.{AreBounds}
use Rattle.ts_match.proofs.PlanSteps.{ready_steps}
use Rattle.ts_match.proofs.Plans.{count_plan, length-plan_of}
use Rattle.ts_match.proofs.Heights.{rows_of_part}
use Rattle.ts_match.proofs.Spares.{same_refl, same_trans}
use Rattle.ts_match.proofs.Units.{Way, way_of, at_end, unit_within, unit_kind, unit_phrase, unit_next}
use Rattle.ts_match.proofs.matching.evaluate.Goals as goal

abbrev pub first : Step
first = record { node = Leaf 0; place = Outside 0 0 }

some_steps : (n : ℕ) → eqb n 0 ≡ false → 0 < n
some_steps n e = elim (cases_lt 0 n) [
  | inl h ↦ h
  | inr h ↦ let t = eq-eqb n 0 (omega arith) in absurd (let x : ⊥ = cc in x)
]

no_steps : (v : Vector) (q : Query) → length (plan_of q) ≡ 0 → Holds q v → ⊥
no_steps v None e h = h
no_steps v (Some (leaf o)) e h = absurd (omega arith)
no_steps v (Some (negated x)) e h = absurd (let n = length-plan_of (Some (negated x)) in omega arith)
no_steps v (Some (joined j x y)) e h = absurd (let n = length-plan_of (Some (joined j x y)) in omega arith)

pub loop-from-init : goal.loop-from-init
loop-from-init c =
    let v = c.args.vector.now in
    let q = c.args.query.now in
    let some : 0 < length (plan_of q) = (let e = ap length c.requires.plan in
    some_steps (length (plan_of q)) (ap (λ n. eqb n 0) (sym e) ∙ sym c.is_empty.ensures ∙ c.if-is_empty.false)) in
    record {
      way =
          subst (λ (os : List Operand). Way v os c.args.steps.now (Holds q v) 0) (sym c.operands-operands.ensures.value)
          (subst (λ (ss : List Step). Way v (operands_of q) ss (Holds q v) 0) (sym c.requires.plan) (way_of v q some));
      bit_sets = same_refl _ _;
      found = refl;
      truths = refl;
    }

pub returns-then-is_empty-clause-meaning : goal.returns-then-is_empty-clause-meaning
returns-then-is_empty-clause-meaning c =
    let e : length c.args.steps.now ≡ 0 =
    eqb-true (length c.args.steps.now) 0 (sym c.is_empty.ensures ∙ c.if-is_empty.true) in (
      λ h. absurd (let x : ⊥ = cc in x),
      λ h. absurd (no_steps c.args.vector.now c.args.query.now (sym (ap length c.requires.plan) ∙ e) h),
    )

pub bounds-steps-end : goal.bounds-steps-end
bounds-steps-end c = unit_within c.args.vector.now c.operands-operands.result.now c.args.steps.now
    (Holds c.args.query.now c.args.vector.now) c.loop-from.from c.end_of_unit-end.result c.loop-from.invariant.way
    c.loop-from-test.true c.end_of_unit-end.ensures.from c.end_of_unit-end.ensures.within
    c.end_of_unit-end.ensures.inner c.end_of_unit-end.ensures.last

pub slice_bounds-unit-end : goal.slice_bounds-unit-end
slice_bounds-unit-end c = let w = unit_within c.args.vector.now c.operands-operands.result.now c.args.steps.now
    (Holds c.args.query.now c.args.vector.now) c.loop-from.from c.end_of_unit-end.result c.loop-from.invariant.way
    c.loop-from-test.true c.end_of_unit-end.ensures.from c.end_of_unit-end.ensures.within
    c.end_of_unit-end.ensures.inner c.end_of_unit-end.ensures.last in omega arith

pub unit_value-value-requires-clause-kind : goal.unit_value-value-requires-clause-kind
unit_value-value-requires-clause-kind c = unit_kind c.args.vector.now c.operands-operands.result.now c.args.steps.now
    (Holds c.args.query.now c.args.vector.now) c.loop-from.from c.end_of_unit-end.result c.loop-from.invariant.way
    c.loop-from-test.true c.end_of_unit-end.ensures.from c.end_of_unit-end.ensures.within
    c.end_of_unit-end.ensures.inner c.end_of_unit-end.ensures.last first

pub unit_value-value-requires-clause-operand : goal.unit_value-value-requires-clause-operand
unit_value-value-requires-clause-operand c =
    let a = ready_steps c.args.query.now c.args.steps.now c.operands-operands.result.now c.requires.plan
    c.operands-operands.ensures.value c.operands-operands.ensures.sound in
    let w = unit_within c.args.vector.now c.operands-operands.result.now c.args.steps.now
    (Holds c.args.query.now c.args.vector.now) c.loop-from.from c.end_of_unit-end.result c.loop-from.invariant.way
    c.loop-from-test.true c.end_of_unit-end.ensures.from c.end_of_unit-end.ensures.within
    c.end_of_unit-end.ensures.inner c.end_of_unit-end.ensures.last in
    (a c.end_of_unit-end.result first w).operand

pub unit_value-value-requires-clause-found : goal.unit_value-value-requires-clause-found
unit_value-value-requires-clause-found c =
    let a = ap length c.operands-operands.ensures.value in
    let b = count_plan c.args.query.now in
    let d = ap length c.requires.plan in
    let e = c.loop-from.invariant.found in
    omega (arith, c.requires.found)

pub unit_value-value-requires-clause-steps : goal.unit_value-value-requires-clause-steps
unit_value-value-requires-clause-steps c =
    let a = ready_steps c.args.query.now c.args.steps.now c.operands-operands.result.now c.requires.plan
    c.operands-operands.ensures.value c.operands-operands.ensures.sound in
    All-take (IsStep (length c.operands-operands.result.now)) _ _
    (All-drop (IsStep (length c.operands-operands.result.now)) c.loop-from.from c.args.steps.now a)

pub loop-from-smaller : goal.loop-from-smaller
loop-from-smaller c =
    let n = unit_next c.args.vector.now c.operands-operands.result.now c.args.steps.now
    (Holds c.args.query.now c.args.vector.now) c.loop-from.from c.end_of_unit-end.result c.loop-from.invariant.way
    c.loop-from-test.true c.end_of_unit-end.ensures.from c.end_of_unit-end.ensures.within
    c.end_of_unit-end.ensures.inner c.end_of_unit-end.ensures.last first c.unit_value-value.result
    c.unit_value-value.ensures.leaf c.unit_value-value.ensures.phrase in
    let a = n.1 in
    let e = c.next_step-from.ensures in
    let l = c.loop-from-test.true in
    omega arith

pub loop-from-preserved : goal.loop-from-preserved
loop-from-preserved c =
    let n = unit_next c.args.vector.now c.operands-operands.result.now c.args.steps.now
    (Holds c.args.query.now c.args.vector.now) c.loop-from.from c.end_of_unit-end.result c.loop-from.invariant.way
    c.loop-from-test.true c.end_of_unit-end.ensures.from c.end_of_unit-end.ensures.within
    c.end_of_unit-end.ensures.inner c.end_of_unit-end.ensures.last first c.unit_value-value.result
    c.unit_value-value.ensures.leaf c.unit_value-value.ensures.phrase in record {
      way = subst (λ i. Way c.args.vector.now c.operands-operands.result.now c.args.steps.now
          (Holds c.args.query.now c.args.vector.now) i) (sym c.next_step-from.ensures) n.0;
      bit_sets = same_trans _ _ _ _ _ _ c.loop-from.invariant.bit_sets c.unit_value-value.ensures.bit_sets;
      found = c.unit_value-value.ensures.found ∙ c.loop-from.invariant.found;
      truths = c.unit_value-value.ensures.truths ∙ c.loop-from.invariant.truths;
    }

pub returns-clause-meaning : goal.returns-clause-meaning
returns-clause-meaning c =
    let a = at_end c.args.vector.now c.operands-operands.result.now c.args.steps.now
    (Holds c.args.query.now c.args.vector.now) c.loop-from.from c.loop-from.invariant.way c.loop-from-test.false in (
      λ h. a.0 (eqb-true c.loop-from.from (length c.args.steps.now) h),
      λ h. eq-eqb c.loop-from.from (length c.args.steps.now) (a.1 h),
    )

pub unit_value-value-requires-clause-phrase : goal.unit_value-value-requires-clause-phrase
unit_value-value-requires-clause-phrase c = unit_phrase c.args.vector.now c.operands-operands.result.now
    c.args.steps.now (Holds c.args.query.now c.args.vector.now) c.loop-from.from c.end_of_unit-end.result
    c.loop-from.invariant.way c.loop-from-test.true c.end_of_unit-end.ensures.from c.end_of_unit-end.ensures.within
    c.end_of_unit-end.ensures.inner c.end_of_unit-end.ensures.last first

pub unit_value-value-requires-clause-bit_sets : goal.unit_value-value-requires-clause-bit_sets
unit_value-value-requires-clause-bit_sets c = rows_of_part c.args.steps.now _ _ _ _ c.loop-from.from
    (c.end_of_unit-end.result + 1) c.requires.bit_sets c.loop-from.invariant.bit_sets

pub returns-then-is_empty-clause-bit_sets : goal.returns-then-is_empty-clause-bit_sets
returns-then-is_empty-clause-bit_sets c = same_refl _ _

pub unit_value-value-requires-clause-bounds : goal.unit_value-value-requires-clause-bounds
unit_value-value-requires-clause-bounds c =
    subst (λ (os : List Operand). AreBounds c.args.vector.now os c.args.bounds.now)
    (sym c.operands-operands.ensures.value) c.requires.bounds
