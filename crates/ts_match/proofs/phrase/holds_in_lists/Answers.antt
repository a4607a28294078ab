use Rattle.std.proofs.Common.{◌≡◌, Bool, true, false, List, get_or, inl, inr, refl, sym, subst, ◌∙◌, arith}
use Rattle.std.specs.Prelude.{Contains}
use Rattle.std.proofs.lemmas.Bool.{cases_lt, both_ways}
use Rattle.ts_base.specs.Vectors.{Position}
use Rattle.ts_match.proofs.phrase.holds_in_lists.Goals as goal

false_from : (b : Bool) → (b ≡ true → false ≡ true) → b ≡ false
false_from true n = sym (n refl)
false_from false n = refl

pub loop-k-preserved : goal.loop-k-preserved
loop-k-preserved c = record {
  none = λ t j e p ph l m h. elim (cases_lt j c.loop-k.k) [
    | inl q ↦ c.loop-k.invariant.none t j e p ph l q h
    | inr q ↦
        let same : j ≡ c.loop-k.k = omega arith in
        let here : Contains (get_or c.args.vector.now c.loop-k.k e).positions p =
        subst (λ i. Contains (get_or c.args.vector.now i e).positions p) same h in
        let there : Contains c.positions.result.now p =
        subst (λ (ps : List Position). Contains ps p) (sym (c.positions.ensures e)) here in
        false_from _ (λ a. sym c.if-holds_with_any.false ∙ c.holds_with_any.ensures.tried.whole t p ph there a)
  ];
  capacity = c.holds_with_any.ensures.capacity ∙ c.loop-k.invariant.capacity;
}

pub returns-clause-whole : goal.returns-clause-whole
returns-clause-whole c t k e p ph l m h a =
    absurd (both_ways _ (c.loop-k.invariant.none t k e p ph l (omega arith) h) a)
