use Rattle.std.proofs.Common.{◌≡◌, ◌∙◌, sym, ℕ, length, map, Some, refl, ap, subst, arith}
use Rattle.std.specs.List.{slice_get}
use Rattle.std.proofs.lemmas.List.{length-map}
use Rattle.std.proofs.lemmas.Option.{slice_get_read}
use Rattle.ts_base.specs.Dictionary.{answer_value}
use Rattle.ts_thesaurus.specs.Views.{sample_value, rule_value}
use Rattle.ts_thesaurus.specs.Inner.Walks.{IsBestUpTo}
use Rattle.ts_thesaurus.proofs.Best.{viewed_at, best_none, place_within, best_some}
use Rattle.ts_thesaurus.proofs.thesaurus.Thesaurus.best.Goals as goal

pub returns-in_err-place-clause-none : goal.returns-in_err-place-clause-none
returns-in_err-place-clause-none c =
    rw c.from_residual.ensures (best_none c.args.self.now (map answer_value c.args.answers.now) c.in_err-place.ensures)

pub index-rule-requires : goal.index-rule-requires
index-rule-requires c =
    let answers = map answer_value c.args.answers.now in
    let place = c.in_ok-place.place in
    let all = subst (λ z. (n : ℕ) → IsBestUpTo z answers n (Some place)) (sym c.self.view_is) c.in_ok-place.ensures in
    omega (arith, place_within c.self.inside.rules.items answers place all, c.self.inside.rules.ok.0)

pub returns-clause-best : goal.returns-clause-best
returns-clause-best c =
    let rules = c.self.inside.rules.items in
    let answers = map answer_value c.args.answers.now in
    let place = c.in_ok-place.place in
    let rule = c.index-rule.result.now in
    let all = subst (λ z. (n : ℕ) → IsBestUpTo z answers n (Some place)) (sym c.self.view_is) c.in_ok-place.ensures in
    let at = slice_get_read rules (length rules) place rule refl
    (place_within rules answers place all) c.index-rule.ensures in
    let seen : slice_get c.args.self.now place ≡ Some (rule_value rule) =
    subst (λ z. slice_get z place ≡ Some (rule_value rule)) c.self.view_is (viewed_at rules place rule at) in
    best_some c.args.self.now answers place (rule_value rule)
    (record { tokens = length c.as_slice.result.now; words = c.as_slice-2.result.now }) c.in_ok-place.ensures seen
    (ap length c.as_slice.ensures.value ∙ sym (length-map rule.samples.items sample_value)) c.as_slice-2.ensures.value
