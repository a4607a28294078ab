use Rattle.std.proofs.Common.{◌≡◌, ◌≢◌, [], length, map, eqb, true, sym, ◌∙◌, ap, subst, true≢false}
use Rattle.std.proofs.lemmas.List.{length-map}
use Rattle.ts_base.specs.Dictionary.{answer_value}
use Rattle.ts_thesaurus.specs.Rules.{Continues}
use Rattle.ts_thesaurus.specs.Views.{rule_value}
use Rattle.ts_thesaurus.specs.Inner.Index.{IsOnWay}
use Rattle.ts_thesaurus.proofs.Chosen.{tree_truth}
use Rattle.ts_thesaurus.proofs.walk.Walk.continues.Goals as goal

pub returns-then-not-is_empty : goal.returns-then-not-is_empty
returns-then-not-is_empty c =
    let kept = c.self.inside.rules.now in
    let rules = map rule_value kept in
    let answers = map answer_value c.self.inside.answers.items in
    let some : rules ≢ [] =
    λ e. true≢false (sym (ap (λ n. eqb n 0) (sym (length-map kept rule_value) ∙ ap length e)) ∙ sym c.is_empty.ensures
    ∙ c.if-not-is_empty.true) in
    let way = subst (λ o. IsOnWay rules o answers c.self.inside.state) c.in-Some.is c.self.invariant in
    subst (λ w. (c.is_some.result ≡ true → Continues w.rules w.answers)
    × (Continues w.rules w.answers → c.is_some.result ≡ true)) c.self.view_is
    (tree_truth rules c.in-Some.field-0.now.states.items way.0 answers c.self.inside.state c.is_some.result
    (sym way.1) c.is_some.ensures some)
