use Rattle.std.proofs.Common.{◌≢◌, [], length, map, eqb, sym, ◌∙◌, ap, true≢false}
use Rattle.std.proofs.lemmas.List.{length-map}
use Rattle.ts_base.specs.Dictionary.{answer_value}
use Rattle.ts_thesaurus.specs.Views.{rule_value}
use Rattle.ts_thesaurus.proofs.Chosen.{tree_truth}
use Rattle.ts_thesaurus.proofs.thesaurus.goes_on_in.Goals as goal

pub returns-then-not-is_empty : goal.returns-then-not-is_empty
returns-then-not-is_empty c =
    let rules = map rule_value c.args.rules.now in
    let some : rules ≢ [] =
    λ e. true≢false (sym (ap (λ n. eqb n 0) (sym (length-map c.args.rules.now rule_value) ∙ ap length e))
    ∙ sym c.is_empty.ensures ∙ c.if-not-is_empty.true) in
    tree_truth rules c.args.tree.now.states.items c.requires (map answer_value c.args.answers.now) c.behind_all.result
    c.is_some.result (sym c.behind_all.ensures) c.is_some.ensures some
