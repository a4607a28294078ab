use Rattle.std.proofs.Common.{[], ◌∷◌, map, ◌∙◌, ap}
use Rattle.std.proofs.lemmas.List.{map-append}
use Rattle.ts_base.specs.Dictionary.{answer_value}
use Rattle.ts_thesaurus.specs.Views.{rule_value}
use Rattle.ts_thesaurus.proofs.Chosen.{way_more}
use Rattle.ts_thesaurus.proofs.walk.Walk.push.Goals as goal

pub invariant_of-self-2 : goal.invariant_of-self-2
invariant_of-self-2 c =
    way_more (map rule_value c.self.inside.rules.now) c.self.inside.tree (map answer_value c.self.inside.answers.items)
    (map answer_value c.push.new.self.items) (answer_value c.args.answer)
    c.self.inside.state c.state_behind-state.result c.self.invariant c.state_behind-state.ensures
    (ap (map answer_value) c.in_ok-push.ensures.items
    ∙ map-append answer_value c.self.inside.answers.items (c.args.answer ∷ []))
