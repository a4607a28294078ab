use Rattle.std.proofs.Common.{map, sym, subst}
use Rattle.ts_base.specs.Dictionary.{answer_value}
use Rattle.ts_thesaurus.specs.Views.{rule_value}
use Rattle.ts_thesaurus.specs.Inner.Best.{IsBestPlace}
use Rattle.ts_thesaurus.specs.Inner.Walks.{IsBestUpTo}
use Rattle.ts_thesaurus.specs.Inner.Index.{MayHaveTree}
use Rattle.ts_thesaurus.proofs.Best.{best_up_to}
use Rattle.ts_thesaurus.proofs.Chosen.{tree_best}
use Rattle.ts_thesaurus.proofs.thesaurus.Thesaurus.best_at.Goals as goal

pub returns-in-Some : goal.returns-in-Some
returns-in-Some c = λ n.
    let rules = map rule_value c.self.inside.rules.items in
    let answers = map answer_value c.args.answers.now in
    let has = subst (MayHaveTree rules) c.in-Some.is c.self.invariant in
    subst (λ z. IsBestUpTo z answers n c.best.result) c.self.view_is
    (subst (IsBestUpTo rules answers n) (sym c.best.ensures)
    (tree_best rules c.in-Some.tree.states.items has answers n))

pub returns-in-None : goal.returns-in-None
returns-in-None c = λ n.
    let kept = c.self.inside.rules.items in
    let answers = map answer_value c.args.answers.now in
    let best = subst (λ z. IsBestPlace z answers c.best_place.result) c.deref.ensures.value c.best_place.ensures in
    subst (λ z. IsBestUpTo z answers n c.best_place.result) c.self.view_is
    (best_up_to kept answers c.best_place.result best n)
