use Rattle.std.proofs.Common.{◌++◌, ◌∷◌, [], sym, ◌∙◌, ap, subst}
use Rattle.std.specs.Prelude.{All}
use Rattle.ts_base.specs.Dictionary.{answer_value}
use Rattle.ts_config.specs.Rules.{answer_by, rules_of}
use Rattle.ts_config.specs.Inner.Looking.{IsToken}
use Rattle.ts_config.proofs.Seen.{lists_short}
use Rattle.ts_config.proofs.Looking.{next_all, given_to, asked_start, asked_more}
use Rattle.ts_config.proofs.phrases.Listed.answers.Goals as goal

pub answer_to-requires-clause-most : goal.answer_to-requires-clause-most
answer_to-requires-clause-most c = lists_short c.args.config.now c.args.self.now.place c.args.first c.requires.listed

pub loop-ahead-init : goal.loop-ahead-init
loop-ahead-init c =
    let m = c.args.config.now in
    let text = c.args.text.now in
    let answer = answer_by (rules_of c.args.self.now.sub.now) in
    let p = c.args.self.now.place in
    let a = answer_value c.in_ok-answer_to.field-0 in
    let pushed = ap (λ w. w.answers) c.in_ok-push.ensures.pushed ∙ ap (λ w. w.answers ++ a ∷ []) c.walk-walk.ensures in
    let start = asked_start m text answer p c.args.first c.again-ahead.result a c.push.new.self.answers
    c.requires.listed c.in_ok-answer_to.ensures pushed in
    record {
      tokens = subst (All (IsToken text)) (sym c.again-ahead.ensures) c.requires.rest;
      rules = ap (λ w. w.rules) c.in_ok-push.ensures.pushed ∙ ap (λ w. w.rules) c.walk-walk.ensures;
      so_far = ap (λ l. given_to m text answer p (c.args.first ∷ l)) (sym c.again-ahead.ensures) ∙ start;
    }

pub answer_to-requires-in-loop-ahead-clause-between : goal.answer_to-requires-in-loop-ahead-clause-between
answer_to-requires-in-loop-ahead-clause-between c =
    (next_all (IsToken c.args.text.now) c.args.config.now c.args.self.now.place c.loop-ahead.ahead c.next_seen.new.ahead
    c.in-Some.next c.loop-ahead.invariant.tokens c.in-Some.ensures).0.0

pub answer_to-requires-in-loop-ahead-clause-some : goal.answer_to-requires-in-loop-ahead-clause-some
answer_to-requires-in-loop-ahead-clause-some c =
    (next_all (IsToken c.args.text.now) c.args.config.now c.args.self.now.place c.loop-ahead.ahead c.next_seen.new.ahead
    c.in-Some.next c.loop-ahead.invariant.tokens c.in-Some.ensures).0.1

pub loop-ahead-preserved : goal.loop-ahead-preserved
loop-ahead-preserved c =
    let m = c.args.config.now in
    let text = c.args.text.now in
    let p = c.args.self.now.place in
    let step = c.in-Some.ensures in
    record {
      tokens = (next_all (IsToken text) m p c.loop-ahead.ahead c.next_seen.new.ahead c.in-Some.next
          c.loop-ahead.invariant.tokens step).1;
      rules = ap (λ w. w.rules) c.in_ok-push-2.ensures.pushed ∙ c.loop-ahead.invariant.rules;
      so_far = asked_more m text (answer_by (rules_of c.args.self.now.sub.now)) p _
          c.loop-ahead.walk.answers c.loop-ahead.ahead c.loop-ahead.invariant.so_far c.in-Some.next
          c.next_seen.new.ahead _ c.push-in-loop-ahead.new.self.answers step c.in_ok-answer_to-2.ensures
          (ap (λ w. w.answers) c.in_ok-push-2.ensures.pushed);
    }
