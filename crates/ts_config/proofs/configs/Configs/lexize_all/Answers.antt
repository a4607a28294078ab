use Rattle.std.proofs.Common.{sym, subst}
use Rattle.std.proofs.lemmas.List.Elements.{All-head, All-tail}
use Rattle.ts_config.specs.Inner.Looking.{IsToken}
use Rattle.ts_config.proofs.Placing.{Done, placed_start, tokens_next, placed_more, fewer_left, placed_over}
use Rattle.ts_config.proofs.configs.Configs.lexize_all.Goals as goal

pub loop-token-init : goal.loop-token-init
loop-token-init c =
    subst (λ items. Done c.args.self.now c.args.config.now c.args.text.now c.tokens-left.result items 0)
    (sym c.new-out.ensures.items)
    (placed_start c.args.self.now c.args.config.now c.args.text.now _ c.tokens-left.ensures.value
    c.tokens-left.ensures.list c.tokens-left.ensures.between)

pub part-requires-clause-token : goal.part-requires-clause-token
part-requires-clause-token c =
    All-head (IsToken c.args.text.now) _ _ (tokens_next c.args.self.now c.args.config.now c.args.text.now _ _ _ _ _
    c.loop-token.invariant c.in-Some.ensures.steps)

pub part-requires-clause-rest : goal.part-requires-clause-rest
part-requires-clause-rest c =
    All-tail (IsToken c.args.text.now) _ _ (tokens_next c.args.self.now c.args.config.now c.args.text.now _ _ _ _ _
    c.loop-token.invariant c.in-Some.ensures.steps)

pub loop-token-preserved : goal.loop-token-preserved
loop-token-preserved c =
    placed_more c.args.self.now c.args.config.now c.args.text.now _ _ _ _ _ _ _ _ _ c.loop-token.invariant
    c.in-Some.ensures.steps c.in_ok-answer.ensures c.in_ok-position.ensures.placed
    c.in_ok-position.ensures.position

pub loop-token-smaller : goal.loop-token-smaller
loop-token-smaller c = fewer_left c.args.self.now c.args.config.now c.args.text.now _ _ _ _ _ c.in-Some.ensures.steps
    c.in_ok-answer.ensures

pub returns : goal.returns
returns c = placed_over c.args.self.now c.args.config.now c.args.text.now _ _ _ c.loop-token.invariant
    c.in_default.ensures.steps.0
