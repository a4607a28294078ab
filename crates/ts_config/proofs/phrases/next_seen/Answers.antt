use Rattle.std.proofs.Common.{sym, ◌∙◌}
use Rattle.ts_config.proofs.Looking.{passed_start, passed_more, passed_found, passed_out, passed_end}
use Rattle.ts_config.proofs.phrases.next_seen.Goals as goal

pub loop-token-init : goal.loop-token-init
loop-token-init c = passed_start c.args.config.now c.args.place c.args.ahead.now

pub returns-then-lists : goal.returns-then-lists
returns-then-lists c =
    passed_found _ _ _ _ _ _ c.loop-token.invariant c.in-Some.ensures.steps (sym c.lists.ensures ∙ c.if-lists.true)

pub returns-then-is_asked : goal.returns-then-is_asked
returns-then-is_asked c = passed_out _ _ _ _ _ _ c.loop-token.invariant c.in-Some.ensures.steps
    (sym c.is_asked.ensures ∙ c.if-is_asked.true) (sym c.lists.ensures ∙ c.if-lists.false)

pub loop-token-preserved : goal.loop-token-preserved
loop-token-preserved c = passed_more _ _ _ _ _ _ c.loop-token.invariant c.in-Some.ensures.steps
    (sym c.is_asked.ensures ∙ c.if-is_asked.false)

pub returns : goal.returns
returns c = passed_end _ _ _ _ c.loop-token.invariant c.in_default.ensures.steps.0
