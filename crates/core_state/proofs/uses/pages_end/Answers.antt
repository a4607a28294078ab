use Rattle.std.proofs.Common.{◌<◌, ◌≤◌, subst, sym, arith}
use Rattle.page_types.specs.Numbers.{page_limit}
use Rattle.page_types.specs.declared.record.Change.{Change}
use Rattle.core_state.proofs.UseSteps.{end_more, end_all}
use Rattle.core_state.proofs.uses.pages_end.Goals as goal

pub loop-change-preserved : goal.loop-change-preserved
loop-change-preserved c = record {
  above = end_more c.args.changes.now c.loop-change.change-index c.loop-change.end c.page_end.result c.max-end.result
      c.change-item.result c.loop-change.invariant.above c.loop-change-test.true
      c.change-item.is c.page_end.ensures.page (grind (arith, c.max-end.ensures)) (grind (arith, c.max-end.ensures));
  least = λ most all.
      let here : c.change-item.result.page < page_limit → c.change-item.result.page < most =
      subst (λ (x : Change). x.page < page_limit → x.page < most) (sym c.change-item.is)
      (all c.loop-change.change-index c.change-item.result c.loop-change-test.true) in
      let low : c.page_end.result ≤ most = c.page_end.ensures.least most here in
      let before : c.loop-change.end ≤ most = c.loop-change.invariant.least most all in
      grind (arith, c.max-end.ensures);
}

pub returns-clause-above : goal.returns-clause-above
returns-clause-above c = end_all c.args.changes.now c.loop-change.change-index c.loop-change.end
    (omega (arith, c.loop-change-test.false)) c.loop-change.invariant.above

pub returns-clause-least : goal.returns-clause-least
returns-clause-least c = c.loop-change.invariant.least
