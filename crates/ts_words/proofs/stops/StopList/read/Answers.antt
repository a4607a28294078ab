use Rattle.std.proofs.Common.{◌∙◌, ap, sym, subst, arith}
use Rattle.std.specs.Str.Iter.{lines_rest}
use Rattle.ts_words.proofs.Lists.{Progress, progress_start, number_fits, first_refused, progress_more, progress_over}
use Rattle.ts_words.proofs.stops.StopList.read.Goals as goal

pub loop-line-init : goal.loop-line-init
loop-line-init c = (
  tt,
  tt,
  subst (λ s. Progress c.args.text.now c.into_iter-line-iterator.result s 0) (sym c.new-stops.ensures)
      (progress_start c.args.text.now c.into_iter-line-iterator.result
      (ap lines_rest c.into_iter-line-iterator.ensures.into_iter_gives ∙ c.lines-line-items.ensures.rest)),
)

pub overflow_add-number : goal.overflow_add-number
overflow_add-number c = omega (
  arith,
  number_fits c.args.text.now c.loop-line.line-iterator c.next.new.self c.loop-line.stops c.loop-line.number
      c.in-Some.line c.loop-line.invariant.2 c.in-Some.ensures.steps,
)

pub returns-in-Err-clause-bad : goal.returns-in-Err-clause-bad
returns-in-Err-clause-bad c =
    rw c.at.ensures
    (first_refused c.args.text.now c.loop-line.line-iterator c.next.new.self c.loop-line.stops c.loop-line.number
    c.in-Some.line c.loop-line.invariant.2 c.in-Some.ensures.steps c.in-Err.error c.in-Err.ensures.fault)

pub loop-line-preserved : goal.loop-line-preserved
loop-line-preserved c = (
  tt,
  tt,
  progress_more c.args.text.now c.loop-line.line-iterator c.next.new.self c.loop-line.stops c.loop-line.number
      c.in-Some.line c.loop-line.invariant.2 c.in-Some.ensures.steps c.add_line.new.self c.in_default.ensures.taken,
)

pub returns-clause-stops : goal.returns-clause-stops
returns-clause-stops c = progress_over c.args.text.now c.loop-line.line-iterator c.next.new.self c.loop-line.stops
    c.loop-line.number c.loop-line.invariant.2 c.in-None.ensures.steps
