use Rattle.std.proofs.Common.{◌∙◌, ◌≤◌, ◌+◌, ap, length, arith}
use Rattle.std.specs.Str.Iter.{lines_rest}
use Rattle.ts_synonym.proofs.Reading.{progress_start, number_fits, first_refused, progress_more, progress_over}
use Rattle.ts_synonym.proofs.synonym.Synonym.read.Goals as goal

pub loop-line-init : goal.loop-line-init
loop-line-init c = (
  tt,
  tt,
  progress_start c.args.sensitive c.args.text.now _ _ (ap lines_rest c.into_iter-line-iterator.ensures.into_iter_gives
      ∙ c.lines-line-items.ensures.rest) c.new-synonym.ensures,
)

pub overflow_add-number : goal.overflow_add-number
overflow_add-number c =
    let fits : c.loop-line.number + 1 ≤ length c.args.text.now =
    number_fits c.args.sensitive c.args.text.now c.loop-line.line-iterator c.next.new.self c.loop-line.synonym
    c.loop-line.number c.in-Some.line c.loop-line.invariant.2 c.in-Some.ensures.steps in
    omega arith

pub returns-in-Err-clause-bad : goal.returns-in-Err-clause-bad
returns-in-Err-clause-bad c =
    rw c.at.ensures
    (first_refused c.args.sensitive c.args.text.now c.loop-line.line-iterator c.next.new.self c.loop-line.synonym
    c.loop-line.number c.in-Some.line c.loop-line.invariant.2 c.in-Some.ensures.steps c.in-Err.error
    c.in-Err.ensures.fault)

pub loop-line-preserved : goal.loop-line-preserved
loop-line-preserved c = (
  tt,
  tt,
  progress_more c.args.sensitive c.args.text.now c.loop-line.line-iterator c.next.new.self c.loop-line.synonym
      c.loop-line.number c.in-Some.line c.loop-line.invariant.2 c.in-Some.ensures.steps c.add_line.new.self
      c.in_default.ensures.taken,
)

pub returns-clause-value : goal.returns-clause-value
returns-clause-value c =
    progress_over c.args.sensitive c.args.text.now _ _ _ _ c.loop-line.invariant.2 c.in-None.ensures.steps
