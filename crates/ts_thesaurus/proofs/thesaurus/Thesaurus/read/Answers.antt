use Rattle.std.proofs.Common.{◌≤◌, ◌+◌, length, sym, ◌∙◌, ap, subst, arith}
use Rattle.std.specs.Str.Iter.{lines_rest}
use Rattle.ts_thesaurus.proofs.Progress.{Progress, progress_start, number_fits, first_refused, progress_more}
use Rattle.ts_thesaurus.proofs.Progress.{progress_over}
use Rattle.ts_thesaurus.proofs.thesaurus.Thesaurus.read.Goals as goal

pub loop-line-init : goal.loop-line-init
loop-line-init g c =
    let answer = g.D.Dictionary.answer c.args.sub.now in (
      tt,
      tt,
      subst (λ rules. Progress answer c.args.text.now c.into_iter-line-iterator.result rules 0)
          (sym c.new-thesaurus.ensures)
          (progress_start answer c.args.text.now c.into_iter-line-iterator.result
          (ap lines_rest c.into_iter-line-iterator.ensures.into_iter_gives ∙ c.lines-line-items.ensures.rest)),
    )

pub overflow_add-number : goal.overflow_add-number
overflow_add-number g c =
    let fits : c.loop-line.number + 1 ≤ length c.args.text.now =
    number_fits (g.D.Dictionary.answer c.args.sub.now) c.args.text.now c.loop-line.line-iterator c.next.new.self
    c.loop-line.thesaurus c.loop-line.number c.in-Some.line c.loop-line.invariant.2 c.in-Some.ensures.steps in
    omega arith

pub returns-in-Err-clause-bad : goal.returns-in-Err-clause-bad
returns-in-Err-clause-bad g c =
    rw c.at.ensures
    (first_refused (g.D.Dictionary.answer c.args.sub.now) c.args.text.now c.loop-line.line-iterator c.next.new.self
    c.loop-line.thesaurus c.loop-line.number c.in-Some.line c.loop-line.invariant.2 c.in-Some.ensures.steps
    c.in-Err.error c.in-Err.ensures.fault)

pub loop-line-preserved : goal.loop-line-preserved
loop-line-preserved g c = (
  tt,
  tt,
  progress_more (g.D.Dictionary.answer c.args.sub.now) c.args.text.now c.loop-line.line-iterator c.next.new.self
      c.loop-line.thesaurus c.loop-line.number c.in-Some.line c.loop-line.invariant.2 c.in-Some.ensures.steps
      c.add_line.new.self c.in_default.ensures.taken,
)

pub returns-clause-value : goal.returns-clause-value
returns-clause-value g c =
    progress_over (g.D.Dictionary.answer c.args.sub.now) c.args.text.now c.loop-line.line-iterator c.next.new.self
    c.loop-line.thesaurus c.loop-line.number c.loop-line.invariant.2 c.in-None.ensures.steps
