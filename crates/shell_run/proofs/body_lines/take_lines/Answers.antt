use Rattle.std.proofs.Common.{refl, subst}
use Rattle.std.proofs.lemmas.Bool.{false≢true}
use Rattle.shell_script.specs.StepView.{line as shown}
use Rattle.shell_run.proofs.Taking.{LinesTaken, taken_over, taken_more, taken_end, taken_fail}
use Rattle.shell_run.proofs.body_lines.take_lines.Goals as goal

pub loop-line-preserved-then-is_skipped : goal.loop-line-preserved-then-is_skipped
loop-line-preserved-then-is_skipped g c =
    taken_over g.T.FromLines.takes g.T.FromLines.refuses c.args.body c.next.new.self
    (shown c.in-Some.line) c.args.made.now c.loop-line.made
    (subst (λ z. LinesTaken g.T.FromLines.takes g.T.FromLines.refuses c.args.body z c.args.made.now c.loop-line.made)
    c.in-Some.ensures.steps c.loop-line.invariant)
    (c.if-is_skipped.ensures.0 refl)

pub returns-in-Err-clause-refused : goal.returns-in-Err-clause-refused
returns-in-Err-clause-refused g c =
    taken_fail g.T.FromLines.takes g.T.FromLines.refuses c.args.body c.next.new.self
    (shown c.in-Some.line) c.args.made.now c.loop-line.made _
    (subst (λ z. LinesTaken g.T.FromLines.takes g.T.FromLines.refuses c.args.body z c.args.made.now c.loop-line.made)
    c.in-Some.ensures.steps c.loop-line.invariant)
    (λ h. false≢true (c.if-is_skipped.ensures.1 h))
    c.in-Err.ensures.refused

pub loop-line-preserved : goal.loop-line-preserved
loop-line-preserved g c =
    taken_more g.T.FromLines.takes g.T.FromLines.refuses c.args.body c.next.new.self
    (shown c.in-Some.line) c.args.made.now c.loop-line.made c.take.new.self
    (subst (λ z. LinesTaken g.T.FromLines.takes g.T.FromLines.refuses c.args.body z c.args.made.now c.loop-line.made)
    c.in-Some.ensures.steps c.loop-line.invariant)
    (λ h. false≢true (c.if-is_skipped.ensures.1 h))
    c.in_default.ensures.taken

pub returns-clause-taken : goal.returns-clause-taken
returns-clause-taken g c =
    taken_end g.T.FromLines.takes g.T.FromLines.refuses c.args.body c.args.made.now c.loop-line.made
    (subst (λ z. LinesTaken g.T.FromLines.takes g.T.FromLines.refuses c.args.body z c.args.made.now c.loop-line.made)
    c.in-None.ensures.steps.0 c.loop-line.invariant)
