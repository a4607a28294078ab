use Rattle.std.proofs.Common.{sym, ap, subst, ◌∙◌, Err}
use Rattle.std.proofs.lemmas.Result.{err_from_is_err_and}
use Rattle.gin_cleanup.specs.Inner.Stepping.{StepEnds}
use Rattle.gin_cleanup.proofs.KeyPlaces.{step_asks, step_refused, step_more, step_last}
use Rattle.gin_cleanup.proofs.cleanup.Cleanup.place.Goals as goal

pub step-requires-clause-key : goal.step-requires-clause-key
step-requires-clause-key g c =
    let k = c.in-Placing in
    (step_asks g.D.Disk c.args.frames.now c.args.frames.now c.args.pass.now c.args.pass.now c.requires.pass
    c.requires.right c.requires.none c.args.self.now k.key k.items k.placing k.placing k.is c.as_slice.result.now
    c.as_slice-2.result.now c.as_slice.ensures.value c.as_slice-2.ensures.value c.requires.cleaning.0
    c.requires.cleaning.1).0

pub step-requires-clause-items : goal.step-requires-clause-items
step-requires-clause-items g c =
    let k = c.in-Placing in
    (step_asks g.D.Disk c.args.frames.now c.args.frames.now c.args.pass.now c.args.pass.now c.requires.pass
    c.requires.right c.requires.none c.args.self.now k.key k.items k.placing k.placing k.is c.as_slice.result.now
    c.as_slice-2.result.now c.as_slice.ensures.value c.as_slice-2.ensures.value c.requires.cleaning.0
    c.requires.cleaning.1).1

pub step-requires-clause-rows : goal.step-requires-clause-rows
step-requires-clause-rows g c =
    let k = c.in-Placing in
    (step_asks g.D.Disk c.args.frames.now c.args.frames.now c.args.pass.now c.args.pass.now c.requires.pass
    c.requires.right c.requires.none c.args.self.now k.key k.items k.placing k.placing k.is c.as_slice.result.now
    c.as_slice-2.result.now c.as_slice.ensures.value c.as_slice-2.ensures.value c.requires.cleaning.0
    c.requires.cleaning.1).2

pub step-requires-clause-placing : goal.step-requires-clause-placing
step-requires-clause-placing g c =
    let k = c.in-Placing in
    (step_asks g.D.Disk c.args.frames.now c.args.frames.now c.args.pass.now c.args.pass.now c.requires.pass
    c.requires.right c.requires.none c.args.self.now k.key k.items k.placing k.placing k.is c.as_slice.result.now
    c.as_slice-2.result.now c.as_slice.ensures.value c.as_slice-2.ensures.value c.requires.cleaning.0
    c.requires.cleaning.1).3

pub returns-in_err-more : goal.returns-in_err-more
returns-in_err-more g c =
    let k = c.in-Placing in
    let r = err_from_is_err_and c.from_residual.result c.from_residual.ensures.1 in
    subst (StepEnds g.D.Disk c.args.frames.now c.args.pass.now c.step.new.frames c.step.new.pass c.args.self.now _)
    (sym (r.1 ∙ ap Err r.2))
    (step_refused g.D.Disk c.args.frames.now c.step.new.frames c.args.pass.now c.step.new.pass c.requires.pass
    c.requires.right c.requires.none c.args.self.now k.key k.items k.placing c.step.new.self k.is c.as_slice.result.now
    c.as_slice-2.result.now c.as_slice.ensures.value c.as_slice-2.ensures.value c.in_err-more.field-0.0
    c.in_err-more.ensures)

pub returns-then-not-more : goal.returns-then-not-more
returns-then-not-more g c =
    let k = c.in-Placing in
    step_last g.D.Disk c.args.frames.now c.step.new.frames c.args.pass.now c.step.new.pass c.requires.pass
    c.requires.right c.requires.none c.args.self.now k.key k.items k.placing c.step.new.self k.is c.as_slice.result.now
    c.as_slice-2.result.now c.as_slice.ensures.value c.as_slice-2.ensures.value c.in_ok-more.more c.in_ok-more.ensures
    c.if-not-more.true c.next_key.new.self c.next_key.ensures

pub returns-else-not-more : goal.returns-else-not-more
returns-else-not-more g c =
    let k = c.in-Placing in
    step_more g.D.Disk c.args.frames.now c.step.new.frames c.args.pass.now c.step.new.pass c.requires.pass
    c.requires.right c.requires.none c.args.self.now k.key k.items k.placing c.step.new.self k.is c.as_slice.result.now
    c.as_slice-2.result.now c.as_slice.ensures.value c.as_slice-2.ensures.value c.in_ok-more.more c.in_ok-more.ensures
    c.if-not-more.false
