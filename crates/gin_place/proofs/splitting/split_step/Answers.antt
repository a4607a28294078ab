use Rattle.std.proofs.lemmas.Result.{err_from_is_err_and}
use Rattle.gin_place.specs.Inner.Dividing.{WhyNoSplit}
use Rattle.gin_place.proofs.Causing.{at_exit}
use Rattle.gin_place.proofs.Dividing.{parts_in, split_made}
use Rattle.gin_place.proofs.SplitCauses.{not_divided, not_taken}
use Rattle.gin_place.proofs.splitting.split_step.Goals as goal

pub returns-in_err-left-clause-cause : goal.returns-in_err-left-clause-cause
returns-in_err-left-clause-cause g c =
    let t = c.args.three.now in
    let p = err_from_is_err_and c.from_residual.result c.from_residual.ensures.1 in
    let w = c.in_err-left.field-0.0 in
    at_exit (WhyNoSplit c.args.sought t.page t.parent) c.from_residual.result p.0 w p.1 p.2
    (not_divided c.args.sought t.page t.parent w c.in_err-left.ensures.cause)

pub returns-in_ok-three_step-in-Ok-clause-step : goal.returns-in_ok-three_step-in-Ok-clause-step
returns-in_ok-three_step-in-Ok-clause-step g c =
    let t = c.args.three.now in
    split_made c.args.sought t.page t.new t.parent c.in_ok-left.left c.in_ok-left.right c.in-Ok.adopted
    c.in_ok-three_step-in-Ok.field-0
    (parts_in c.args.sought t.page t.new t.parent c.in_ok-left.left c.in_ok-left.right c.in-Ok.adopted
    c.in_ok-left.ensures.parts c.in-Ok.ensures.adopts c.in-Ok.ensures.same c.in-Ok.ensures.is_page)
    c.in_ok-three_step-in-Ok.ensures.step

pub returns-in-Err-clause-cause : goal.returns-in-Err-clause-cause
returns-in-Err-clause-cause g c =
    let t = c.args.three.now in
    not_taken c.args.sought t.page t.parent t.new.page c.in_ok-left.left c.in_ok-left.right c.in_ok-left.ensures.parts
    c.in-Err.error c.in-Err.ensures.cause
