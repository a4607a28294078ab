use Rattle.std.proofs.Common.{◌≤◌, ℕ, List, length, sym, subst}
use Rattle.shell_run.specs.HasRead.{HasRead}
use Rattle.shell_run.specs.declared.script.TheConstants.{SCRIPT_LIMIT}
use Rattle.shell_run.proofs.Ending.{is_err}
use Rattle.shell_run.proofs.FewPages.{form_few}
use Rattle.shell_run.proofs.Meeting.{run_of_no_form, run_unread, run_served}
use Rattle.shell_run.proofs.top.run.Goals as goal

pub returns-in_default : goal.returns-in_default
returns-in_default g c =
    run_of_no_form g.S.Source g.K.Sink g.D.Disk c.args.words.now c.args.script c.args.out
    c.args.store c.in_default.ensures.none

pub returns-in-Err : goal.returns-in-Err
returns-in-Err g c =
    let told = c.in-Err.ensures in
    run_unread g.S.Source g.K.Sink g.D.Disk c.args.words.now c.args.script c.args.out c.args.store
    c.in-Some.options c.in-Some.ensures.some _ c.in-Err.stop _
    c.status.ensures told.error (λ e. told.fault (is_err _ _ e)) (λ e. told.too_long (is_err _ _ e))

pub serve-status-requires : goal.serve-status-requires
serve-status-requires g c = form_few c.args.words.now c.in-Some.options c.in-Some.ensures.some

pub returns : goal.returns
returns g c =
    let text = c.deref.result.now in
    let is = sym c.deref.ensures.value in
    let read =
    subst (HasRead (g.S.Source.left c.args.script) (g.S.Source.left c.read_script.new.script))
    is c.in-Ok.ensures.whole.0 in
    let short = subst (λ (t : List ℕ). length t ≤ SCRIPT_LIMIT) is c.in-Ok.ensures.short in
    run_served g.S.Source g.K.Sink g.D.Disk c.args.words.now c.args.script c.args.out c.args.store
    c.in-Some.options c.in-Some.ensures.some _ text read
    c.in-Ok.ensures.whole.1 short _ _ _ c.serve-status.ensures
