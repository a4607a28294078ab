-- A step that was made is logged on one page, or the page is given back.
use Rattle.std.proofs.Common.{◌≡◌, List, [], ◌∷◌, ◌++◌, sym, ap, subst, ◌∙◌}
use Rattle.core_state.specs.Allowed.{Sheet, Step}
use Rattle.buffer_frames.specs.Drawing.{drawn_by}
use Rattle.buffer_frames.specs.declared.step.Drawn.{Drawn}
use Rattle.engine.specs.Db.{state_then}
use Rattle.engine.specs.Inner.Changing.{MayLogStep, LogsStep}
use Rattle.engine.proofs.Choosing.{at_ok}
use Rattle.engine.proofs.LinkAnswers.{ok_one, linked_all, cannot_log, unmade, unmade_told}
use Rattle.engine.proofs.ReadSteps.{if_err}
use Rattle.engine.proofs.db.Db.log_one.Goals as goal

pub log_pages-requires : goal.log_pages-requires
log_pages-requires g c =
    let items : c.push_reserved.new.self.items ≡ c.args.held ∷ [] =
    c.push_reserved.ensures.items ∙ ap (λ (l : List Sheet). l ++ c.args.held ∷ []) c.in-Ok.ensures.none in
    subst (λ (l : List Sheet). MayLogStep g.D.Disk c.args.self.now c.args.pass.now l c.in-Ok.step) (sym items)
    (c.requires.may c.in-Ok.step c.in-Ok.ensures.made)

pub returns-in-Ok-clause-logged : goal.returns-in-Ok-clause-logged
returns-in-Ok-clause-logged g c =
    let items : c.push_reserved.new.self.items ≡ c.args.held ∷ [] =
    c.push_reserved.ensures.items ∙ ap (λ (l : List Sheet). l ++ c.args.held ∷ []) c.in-Ok.ensures.none in
    linked_all _ _ c.log_pages.result
    (λ logs. record {
      step = c.in-Ok.step;
      made_is = c.in-Ok.ensures.made;
      logs = subst (λ (l : List Sheet). LogsStep g.D.Disk c.args.self.now c.args.pass.now l c.in-Ok.step
          c.log_pages.new.self c.log_pages.new.pass) items logs;
    })
    c.log_pages.ensures.logged

pub returns-in-Ok-clause-drawn : goal.returns-in-Ok-clause-drawn
returns-in-Ok-clause-drawn g c =
    at_ok c.log_pages.result _ _
    (λ d is s made. is ∙ ap (λ (q : Step). drawn_by (state_then c.args.self.now) q.kind)
    (ok_one c.args.made c.in-Ok.step s c.in-Ok.ensures.made made))
    c.log_pages.ensures.drawn

pub returns-in-Ok-clause-cause : goal.returns-in-Ok-clause-cause
returns-in-Ok-clause-cause g c =
    if_err c.log_pages.result (λ e why. cannot_log c.args.self.now c.args.made e c.in-Ok.step c.in-Ok.ensures.made why)
    c.log_pages.ensures.cause

pub give_back-requires-clause-holding : goal.give_back-requires-clause-holding
give_back-requires-clause-holding g c = ([], c.requires.holding)

pub returns-in-Err-clause-none_held : goal.returns-in-Err-clause-none_held
returns-in-Err-clause-none_held g c = sym (c.give_back.ensures.holding [] c.requires.holding).all

pub returns-in-Err-clause-fault : goal.returns-in-Err-clause-fault
returns-in-Err-clause-fault g c =
    unmade_told g.D.Disk Drawn c.args.self.now c.give_back.new.self c.args.made c.in-Err.error c.requires.calm
    c.in-Err.ensures.cause c.give_back.ensures.met

pub returns-in-Err-clause-cause : goal.returns-in-Err-clause-cause
returns-in-Err-clause-cause g c = unmade c.args.self.now c.args.made c.in-Err.error c.in-Err.ensures.cause
