-- A step that was made is logged on three pages, or they are given back.
use Rattle.std.proofs.Common.{◌≡◌, List, [], ◌∷◌, ◌++◌, sym, ap, subst, ◌∙◌}
use Rattle.std.specs.Prelude.{Result, IfErr, OnErr}
use Rattle.std.proofs.lemmas.Result.{err_from_is_err_and}
use Rattle.core_state.specs.Allowed.{Sheet}
use Rattle.engine.specs.Going.{Goes}
use Rattle.engine.specs.Inner.Changing.{MayLogStep, LogsStep, CannotLogMade}
use Rattle.engine.specs.Inner.Parts.{CarriesOwn}
use Rattle.engine.specs.declared.error.DbError.{DbError}
use Rattle.engine.proofs.LinkAnswers.{cannot_log, unmade, unmade_told}
use Rattle.engine.proofs.Carrying.{carries_on, keeps_on}
use Rattle.engine.proofs.Paths.{goes_still, none_in_turn}
use Rattle.engine.proofs.ReadSteps.{refused_told}
use Rattle.engine.proofs.db.Db.log_three.Goals as goal

pub log_pages-requires : goal.log_pages-requires
log_pages-requires g c =
    let items : c.push_reserved-in-Ok-2.new.self.items ≡ c.args.last ∷ c.args.meta ∷ c.args.heap ∷ [] =
    c.push_reserved-in-Ok-2.ensures.items
    ∙ ap (λ (l : List Sheet). l ++ c.args.heap ∷ []) (c.push_reserved-in-Ok.ensures.items
    ∙ ap (λ (l : List Sheet). l ++ c.args.meta ∷ []) (c.push_reserved.ensures.items
    ∙ ap (λ (l : List Sheet). l ++ c.args.last ∷ []) c.in-Ok.ensures.none)) in
    subst (λ (l : List Sheet). MayLogStep g.D.Disk c.args.self.now c.args.pass.now l c.in-Ok.step) (sym items)
    (c.requires.may c.in-Ok.step c.in-Ok.ensures.made)

pub returns-in_err-log_pages-in-Ok-clause-fault : goal.returns-in_err-log_pages-in-Ok-clause-fault
returns-in_err-log_pages-in-Ok-clause-fault g c =
    let p = err_from_is_err_and c.from_residual.result c.from_residual.ensures.1 in
    refused_told g.D.Disk c.args.self.now c.log_pages.new.self c.log_pages.result c.from_residual.result _ p.0
    c.in_err-log_pages-in-Ok.was p.1 p.2 c.log_pages.ensures.fault

pub returns-in_err-log_pages-in-Ok-clause-refused : goal.returns-in_err-log_pages-in-Ok-clause-refused
returns-in_err-log_pages-in-Ok-clause-refused g c =
    let p = err_from_is_err_and c.from_residual.result c.from_residual.ensures.1 in
    subst (λ (r : Result (Unit {0}) DbError). OnErr r (Goes g.D.Disk c.args.self.now c.log_pages.new.self [])) (sym p.1)
    c.in_err-log_pages-in-Ok.ensures.refused

pub returns-in_err-log_pages-in-Ok-clause-carries : goal.returns-in_err-log_pages-in-Ok-clause-carries
returns-in_err-log_pages-in-Ok-clause-carries g c =
    let p = err_from_is_err_and c.from_residual.result c.from_residual.ensures.1 in
    subst (λ (r : Result (Unit {0}) DbError).
    OnErr r (CarriesOwn g.D.Disk c.args.self.now c.args.pass.now c.log_pages.new.self c.log_pages.new.pass)) (sym p.1)
    c.in_err-log_pages-in-Ok.ensures.carries

pub returns-in_err-log_pages-in-Ok-clause-cause : goal.returns-in_err-log_pages-in-Ok-clause-cause
returns-in_err-log_pages-in-Ok-clause-cause g c =
    let p = err_from_is_err_and c.from_residual.result c.from_residual.ensures.1 in
    let Why = CannotLogMade c.args.self.now c.args.made in
    subst (λ (r : Result (Unit {0}) DbError). IfErr r Why) (sym p.1) (subst Why (sym p.2)
    (cannot_log c.args.self.now c.args.made _ c.in-Ok.step c.in-Ok.ensures.made c.in_err-log_pages-in-Ok.ensures.cause))

pub returns-in_ok-log_pages-in-Ok-clause-logged : goal.returns-in_ok-log_pages-in-Ok-clause-logged
returns-in_ok-log_pages-in-Ok-clause-logged g c =
    let items : c.push_reserved-in-Ok-2.new.self.items ≡ c.args.last ∷ c.args.meta ∷ c.args.heap ∷ [] =
    c.push_reserved-in-Ok-2.ensures.items
    ∙ ap (λ (l : List Sheet). l ++ c.args.heap ∷ []) (c.push_reserved-in-Ok.ensures.items
    ∙ ap (λ (l : List Sheet). l ++ c.args.meta ∷ []) (c.push_reserved.ensures.items
    ∙ ap (λ (l : List Sheet). l ++ c.args.last ∷ []) c.in-Ok.ensures.none)) in
    record {
      step = c.in-Ok.step;
      made_is = c.in-Ok.ensures.made;
      logs = subst (λ (l : List Sheet). LogsStep g.D.Disk c.args.self.now c.args.pass.now l c.in-Ok.step
          c.log_pages.new.self c.log_pages.new.pass) items c.in_ok-log_pages-in-Ok.ensures.logged;
    }

pub give_back-requires-clause-holding : goal.give_back-requires-clause-holding
give_back-requires-clause-holding g c = (c.args.meta ∷ c.args.heap ∷ [], c.requires.holding)

pub give_back-requires-in-Err-clause-holding : goal.give_back-requires-in-Err-clause-holding
give_back-requires-in-Err-clause-holding g c =
    (c.args.heap ∷ [], c.give_back.ensures.holding (c.args.meta ∷ c.args.heap ∷ []) c.requires.holding)

pub give_back-requires-in-Err-2-clause-holding : goal.give_back-requires-in-Err-2-clause-holding
give_back-requires-in-Err-2-clause-holding g c = (
  [],
  c.give_back-in-Err.ensures.holding (c.args.heap ∷ [])
      (c.give_back.ensures.holding (c.args.meta ∷ c.args.heap ∷ []) c.requires.holding),
)

pub returns-in-Err-clause-none_held : goal.returns-in-Err-clause-none_held
returns-in-Err-clause-none_held g c =
    sym (c.give_back-in-Err-2.ensures.holding [] (c.give_back-in-Err.ensures.holding (c.args.heap ∷ [])
    (c.give_back.ensures.holding (c.args.meta ∷ c.args.heap ∷ []) c.requires.holding))).all

pub returns-in-Err-clause-fault : goal.returns-in-Err-clause-fault
returns-in-Err-clause-fault g c =
    unmade_told g.D.Disk (Unit {0}) c.args.self.now c.give_back-in-Err-2.new.self c.args.made c.in-Err.error
    c.requires.calm c.in-Err.ensures.cause
    (none_in_turn g.D.Disk (none_in_turn g.D.Disk c.give_back.ensures.met c.give_back-in-Err.ensures.met)
    c.give_back-in-Err-2.ensures.met)

pub returns-in-Err-clause-refused : goal.returns-in-Err-clause-refused
returns-in-Err-clause-refused g c =
    goes_still g.D.Disk (goes_still g.D.Disk c.give_back.ensures.goes c.give_back-in-Err.ensures.goes)
    c.give_back-in-Err-2.ensures.goes

pub returns-in-Err-clause-carries : goal.returns-in-Err-clause-carries
returns-in-Err-clause-carries g c =
    carries_on g.D.Disk c.args.self.now c.give_back.new.self c.give_back-in-Err-2.new.self c.args.pass.now
    c.give_back.new.pass c.give_back-in-Err-2.new.pass (c.give_back.ensures.keeps).xid c.give_back.ensures.carries
    (carries_on g.D.Disk c.give_back.new.self c.give_back-in-Err.new.self c.give_back-in-Err-2.new.self
    c.give_back.new.pass c.give_back-in-Err.new.pass c.give_back-in-Err-2.new.pass
    (c.give_back-in-Err.ensures.keeps).xid c.give_back-in-Err.ensures.carries c.give_back-in-Err-2.ensures.carries)

pub returns-in-Err-clause-cause : goal.returns-in-Err-clause-cause
returns-in-Err-clause-cause g c = unmade c.args.self.now c.args.made c.in-Err.error c.in-Err.ensures.cause

pub returns-in-Err-clause-keeps : goal.returns-in-Err-clause-keeps
returns-in-Err-clause-keeps g c =
    keeps_on c.args.pass.now c.give_back-in-Err.new.pass c.give_back-in-Err-2.new.pass
    (keeps_on c.args.pass.now c.give_back.new.pass c.give_back-in-Err.new.pass c.give_back.ensures.keeps
    c.give_back-in-Err.ensures.keeps) c.give_back-in-Err-2.ensures.keeps
