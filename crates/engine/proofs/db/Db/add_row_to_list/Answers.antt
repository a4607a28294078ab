-- A row is added to the pending list, or it has no room.
use Rattle.std.proofs.Common.{◌≡◌, ◌<◌, ◌^◌, Bool, [], ◌∷◌, ◌++◌, sym, ap, subst, ◌∙◌, inl, arith}
use Rattle.std.specs.Prelude.{Option, Result, None, IfErr, IfSome, OnErr}
use Rattle.std.proofs.lemmas.Result.{err_from_is_err_and}
use Rattle.core_state.specs.Allowed.{Sheet, Step}
use Rattle.buffer_frames.specs.Journals.{after_owed, next_record}
use Rattle.buffer_frames.specs.Passes.{IsHolding}
use Rattle.engine.specs.Answers.{MeetsNoBadPage}
use Rattle.engine.specs.Going.{Goes}
use Rattle.engine.specs.Places.{Lies}
use Rattle.engine.specs.Inner.Changing.{ChangesDocument, doc_of}
use Rattle.engine.specs.Places.{HasNoRoomOnList}
use Rattle.engine.specs.Inner.Indexing.{CannotAddRow, NamesEnd, end_sheets}
use Rattle.engine.specs.declared.error.DbError.{DbError}
use Rattle.engine.proofs.Carrying.{carries_on, holds_none, keeps_on}
use Rattle.engine.proofs.AddedRows.{links_then, named_last, named_none, named_low, is_none, row_may_log, row_record}
use Rattle.engine.proofs.AddedRows.{made_row, told_memory, full_none}
use Rattle.engine.proofs.LinkAnswers.{memory_calm, row_not_logged, lawful_made}
use Rattle.engine.proofs.ListEnds.{runs_back, both_back, list_lawful}
use Rattle.engine.proofs.Paths.{goes_on, goes_still, one_record, time_of, told_in_turn, none_in_turn}
use Rattle.engine.proofs.ReadSteps.{refused_told}
use Rattle.engine.proofs.Running.{running_on, running_still}
use Rattle.engine.proofs.StepSeen.{runs_after}
use Rattle.engine.proofs.db.Db.add_row_to_list.Goals as goal

-- ── the end of the list isn't held ──

pub hold_list-requires-clause-holding : goal.hold_list-requires-clause-holding
hold_list-requires-clause-holding g c =
    ([], holds_none g.D.Disk c.args.self.now c.args.pass.now (c.requires.running).is_pass (c.requires.running).held)

pub returns-in_err-meta-clause-running : goal.returns-in_err-meta-clause-running
returns-in_err-meta-clause-running g c =
    let w = c.hold_list.ensures.on in
    running_still g.D.Disk c.args.self.now c.hold_list.new.self c.args.pass.now c.hold_list.new.pass c.args.work
    c.requires.running w.is_pass (c.in_err-meta.ensures.still.held ∙ (c.requires.running).held) w.keeps w.carries

pub returns-in_err-meta-clause-lawful : goal.returns-in_err-meta-clause-lawful
returns-in_err-meta-clause-lawful g c =
    let p = err_from_is_err_and c.from_residual.result c.from_residual.ensures.1 in
    subst (λ (r : Result Bool DbError). IfErr r (λ e. MeetsNoBadPage g.D.Disk c.args.self.now e)) (sym p.1)
    (subst (MeetsNoBadPage g.D.Disk c.args.self.now) (sym p.2)
    (list_lawful g.D.Disk c.args.self.now c.args.pass.now _ (c.requires.running).is_pass c.in_err-meta.ensures.cause))

-- ── it is empty ──

pub give_back-requires-clause-holding : goal.give_back-requires-clause-holding
give_back-requires-clause-holding g c =
    let e = c.in_ok-meta.field-0 in
    let none : e.last ≡ None = is_none e.last c.in_default.not-Some in (
      [],
      subst (λ (o : Option Sheet). IsHolding g.D.Disk c.hold_list.new.self.frames c.hold_list.new.pass
          (end_sheets e.meta o ++ [])) none
          (c.in_ok-meta.ensures.holding []
          (holds_none g.D.Disk c.args.self.now c.args.pass.now (c.requires.running).is_pass
          (c.requires.running).held)),
    )

pub returns-in_default-clause-running : goal.returns-in_default-clause-running
returns-in_default-clause-running g c =
    let w = c.hold_list.ensures.on in
    let e = c.in_ok-meta.field-0 in
    let none : e.last ≡ None = is_none e.last c.in_default.not-Some in
    runs_back g.D.Disk c.args.self.now c.hold_list.new.self c.give_back.new.self c.args.pass.now c.hold_list.new.pass
    c.give_back.new.pass c.args.work (e.meta ∷ []) c.requires.running w.carries w.keeps c.give_back.ensures
    (subst (λ (o : Option Sheet). IsHolding g.D.Disk c.hold_list.new.self.frames c.hold_list.new.pass
    (end_sheets e.meta o ++ [])) none
    (c.in_ok-meta.ensures.holding []
    (holds_none g.D.Disk c.args.self.now c.args.pass.now (c.requires.running).is_pass (c.requires.running).held)))

pub returns-in_default-clause-full : goal.returns-in_default-clause-full
returns-in_default-clause-full g c = λ no.
    let e = c.in_ok-meta.field-0 in
    let none : e.last ≡ None = is_none e.last c.in_default.not-Some in
    HasNoRoomOnList.none e.meta.content e.first e.pages c.in_ok-meta.ensures.lies.meta
    (named_none e.meta.content e.first e.pages e.last c.in_ok-meta.ensures.is_end.names none)

pub returns-in_default-clause-still : goal.returns-in_default-clause-still
returns-in_default-clause-still g c = λ no. goes_still g.D.Disk c.hold_list.ensures.on.goes c.give_back.ensures.goes

pub returns-in_default-clause-carries : goal.returns-in_default-clause-carries
returns-in_default-clause-carries g c = λ no.
    let w = c.hold_list.ensures.on in
    carries_on g.D.Disk c.args.self.now c.hold_list.new.self c.give_back.new.self c.args.pass.now c.hold_list.new.pass
    c.give_back.new.pass (w.keeps).xid w.carries c.give_back.ensures.carries

-- ── a row is made and logged ──

pub row_step-made-requires-clause-pending : goal.row_step-made-requires-clause-pending
row_step-made-requires-clause-pending g c =
    let e = c.in_ok-meta.field-0 in
    (named_last e.meta.content e.first e.pages e.last c.in-Some.last c.in_ok-meta.ensures.is_end.names c.in-Some.is).2

pub log_two-requires : goal.log_two-requires
log_two-requires g c =
    let run = c.requires.running in
    let n = c.requires.put in
    let x = c.args.work.xid in
    let w = c.hold_list.ensures.on in
    let e = c.in_ok-meta.field-0 in
    let ends = c.in_ok-meta.ensures.is_end in
    let named = named_last e.meta.content e.first e.pages e.last c.in-Some.last ends.names c.in-Some.is in
    let serial : c.args.name.serial < 2 ^ 64 = omega arith in
    let held = subst (λ (o : Option Sheet). IsHolding g.D.Disk c.hold_list.new.self.frames c.hold_list.new.pass
    (end_sheets e.meta o ++ [])) c.in-Some.is
    (c.in_ok-meta.ensures.holding []
    (holds_none g.D.Disk c.args.self.now c.args.pass.now run.is_pass run.held)) in
    let made = c.row_step-made in
    record {
      is_pass = w.is_pass;
      holding = held;
      calm = memory_calm c.in-Some-transpose.made
          (told_memory made.result _ c.in-Some-transpose.ensures made.ensures.memory);
      may = λ step is. row_may_log g.D.Disk c.hold_list.new.self c.hold_list.new.pass e.meta c.in-Some.last e.first
          e.pages x c.args.name n.0 _ n.1 step ((w.keeps).xid ∙ run.xid) held n.2 ends.at
          (subst (NamesEnd e.meta.content e.first e.pages) c.in-Some.is ends.names) c.requires.place
          (named_low e.meta.content e.first c.in-Some.last.page e.pages ends.is_page named.0).1
          (made_row x c.args.name c.in-Some.last _ made.result c.in-Some-transpose.made step
          c.in-Some-transpose.ensures is
          made.ensures.step) w.is_pass ((w.carries).rows x _ n.0 [] 0 n.1 run.xid n.3) serial;
    }

pub returns-in_err-log_two-clause-running : goal.returns-in_err-log_two-clause-running
returns-in_err-log_two-clause-running g c =
    let w = c.hold_list.ensures.on in
    let l = c.log_two.ensures in
    running_still g.D.Disk c.args.self.now c.log_two.new.self c.args.pass.now c.log_two.new.pass c.args.work
    c.requires.running l.pass l.none_held
    (keeps_on c.args.pass.now c.hold_list.new.pass c.log_two.new.pass w.keeps l.keeps)
    (carries_on g.D.Disk c.args.self.now c.hold_list.new.self c.log_two.new.self c.args.pass.now
    c.hold_list.new.pass c.log_two.new.pass (w.keeps).xid w.carries c.in_err-log_two.ensures.carries)

pub returns-in_err-log_two-clause-fault : goal.returns-in_err-log_two-clause-fault
returns-in_err-log_two-clause-fault g c =
    let p = err_from_is_err_and c.from_residual-in_err-log_two.result c.from_residual-in_err-log_two.ensures.1 in
    refused_told g.D.Disk c.args.self.now c.log_two.new.self c.log_two.result c.from_residual-in_err-log_two.result _
    p.0 c.in_err-log_two.was p.1 p.2
    (told_in_turn g.D.Disk c.args.self.now c.hold_list.new.self c.log_two.new.self c.log_two.result
    (time_of g.D.Disk c.hold_list.ensures.on.goes) c.in_ok-meta.ensures.fault c.log_two.ensures.fault)

pub returns-in_err-log_two-clause-refused : goal.returns-in_err-log_two-clause-refused
returns-in_err-log_two-clause-refused g c =
    let p = err_from_is_err_and c.from_residual-in_err-log_two.result c.from_residual-in_err-log_two.ensures.1 in
    subst (λ (r : Result Bool DbError). OnErr r (Goes g.D.Disk c.args.self.now c.log_two.new.self [])) (sym p.1)
    (goes_still g.D.Disk c.hold_list.ensures.on.goes c.in_err-log_two.ensures.refused)

pub returns-in_err-log_two-clause-cause : goal.returns-in_err-log_two-clause-cause
returns-in_err-log_two-clause-cause g c =
    let p = err_from_is_err_and c.from_residual-in_err-log_two.result c.from_residual-in_err-log_two.ensures.1 in
    let m = c.hold_list.new.self in
    let made = c.row_step-made in
    let Why = CannotAddRow g.D.Disk c.args.self.now c.args.work.xid (doc_of c.args.name) in
    subst (λ (r : Result Bool DbError). IfErr r Why) (sym p.1)
    (subst Why (sym p.2)
    (row_not_logged g.D.Disk c.args.self.now m c.hold_list.ensures.on.goes (c.in_ok-meta.ensures.fault).down
    c.args.work.xid c.args.name c.in-Some-transpose.made
    (told_memory made.result _ c.in-Some-transpose.ensures made.ensures.memory)
    (λ step is. row_record (after_owed m.frames.journal.owes m.frames.journal.state) c.args.work.xid c.args.name
    c.in-Some.last _ step (made_row c.args.work.xid c.args.name c.in-Some.last _
    made.result c.in-Some-transpose.made step
    c.in-Some-transpose.ensures is made.ensures.step))
    _ c.in_err-log_two.ensures.cause))

pub returns-in_err-log_two-clause-lawful : goal.returns-in_err-log_two-clause-lawful
returns-in_err-log_two-clause-lawful g c =
    let p = err_from_is_err_and c.from_residual-in_err-log_two.result c.from_residual-in_err-log_two.ensures.1 in
    let made = c.row_step-made in
    subst (λ (r : Result Bool DbError). IfErr r (λ e. MeetsNoBadPage g.D.Disk c.args.self.now e)) (sym p.1)
    (subst (MeetsNoBadPage g.D.Disk c.args.self.now) (sym p.2)
    (lawful_made g.D.Disk c.args.self.now c.hold_list.new.self c.in-Some-transpose.made
    (told_memory made.result _ c.in-Some-transpose.ensures made.ensures.memory) _ c.in_err-log_two.ensures.cause))

pub returns-clause-running : goal.returns-clause-running
returns-clause-running g c =
    let run = c.requires.running in
    let w = c.hold_list.ensures.on in
    let l = c.log_two.ensures in
    let y = c.in_ok-log_two.ensures.logged in
    let made = c.row_step-made in
    let x = c.args.work.xid in
    running_on g.D.Disk c.args.self.now c.log_two.new.self c.args.pass.now c.log_two.new.pass c.args.work
    run l.pass l.none_held (keeps_on c.args.pass.now c.hold_list.new.pass c.log_two.new.pass w.keeps l.keeps)
    (runs_after g.D.Disk c.hold_list.new.self c.log_two.new.self c.hold_list.new.pass c.log_two.new.pass
    (c.in-Some.last ∷ c.in_ok-meta.field-0.meta ∷ []) y.step y.logs w.is_pass l.pass x ((w.keeps).xid ∙ run.xid)
    (subst (λ (q : Step). ChangesDocument q.kind) (sym
    (made_row x c.args.name c.in-Some.last _ made.result c.in-Some-transpose.made y.step c.in-Some-transpose.ensures
    y.made_is
    made.ensures.step).step_is) tt) ((w.carries).runs x run.xid run.runs))

pub returns-clause-goes : goal.returns-clause-goes
returns-clause-goes g c = λ yes.
    let m = c.hold_list.new.self in
    let y = c.in_ok-log_two.ensures.logged in
    let made = c.row_step-made in (
      next_record m.frames.journal y.step,
      row_record (after_owed m.frames.journal.owes m.frames.journal.state) c.args.work.xid c.args.name c.in-Some.last
          _ y.step (made_row c.args.work.xid c.args.name c.in-Some.last _ made.result c.in-Some-transpose.made y.step
          c.in-Some-transpose.ensures y.made_is made.ensures.step),
      goes_on g.D.Disk c.hold_list.ensures.on.goes (one_record g.D.Disk (y.logs).one),
    )

pub returns-clause-indexed : goal.returns-clause-indexed
returns-clause-indexed g c = λ v d of none had yes.
    let run = c.requires.running in
    let w = c.hold_list.ensures.on in
    let y = c.in_ok-log_two.ensures.logged in
    let made = c.row_step-made in
    let x = c.args.work.xid in
    links_then g.D.Disk c.hold_list.new.self c.log_two.new.self c.hold_list.new.pass c.log_two.new.pass
    (c.in-Some.last ∷ c.in_ok-meta.field-0.meta ∷ []) y.step y.logs w.is_pass c.log_two.ensures.pass x c.args.name v []
    0 d ((w.keeps).xid ∙ run.xid) c.requires.place.1 none
    (inl (ap (λ (s : Step). s.kind) (made_row x c.args.name c.in-Some.last _ made.result c.in-Some-transpose.made y.step
    c.in-Some-transpose.ensures y.made_is made.ensures.step).step_is))
    ((w.carries).rows x _ v [] 0 d.deleted run.xid had)

-- ── the page has no room ──

pub give_back-requires-in_default-transpose-clause-holding : goal.give_back-requires-in_default-transpose-clause-holding
give_back-requires-in_default-transpose-clause-holding g c =
    let e = c.in_ok-meta.field-0 in (
      e.meta ∷ [],
      subst (λ (o : Option Sheet). IsHolding g.D.Disk c.hold_list.new.self.frames c.hold_list.new.pass
          (end_sheets e.meta o ++ [])) c.in-Some.is
          (c.in_ok-meta.ensures.holding []
          (holds_none g.D.Disk c.args.self.now c.args.pass.now (c.requires.running).is_pass
          (c.requires.running).held)),
    )

pub give_back-requires-in_default-transpose-2-clause-holding : goal.give_back-requires-in_default-transpose-2-clause-holding
give_back-requires-in_default-transpose-2-clause-holding g c =
    let e = c.in_ok-meta.field-0 in (
      [],
      c.give_back-in_default-transpose.ensures.holding (e.meta ∷ [])
          (subst (λ (o : Option Sheet). IsHolding g.D.Disk c.hold_list.new.self.frames c.hold_list.new.pass
          (end_sheets e.meta o ++ [])) c.in-Some.is
          (c.in_ok-meta.ensures.holding []
          (holds_none g.D.Disk c.args.self.now c.args.pass.now (c.requires.running).is_pass
          (c.requires.running).held))),
    )

pub returns-in_default-transpose-clause-running : goal.returns-in_default-transpose-clause-running
returns-in_default-transpose-clause-running g c =
    let w = c.hold_list.ensures.on in
    let e = c.in_ok-meta.field-0 in
    runs_back g.D.Disk c.args.self.now c.hold_list.new.self c.give_back-in_default-transpose-2.new.self c.args.pass.now
    c.hold_list.new.pass c.give_back-in_default-transpose-2.new.pass c.args.work (c.in-Some.last ∷ e.meta ∷ [])
    c.requires.running w.carries w.keeps
    (both_back g.D.Disk c.hold_list.new.self c.give_back-in_default-transpose.new.self
    c.give_back-in_default-transpose-2.new.self c.hold_list.new.pass c.give_back-in_default-transpose.new.pass
    c.give_back-in_default-transpose-2.new.pass c.in-Some.last e.meta
    c.give_back-in_default-transpose.ensures c.give_back-in_default-transpose-2.ensures)
    (subst (λ (o : Option Sheet). IsHolding g.D.Disk c.hold_list.new.self.frames c.hold_list.new.pass
    (end_sheets e.meta o ++ [])) c.in-Some.is
    (c.in_ok-meta.ensures.holding []
    (holds_none g.D.Disk c.args.self.now c.args.pass.now (c.requires.running).is_pass (c.requires.running).held)))

pub returns-in_default-transpose-clause-full : goal.returns-in_default-transpose-clause-full
returns-in_default-transpose-clause-full g c = λ no.
    let e = c.in_ok-meta.field-0 in
    let n = named_last e.meta.content e.first e.pages e.last c.in-Some.last c.in_ok-meta.ensures.is_end.names
    c.in-Some.is in
    HasNoRoomOnList.full e.meta.content c.in-Some.last.content e.first c.in-Some.last.page e.pages
    c.in_ok-meta.ensures.lies.meta n.0 n.1
    (subst (λ (o : Option Sheet). IfSome o (λ (h : Sheet). Lies c.args.self.now h.page h.content)) c.in-Some.is
    c.in_ok-meta.ensures.lies.last)
    (full_none _ c.row_step-made.result c.transpose.result c.transpose.ensures c.in_default-transpose.not-Some
    c.row_step-made.ensures.full)

pub returns-in_default-transpose-clause-still : goal.returns-in_default-transpose-clause-still
returns-in_default-transpose-clause-still g c = λ no.
    goes_still g.D.Disk (goes_still g.D.Disk c.hold_list.ensures.on.goes c.give_back-in_default-transpose.ensures.goes)
    c.give_back-in_default-transpose-2.ensures.goes

pub returns-in_default-transpose-clause-carries : goal.returns-in_default-transpose-clause-carries
returns-in_default-transpose-clause-carries g c = λ no.
    let w = c.hold_list.ensures.on in
    carries_on g.D.Disk c.args.self.now c.give_back-in_default-transpose.new.self
    c.give_back-in_default-transpose-2.new.self c.args.pass.now c.give_back-in_default-transpose.new.pass
    c.give_back-in_default-transpose-2.new.pass ((c.give_back-in_default-transpose.ensures.keeps).xid ∙ (w.keeps).xid)
    (carries_on g.D.Disk c.args.self.now c.hold_list.new.self c.give_back-in_default-transpose.new.self c.args.pass.now
    c.hold_list.new.pass c.give_back-in_default-transpose.new.pass (w.keeps).xid w.carries
    c.give_back-in_default-transpose.ensures.carries) c.give_back-in_default-transpose-2.ensures.carries

-- ── the pass goes on, and what is told ──

pub returns-in_default-clause-keeps : goal.returns-in_default-clause-keeps
returns-in_default-clause-keeps g c =
    keeps_on c.args.pass.now c.hold_list.new.pass c.give_back.new.pass c.hold_list.ensures.on.keeps
    c.give_back.ensures.keeps

pub returns-in_default-clause-fault : goal.returns-in_default-clause-fault
returns-in_default-clause-fault g c = none_in_turn g.D.Disk c.in_ok-meta.ensures.fault c.give_back.ensures.met

pub returns-in_default-transpose-clause-keeps : goal.returns-in_default-transpose-clause-keeps
returns-in_default-transpose-clause-keeps g c =
    keeps_on c.args.pass.now c.give_back-in_default-transpose.new.pass c.give_back-in_default-transpose-2.new.pass
    (keeps_on c.args.pass.now c.hold_list.new.pass c.give_back-in_default-transpose.new.pass
    c.hold_list.ensures.on.keeps c.give_back-in_default-transpose.ensures.keeps)
    c.give_back-in_default-transpose-2.ensures.keeps

pub returns-in_default-transpose-clause-fault : goal.returns-in_default-transpose-clause-fault
returns-in_default-transpose-clause-fault g c =
    none_in_turn g.D.Disk
    (none_in_turn g.D.Disk c.in_ok-meta.ensures.fault c.give_back-in_default-transpose.ensures.met)
    c.give_back-in_default-transpose-2.ensures.met

pub returns-in_err-log_two-clause-keeps : goal.returns-in_err-log_two-clause-keeps
returns-in_err-log_two-clause-keeps g c =
    keeps_on c.args.pass.now c.hold_list.new.pass c.log_two.new.pass c.hold_list.ensures.on.keeps
    c.log_two.ensures.keeps

pub returns-clause-keeps : goal.returns-clause-keeps
returns-clause-keeps g c =
    keeps_on c.args.pass.now c.hold_list.new.pass c.log_two.new.pass c.hold_list.ensures.on.keeps
    c.log_two.ensures.keeps

pub returns-clause-fault : goal.returns-clause-fault
returns-clause-fault g c =
    none_in_turn g.D.Disk c.in_ok-meta.ensures.fault c.in_ok-log_two.ensures.fault
