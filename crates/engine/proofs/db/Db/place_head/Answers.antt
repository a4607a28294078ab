-- The head of a document is placed on the page that is chosen for it.
use Rattle.std.proofs.Common.{◌≡◌, ℕ, [], ◌∷◌, refl, sym, ap, ap₂, subst, ◌∙◌, arith}
use Rattle.std.specs.Prelude.{Result, Err, IfErr, OnErr}
use Rattle.std.proofs.lemmas.Result.{err_from_is_err_and}
use Rattle.page_types.specs.declared.page.Head.{Head}
use Rattle.page_types.specs.declared.page.Name.{Name}
use Rattle.core_state.specs.Allowed.{Step}
use Rattle.core_state.specs.Documents.{Doc, doc_at, item_at}
use Rattle.doc_heap.specs.HeapPages.{IsPlaced}
use Rattle.buffer_frames.specs.Drawing.{value_by}
use Rattle.buffer_frames.specs.Journals.{next_record}
use Rattle.buffer_frames.specs.declared.step.Drawn.{Drawn}
use Rattle.engine.specs.Answers.{MeetsNoBadPage}
use Rattle.engine.specs.Db.{DbValue, state_then}
use Rattle.engine.specs.Going.{Goes, stays}
use Rattle.engine.specs.Places.{head_for}
use Rattle.engine.specs.Work.{IsPlaceOf}
use Rattle.engine.specs.Inner.Changing.{ChangesDocument, MayLogStep, LogsStep, CannotPlace, doc_of, place_of}
use Rattle.engine.specs.Inner.Parts.{HasPlaced}
use Rattle.engine.specs.declared.error.DbError.{DbError}
use Rattle.engine.proofs.Carrying.{carries_on, keeps_on}
use Rattle.engine.proofs.LinkAnswers.{of_given, memory_calm, lawful_made}
use Rattle.engine.proofs.Paths.{one_record, goes_on, goes_still, time_of, told_in_turn, none_in_turn}
use Rattle.engine.proofs.Placing.{place_may_log, placed_then, places_it, choose_cause, place_not_logged, choose_lawful}
use Rattle.engine.proofs.Running.{running_on, running_still, told_again}
use Rattle.engine.proofs.StepSeen.{runs_after}
use Rattle.engine.proofs.db.Db.place_head.Goals as goal

pub returns-in_err-head-clause-refused : goal.returns-in_err-head-clause-refused
returns-in_err-head-clause-refused g c =
    let p = err_from_is_err_and c.from_residual.result c.from_residual.ensures.1 in
    subst (λ (r : Result Name DbError). OnErr r (Goes g.D.Disk c.args.self.now c.args.self.now [])) (sym p.1) stays

pub returns-in_err-held-clause-running : goal.returns-in_err-held-clause-running
returns-in_err-held-clause-running g c =
    let h = c.choose_page-placed.ensures in
    running_still g.D.Disk c.args.self.now c.choose_page-placed.new.self c.args.pass.now
    c.choose_page-placed.new.pass c.args.work c.requires.running h.pass c.in_err-held.ensures.still h.keeps h.carries

pub returns-in_err-held-clause-cause : goal.returns-in_err-held-clause-cause
returns-in_err-held-clause-cause g c =
    let p = err_from_is_err_and c.from_residual-in_err-held.result c.from_residual-in_err-held.ensures.1 in
    let x = c.args.work.xid in
    let a : DbValue g.row.D.Denot = c.args.self.now in
    let bytes = c.args.bytes.now in
    subst (λ (r : Result Name DbError). IfErr r (CannotPlace g.D.Disk a x bytes)) (sym p.1)
    (subst (CannotPlace g.D.Disk a x bytes) (sym p.2)
    (choose_cause g.D.Disk a x bytes c.in_ok-head.head _ c.in_ok-head.ensures.head c.in_err-held.ensures.cause))

pub returns-in_err-held-clause-lawful : goal.returns-in_err-held-clause-lawful
returns-in_err-held-clause-lawful g c =
    let p = err_from_is_err_and c.from_residual-in_err-held.result c.from_residual-in_err-held.ensures.1 in
    let x = c.args.work.xid in
    let a : DbValue g.row.D.Denot = c.args.self.now in
    let bytes = c.args.bytes.now in
    subst (λ (r : Result Name DbError). IfErr r (MeetsNoBadPage g.D.Disk a)) (sym p.1)
    (subst (MeetsNoBadPage g.D.Disk a) (sym p.2)
    (choose_lawful g.D.Disk a x bytes c.in_ok-head.head _ c.in_err-held.ensures.cause))

pub place_step-made-requires : goal.place_step-made-requires
place_step-made-requires g c =
    (omega (arith, c.number-number.ensures.bound), (c.in_ok-held.ensures.placed).below)

pub log_one-requires : goal.log_one-requires
log_one-requires g c =
    let h = c.choose_page-placed.ensures in
    let o = c.in_ok-held.ensures in
    let m = c.choose_page-placed.new.self in
    let q = c.choose_page-placed.new.pass in
    let x = c.args.work.xid in
    let made = c.place_step-made in
    let on : IsPlaced c.in_ok-held.field-0.held.content (head_for x c.args.bytes.now) c.in_ok-held.field-0.page
    c.in_ok-held.field-0.slot =
    subst
    (λ (k : Head). IsPlaced c.in_ok-held.field-0.held.content k c.in_ok-held.field-0.page c.in_ok-held.field-0.slot)
    c.in_ok-head.ensures.head o.placed in
    record {
      is_pass = h.pass;
      holding = o.holding;
      calm = memory_calm made.result made.ensures.memory;
      may = λ step is.
          let step_is : step
          ≡ place_of x c.in_ok-held.field-0.held.page c.in_ok-held.field-0.slot c.in_ok-held.field-0.page =
          of_given (λ (s : Step). s ≡ place_of x c.number-number.result c.in_ok-held.field-0.slot
          c.in_ok-held.field-0.page) made.result step is made.ensures.step
          ∙ ap (λ (n : ℕ). place_of x n c.in_ok-held.field-0.slot c.in_ok-held.field-0.page)
          c.number-number.ensures.value in
          subst (MayLogStep g.D.Disk m q (c.in_ok-held.field-0.held ∷ [])) (sym step_is)
          (place_may_log g.D.Disk m q c.in_ok-held.field-0.held x c.args.bytes.now c.in_ok-held.field-0.page
          c.in_ok-held.field-0.slot ((h.keeps).xid ∙ (c.requires.running).xid) on h.pass o.holding
          ((h.carries).runs x (c.requires.running).xid (c.requires.running).runs) o.is_new
          (omega (arith, c.number-number.ensures.value, c.number-number.ensures.bound)) o.is_page);
    }

pub returns-in_err-serial-clause-running : goal.returns-in_err-serial-clause-running
returns-in_err-serial-clause-running g c =
    let h = c.choose_page-placed.ensures in
    let l = c.log_one.ensures in
    running_still g.D.Disk c.args.self.now c.log_one.new.self c.args.pass.now c.log_one.new.pass c.args.work
    c.requires.running l.pass l.none_held
    (keeps_on c.args.pass.now c.choose_page-placed.new.pass c.log_one.new.pass h.keeps l.keeps)
    (carries_on g.D.Disk c.args.self.now c.choose_page-placed.new.self c.log_one.new.self c.args.pass.now
    c.choose_page-placed.new.pass c.log_one.new.pass (h.keeps).xid h.carries c.in_err-serial.ensures.carries)

pub returns-in_err-serial-clause-fault : goal.returns-in_err-serial-clause-fault
returns-in_err-serial-clause-fault g c =
    let p =
    err_from_is_err_and c.from_residual-in_err-serial.result c.from_residual-in_err-serial.ensures.1 in
    told_in_turn g.D.Disk c.args.self.now c.choose_page-placed.new.self c.log_one.new.self
    c.from_residual-in_err-serial.result (time_of g.D.Disk c.choose_page-placed.ensures.goes)
    c.in_ok-held.ensures.fault
    (told_again g.D.Disk c.choose_page-placed.new.self c.log_one.new.self _ c.log_one.result
    c.from_residual-in_err-serial.result c.in_err-serial.was (p.1 ∙ ap Err p.2) c.log_one.ensures.fault)

pub returns-in_err-serial-clause-refused : goal.returns-in_err-serial-clause-refused
returns-in_err-serial-clause-refused g c =
    let p =
    err_from_is_err_and c.from_residual-in_err-serial.result c.from_residual-in_err-serial.ensures.1 in
    subst (λ (r : Result Name DbError). OnErr r (Goes g.D.Disk c.args.self.now c.log_one.new.self [])) (sym p.1)
    (goes_still g.D.Disk c.choose_page-placed.ensures.goes c.in_err-serial.ensures.refused)

pub returns-in_err-serial-clause-cause : goal.returns-in_err-serial-clause-cause
returns-in_err-serial-clause-cause g c =
    let p =
    err_from_is_err_and c.from_residual-in_err-serial.result c.from_residual-in_err-serial.ensures.1 in
    let a : DbValue g.row.D.Denot = c.args.self.now in
    let m = c.choose_page-placed.new.self in
    let x = c.args.work.xid in
    let bytes = c.args.bytes.now in
    let serial = (state_then m).next_serial in
    let made = c.place_step-made in
    let d = doc_at (item_at c.number-number.result c.in_ok-held.field-0.slot) serial in
    subst (λ (r : Result Name DbError). IfErr r (CannotPlace g.D.Disk a x bytes)) (sym p.1)
    (subst (CannotPlace g.D.Disk a x bytes) (sym p.2)
    (place_not_logged g.D.Disk a x bytes m d made.result c.choose_page-placed.ensures.goes
    (c.in_ok-held.ensures.fault).down made.ensures.memory
    (λ step is. subst (λ (s : Step). IsPlaceOf x d (next_record m.frames.journal s))
    (sym (of_given (λ (s : Step). s ≡ place_of x c.number-number.result c.in_ok-held.field-0.slot
    c.in_ok-held.field-0.page) made.result step is made.ensures.step))
    (places_it g.D.Disk a x bytes m c.number-number.result c.in_ok-held.field-0.slot serial c.in_ok-held.field-0.page
    c.in_ok-held.ensures.is_page refl))
    _ c.in_err-serial.ensures.cause))

pub returns-in_err-serial-clause-lawful : goal.returns-in_err-serial-clause-lawful
returns-in_err-serial-clause-lawful g c =
    let p =
    err_from_is_err_and c.from_residual-in_err-serial.result c.from_residual-in_err-serial.ensures.1 in
    let m = c.choose_page-placed.new.self in
    subst (λ (r : Result Name DbError). IfErr r (MeetsNoBadPage g.D.Disk c.args.self.now)) (sym p.1)
    (subst (MeetsNoBadPage g.D.Disk c.args.self.now) (sym p.2)
    (lawful_made g.D.Disk c.args.self.now m c.place_step-made.result c.place_step-made.ensures.memory _
    c.in_err-serial.ensures.cause))

pub returns-clause-running : goal.returns-clause-running
returns-clause-running g c =
    let h = c.choose_page-placed.ensures in
    let l = c.log_one.ensures in
    let x = c.args.work.xid in
    let y = c.in_ok-serial.ensures.logged in
    let placed_by : y.step ≡ place_of c.args.work.xid c.number-number.result c.in_ok-held.field-0.slot
    c.in_ok-held.field-0.page =
    of_given (λ (s : Step). s ≡ place_of c.args.work.xid c.number-number.result c.in_ok-held.field-0.slot
    c.in_ok-held.field-0.page) c.place_step-made.result y.step y.made_is c.place_step-made.ensures.step in
    let runs = (h.carries).runs x (c.requires.running).xid (c.requires.running).runs in
    running_on g.D.Disk c.args.self.now c.log_one.new.self c.args.pass.now c.log_one.new.pass c.args.work
    c.requires.running l.pass l.none_held
    (keeps_on c.args.pass.now c.choose_page-placed.new.pass c.log_one.new.pass h.keeps l.keeps)
    (runs_after g.D.Disk c.choose_page-placed.new.self c.log_one.new.self c.choose_page-placed.new.pass
    c.log_one.new.pass (c.in_ok-held.field-0.held ∷ []) y.step y.logs h.pass l.pass x
    ((h.keeps).xid ∙ (c.requires.running).xid)
    (subst (λ (s : Step). ChangesDocument s.kind) (sym placed_by) tt) runs)

pub returns-clause-goes : goal.returns-clause-goes
returns-clause-goes g c =
    let m = c.choose_page-placed.new.self in
    let x = c.args.work.xid in
    let y = c.in_ok-serial.ensures.logged in
    let placed_by : y.step ≡ place_of c.args.work.xid c.number-number.result c.in_ok-held.field-0.slot
    c.in_ok-held.field-0.page =
    of_given (λ (s : Step). s ≡ place_of c.args.work.xid c.number-number.result c.in_ok-held.field-0.slot
    c.in_ok-held.field-0.page) c.place_step-made.result y.step y.made_is c.place_step-made.ensures.step in
    let name : Name = record {
      page = c.number-number.result;
      slot = c.in_ok-held.field-0.slot;
      serial = c.in_ok-serial.field-0.value;
    } in
    let drawn : name.serial ≡ (state_then m).next_serial =
    ap (λ (d : Drawn). d.value) (c.in_ok-serial.ensures.drawn y.step y.made_is)
    ∙ ap (λ (s : Step). value_by (state_then m) s.kind) placed_by in (
      next_record m.frames.journal y.step,
      subst (λ (s : Step). IsPlaceOf x (doc_of name) (next_record m.frames.journal s)) (sym placed_by)
          (places_it g.D.Disk c.args.self.now x c.args.bytes.now m name.page name.slot name.serial
          c.in_ok-held.field-0.page c.in_ok-held.ensures.is_page drawn),
      goes_on g.D.Disk c.choose_page-placed.ensures.goes
          (one_record g.D.Disk (y.logs).one),
    )

pub returns-clause-placed : goal.returns-clause-placed
returns-clause-placed g c = λ w none changed.
    let h = c.choose_page-placed.ensures in
    let o = c.in_ok-held.ensures in
    let m = c.choose_page-placed.new.self in
    let q = c.choose_page-placed.new.pass in
    let x = c.args.work.xid in
    let held = c.in_ok-held.field-0.held in
    let y = c.in_ok-serial.ensures.logged in
    let placed_by : y.step ≡ place_of c.args.work.xid c.number-number.result c.in_ok-held.field-0.slot
    c.in_ok-held.field-0.page =
    of_given (λ (s : Step). s ≡ place_of c.args.work.xid c.number-number.result c.in_ok-held.field-0.slot
    c.in_ok-held.field-0.page) c.place_step-made.result y.step y.made_is c.place_step-made.ensures.step in
    let name : Name = record {
      page = c.number-number.result;
      slot = c.in_ok-held.field-0.slot;
      serial = c.in_ok-serial.field-0.value;
    } in
    let drawn : name.serial ≡ (state_then m).next_serial =
    ap (λ (d : Drawn). d.value) (c.in_ok-serial.ensures.drawn y.step y.made_is)
    ∙ ap (λ (s : Step). value_by (state_then m) s.kind) placed_by in
    let on : IsPlaced held.content (head_for x c.args.bytes.now) c.in_ok-held.field-0.page name.slot =
    subst (λ (k : Head). IsPlaced held.content k c.in_ok-held.field-0.page name.slot) c.in_ok-head.ensures.head
    o.placed in
    let step_is : y.step ≡ place_of x held.page name.slot c.in_ok-held.field-0.page =
    placed_by
    ∙ ap (λ (n : ℕ). place_of x n name.slot c.in_ok-held.field-0.page) c.number-number.ensures.value in
    subst (λ (d : Doc). HasPlaced g.D.Disk c.log_one.new.self c.log_one.new.pass x d c.args.bytes.now [] w.deleted)
    (ap₂ (λ (p s : ℕ). doc_at (item_at p name.slot) s) (sym c.number-number.ensures.value) (sym drawn))
    (placed_then g.D.Disk m c.log_one.new.self q c.log_one.new.pass held x name.slot c.args.bytes.now
    c.in_ok-held.field-0.page
    (subst (λ (s : Step). LogsStep g.D.Disk m q (held ∷ []) s c.log_one.new.self c.log_one.new.pass) step_is
    y.logs)
    h.pass c.log_one.ensures.pass w ((h.keeps).xid ∙ (c.requires.running).xid) on none
    ((h.carries).changed x w (c.requires.running).xid changed))

pub returns-in_err-serial-clause-keeps : goal.returns-in_err-serial-clause-keeps
returns-in_err-serial-clause-keeps g c =
    keeps_on c.args.pass.now c.choose_page-placed.new.pass c.log_one.new.pass c.choose_page-placed.ensures.keeps
    c.log_one.ensures.keeps

pub returns-clause-keeps : goal.returns-clause-keeps
returns-clause-keeps g c =
    keeps_on c.args.pass.now c.choose_page-placed.new.pass c.log_one.new.pass c.choose_page-placed.ensures.keeps
    c.log_one.ensures.keeps

pub returns-clause-fault : goal.returns-clause-fault
returns-clause-fault g c = none_in_turn g.D.Disk c.in_ok-held.ensures.fault c.in_ok-serial.ensures.fault
