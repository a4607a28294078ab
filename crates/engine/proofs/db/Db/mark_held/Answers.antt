-- A name's head on its page, as the state was asked of it.
use Rattle.std.proofs.Common.{refl, [], ◌∷◌, sym, ap, subst, ◌∙◌, inl, inr}
use Rattle.std.specs.Prelude.{Option, IsSome, Result, Err, IfErr}
use Rattle.std.proofs.lemmas.Result.{err_from_is_err_and}
use Rattle.page_types.specs.Pages.{IsPage}
use Rattle.page_types.specs.declared.page.Page.{Page}
use Rattle.page_types.specs.declared.page.Head.{Head}
use Rattle.core_state.specs.Allowed.{Step}
use Rattle.buffer_frames.specs.Passes.{IsHolding}
use Rattle.engine.specs.Causes.{IsDown}
use Rattle.engine.specs.Db.{DbValue, state_of}
use Rattle.engine.specs.Going.{Goes, stays}
use Rattle.engine.specs.Inner.Changing.{HasFields, CannotMakeMark}
use Rattle.engine.specs.Inner.Parts.{CarriesOwn}
use Rattle.engine.specs.Inner.Refusals.{frame_refusal}
use Rattle.engine.specs.declared.error.DbError.{DbError}
use Rattle.engine.proofs.Carrying.{carries}
use Rattle.engine.proofs.Ending.{on_each}
use Rattle.engine.proofs.Paths.{one_nothing, calm_step}
use Rattle.engine.proofs.ReadSteps.{if_err}
use Rattle.engine.proofs.Standings.{may_be, may_not}
use Rattle.engine.proofs.db.Db.mark_held.Goals as goal

pub returns-then-not-is_heap-clause-goes : goal.returns-then-not-is_heap-clause-goes
returns-then-not-is_heap-clause-goes g c = stays

pub returns-in_default-clause-goes : goal.returns-in_default-clause-goes
returns-in_default-clause-goes g c = stays

pub returns-in_err-standing-clause-carries : goal.returns-in_err-standing-clause-carries
returns-in_err-standing-clause-carries g c =
    let a : DbValue g.row.D.Denot = record { frames = c.self.inside.frames; pending = c.self.inside.pending } in
    let b : DbValue g.row.D.Denot = record { frames = c.look.new.self; pending = c.self.inside.pending } in
    let e = c.look.ensures in
    subst (λ (s : DbValue g.row.D.Denot). CarriesOwn g.D.Disk s c.args.pass.now b c.look.new.pass) c.self.view_is
    (carries g.D.Disk a b c.args.pass.now c.look.new.pass e.added e.sees_on e.rises e.pass)

pub returns-in_err-standing-clause-goes : goal.returns-in_err-standing-clause-goes
returns-in_err-standing-clause-goes g c =
    let a : DbValue g.row.D.Denot = record { frames = c.self.inside.frames; pending = c.self.inside.pending } in
    let b : DbValue g.row.D.Denot = record { frames = c.look.new.self; pending = c.self.inside.pending } in
    let e = c.look.ensures in
    subst (λ (s : DbValue g.row.D.Denot). Goes g.D.Disk s b []) c.self.view_is
    (one_nothing g.D.Disk (calm_step g.D.Disk a b refl e.added e.state e.runs_on e.begins e.calm e.pins))

pub returns-in_err-standing-clause-cause : goal.returns-in_err-standing-clause-cause
returns-in_err-standing-clause-cause g c =
    let b : DbValue g.row.D.Denot = record { frames = c.look.new.self; pending = c.self.inside.pending } in
    let p = err_from_is_err_and c.from_residual.result c.from_residual.ensures.1 in
    let d = c.in_err-standing.ensures.error in
    let was = (c.look.ensures.is_down d.0).0 (c.in_err-standing.was ∙ ap Err d.1) in
    let down = subst (λ (s : DbValue g.row.D.Denot). IsDown s d.0) c.self.view_is was in
    subst (λ (r : Result Step DbError). IfErr r (CannotMakeMark c.args.self.now (state_of b) c.args.work.snapshot
    c.args.work.xid c.args.name c.args.held.now.content)) (sym p.1)
    (inr (inl (d.0, p.2 ∙ ap frame_refusal d.1, down)))

pub returns-in_err-allows-clause-holding : goal.returns-in_err-allows-clause-holding
returns-in_err-allows-clause-holding g c = c.look.ensures.holding (c.args.held.now ∷ [])
    (subst (λ (s : DbValue g.row.D.Denot). IsHolding g.D.Disk s.frames c.args.pass.now (c.args.held.now ∷ []))
    (sym c.self.view_is) c.requires.holding)

pub returns-in_err-allows-clause-carries : goal.returns-in_err-allows-clause-carries
returns-in_err-allows-clause-carries g c =
    let a : DbValue g.row.D.Denot = record { frames = c.self.inside.frames; pending = c.self.inside.pending } in
    let b : DbValue g.row.D.Denot = record { frames = c.look.new.self; pending = c.self.inside.pending } in
    let e = c.look.ensures in
    subst (λ (s : DbValue g.row.D.Denot). CarriesOwn g.D.Disk s c.args.pass.now b c.look.new.pass) c.self.view_is
    (carries g.D.Disk a b c.args.pass.now c.look.new.pass e.added e.sees_on e.rises e.pass)

pub returns-in_err-allows-clause-goes : goal.returns-in_err-allows-clause-goes
returns-in_err-allows-clause-goes g c =
    let a : DbValue g.row.D.Denot = record { frames = c.self.inside.frames; pending = c.self.inside.pending } in
    let b : DbValue g.row.D.Denot = record { frames = c.look.new.self; pending = c.self.inside.pending } in
    let e = c.look.ensures in
    subst (λ (s : DbValue g.row.D.Denot). Goes g.D.Disk s b []) c.self.view_is
    (one_nothing g.D.Disk (calm_step g.D.Disk a b refl e.added e.state e.runs_on e.begins e.calm e.pins))

pub returns-clause-holding : goal.returns-clause-holding
returns-clause-holding g c = c.look.ensures.holding (c.args.held.now ∷ [])
    (subst (λ (s : DbValue g.row.D.Denot). IsHolding g.D.Disk s.frames c.args.pass.now (c.args.held.now ∷ []))
    (sym c.self.view_is) c.requires.holding)

pub returns-clause-carries : goal.returns-clause-carries
returns-clause-carries g c =
    let a : DbValue g.row.D.Denot = record { frames = c.self.inside.frames; pending = c.self.inside.pending } in
    let b : DbValue g.row.D.Denot = record { frames = c.look.new.self; pending = c.self.inside.pending } in
    let e = c.look.ensures in
    subst (λ (s : DbValue g.row.D.Denot). CarriesOwn g.D.Disk s c.args.pass.now b c.look.new.pass) c.self.view_is
    (carries g.D.Disk a b c.args.pass.now c.look.new.pass e.added e.sees_on e.rises e.pass)

pub returns-clause-goes : goal.returns-clause-goes
returns-clause-goes g c =
    let a : DbValue g.row.D.Denot = record { frames = c.self.inside.frames; pending = c.self.inside.pending } in
    let b : DbValue g.row.D.Denot = record { frames = c.look.new.self; pending = c.self.inside.pending } in
    let e = c.look.ensures in
    subst (λ (s : DbValue g.row.D.Denot). Goes g.D.Disk s b []) c.self.view_is
    (one_nothing g.D.Disk (calm_step g.D.Disk a b refl e.added e.state e.runs_on e.begins e.calm e.pins))

pub returns-in_err-allows-clause-cause : goal.returns-in_err-allows-clause-cause
returns-in_err-allows-clause-cause g c =
    let b : DbValue g.row.D.Denot = record { frames = c.look.new.self; pending = c.self.inside.pending } in
    let p = err_from_is_err_and c.from_residual-in_err-allows.result c.from_residual-in_err-allows.ensures.1 in
    let w : HasFields c.args.held.now.content c.args.name c.in-Some.fields =
    subst (λ (p : Page). HasFields p c.args.name c.in-Some.fields) c.page-2.ensures.value c.in-Some.ensures in
    let Why = CannotMakeMark c.args.self.now (state_of b) c.args.work.snapshot c.args.work.xid c.args.name
    c.args.held.now.content in
    subst (λ (r : Result Step DbError). IfErr r Why) (sym p.1)
    (subst Why (sym p.2)
    (inr (inr (may_not (state_of b) c.args.work.snapshot c.args.work.xid c.look.new.pass.floor
    c.look.new.pass.since c.args.name c.args.held.now.content c.in-Some.fields w c.in_ok-standing.standing _
    c.in_ok-standing.ensures.answers c.in_err-allows.ensures.refused))))

pub returns-in_err-allows-clause-is_page : goal.returns-in_err-allows-clause-is_page
returns-in_err-allows-clause-is_page g c = subst IsPage c.page.ensures.value c.page.ensures.is_page

-- ── the step is made ──

pub mark_step-requires-clause-there : goal.mark_step-requires-clause-there
mark_step-requires-clause-there g c =
    let w : HasFields c.args.held.now.content c.args.name c.in-Some.fields =
    subst (λ (p : Page). HasFields p c.args.name c.in-Some.fields) c.page-2.ensures.value c.in-Some.ensures in
    subst (λ (o : Option Head). IsSome o) (sym w.there) refl

pub returns-clause-may : goal.returns-clause-may
returns-clause-may g c =
    let b : DbValue g.row.D.Denot = record { frames = c.look.new.self; pending = c.self.inside.pending } in
    let w : HasFields c.args.held.now.content c.args.name c.in-Some.fields =
    subst (λ (p : Page). HasFields p c.args.name c.in-Some.fields) c.page-2.ensures.value c.in-Some.ensures in
    on_each _ c.mark_step.result
    (may_be (state_of b) c.args.work.snapshot c.args.work.xid c.look.new.pass.floor c.look.new.pass.since c.args.name
    c.args.held.now.content c.in-Some.fields w c.in_ok-standing.standing c.in_ok-standing.ensures.answers
    c.in_ok-allows.ensures.may)

pub returns-clause-cause : goal.returns-clause-cause
returns-clause-cause g c = if_err c.mark_step.result (λ e memory. inl memory) c.mark_step.ensures.memory

pub returns-then-not-is_heap-clause-is_page : goal.returns-then-not-is_heap-clause-is_page
returns-then-not-is_heap-clause-is_page g c = subst IsPage c.page.ensures.value c.page.ensures.is_page

pub returns-in_default-clause-is_page : goal.returns-in_default-clause-is_page
returns-in_default-clause-is_page g c = subst IsPage c.page.ensures.value c.page.ensures.is_page

pub returns-in_err-standing-clause-is_page : goal.returns-in_err-standing-clause-is_page
returns-in_err-standing-clause-is_page g c = subst IsPage c.page.ensures.value c.page.ensures.is_page

pub returns-clause-is_page : goal.returns-clause-is_page
returns-clause-is_page g c = subst IsPage c.page.ensures.value c.page.ensures.is_page

pub returns-in_err-standing-clause-keeps : goal.returns-in_err-standing-clause-keeps
returns-in_err-standing-clause-keeps g c =
    let e = c.look.ensures in
    record { pin = e.keeps.pin; room = e.keeps.room; xid = e.keeps.xid; shown = e.rises.shown }

pub returns-in_err-allows-clause-keeps : goal.returns-in_err-allows-clause-keeps
returns-in_err-allows-clause-keeps g c =
    let e = c.look.ensures in
    record { pin = e.keeps.pin; room = e.keeps.room; xid = e.keeps.xid; shown = e.rises.shown }

pub returns-clause-keeps : goal.returns-clause-keeps
returns-clause-keeps g c =
    let e = c.look.ensures in
    record { pin = e.keeps.pin; room = e.keeps.room; xid = e.keeps.xid; shown = e.rises.shown }
