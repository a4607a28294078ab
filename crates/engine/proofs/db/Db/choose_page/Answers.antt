-- A head goes on the first old heap page with room for it, else on a new page.
use Rattle.std.proofs.Common.{refl, ◌≡◌, [], ◌∷◌, sym, ap, subst, ◌∙◌, inl, inr, arith, below_more}
use Rattle.std.specs.Prelude.{Option, Some, None, Result, Err, IfSome, IfNone, IfErr, OnErr, slice_get}
use Rattle.std.proofs.lemmas.Result.{err_from_is_err_and}
use Rattle.wal.specs.Waiting.{down_of}
use Rattle.page_types.specs.Pages.{IsPage}
use Rattle.page_types.specs.declared.page.Page.{Page}
use Rattle.core_state.specs.Log.{Log, Pages}
use Rattle.core_state.specs.States.{StateValue, heap_pages}
use Rattle.core_state.specs.Steps.{IsNewSheet}
use Rattle.page_space.specs.Taking.{IsTaken}
use Rattle.doc_heap.specs.HeapPages.{HasNoRoom, IsPlaced}
use Rattle.doc_heap.specs.Logging.{IsHeapOrNew}
use Rattle.buffer_frames.specs.Passes.{IsHolding, Seen}
use Rattle.buffer_frames.specs.declared.pass.Pass.{Pass}
use Rattle.engine.specs.Causes.{IsDown, IsHeap}
use Rattle.engine.specs.Db.{DbValue, state_of, IsUp}
use Rattle.engine.specs.Going.{MetNoFault, FaultIsTold}
use Rattle.engine.specs.Places.{Lies}
use Rattle.engine.specs.Inner.Choosing.{IsPassedOver, IsChosen, old, new, WorksOn, HoldsPlaced}
use Rattle.engine.specs.Inner.Choosing.{CannotTake, CannotChoose}
use Rattle.engine.specs.Inner.Refusals.{frame_refusal}
use Rattle.engine.specs.declared.pages.Placed.{Placed}
use Rattle.engine.specs.declared.error.DbError.{DbError}
use Rattle.engine.specs.declared.error.DbError.TheVariants.{Down}
use Rattle.engine.proofs.Choosing.{looked, works_still, works_in_turn, told_from, at_ok, at_err}
use Rattle.engine.proofs.Choosing.{chosen_by_old, chosen_by_new}
use Rattle.engine.proofs.Paths.{calm_fault, fault_stays, none_in_turn, time_of, told_in_turn}
use Rattle.engine.proofs.Starting.{up_at_pin}
use Rattle.engine.proofs.db.Db.choose_page.Given.{Over}
use Rattle.engine.proofs.db.Db.choose_page.Goals as goal
use Rattle.engine.proofs.db.Db.choose_page.Goals.{After-look}

-- the state of the log was asked
asked : (g : Over) (c : After-look g) → WorksOn g.D.Disk c.args.self.now c.args.pass.now
    (record { frames = c.look.new.self; pending = c.self.inside.pending }) c.look.new.pass
asked g c =
    let b : DbValue g.row.D.Denot = record { frames = c.look.new.self; pending = c.self.inside.pending } in
    let q : Pass = c.look.new.pass in
    let l = c.look.ensures in
    works_in_turn g.D.Disk c.args.self.now c.loop-number.self b c.args.pass.now c.loop-number.pass q
    c.loop-number.invariant.works
    (subst (λ (s : DbValue g.row.D.Denot). WorksOn g.D.Disk s c.loop-number.pass b q) c.self.view_is
    (looked g.D.Disk (record {
      frames = c.self.inside.frames;
      pending = c.self.inside.pending;
    }) b refl c.loop-number.pass q l.pass l.sees_on l.added l.keeps
    l.rises l.keeps.xid l.runs_on l.state l.pins l.others l.calm l.begins))

met : (g : Over) (c : After-look g)
    → MetNoFault g.D.Disk c.args.self.now (record { frames = c.look.new.self; pending = c.self.inside.pending })
met g c =
    let b : DbValue g.row.D.Denot = record { frames = c.look.new.self; pending = c.self.inside.pending } in
    none_in_turn g.D.Disk c.loop-number.invariant.met
    (subst (λ (s : DbValue g.row.D.Denot). MetNoFault g.D.Disk s b) c.self.view_is
    (calm_fault g.D.Disk (record {
      frames = c.self.inside.frames;
      pending = c.self.inside.pending;
    }) b c.look.ensures.calm))

pub loop-number-init : goal.loop-number-init
loop-number-init g c =
    record {
      works = works_still g.D.Disk c.args.self.now c.args.pass.now c.requires.pass;
      met = fault_stays g.D.Disk c.args.self.now;
      none = c.requires.none;
      passed = λ k lt. absurd (omega arith);
    }

pub returns-in_err-page-clause-carries : goal.returns-in_err-page-clause-carries
returns-in_err-page-clause-carries g c =
    let before = asked g (goal.at.returns-in_err-page-clause-carries g c).After-look in
    before.carries

pub returns-in_err-page-clause-goes : goal.returns-in_err-page-clause-goes
returns-in_err-page-clause-goes g c =
    let before = asked g (goal.at.returns-in_err-page-clause-goes g c).After-look in
    before.goes

pub returns-in_err-page-clause-keeps : goal.returns-in_err-page-clause-keeps
returns-in_err-page-clause-keeps g c =
    let before = asked g (goal.at.returns-in_err-page-clause-keeps g c).After-look in
    before.keeps

pub returns-in_err-page-clause-fault : goal.returns-in_err-page-clause-fault
returns-in_err-page-clause-fault g c =
    let calm = met g (goal.at.returns-in_err-page-clause-fault g c).After-look in
    let w = err_from_is_err_and c.from_residual.result c.from_residual.ensures.1 in
    let f = c.in_err-page.ensures.error in
    let b : DbValue g.row.D.Denot = record { frames = c.look.new.self; pending = c.self.inside.pending } in
    let is : c.from_residual.result ≡ Err (Down f.0) =
    w.1 ∙ ap (λ (x : DbError). Err x) (w.2 ∙ ap frame_refusal f.1) in
    subst (FaultIsTold g.D.Disk c.args.self.now b) (sym is) calm

pub returns-in_err-page-clause-still : goal.returns-in_err-page-clause-still
returns-in_err-page-clause-still g c =
    let w = err_from_is_err_and c.from_residual.result c.from_residual.ensures.1 in
    subst (λ (s : Result Placed DbError). OnErr s (c.look.new.pass.held ≡ 0)) (sym w.1)
    (c.look.ensures.keeps.held ∙ c.loop-number.invariant.none)

pub returns-in_err-page-clause-cause : goal.returns-in_err-page-clause-cause
returns-in_err-page-clause-cause g c =
    let w = err_from_is_err_and c.from_residual.result c.from_residual.ensures.1 in
    let f = c.in_err-page.ensures.error in
    let down = (c.look.ensures.is_down f.0).0 (c.in_err-page.was ∙ ap Err f.1) in
    let here = subst (λ (s : DbValue g.row.D.Denot). IsDown s f.0) c.self.view_is down in
    let why = CannotChoose g.D.Disk c.args.self.now c.args.head.now in
    subst (λ (s : Result Placed DbError). IfErr s why) (sym w.1)
    (subst why (sym (w.2 ∙ ap frame_refusal f.1)) (sym c.loop-number.invariant.met.down ∙ here))

pub returns-in_default-clause-carries : goal.returns-in_default-clause-carries
returns-in_default-clause-carries g c =
    let before = asked g (goal.at.returns-in_default-clause-carries g c).After-look in
    let b : DbValue g.row.D.Denot = record { frames = c.look.new.self; pending = c.self.inside.pending } in
    let q : Pass = c.look.new.pass in
    let d : DbValue g.row.D.Denot = c.place_on_taken.new.self in
    let r : Pass = c.place_on_taken.new.pass in
    let t = c.place_on_taken.ensures in
    (works_in_turn g.D.Disk c.args.self.now b d c.args.pass.now q r before t.on).carries

pub returns-in_default-clause-goes : goal.returns-in_default-clause-goes
returns-in_default-clause-goes g c =
    let before = asked g (goal.at.returns-in_default-clause-goes g c).After-look in
    let b : DbValue g.row.D.Denot = record { frames = c.look.new.self; pending = c.self.inside.pending } in
    let q : Pass = c.look.new.pass in
    let d : DbValue g.row.D.Denot = c.place_on_taken.new.self in
    let r : Pass = c.place_on_taken.new.pass in
    let t = c.place_on_taken.ensures in
    (works_in_turn g.D.Disk c.args.self.now b d c.args.pass.now q r before t.on).goes

pub returns-in_default-clause-keeps : goal.returns-in_default-clause-keeps
returns-in_default-clause-keeps g c =
    let before = asked g (goal.at.returns-in_default-clause-keeps g c).After-look in
    let b : DbValue g.row.D.Denot = record { frames = c.look.new.self; pending = c.self.inside.pending } in
    let q : Pass = c.look.new.pass in
    let d : DbValue g.row.D.Denot = c.place_on_taken.new.self in
    let r : Pass = c.place_on_taken.new.pass in
    let t = c.place_on_taken.ensures in
    (works_in_turn g.D.Disk c.args.self.now b d c.args.pass.now q r before t.on).keeps

pub returns-in_default-clause-fault : goal.returns-in_default-clause-fault
returns-in_default-clause-fault g c =
    let before = asked g (goal.at.returns-in_default-clause-fault g c).After-look in
    let calm = met g (goal.at.returns-in_default-clause-fault g c).After-look in
    let b : DbValue g.row.D.Denot = record { frames = c.look.new.self; pending = c.self.inside.pending } in
    let q : Pass = c.look.new.pass in
    let d : DbValue g.row.D.Denot = c.place_on_taken.new.self in
    let r : Pass = c.place_on_taken.new.pass in
    let t = c.place_on_taken.ensures in
    told_in_turn g.D.Disk c.args.self.now b d c.place_on_taken.result
    (time_of g.D.Disk before.goes) calm t.fault

pub returns-in_default-clause-chosen : goal.returns-in_default-clause-chosen
returns-in_default-clause-chosen g c =
    let before = asked g (goal.at.returns-in_default-clause-chosen g c).After-look in
    let a : DbValue g.row.D.Denot = c.args.self.now in
    let p : Pass = c.args.pass.now in
    let b : DbValue g.row.D.Denot = record { frames = c.look.new.self; pending = c.self.inside.pending } in
    let q : Pass = c.look.new.pass in
    let d : DbValue g.row.D.Denot = c.place_on_taken.new.self in
    let r : Pass = c.place_on_taken.new.pass in
    let t = c.place_on_taken.ensures in
    let none : None ≡ slice_get (heap_pages (state_of b)) c.loop-number.number =
    sym c.in_default.is ∙ c.in_ok-page.ensures.answers in
    let past : slice_get (heap_pages (state_of a)) c.loop-number.number ≡ None =
    subst (λ (s : StateValue). slice_get (heap_pages s) c.loop-number.number ≡ None) before.state.state (sym none) in
    at_ok c.place_on_taken.result (λ (y : Placed). IsTaken (state_of d) r.since y.held.page)
    (λ (y : Placed). IsChosen a r.since c.args.head.now y.held)
    (λ y taken. new c.loop-number.number past c.loop-number.invariant.passed
    (subst (λ (s : StateValue). IsTaken s r.since y.held.page)
    (works_in_turn g.D.Disk a b d p q r before t.on).state.state taken)) t.taken

pub returns-in_default-clause-placed : goal.returns-in_default-clause-placed
returns-in_default-clause-placed g c =
    let d : DbValue g.row.D.Denot = c.place_on_taken.new.self in
    let r : Pass = c.place_on_taken.new.pass in
    let t = c.place_on_taken.ensures in
    at_ok c.place_on_taken.result (HoldsPlaced g.D.Disk d r c.args.head.now)
    (λ (y : Placed). IsPlaced y.held.content c.args.head.now y.page y.slot) (λ y held. held.placed) t.placed

pub returns-in_default-clause-is_page : goal.returns-in_default-clause-is_page
returns-in_default-clause-is_page g c =
    let d : DbValue g.row.D.Denot = c.place_on_taken.new.self in
    let r : Pass = c.place_on_taken.new.pass in
    let t = c.place_on_taken.ensures in
    at_ok c.place_on_taken.result (HoldsPlaced g.D.Disk d r c.args.head.now)
    (λ (y : Placed). IsPage y.page) (λ y held. held.is_page) t.placed

pub returns-in_default-clause-holding : goal.returns-in_default-clause-holding
returns-in_default-clause-holding g c =
    let d : DbValue g.row.D.Denot = c.place_on_taken.new.self in
    let r : Pass = c.place_on_taken.new.pass in
    let t = c.place_on_taken.ensures in
    at_ok c.place_on_taken.result (HoldsPlaced g.D.Disk d r c.args.head.now)
    (λ (y : Placed). IsHolding g.D.Disk d.frames r (y.held ∷ [])) (λ y held. held.holding) t.placed

pub returns-in_default-clause-is_new : goal.returns-in_default-clause-is_new
returns-in_default-clause-is_new g c =
    let d : DbValue g.row.D.Denot = c.place_on_taken.new.self in
    let r : Pass = c.place_on_taken.new.pass in
    let t = c.place_on_taken.ensures in
    at_ok c.place_on_taken.result
    (λ (y : Placed). Seen g.D.Disk d.frames r
    (λ (S : Log) (P : Pages). IsNewSheet P r.since y.held.page y.held.content))
    (λ (y : Placed). Seen g.D.Disk d.frames r
    (λ (S : Log) (P : Pages). IsHeapOrNew P r.since y.held.page y.held.content))
    (λ y seen told up R s legal P shown. inr (seen told up R s legal P shown)) t.is_new

pub returns-in_default-clause-cause : goal.returns-in_default-clause-cause
returns-in_default-clause-cause g c =
    let before = asked g (goal.at.returns-in_default-clause-cause g c).After-look in
    let calm = met g (goal.at.returns-in_default-clause-cause g c).After-look in
    let a : DbValue g.row.D.Denot = c.args.self.now in
    let p : Pass = c.args.pass.now in
    let b : DbValue g.row.D.Denot = record { frames = c.look.new.self; pending = c.self.inside.pending } in
    let q : Pass = c.look.new.pass in
    let d : DbValue g.row.D.Denot = c.place_on_taken.new.self in
    let r : Pass = c.place_on_taken.new.pass in
    let t = c.place_on_taken.ensures in
    let none : None ≡ slice_get (heap_pages (state_of b)) c.loop-number.number =
    sym c.in_default.is ∙ c.in_ok-page.ensures.answers in
    at_err c.place_on_taken.result (CannotTake g.D.Disk b d) (CannotChoose g.D.Disk a c.args.head.now)
    (λ e why. chosen_by_new g.D.Disk a b p q c.args.head.now before
    calm d r c.loop-number.number e t.on none c.loop-number.invariant.passed why) t.cause

pub returns-in_err-placed-clause-carries : goal.returns-in_err-placed-clause-carries
returns-in_err-placed-clause-carries g c =
    let before = asked g (goal.at.returns-in_err-placed-clause-carries g c).After-look in
    let b : DbValue g.row.D.Denot = record { frames = c.look.new.self; pending = c.self.inside.pending } in
    let q : Pass = c.look.new.pass in
    let d : DbValue g.row.D.Denot = c.place_on_old.new.self in
    let r : Pass = c.place_on_old.new.pass in
    let o = c.place_on_old.ensures in
    (works_in_turn g.D.Disk c.args.self.now b d c.args.pass.now q r before o.on).carries

pub returns-in_err-placed-clause-goes : goal.returns-in_err-placed-clause-goes
returns-in_err-placed-clause-goes g c =
    let before = asked g (goal.at.returns-in_err-placed-clause-goes g c).After-look in
    let b : DbValue g.row.D.Denot = record { frames = c.look.new.self; pending = c.self.inside.pending } in
    let q : Pass = c.look.new.pass in
    let d : DbValue g.row.D.Denot = c.place_on_old.new.self in
    let r : Pass = c.place_on_old.new.pass in
    let o = c.place_on_old.ensures in
    (works_in_turn g.D.Disk c.args.self.now b d c.args.pass.now q r before o.on).goes

pub returns-in_err-placed-clause-keeps : goal.returns-in_err-placed-clause-keeps
returns-in_err-placed-clause-keeps g c =
    let before = asked g (goal.at.returns-in_err-placed-clause-keeps g c).After-look in
    let b : DbValue g.row.D.Denot = record { frames = c.look.new.self; pending = c.self.inside.pending } in
    let q : Pass = c.look.new.pass in
    let d : DbValue g.row.D.Denot = c.place_on_old.new.self in
    let r : Pass = c.place_on_old.new.pass in
    let o = c.place_on_old.ensures in
    (works_in_turn g.D.Disk c.args.self.now b d c.args.pass.now q r before o.on).keeps

pub returns-in_err-placed-clause-fault : goal.returns-in_err-placed-clause-fault
returns-in_err-placed-clause-fault g c =
    let before = asked g (goal.at.returns-in_err-placed-clause-fault g c).After-look in
    let calm = met g (goal.at.returns-in_err-placed-clause-fault g c).After-look in
    let b : DbValue g.row.D.Denot = record { frames = c.look.new.self; pending = c.self.inside.pending } in
    let q : Pass = c.look.new.pass in
    let d : DbValue g.row.D.Denot = c.place_on_old.new.self in
    let r : Pass = c.place_on_old.new.pass in
    let o = c.place_on_old.ensures in
    let w = err_from_is_err_and c.from_residual-in_err-placed.result c.from_residual-in_err-placed.ensures.1 in
    told_from g.D.Disk c.args.self.now b d c.place_on_old.result c.from_residual-in_err-placed.result _ w.0
    c.in_err-placed.was w.1 w.2 (time_of g.D.Disk before.goes) calm o.fault

pub returns-in_err-placed-clause-cause : goal.returns-in_err-placed-clause-cause
returns-in_err-placed-clause-cause g c =
    let before = asked g (goal.at.returns-in_err-placed-clause-cause g c).After-look in
    let calm = met g (goal.at.returns-in_err-placed-clause-cause g c).After-look in
    let a : DbValue g.row.D.Denot = c.args.self.now in
    let p : Pass = c.args.pass.now in
    let b : DbValue g.row.D.Denot = record { frames = c.look.new.self; pending = c.self.inside.pending } in
    let q : Pass = c.look.new.pass in
    let at : Some c.in-Some.page ≡ slice_get (heap_pages (state_of b)) c.loop-number.number =
    sym c.in-Some.is ∙ c.in_ok-page.ensures.answers in
    let up : IsUp b = c.look.ensures.calm.down
    ∙ up_at_pin (down_of c.self.inside.frames.journal.wal) c.look.result _ c.look.ensures.is_down c.in_ok-page.was in
    let w = err_from_is_err_and c.from_residual-in_err-placed.result c.from_residual-in_err-placed.ensures.1 in
    let why = CannotChoose g.D.Disk a c.args.head.now in
    subst (λ (s : Result Placed DbError). IfErr s why) (sym w.1)
    (subst why (sym w.2)
    (chosen_by_old g.D.Disk a b p q c.args.head.now before
    calm c.loop-number.number c.in-Some.page _ up at c.in_err-placed.ensures.cause))

pub returns-in-Some-2 : goal.returns-in-Some-2
returns-in-Some-2 g c =
    let before = asked g (goal.at.returns-in-Some-2 g c).After-look in
    let calm = met g (goal.at.returns-in-Some-2 g c).After-look in
    let a : DbValue g.row.D.Denot = c.args.self.now in
    let p : Pass = c.args.pass.now in
    let b : DbValue g.row.D.Denot = record { frames = c.look.new.self; pending = c.self.inside.pending } in
    let q : Pass = c.look.new.pass in
    let d : DbValue g.row.D.Denot = c.place_on_old.new.self in
    let r : Pass = c.place_on_old.new.pass in
    let o = c.in_ok-placed.ensures in
    let at : Some c.in-Some.page ≡ slice_get (heap_pages (state_of b)) c.loop-number.number =
    sym c.in-Some.is ∙ c.in_ok-page.ensures.answers in
    let works = works_in_turn g.D.Disk a b d p q r before o.on in
    let y : Placed = c.in-Some-2.placed in
    let held = subst (λ (x : Option Placed). IfSome x (HoldsPlaced g.D.Disk d r c.args.head.now)) c.in-Some-2.is
    o.placed in
    let heap = subst (λ (x : Option Placed). IfSome x (λ z. IsHeap b z.held.content)) c.in-Some-2.is o.heap in
    let number = subst (λ (x : Option Placed). IfSome x (λ z. z.held.page ≡ c.in-Some.page)) c.in-Some-2.is o.number in
    let here : slice_get (heap_pages (state_of a)) c.loop-number.number ≡ Some y.held.page =
    subst (λ (s : StateValue). slice_get (heap_pages s) c.loop-number.number ≡ Some y.held.page) before.state.state
    (sym at ∙ ap Some (sym number)) in
    record {
      pass = works.is_pass;
      chosen = old c.loop-number.number here heap c.loop-number.invariant.passed;
      placed = held.placed;
      is_page = held.is_page;
      holding = held.holding;
      is_new = λ told up R s legal P shown. inl heap;
      carries = works.carries;
      goes = works.goes;
      keeps = works.keeps;
      fault = none_in_turn g.D.Disk calm o.fault;
      still = tt;
      cause = tt;
    }

pub loop-number-preserved : goal.loop-number-preserved
loop-number-preserved g c =
    let before = asked g (goal.at.loop-number-preserved g c).After-look in
    let calm = met g (goal.at.loop-number-preserved g c).After-look in
    let a : DbValue g.row.D.Denot = c.args.self.now in
    let p : Pass = c.args.pass.now in
    let b : DbValue g.row.D.Denot = record { frames = c.look.new.self; pending = c.self.inside.pending } in
    let q : Pass = c.look.new.pass in
    let d : DbValue g.row.D.Denot = c.place_on_old.new.self in
    let r : Pass = c.place_on_old.new.pass in
    let o = c.in_ok-placed.ensures in
    let at : Some c.in-Some.page ≡ slice_get (heap_pages (state_of b)) c.loop-number.number =
    sym c.in-Some.is ∙ c.in_ok-page.ensures.answers in
    let full = subst (λ (x : Option Placed). IfNone x
    ((y : Page) × Lies b c.in-Some.page y × HasNoRoom y c.args.head.now)) c.in_default-2.is o.full in
    let here : slice_get (heap_pages (state_of a)) c.loop-number.number ≡ Some c.in-Some.page =
    subst (λ (s : StateValue). slice_get (heap_pages s) c.loop-number.number ≡ Some c.in-Some.page) before.state.state
    (sym at) in
    let over : IsPassedOver a c.args.head.now c.loop-number.number = record {
      page = c.in-Some.page;
      at = here;
      content = full.0;
      lies = before.lying c.in-Some.page full.0 full.1;
      no_room = full.2;
    } in
    record {
      works = works_in_turn g.D.Disk a b d p q r before o.on;
      met = none_in_turn g.D.Disk calm o.fault;
      none = subst (λ (x : Option Placed). IfNone x (r.held ≡ 0)) c.in_default-2.is o.none;
      passed = below_more (IsPassedOver a c.args.head.now) c.loop-number.number c.loop-number.invariant.passed over;
    }

pub returns : goal.returns
returns g c =
    let was = c.loop-number.invariant in
    record {
      pass = was.works.is_pass;
      chosen = tt;
      placed = tt;
      is_page = tt;
      holding = tt;
      is_new = tt;
      carries = was.works.carries;
      goes = was.works.goes;
      keeps = was.works.keeps;
      fault = was.met;
      still = was.none;
      cause = tt;
    }
