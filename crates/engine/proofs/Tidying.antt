-- A cleanup that comes by itself after a commit.
use Rattle.std.proofs.Common.{◌≡◌, ◌<◌, ℕ, List, [], ◌∷◌, sym, ap, subst, ◌∙◌, arith}
use Rattle.std.specs.Prelude.{Some, None, Result, Ok, Err}
use Rattle.disk_trait.specs.declared.device.Disk.{Ghosts as Disk}
use Rattle.page_types.specs.Pages.{IsPage}
use Rattle.page_types.specs.declared.page.Page.{Page}
use Rattle.page_types.specs.declared.page.Body.TheVariants as body
use Rattle.ts_base.specs.Keys.{Key}
use Rattle.core_state.specs.Log.{Log, Pages, Shows, cut}
use Rattle.core_state.specs.Index.{Pending, Main}
use Rattle.core_state.specs.States.{StateValue}
use Rattle.core_state.specs.Allowed.{Sheet}
use Rattle.buffer_frames.specs.Frames.{KeepsState, Behind}
use Rattle.buffer_frames.specs.Passes.{IsPassOf, IsHolding}
use Rattle.buffer_frames.specs.declared.pass.Pass.{Pass}
use Rattle.buffer_frames.specs.Beginnings.{HasFlushed}
use Rattle.page_types.specs.declared.record.Record.{Record}
use Rattle.engine.specs.Answers.{IsSession, TakesSnapshot}
use Rattle.engine.specs.Causes.{IsNoPageAt}
use Rattle.engine.specs.Cleaning.{IsAt, IsListLong, CannotLook, AreMoved, CannotClean, HasCleaned}
use Rattle.engine.specs.Db.{DbValue, state_of, IsUp}
use Rattle.engine.specs.Going.{Goes, TimeGoesOn, MetNoFault}
use Rattle.engine.specs.Inner.Cleaned.{CleansUp, AreGoneSince}
use Rattle.engine.specs.Inner.Choosing.{GivesBack}
use Rattle.engine.specs.Inner.Parts.{KeepsWork, KeepsRoom, CannotHold}
use Rattle.engine.specs.Places.{Lies}
use Rattle.engine.specs.Standing.{GoesOn}
use Rattle.engine.specs.declared.error.DbError.{DbError}
use Rattle.engine.specs.declared.error.DbError.TheVariants as store
use Rattle.engine.proofs.Choosing.{lies_one}
use Rattle.engine.proofs.Cleanups.{added_by_none, up_time}
use Rattle.engine.proofs.Growing.{runs_of, runs_in_turn, begins_of}
use Rattle.engine.proofs.Paths.{time_of, path_state, pending_of, fault_in_turn}
use Rattle.engine.proofs.AtWork.{at_goes}
use Rattle.engine.proofs.Sweeping.{comes_before}

-- ── the metapage is held, and given back ──

-- no page was held: the session is one still
pub held_session : {D : Type 0} (a b : DbValue D) (p q : Pass) → IsSession a p → IsPassOf b.frames q
    → q.held ≡ p.held → KeepsWork p q → KeepsState a.frames b.frames → IsSession b q
held_session a b p q session of held keeps state = record {
  rests = record {
    is_pass = of;
    idle = (
      keeps.pin ∙ session.rests.idle.0,
      held ∙ session.rests.idle.1,
      keeps.xid ∙ session.rests.idle.2,
    );
  };
  free = state.work ∙ session.free;
}

pub back_session : {D : Type 0} (device : Disk D) (a b c : DbValue D) (p q r : Pass) (x : Sheet) → IsSession a p
    → KeepsWork p q → KeepsState a.frames b.frames → IsHolding device b.frames q (x ∷ [])
    → GivesBack device b q c r (x ∷ []) → IsSession c r
back_session device a b c p q r x session keeps state holding back = record {
  rests = record {
    is_pass = back.is_pass;
    idle = (
      back.keeps.pin ∙ keeps.pin ∙ session.rests.idle.0,
      sym (back.holding [] holding).all,
      back.keeps.xid ∙ keeps.xid ∙ session.rests.idle.2,
    );
  };
  free = back.state.work ∙ state.work ∙ session.free;
}

-- why it isn't held, where the store is up
pub looks_by : {D : Type 0} (device : Disk D) (s : DbValue D) (e : DbError) → IsUp s
    → CannotHold device s 0 IsNoPageAt e → CannotLook s e
looks_by device s (store.BadPage p) up why = why
looks_by device s store.DiskFault up why = tt
looks_by device s store.OutOfMemory up why = tt
looks_by device s (store.Down f) up why =
    let z : None ≡ Some f = sym up ∙ why in absurd (let y : ⊥ = cc in y)
looks_by device s store.NoDocument up why = absurd why
looks_by device s (store.Conflict x) up why = absurd why
looks_by device s store.StoreFull up why = absurd why
looks_by device s store.LogFull up why = absurd why
looks_by device s store.XidsSpent up why = absurd why

-- it names more pages than these
abbrev Names : Page → ℕ → Type 0
Names c most = (first : ℕ) × (last : ℕ) × (count : ℕ) × (c.body ≡ body.Meta first last count) × (most < count)

pub long_by : {D : Type 0} (s : DbValue D) (c : Page) → IsPage c → Lies s 0 c → Names c s.pending → IsListLong s
long_by s c is lies n = record {
  meta = c;
  is_page = is;
  lies = lies;
  first = n.0;
  last = n.1;
  count = n.2;
  names = n.3;
  more = n.4;
}

pub by_long : {D : Type 0} (s : DbValue D) (c : Page) → Lies s 0 c → IsListLong s
    → Names c s.pending
by_long s c lies long =
    let same : c ≡ long.meta = lies_one s 0 c long.meta lies long.lies in (
      long.first,
      long.last,
      long.count,
      ap (λ (p : Page). p.body) same ∙ long.names,
      long.more,
    )

-- ── a cleanup after steps that log nothing ──

module _ {D : Type 0} (device : Disk D) (a m b : DbValue D) (path : Goes device a m []) (up : IsUp a)
    (met : MetNoFault device a m) where
  same_records : (state_of m).records ≡ (state_of a).records
  same_records = ap (λ (s : StateValue). s.records) (path_state device path).state

  at : IsAt a.frames m.frames
  at = at_goes device a m path

  moved_before : AreMoved device m b → AreMoved device a b
  moved_before moved = record {
    gone = subst (λ (n : ℕ). AreGoneSince device n b.frames) same_records moved.gone;
    placed = subst (λ (n : ℕ). Behind device b.frames (λ (R : Log). (P Q : Pages) → Shows (cut n R) P → Shows R Q
        → (k : Key) (i : ℕ) → Pending P k i → Main Q k i)) same_records moved.placed;
  }

  clean_before : (e : DbError) → CannotClean device m b e → CannotClean device a b e
  clean_before (store.Down f) why =
      let z : None ≡ Some f = sym (met.down ∙ up) ∙ why.0 in absurd (let y : ⊥ = cc in y)
  clean_before store.DiskFault why = fault_in_turn device (time_of device path) met why
  clean_before store.StoreFull why =
      (up, comes_before device a.frames m.frames b.frames _ at (added_by_none device a m path) why.1)
  clean_before store.LogFull why =
      (up, comes_before device a.frames m.frames b.frames _ at (added_by_none device a m path) why.1)
  clean_before (store.BadPage p) why =
      (up, comes_before device a.frames m.frames b.frames _ at (added_by_none device a m path) why.1)
  clean_before store.OutOfMemory why = up
  clean_before store.NoDocument why = absurd why
  clean_before (store.Conflict x) why = absurd why
  clean_before store.XidsSpent why = absurd why

  pub cleaned_before : {T : Type 0} (r : Result T DbError) → HasCleaned device m b r → HasCleaned device a b r
  cleaned_before (Ok x) has = (up, moved_before has.1)
  cleaned_before (Err e) has = clean_before e has

-- ── after the work of a statement ──

module _ {D : Type 0} (device : Disk D) (a m b : DbValue D) {rs : List Record} (path : Goes device a m rs) (ks : List ℕ)
    (clean : CleansUp device m b ks) where
  pub goes_on_then : HasFlushed device b.frames.journal → GoesOn device a b
  goes_on_then flushed =
      let runs = runs_in_turn device a m b (time_of device path) (begins_of device path) (runs_of device path)
      clean.goes.runs in
      let first = time_of device path in
      let last : TimeGoesOn device m b = up_time device m b ks clean in
      record {
        opened = runs.opened;
        pending = clean.pending ∙ pending_of device path;
        time = omega (arith, first.time, last.time);
        faults = omega (arith, first.faults, last.faults);
        writes = omega (arith, first.writes, last.writes);
        flushed = runs.flushed;
        before = λ t n f lt i. runs.before t n f (omega (arith, lt)) i;
        since = λ t found H f clock commits le had. runs.since t found f.log H f.begins clock commits le had;
        pages = runs.pages;
        kept = λ t found H f up. flushed t up found f.log H f.begins;
      }

pub snapshot_then : {D : Type 0} (a m b : DbValue D) (p q r : Pass) → TakesSnapshot a m p q → KeepsRoom q r
    → IsPassOf b.frames r → TakesSnapshot a b p r
snapshot_then a m b p q r took keeps of = record {
  before = took.before;
  then = (omega (arith, took.then.0, keeps.shown), of.shown);
  up = λ up. let le = took.up up in omega (arith, le, keeps.shown);
  room = keeps.room ∙ took.room;
}
