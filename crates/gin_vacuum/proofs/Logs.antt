-- What is so once a record is logged by which dead documents go.
use Rattle.std.proofs.Common.{◌≡◌, ◌↔◌, ◌≤◌, ◌+◌, ℕ, suc, List, [], ◌∷◌, length, refl, sym, ap, subst, ◌∙◌, arith}
use Rattle.std.proofs.Common.{Result, Err, Bool, true, false}
use Rattle.std.specs.Prelude.{Option, Some}
use Rattle.disk_trait.specs.declared.device.Disk.{Ghosts as Disk}
use Rattle.wal.specs.Waiting.{limit_of, length_with, down_of}
use Rattle.page_types.specs.Records.{kind_number}
use Rattle.page_types.specs.declared.record.Record.{Record}
use Rattle.page_types.specs.declared.record.Kind.{Kind}
use Rattle.page_types.specs.declared.record.Kind.TheVariants as kind
use Rattle.core_state.specs.Log.{Log, changed}
use Rattle.core_state.specs.Allowed.{Sheet, Step}
use Rattle.core_state.specs.States.{StateValue, step_of, stepped, noted}
use Rattle.core_vacuum.specs.HeapPages.{HeapPagesHold}
use Rattle.buffer_frames.specs.Drawing.{HasEncoding}
use Rattle.buffer_frames.specs.Opens.{IsEarlyKind}
use Rattle.buffer_frames.specs.Beginnings.{BeginsWith}
use Rattle.buffer_frames.specs.Journals.{after_owed, logged, with_owed, logged_bytes, next_record}
use Rattle.buffer_frames.specs.Frames.{FramesValue, Stands, RunsOn}
use Rattle.buffer_frames.specs.LogCauses.{WriteHasCause, LogFullWhere}
use Rattle.buffer_frames.specs.Passes.{IsPassOf, HasAdded, PassRises, Seen, IsLogged}
use Rattle.buffer_frames.specs.Passes.{view_of, xid_after}
use Rattle.buffer_frames.specs.declared.pass.Pass.{Pass}
use Rattle.buffer_frames.specs.declared.log_error.LogError.{LogError}
use Rattle.buffer_frames.specs.declared.log_error.LogError.TheVariants as logs
use Rattle.buffer_frames.proofs.StepsKept.{number_drawn}
use Rattle.gin_place.specs.Running.{BeginsThen}
use Rattle.gin_place.specs.Inner.Refusals.{log_refusal}
use Rattle.gin_place.specs.Going.{WorksOn}
use Rattle.gin_vacuum.specs.Going.{IsVacuumKind, KeepsCommits, KeepsRooms, VacuumsOn}
use Rattle.gin_vacuum.specs.Inner.Logging.{MayLogStep, LogsStep, CannotLog}
use Rattle.gin_vacuum.proofs.Histories.{history_on}
use Rattle.gin_vacuum.proofs.Rooms.{rooms_same, rooms_logged}

within : (n : ℕ) → IsVacuumKind n → (18 ≤ n) × (n ≤ 21)
within n is = is

-- a store opens with such a step, which draws no xid
pub early_vacuum : (k : Kind) → IsVacuumKind (kind_number k) → IsEarlyKind k
early_vacuum (kind.Checkpoint redo) p = absurd (let z : ⊥ = omega (arith, p.0) in z)
early_vacuum _ p = tt

pub no_begin : (k : Kind) → IsVacuumKind (kind_number k) → k ≡ kind.Begin → ⊥
no_begin k p is =
    let z : ⊥ = omega (arith, (within 2 (subst (λ (j : Kind). IsVacuumKind (kind_number j)) is p)).0) in z

pub xid_same : (k : Kind) → IsVacuumKind (kind_number k) → (value : ℕ) (xid : Option ℕ) {then : Option ℕ}
    → then ≡ xid_after k value xid → then ≡ xid
xid_same kind.Begin p value xid is = absurd (let z : ⊥ = omega (arith, (within 2 p).0) in z)
xid_same (kind.Commit n) p value xid is = absurd (let z : ⊥ = omega (arith, (within 3 p).0) in z)
xid_same kind.Abort p value xid is = absurd (let z : ⊥ = omega (arith, (within 4 p).0) in z)
xid_same _ p value xid is = is

-- ── the state of the log ──

commits_still : (s t : StateValue) → t ≡ s → KeepsCommits s t
commits_still s t e = record {
  pages = ap (λ (u : StateValue). u.pages) e;
  deleted = ap (λ (u : StateValue). u.deleted) e;
  heaps = ap (λ (u : StateValue). u.heaps) e;
}

pub commits_then : (s t u : StateValue) → KeepsCommits s t → KeepsCommits t u → KeepsCommits s u
commits_then s t u a b = record {
  pages = b.pages ∙ a.pages;
  deleted = b.deleted ∙ a.deleted;
  heaps = b.heaps ∙ a.heaps;
}

commits_owed : (owes : Bool) (s : StateValue) → KeepsCommits s (after_owed owes s)
commits_owed true s = record { pages = refl; deleted = refl; heaps = refl }
commits_owed false s = commits_still s s refl

-- a record of these kinds
abbrev KeepsCount : StateValue → StateValue → Type 0
KeepsCount s t = KeepsCommits s t × (t.records ≡ s.records)

count_by : (k : Kind) (x : ℕ) (ps : List ℕ) (s : StateValue) → 18 ≤ kind_number k → KeepsCount s (stepped k x ps s)
count_by kind.Begin x ps s from = absurd (omega (arith, from))
count_by (kind.Commit n) x ps s from = absurd (omega (arith, from))
count_by kind.Abort x ps s from = absurd (omega (arith, from))
count_by (kind.Checkpoint redo) x ps s from = absurd (omega (arith, from))
count_by (kind.PlaceHead item serial) x ps s from = absurd (omega (arith, from))
count_by (kind.MarkDeleted item serial) x ps s from = absurd (omega (arith, from))
count_by kind.FreeSlots x ps s from = (record { pages = refl; deleted = refl; heaps = refl }, refl)
count_by _ x ps s from = (record { pages = refl; deleted = refl; heaps = refl }, refl)

commits_noted : (r : Record) (s : StateValue) → KeepsCommits s (noted r s)
commits_noted r s = record { pages = refl; deleted = refl; heaps = refl }

records_owed : (owes : Bool) (s : StateValue) → s.records ≤ (after_owed owes s).records
records_owed true s = let e : (after_owed true s).records ≡ 1 + s.records = refl in omega (arith, e)
records_owed false s = omega arith

module _ {D : Type 0} (device : Disk D) where
  -- calls that log nothing
  pub reads_vacuum : (f g : FramesValue D) (p q : Pass) → WorksOn device f p g q [] → VacuumsOn device f p g q []
  reads_vacuum f g p q w = record {
    is_pass = w.is_pass;
    added = w.added;
    vacuum = tt;
    history = history_on f.journal.owes [] tt;
    rises = w.rises;
    pin = w.pin;
    room = w.room;
    xid = w.xid;
    work = w.work;
    pins = w.pins;
    disk = w.goes.rises;
    state = record {
      pages = w.goes.state.pages;
      deleted = w.goes.state.deleted;
      heaps = w.goes.state.heaps;
    };
    records = w.goes.records;
    runs = w.goes.runs;
    begins = w.goes.begins;
    rooms = rooms_same device f g w.goes.state;
  }

module _ {D : Type 0} (device : Disk D) (heaps : HeapPagesHold) (f g : FramesValue D)
    (p q : Pass) (held : List Sheet)
    (step : Step) (may : MayLogStep device f p held step) {T : Type 0} (r : Result T LogError)
    (cause : WriteHasCause device f.journal.disk g.journal.disk r)
    (stands : (R : Log) → Stands device f R → Stands device g (logged f.journal.owes (next_record f.journal step) R))
    (state : g.journal.state ≡ step_of (next_record f.journal step) (after_owed f.journal.owes f.journal.state))
    (runs : RunsOn device f g)
    (begins : IsEarlyKind step.kind → BeginsWith device f.journal g.journal (next_record f.journal step)) where
  abbrev next : Record
  next = next_record f.journal step

  abbrev then : StateValue
  then = after_owed f.journal.owes f.journal.state

  number : kind_number next.kind ≡ kind_number step.kind
  number = number_drawn then step.kind

  count : KeepsCount (noted next then) (step_of next then)
  count = count_by next.kind next.xid (changed next) (noted next then) (omega (arith, number, may.vacuum.0))

  last : g.journal.state.records ≡ suc then.records
  last = ap (λ (s : StateValue). s.records) state ∙ count.1

  begins_on : BeginsThen device f g (kind_number step.kind ∷ [])
  begins_on t found R H b =
      let h = begins (early_vacuum step.kind may.vacuum) t found R H b in (
        logged f.journal.owes next R,
        h.0,
        record { added = next ∷ []; log_is = refl; kinds_are = ap (λ (n : ℕ). n ∷ []) number },
        h.1,
        h.2,
        stands R,
      )

  rooms_on : KeepsRooms device f g
  rooms_on t found R H b =
      let h = begins (early_vacuum step.kind may.vacuum) t found R H b in
      rooms_logged device heaps f g next found (with_owed f.journal.owes R) h.0
      (omega (arith, number, may.vacuum.0)) state
      same_heaps h.2
    where
      same_heaps : (g.journal.state).heaps ≡ (f.journal.state).heaps
      same_heaps =
          (subst (KeepsCommits then) (sym state)
          (commits_then then (noted next then) (step_of next then) (commits_noted next then) count.0)).heaps
          ∙ (commits_owed f.journal.owes f.journal.state).heaps

  pub logs_by : HasAdded device f g (kind_number step.kind ∷ [])
      → Seen device g q (λ S P. IsLogged (view_of g p S held) step S P)
      → q.seen ≡ g.journal.state.records → PassRises p q → IsPassOf g q → q.pin ≡ p.pin → q.room ≡ p.room
      → q.xid ≡ p.xid → q.work ≡ p.work → g.pins ≡ f.pins → LogsStep device f p held step g q
  logs_by added seen all rises of pin room xid work pins = record {
    works = record {
      is_pass = of;
      added = added;
      vacuum = (may.vacuum, tt);
      history = history_on f.journal.owes (kind_number step.kind ∷ []) (may.vacuum, tt);
      rises = rises;
      pin = pin;
      room = room;
      xid = xid;
      work = work;
      pins = pins;
      disk = record { time = cause.time; faults = (cause.later).0; writes = (cause.later).1 };
      state = commits_then f.journal.state then g.journal.state (commits_owed f.journal.owes f.journal.state)
          (subst (KeepsCommits then) (sym state)
          (commits_then then (noted next then) (step_of next then) (commits_noted next then) count.0));
      records = omega (arith, last, records_owed f.journal.owes f.journal.state);
      runs = runs;
      begins = begins_on;
      rooms = rooms_on;
    };
    all = all;
    seen = seen;
  }

-- why it is refused
pub log_cause : {D : Type 0} (device : Disk D) (f g : FramesValue D) (p : Pass) (step : Step) {T : Type 0}
    (r : Result T LogError) (w : LogError) → IsVacuumKind (kind_number step.kind) → HasEncoding step
    → length step.after ≤ 3 → r ≡ Err w
    → LogFullWhere (limit_of f.journal.wal)
    (length_with f.journal.wal (logged_bytes f.journal (next_record f.journal step))) r
    → ((n : ℕ) → (r ≡ Err (logs.Down n)) ↔ (down_of f.journal.wal ≡ Some n))
    → WriteHasCause device f.journal.disk g.journal.disk r → CannotLog device g (log_refusal w) f p
log_cause device f g p step r logs.DiskFault vacuum encoded few is full down cause = cause.fault is
log_cause device f g p step {T} r logs.LogFull vacuum encoded few is full down cause =
    let over = subst (LogFullWhere {T = T} (limit_of f.journal.wal)
    (length_with f.journal.wal (logged_bytes f.journal (next_record f.journal step)))) is full in
    record { step = step; vacuum = vacuum; encoded = encoded; pages = few; over = over }
log_cause device f g p step r (logs.Down n) vacuum encoded few is full down cause = (down n).0 is
log_cause device f g p step r logs.XidsSpent vacuum encoded few is full down cause = tt
log_cause device f g p step r logs.OutOfMemory vacuum encoded few is full down cause = tt
