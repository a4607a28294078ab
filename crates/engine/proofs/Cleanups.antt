-- How frames and stores go on in a cleanup.
use Rattle.std.proofs.Common.{◌≡◌, ◌⊎◌, ℕ, Bool, List, [], ◌∷◌, ◌++◌, length, refl, sym, ap, subst, ◌∙◌}
use Rattle.std.proofs.Common.{inl, inr, arith, map, append-nil, length-append}
use Rattle.std.specs.Prelude.{◌+◌, suc, true, false, Option, reverse}
use Rattle.std.proofs.lemmas.List.{reverse-reverse}
use Rattle.std.specs.List.{AllByRecursion}
use Rattle.disk_trait.specs.declared.device.Disk.{Ghosts as Disk}
use Rattle.page_types.specs.Records.{kind_number}
use Rattle.page_types.specs.declared.record.Record.{Record}
use Rattle.core_state.specs.Log.{Log, In}
use Rattle.core_state.specs.History.{History, IsHistory}
use Rattle.core_state.specs.States.{StateValue}
use Rattle.core_state.proofs.Histories.{history_one}
use Rattle.core_maintenance.specs.Keeping.{HistoryHolds}
use Rattle.buffer_frames.specs.Frames.{FramesValue, Stands, RunsOn}
use Rattle.buffer_frames.specs.Beginnings.{BeginsBy, BeginsOn, HasFlushed}
use Rattle.buffer_frames.specs.Journals.{owed_abort}
use Rattle.buffer_frames.specs.Opens.{OpensTo}
use Rattle.buffer_frames.specs.Passes.{IsPassOf, HasAdded, GoesOnBy, PassRises, with_right, before_more}
use Rattle.buffer_frames.specs.declared.pass.Pass.{Pass}
use Rattle.buffer_frames.proofs.Added.{on_by_none, on_in_turn, added_in_turn}
use Rattle.buffer_frames.proofs.Beginning.{begins_all, begins_then}
use Rattle.buffer_frames.proofs.Begun.{same_by_none}
use Rattle.gin_place.specs.Going.{WorksOn}
use Rattle.gin_place.specs.Running.{DiskRises, KeepsHeaps, StoreGoesOn}
use Rattle.gin_cleanup.specs.Going.{IsCleaningKind, CleansOn}
use Rattle.gin_cleanup.proofs.ListKept.{in_kinds, all_in}
use Rattle.gin_vacuum.specs.Going.{KeepsCommits}
use Rattle.gin_vacuum.proofs.InTurn.{rises_then, runs_then}
use Rattle.gin_vacuum.proofs.Rooms.{rooms_same, rooms_then}
use Rattle.engine.specs.Answers.{HasLogged}
use Rattle.engine.specs.Cleaning.{AreCleaning, HasMoved}
use Rattle.engine.specs.Db.{DbValue}
use Rattle.engine.specs.Going.{Goes, TimeGoesOn, stays, nothing, one}
use Rattle.engine.specs.Vacuuming.{IsIndexKind}
use Rattle.engine.specs.Inner.Cleaned.{IndexGoesOn, WorksThrough, CleansThrough, WorksUp, CleansUp}
use Rattle.engine.specs.Standing.{GoesOn, HasGrown}
use Rattle.engine.proofs.Growing.{runs_of}
use Rattle.engine.proofs.Paths.{time_of, path_state, pending_of}
use Rattle.engine.proofs.PinsRisen.{Rises, rises, rise_in_turn, pins_same}

pub all_both : (T : ℕ → Type 0) (xs ys : List ℕ) → AllByRecursion T xs → AllByRecursion T ys
    → AllByRecursion T (xs ++ ys)
all_both T [] ys a b = b
all_both T (x ∷ xs) ys a b = (a.0, all_both T xs ys a.1 b)

rises_in_turn : (p q r : Pass) → PassRises p q → PassRises q r → PassRises p r
rises_in_turn p q r a b = record {
  seen = omega (arith, a.seen, b.seen);
  shown = omega (arith, a.shown, b.shown);
  floor = omega (arith, a.floor, b.floor);
  since = omega (arith, a.since, b.since);
}

-- the kinds of a cleanup are such
index_kind : (k : ℕ) → IsCleaningKind k → IsIndexKind k
index_kind k (inl e) = (omega (arith, e), omega (arith, e))
index_kind k (inr p) = (omega (arith, p.0), omega (arith, p.1))

pub index_kinds : (ks : List ℕ) → AllByRecursion IsCleaningKind ks → AllByRecursion IsIndexKind ks
index_kinds [] all = tt
index_kinds (k ∷ ks) all = (index_kind k all.0, index_kinds ks all.1)

-- an Abort leaves the history, and so do records of such kinds
owed_history : (owes : Bool) (ks : List ℕ) (R : Log) (H : History) → IsHistory R H → IsHistory (before_more owes ks R) H
owed_history owes [] R H h = h
owed_history true (k ∷ ks) R H h = h
owed_history false (k ∷ ks) R H h = h

pub history_over : HistoryHolds → (owes : Bool) (ks : List ℕ) → AllByRecursion IsIndexKind ks → (R R' : Log)
    (H : History) → GoesOnBy owes R R' ks → IsHistory R H → IsHistory R' H
history_over law owes ks each R R' H on had =
    subst (λ (T : Log). IsHistory T H) (sym on.log_is)
    (law (before_more owes ks R) on.added H
    (λ r i. all_in IsIndexKind ks (kind_number r.kind) each
    (subst (In (kind_number r.kind)) on.kinds_are (in_kinds on.added r i)))
    (owed_history owes ks R H had))

module _ {D : Type 0} (device : Disk D) where
  -- ── frames ──

  pub goes_of : (f g : FramesValue D) (ks : List ℕ) → StoreGoesOn device f g ks → IndexGoesOn device f g ks
  goes_of f g ks c = record {
    rises = c.rises;
    state = record { pages = c.state.pages; deleted = c.state.deleted; heaps = c.state.heaps };
    rooms = rooms_same device f g c.state;
    runs = c.runs;
    begins = c.begins;
  }

  pub through_of : (f g : FramesValue D) (p q : Pass) (ks : List ℕ) → CleansOn device f p g q ks
      → CleansThrough device f p g q ks
  through_of f g p q ks c = record {
    is_pass = c.is_pass;
    added = c.added;
    are = c.cleaning;
    rises = c.rises;
    pin = c.pin;
    room = c.room;
    xid = c.xid;
    pins = c.pins;
    goes = goes_of f g ks c.goes;
  }

  -- what was read before
  pub through_reads : {Is : ℕ → Type 0} (f g : FramesValue D) (p q : Pass) → WorksOn device f p g q []
      → WorksThrough device Is f p g q []
  through_reads f g p q w = record {
    is_pass = w.is_pass;
    added = w.added;
    are = tt;
    rises = w.rises;
    pin = w.pin;
    room = w.room;
    xid = w.xid;
    pins = w.pins;
    goes = goes_of f g [] w.goes;
  }

  -- the records are of other kinds too
  pub through_as : {Is Are : ℕ → Type 0} (f g : FramesValue D) (p q : Pass) (ks : List ℕ) → AllByRecursion Are ks
      → WorksThrough device Is f p g q ks → WorksThrough device Are f p g q ks
  through_as f g p q ks all w = record {
    is_pass = w.is_pass;
    added = w.added;
    are = all;
    rises = w.rises;
    pin = w.pin;
    room = w.room;
    xid = w.xid;
    pins = w.pins;
    goes = w.goes;
  }

  pub goes_then : (f g h : FramesValue D) (xs ys : List ℕ) → HasAdded device f g xs → IndexGoesOn device f g xs
      → IndexGoesOn device g h ys → IndexGoesOn device f h (xs ++ ys)
  goes_then f g h xs ys added x y = record {
    rises = rises_then device f.journal.disk g.journal.disk h.journal.disk x.rises y.rises;
    state = record {
      pages = y.state.pages ∙ x.state.pages;
      deleted = y.state.deleted ∙ x.state.deleted;
      heaps = y.state.heaps ∙ x.state.heaps;
    };
    rooms = rooms_then device f g h xs x.begins x.rooms y.rooms;
    runs = runs_then device f g h xs x.rises x.begins x.runs y.runs;
    begins = λ t found R H b.
        let m = x.begins t found R H b in
        let n = y.begins t found m.0 m.1 m.4 in (
          n.0,
          n.1,
          on_in_turn f.journal.owes R m.0 n.0 xs ys m.2
              (subst (λ (o : Bool). GoesOnBy o m.0 n.0 ys) added.owes n.2),
          begins_then H m.1 n.1 m.3 n.3,
          n.4,
          λ s. n.5 (m.5 s),
        );
  }

  pub through_in_turn : {Is : ℕ → Type 0} (f g h : FramesValue D) (p q r : Pass) (xs ys : List ℕ)
      → WorksThrough device Is f p g q xs
      → WorksThrough device Is g q h r ys → WorksThrough device Is f p h r (xs ++ ys)
  through_in_turn {Is} f g h p q r xs ys a b = record {
    is_pass = b.is_pass;
    added = added_in_turn device f g h xs ys a.added b.added;
    are = all_both Is xs ys a.are b.are;
    rises = rises_in_turn p q r a.rises b.rises;
    pin = b.pin ∙ a.pin;
    room = b.room ∙ a.room;
    xid = b.xid ∙ a.xid;
    pins = b.pins ∙ a.pins;
    goes = goes_then f g h xs ys a.added a.goes b.goes;
  }

  heaps_same : (s t : StateValue) → t ≡ s → KeepsHeaps s t
  heaps_same s t e = record {
    pages = ap (λ (u : StateValue). u.pages) e;
    deleted = ap (λ (u : StateValue). u.deleted) e;
    heaps = ap (λ (u : StateValue). u.heaps) e;
    current = ap (λ (u : StateValue). u.current) e;
    freed = ap (λ (u : StateValue). u.freed) e;
  }

  commits_same : (s t : StateValue) → t ≡ s → KeepsCommits s t
  commits_same s t e = record {
    pages = ap (λ (u : StateValue). u.pages) e;
    deleted = ap (λ (u : StateValue). u.deleted) e;
    heaps = ap (λ (u : StateValue). u.heaps) e;
  }

  -- calls that log nothing
  none_goes : (f g : FramesValue D) → DiskRises device f.journal.disk g.journal.disk
      → g.journal.state ≡ f.journal.state → HasAdded device f g [] → RunsOn device f g
      → BeginsOn device f.journal g.journal → IndexGoesOn device f g []
  none_goes f g rises state added runs begins = record {
    rises = rises;
    state = commits_same f.journal.state g.journal.state state;
    rooms = rooms_same device f g (heaps_same f.journal.state g.journal.state state);
    runs = runs;
    begins = λ t found R H b. (
      R,
      H,
      on_by_none f.journal.owes R,
      begins_all H,
      begins t found R H b,
      λ s. let on = added.on R s in subst (Stands device g) (same_by_none f.journal.owes R on.0 on.2) on.1,
    );
  }

  -- the right of maintenance is claimed, or given back
  pub right_through : {Is : ℕ → Type 0} (f g : FramesValue D) (p q : Pass) (frames_work pass_work : Option ℕ)
      → IsPassOf g q
      → g ≡ with_right frames_work f → q ≡ record p { work = pass_work } → HasAdded device f g [] → RunsOn device f g
      → BeginsOn device f.journal g.journal → WorksThrough device Is f p g q []
  right_through f g p q w v of frames pass added runs begins =
      let disk : g.journal.disk ≡ f.journal.disk = ap (λ (x : FramesValue D). x.journal.disk) frames in
      let seen : q.seen ≡ p.seen = ap (λ (x : Pass). x.seen) pass in
      let shown : q.shown ≡ p.shown = ap (λ (x : Pass). x.shown) pass in
      let floor : q.floor ≡ p.floor = ap (λ (x : Pass). x.floor) pass in
      let since : q.since ≡ p.since = ap (λ (x : Pass). x.since) pass in
      record {
        is_pass = of;
        added = added;
        are = tt;
        rises = record {
          seen = omega (arith, seen);
          shown = omega (arith, shown);
          floor = omega (arith, floor);
          since = omega (arith, since);
        };
        pin = ap (λ (x : Pass). x.pin) pass;
        room = ap (λ (x : Pass). x.room) pass;
        xid = ap (λ (x : Pass). x.xid) pass;
        pins = ap (λ (x : FramesValue D). x.pins) frames;
        goes = none_goes f g
            (subst (DiskRises device f.journal.disk) (sym disk)
            (record { time = omega arith; faults = omega arith; writes = omega arith }))
            (ap (λ (x : FramesValue D). x.journal.state) frames) added runs begins;
      }

  pub goes_right : (f g : FramesValue D) (p q : Pass) (frames_work pass_work : Option ℕ) → IsPassOf g q
      → g ≡ with_right frames_work f → q ≡ record p { work = pass_work } → HasAdded device f g [] → RunsOn device f g
      → BeginsOn device f.journal g.journal → IndexGoesOn device f g []
  goes_right f g p q w v of frames pass added runs begins =
      let t : WorksThrough device IsIndexKind f p g q [] =
      right_through f g p q w v of frames pass added runs begins in t.goes

  -- ── stores ──

  pub up_of_frames : {Is : ℕ → Type 0} (a b : DbValue D) (p q : Pass) (ks : List ℕ) → b.pending ≡ a.pending
      → WorksThrough device Is a.frames p b.frames q ks → WorksUp device Is a b ks
  up_of_frames a b p q ks pending c = record {
    added = c.added;
    are = c.are;
    goes = c.goes;
    pins = pins_same a b c.pins;
    pending = pending;
  }

  -- steps that log nothing
  nothing_of : {a c : DbValue D} {rs : List Record} → Goes device a c rs → rs ≡ []
      → HasAdded device a.frames c.frames [] × BeginsOn device a.frames.journal c.frames.journal
  nothing_of {a} stays none = (none_added, λ t found R H b. b)
    where
      none_added : HasAdded device a.frames a.frames []
      none_added = record {
        on = λ R s. (R, s, on_by_none a.frames.journal.owes R);
        back = λ t up R s. (R, s, on_by_none a.frames.journal.owes R);
        was_up = λ up. up;
        owes = refl;
        longer = omega arith;
      }
  nothing_of {a} (nothing {mid} {new} q s) none =
      let before = nothing_of q none in (
        added_in_turn device a.frames mid.frames new.frames [] [] before.0 s.added,
        λ t found R H b. s.begins t found R H (before.1 t found R H b),
      )
  nothing_of (one {rs = rs} {r = r} q s) none =
      absurd (omega (arith, length-append rs (r ∷ []), ap length none))

  pub added_by_none : (a b : DbValue D) → Goes device a b [] → HasAdded device a.frames b.frames []
  added_by_none a b path = (nothing_of path refl).0

  pub up_by_none : {Is : ℕ → Type 0} (a b : DbValue D) → Goes device a b [] → WorksUp device Is a b []
  up_by_none a b path =
      let k = path_state device path in
      let time : TimeGoesOn device a b = time_of device path in
      let r : Rises a b = rises device path in
      let h = nothing_of path refl in
      record {
        added = h.0;
        are = tt;
        goes = none_goes a.frames b.frames
            (record { time = time.time; faults = time.faults; writes = time.writes }) k.state h.0
            (runs_of device path) h.1;
        pins = r.pins;
        pending = pending_of device path;
      }

  pub goes_by_none : (a b : DbValue D) → Goes device a b [] → IndexGoesOn device a.frames b.frames []
  goes_by_none a b path = let up : WorksUp device IsIndexKind a b [] = up_by_none a b path in up.goes

  -- the records are of other kinds too
  pub up_as : {Is Are : ℕ → Type 0} (a b : DbValue D) (ks : List ℕ) → AllByRecursion Are ks → WorksUp device Is a b ks
      → WorksUp device Are a b ks
  up_as a b ks all c = record { added = c.added; are = all; goes = c.goes; pins = c.pins; pending = c.pending }

  pub up_in_turn : {Is : ℕ → Type 0} (a b c : DbValue D) (xs ys : List ℕ) → WorksUp device Is a b xs
      → WorksUp device Is b c ys
      → WorksUp device Is a c (xs ++ ys)
  up_in_turn {Is} a b c xs ys x y = record {
    added = added_in_turn device a.frames b.frames c.frames xs ys x.added y.added;
    are = all_both Is xs ys x.are y.are;
    goes = goes_then a.frames b.frames c.frames xs ys x.added x.goes y.goes;
    pins = rise_in_turn a b c x.goes.runs.flushed x.added.longer x.pins y.pins;
    pending = y.pending ∙ x.pending;
  }

  pub up_rises : {Is : ℕ → Type 0} (a b : DbValue D) (ks : List ℕ) → b.frames.journal.work ≡ a.frames.journal.work
      → WorksUp device Is a b ks → Rises a b
  up_rises a b ks work c = record {
    flushed = c.goes.runs.flushed;
    records = c.added.longer;
    pins = c.pins;
    work = work;
  }

  pub up_time : {Is : ℕ → Type 0} (a b : DbValue D) (ks : List ℕ) → WorksUp device Is a b ks → TimeGoesOn device a b
  up_time a b ks c = record {
    time = c.goes.rises.time;
    faults = c.goes.rises.faults;
    writes = c.goes.rises.writes;
  }

  -- the history stays
  pub grows_not : HistoryHolds → (a b : DbValue D) (ks : List ℕ) → WorksUp device IsIndexKind a b ks → device.tells
      → HasGrown device a b []
  grows_not law a b ks c t found H f =
      let m = c.goes.begins t found f.log H f.begins in
      let same : m.1 ≡ H ++ [] =
      history_one m.0 m.1 H m.4.log_of.history
      (history_over law a.frames.journal.owes ks c.are f.log m.0 H m.2 f.begins.log_of.history)
      ∙ sym (append-nil H) in
      record {
        entry = subst (λ (d : D). OpensTo (device.seen d) found) (sym c.goes.runs.opened) f.entry;
        log = m.0;
        stands = m.5 f.stands;
        begins = subst (λ (K : History). BeginsBy device b.frames.journal found m.0 K) same m.4;
        heaps = c.goes.rooms t found f.log H f.begins f.heaps;
        few = omega (arith, c.goes.state.pages, f.few);
      }

  -- what was logged
  pub logged_kinds : {Is : ℕ → Type 0} (Are : List ℕ → Type 0) (a b : DbValue D) (ks : List ℕ)
      → WorksUp device Is a b ks → Are ks
      → HasLogged device a b (λ (rs : List Record). Are (map (λ (r : Record). kind_number r.kind) rs))
  logged_kinds Are a b ks c all R stands =
      let on = c.added.on R stands in
      let g : GoesOnBy a.frames.journal.owes R on.0 ks = on.2 in
      let own = parts a.frames.journal.owes ks R on.0 g in (
        reverse g.added,
        own.0,
        subst Are (sym g.kinds_are) all,
        subst (Stands device b.frames)
            (own.1 ∙ ap (λ (L : Log). L ++ (own.0 ++ R)) (sym (reverse-reverse g.added))) on.1,
        own.2,
      )
    where
      parts : (owes : Bool) (js : List ℕ) (S T : Log) (g : GoesOnBy owes S T js)
          → (before : Log) × (T ≡ g.added ++ (before ++ S))
          × ((before ≡ []) ⊎ (before ≡ owed_abort (suc (length S)) ∷ []))
      parts owes [] S T g = ([], g.log_is, inl refl)
      parts false (j ∷ js) S T g = ([], g.log_is, inl refl)
      parts true (j ∷ js) S T g = (
        owed_abort (1 + length S) ∷ [],
        g.log_is,
        inr (ap (λ (n : ℕ). owed_abort n ∷ []) (let e : 1 + length S ≡ suc (length S) = omega arith in e)),
      )

  pub moved_by : HistoryHolds → (a b : DbValue D) (ks : List ℕ) → CleansUp device a b ks → HasMoved device a b
  moved_by law a b ks c = record {
    nothing = grows_not law a b ks (up_as a b ks (index_kinds ks c.are) c);
    logged = λ R stands.
        let l = logged_kinds (AllByRecursion IsCleaningKind) a b ks c c.are R stands in
        (l.0, l.1, each l.0 l.2, l.3, l.4);
  }
    where
      each : (rs : List Record) → AllByRecursion IsCleaningKind (map (λ (r : Record). kind_number r.kind) rs)
          → AreCleaning rs
      each [] all = tt
      each (r ∷ rs) all = (all.0, each rs all.1)

  pub goes_up : {Is : ℕ → Type 0} (a b : DbValue D) (ks : List ℕ) → WorksUp device Is a b ks
      → HasFlushed device b.frames.journal
      → GoesOn device a b
  goes_up a b ks c flushed =
      let runs = c.goes.runs in
      record {
        opened = runs.opened;
        pending = c.pending;
        time = c.goes.rises.time;
        faults = c.goes.rises.faults;
        writes = c.goes.rises.writes;
        flushed = runs.flushed;
        before = λ t m f lt i. runs.before t m f (omega (arith, lt)) i;
        since = λ t found H f clock commits le had. runs.since t found f.log H f.begins clock commits le had;
        pages = runs.pages;
        kept = λ t found H f up. flushed t up found f.log H f.begins;
      }
