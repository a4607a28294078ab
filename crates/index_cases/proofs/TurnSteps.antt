-- What each step leaves of a scan and of a task that take turns.
use Rattle.std.proofs.Common.{◌≡◌, ◌≤◌, ◌∙◌, ℕ, Bool, true, false, List, refl, sym, ap, subst, arith, replicate}
use Rattle.std.proofs.Common.{slice_set}
use Rattle.std.specs.Prelude.{Option, Some, None, Result, Ok, Err, OnOk, IfSome, MatchOption}
use Rattle.disk_trait.specs.declared.device.Disk.{Ghosts as Disk}
use Rattle.snap_pins.specs.declared.TheConstants.{PLACES}
use Rattle.snap_pins.specs.declared.Pin.{Pin}
use Rattle.snap_pins.specs.Taken.{IsPinned, IsFree}
use Rattle.buffer_frames.specs.Frames.{FramesValue}
use Rattle.buffer_frames.specs.Passes.{IsPassOf, IsWhole, HasAdded, HasClaimed, HasPinned, PassRises, split_of, in_use}
use Rattle.buffer_frames.specs.declared.pass.Pass.{Pass}
use Rattle.buffer_frames.specs.declared.pass.Pinned.{Pinned}
use Rattle.gin_opclass.specs.Class.{meaning}
use Rattle.ts_match.specs.Meaning.{Holds}
use Rattle.ts_query.specs.Queries.{Query}
use Rattle.ts_match.specs.Judging.{judged}
use Rattle.ts_match.specs.Class.{asked_of, reads_all}
use Rattle.gin_scan.specs.Calls.{ReadsOn, BeginsReading, EndsReading, AddsNothing, GivesUp}
use Rattle.gin_scan.specs.Laws.{ScansGoOn}
use Rattle.gin_scan.specs.Scanning.{IsScanning, Scanning}
use Rattle.gin_scan.specs.TextScans.{IsFor}
use Rattle.gin_scan.specs.declared.scan.Scan.{Scan}
use Rattle.gin_scan.specs.declared.scan_core.ScanCore.{ScanCore}
use Rattle.gin_place.specs.Placing.{HasRight}
use Rattle.gin_place.specs.Going.{WorksOn}
use Rattle.gin_cleanup.specs.Going.{CleansOn}
use Rattle.gin_vacuum.specs.Going.{VacuumsOn}
use Rattle.index_cases.specs.Turns.{AreFresh, Scans, LetScan, Grows, MayKeep, Keeps}
use Rattle.index_cases.specs.declared.upkeep.Upkeep.{Upkeep}
use Rattle.index_cases.proofs.Rights.{right_stays}
use Rattle.index_cases.proofs.Turning.{pass_on, other_still, at_still, one_free, set_free}

-- what holds of any result holds of a value
pub on_ok : {A E : Type 0} (r : Result A E) (X : Type 0) → X → OnOk r X
on_ok (Ok a) X x = x
on_ok (Err e) X x = tt

-- ── the pass of a task ──

-- it may go on after a call that keeps its right
pub may_on : {D : Type 0} (f g : FramesValue D) (p q : Pass) → MayKeep f p → IsPassOf g q → q.held ≡ 0
    → q.work ≡ p.work → PassRises p q → q.pin ≡ p.pin → q.xid ≡ p.xid → q.room ≡ p.room → MayKeep g q
may_on f g p q was is_pass none work rises pin xid room = record {
  is_pass = is_pass;
  right = right_stays p q was.right work rises.seen;
  none = none;
  idle = (pin ∙ was.idle.0, xid ∙ was.idle.1);
  room = room ∙ was.room;
}

pub grows_still : {D : Type 0} (f : FramesValue D) → Grows f f
grows_still f = record { pins = refl; flushed = omega arith; longer = omega arith }

pub grows_then : {D : Type 0} (f g h : FramesValue D) → Grows f g → Grows g h → Grows f h
grows_then f g h first second = record {
  pins = second.pins ∙ first.pins;
  flushed = omega (arith, first.flushed, second.flushed);
  longer = omega (arith, first.longer, second.longer);
}

-- a place for a snapshot is free, once one may have been given up
free_then : {D : Type 0} (b : Bool) (f g : FramesValue D) (p p' : Pass) → GivesUp b f p g p' → IsPassOf f p
    → (place : ℕ) × IsFree f.pins place → (place : ℕ) × IsFree g.pins place
free_then true f g p p' gives of free = go p.pin of.pin gives.1
  where
    go : (o : Option Pinned) → IfSome o (λ s. IsPinned f.pins s.place (in_use s) × (s.length ≤ p.seen))
        → MatchOption o (g.pins ≡ f.pins) (λ s. g.pins ≡ slice_set f.pins s.place None)
        → (place : ℕ) × IsFree g.pins place
    go None pinned same = subst (λ (l : List (Option Pin)). (place : ℕ) × IsFree l place) (sym same) free
    go (Some s) pinned same =
        subst (λ (l : List (Option Pin)). (place : ℕ) × IsFree l place) (sym same)
        (s.place, set_free f.pins s.place (in_use s) pinned.0)
free_then false f g p p' gives of free =
    subst (λ (l : List (Option Pin)). (place : ℕ) × IsFree l place) (sym gives.1) free

module _ {D : Type 0} (device : Disk D) where
  -- ── where a task takes a step ──

  -- scans go on
  pub let_scan : (f g : FramesValue D) (kinds : List ℕ) → ScansGoOn device (meaning asked_of reads_all Holds judged)
      → HasAdded device f g kinds → g.pins ≡ f.pins → f.journal.flushed ≤ g.journal.flushed → LetScan device f g
  let_scan f g kinds law added pins flushed = λ p scan was.
      let is = pass_on f g p was.scanning.is_pass was.idle.0 was.idle.1 pins flushed added.longer in
      record {
        scanning = record {
          is_pass = is;
          held = was.scanning.held;
          is_scan = was.scanning.is_scan;
          pin = was.scanning.pin;
          pinned = was.scanning.pinned;
          snapshot = was.scanning.snapshot;
        };
        query = was.query;
        walk = law scan.query.now scan.core f g p p kinds added was.scanning.is_pass is refl was.walk;
        idle = was.idle;
        room = was.room;
      }

  -- so they do where it only reads, where it cleans and where it vacuums
  module _ (law : ScansGoOn device (meaning asked_of reads_all Holds judged)) (f g : FramesValue D) (p q : Pass) where
    pub works_scan : (kinds : List ℕ) → WorksOn device f p g q kinds → LetScan device f g
    works_scan kinds on = let_scan f g kinds law on.added on.pins on.goes.runs.flushed

    pub cleans_scan : (kinds : List ℕ) → CleansOn device f p g q kinds → LetScan device f g
    cleans_scan kinds on = let_scan f g kinds law on.added on.pins on.goes.runs.flushed

    pub vacuums_scan : (kinds : List ℕ) → VacuumsOn device f p g q kinds → LetScan device f g
    vacuums_scan kinds on = let_scan f g kinds law on.added on.pins on.runs.flushed

  -- its pass may go on
  module _ (f g : FramesValue D) (p q : Pass) (was : MayKeep f p) (none : q.held ≡ 0) where
    pub works_may : (kinds : List ℕ) → WorksOn device f p g q kinds → MayKeep g q
    works_may kinds on = may_on f g p q was on.is_pass none on.work on.rises on.pin on.xid on.room

    pub cleans_may : (kinds : List ℕ) → CleansOn device f p g q kinds → MayKeep g q
    cleans_may kinds on = may_on f g p q was on.is_pass none on.work on.rises on.pin on.xid on.room

    pub vacuums_may : (kinds : List ℕ) → VacuumsOn device f p g q kinds → MayKeep g q
    vacuums_may kinds on = may_on f g p q was on.is_pass none on.work on.rises on.pin on.xid on.room

  pub works_grows : (f g : FramesValue D) (p q : Pass) (kinds : List ℕ) → WorksOn device f p g q kinds → Grows f g
  works_grows f g p q kinds on = record {
    pins = on.pins;
    flushed = on.goes.runs.flushed;
    longer = on.added.longer;
  }

  -- ── the task, where calls log nothing, and a place for a snapshot is left ──

  pub task_stays : (f g : FramesValue D) (q : Pass) (t : Upkeep) → AddsNothing device f g
      → (place : ℕ) × IsFree g.pins place → Keeps device f q t → Keeps device g q t
  task_stays f g q t adds free was = record {
    silent = was.silent;
    may = record {
      is_pass = other_still device q adds was.may.is_pass was.may.idle.0 was.may.idle.1 free;
      right = was.may.right;
      none = was.may.none;
      idle = was.may.idle;
      room = was.may.room;
    };
    at = at_still device was.silent f g q t.dead t.stage was.at;
  }

  -- where the scan takes a step
  pub task_waits : (f g : FramesValue D) (p p' q : Pass) (t : Upkeep) → ReadsOn device f p g p' → Keeps device f q t
      → Keeps device g q t
  task_waits f g p p' q t reads was =
      task_stays f g q t reads.adds
      (subst (λ (l : List (Option Pin)). (place : ℕ) × IsFree l place) (sym reads.pins)
      (was.may.is_pass.free was.may.idle.0)) was

  -- where the scan ends
  pub task_waits_end : (s : ScanCore) (f g : FramesValue D) (p p' q : Pass) (t : Upkeep)
      → EndsReading device s f p g p' → IsPassOf f p → Keeps device f q t → Keeps device g q t
  task_waits_end s f g p p' q t ends of was =
      task_stays f g q t ends.adds
      (free_then s.took_pin f g p p' ends.pin of (was.may.is_pass.free was.may.idle.0)) was

  -- where the scan begins, by a snapshot, and there was none
  pub task_shares : (f g : FramesValue D) (p q : Pass) (n : ℕ) (t : Upkeep) → f.pins ≡ replicate PLACES None
      → HasPinned f g p n → AddsNothing device f g → Keeps device f q t → Keeps device g q t
  task_shares f g p q n t none pinned adds was =
      task_stays f g q t adds
      (subst (λ (l : List (Option Pin)). (place : ℕ) × IsFree l place)
      (sym (pinned.pins ∙ ap (λ (l : List (Option Pin)). slice_set l pinned.place (Some (record {
        commits = n;
        length = g.journal.state.records;
      }))) none))
      (one_free (replicate PLACES None) pinned.place (Some (record {
        commits = n;
        length = g.journal.state.records;
      })) refl refl)) was

-- a pass that was made of a whole one has the right, once it claims it
pub claims : {D : Type 0} (f g : FramesValue D) (p q q' : Pass) → IsWhole f.journal p → q ≡ split_of p
    → HasClaimed f g q q' → HasRight q'
claims f g p q q' whole split claimed = record {
  at = f.journal.state.records;
  has = ap (λ (x : Pass). x.work) claimed.pass;
  within =
      omega (
        arith,
        ap (λ (x : Pass). x.seen) claimed.pass,
        ap (λ (x : Pass). x.seen) split,
        ap (λ (x : Pass). x.seen) whole,
      );
}

-- another pass without the right stays one then
pub fresh_stays : {D : Type 0} (f g : FramesValue D) (p q q' : Pass) → HasClaimed f g q q' → p.work ≡ None
    → p.xid ≡ None → IsPassOf f p → IsPassOf g p
fresh_stays f g p q q' claimed work xid was =
    pass_on f g p was xid work (ap (λ (x : FramesValue _). x.pins) claimed.frames)
    (omega (arith, ap (λ (x : FramesValue _). x.journal.flushed) claimed.frames))
    (omega (arith, ap (λ (x : FramesValue _). x.journal.state.records) claimed.frames))

-- ── both begin ──

-- what a part of a whole pass is
pub record IsFreshPart (p : Pass) : Type 0 where
  pub pin : p.pin ≡ None
  pub held : p.held ≡ 0
  pub xid : p.xid ≡ None
  pub work : p.work ≡ None

pub part_of : {D : Type 0} (f : FramesValue D) (p q : Pass) → IsWhole f.journal p → q ≡ record p { room = q.room }
    → IsFreshPart q
part_of f p q whole same = record {
  pin = ap (λ (x : Pass). x.pin) same ∙ ap (λ (x : Pass). x.pin) whole;
  held = ap (λ (x : Pass). x.held) same ∙ ap (λ (x : Pass). x.held) whole;
  xid = ap (λ (x : Pass). x.xid) same ∙ ap (λ (x : Pass). x.xid) whole;
  work = ap (λ (x : Pass). x.work) same ∙ ap (λ (x : Pass). x.work) whole;
}

-- the pass of the task may keep the index, once it has the right
pub part_claims : {D : Type 0} (f g : FramesValue D) (p q q' : Pass) → IsWhole f.journal p → q ≡ split_of p
    → HasClaimed f g q q' → IsPassOf g q' → MayKeep g q'
part_claims f g p q q' whole split claimed is_pass = record {
  is_pass = is_pass;
  right = claims f g p q q' whole split claimed;
  none = ap (λ (x : Pass). x.held) claimed.pass ∙ ap (λ (x : Pass). x.held) split;
  idle = (
    ap (λ (x : Pass). x.pin) claimed.pass ∙ ap (λ (x : Pass). x.pin) split,
    ap (λ (x : Pass). x.xid) claimed.pass ∙ ap (λ (x : Pass). x.xid) split,
  );
  room = ap (λ (x : Pass). x.room) claimed.pass ∙ ap (λ (x : Pass). x.room) split;
}

-- that of the scan stays one, once the task has begun
pub part_waits : {D : Type 0} (f g h : FramesValue D) (p q q' : Pass) → IsFreshPart p → HasClaimed f g q q' → Grows g h
    → IsPassOf f p → IsPassOf h p
part_waits f g h p q q' part claimed grows was =
    pass_on g h p (fresh_stays f g p q q' claimed part.work part.xid was) part.xid part.work grows.pins grows.flushed
    grows.longer

-- and the task goes on, once the scan has begun
pub task_begins : {D : Type 0} (device : Disk D) (f g h k : FramesValue D) (p p' p'' q q' q'' : Pass) (n : ℕ)
    (t : Upkeep) → AreFresh f p → HasClaimed f g q q' → Grows g h → Keeps device h q'' t → HasPinned h k p'' n
    → BeginsReading device h p' k p'' → Keeps device k q'' t
task_begins device f g h k p p' p'' q q' q'' n t fresh claimed grows keeps pinned begins =
    task_shares device h k p'' q'' n t
    (grows.pins ∙ ap (λ (x : FramesValue _). x.pins) claimed.frames ∙ fresh.pins) pinned begins.adds keeps

-- a pass that has begun a scan
pub scans_begun : {D : Type 0} (device : Disk D) (f : FramesValue D) (p : Pass) (q : Query) (s : Scan)
    → IsScanning f p s.core → IsFor q s
    → Scanning device (meaning asked_of reads_all Holds judged) q f p s.core
    → (p.xid ≡ None) × (p.work ≡ None) → p.room ≡ 15 → Scans device f p s
scans_begun device f p q s scanning asked walk idle room = record {
  scanning = scanning;
  query = subst (λ (x : Query). IsFor x s) (sym asked.query) asked;
  walk = subst (λ (x : Query). Scanning device (meaning asked_of reads_all Holds judged) x f p s.core)
      (sym asked.query) walk;
  idle = idle;
  room = room;
}
