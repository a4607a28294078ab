-- A step of a scan, of each log that the frames stand for.
use Rattle.std.proofs.Common.{◌≡◌, ◌<◌, ℕ, Bool, map, [], ◌++◌, length, Some, None, sym, ap, ap₂, subst, subst₂, ◌∙◌}
use Rattle.std.specs.Prelude.{Vec}
use Rattle.std.specs.declared.alloc.Global.{Global}
use Rattle.disk_trait.specs.declared.device.Disk.{Ghosts as Disk}
use Rattle.wal.specs.Waiting.{down_of}
use Rattle.core_state.specs.Log.{Log}
use Rattle.core_state.specs.Legal.{IsLegal, Pin, Keeps}
use Rattle.gin_opclass.specs.Class.{Meaning}
use Rattle.buffer_frames.specs.Frames.{FramesValue, Stands}
use Rattle.buffer_frames.specs.Passes.{IsPassOf, HasAdded, GoesOnBy, pin_in}
use Rattle.buffer_frames.specs.declared.pass.Pass.{Pass}
use Rattle.buffer_frames.proofs.Added.{none_by_kinds}
use Rattle.gin_opclass.specs.declared.QueryKeys.{QueryKeys}
use Rattle.gin_hits.specs.Rows.{asked_by}
use Rattle.gin_hits.specs.Sides.{AreKept}
use Rattle.gin_hits.specs.Ordered.{AreOrdered, asked_at}
use Rattle.gin_scan.specs.Calls.{ReadsOn}
use Rattle.gin_scan.specs.Counting.{CountsOn}
use Rattle.gin_scan.specs.Reaching.{IsReached}
use Rattle.gin_scan.specs.Ways.{sought_by}
use Rattle.gin_scan.specs.Scanning.{IsScan, IsWithin, HasJudged, IsScanning, IsScanOf, Scanning, steps_left, sought_in}
use Rattle.gin_scan.specs.Inner.Steps.{MayStep, HasStepped}
use Rattle.gin_scan.specs.declared.scan_core.ScanCore.{ScanCore}
use Rattle.gin_scan.proofs.GoingOn.{kept_pin}
use Rattle.gin_scan.proofs.ReadCalls.{none_added}

-- a log to which nothing was added
pub same_log : (owes : Bool) (R R' : Log) → GoesOnBy owes R R' [] → R' ≡ R
same_log owes R R' g = g.log_is ∙ ap (λ (more : Log). more ++ R) (none_by_kinds g.added g.kinds_are)

-- what is known of a legal log where a step is taken
pub record Known {D : Type 0} (device : Disk D) (f : FramesValue D) (R : Log) (pin : Pin) : Type 0 where
  pub told : device.tells
  pub up : down_of f.journal.wal ≡ None
  pub stands : Stands device f R
  pub legal : IsLegal R
  pub keeps : Keeps R pin

-- a step that is right of each log that the frames stood for is right of those that they stand for
pub step_taken : {D Q : Type 0} (device : Disk D) (M : Meaning Q) (q : Q) (f f' : FramesValue D) (pass pass' : Pass)
    (s s' : ScanCore) → IsPassOf f pass → HasAdded device f f' [] → pass'.pin ≡ pass.pin
    → ((R : Log) (pin : Pin) → Known device f R pin → pin_in pass.pin ≡ Some pin → IsScanOf M q R pin s
    → IsScanOf M q R pin s')
    → Scanning device M q f pass s → Scanning device M q f' pass' s'
step_taken device M q f f' pass pass' s s' of added same step scan told up R' stands legal pin e =
    let up_old = added.was_up up in
    let b = added.back told up R' stands in
    let one : R' ≡ b.0 = same_log f.journal.owes b.0 R' b.2 in
    let old : Stands device f R' = subst (Stands device f) (sym one) b.1 in
    let pinned = ap pin_in (sym same) ∙ e in
    step R' pin (record {
      told = told;
      up = up_old;
      stands = old;
      legal = legal;
      keeps = kept_pin device f pass R' pin of told up_old old legal pinned;
    }) pinned (scan told up_old R' old legal pin pinned)

-- a step of a scan that read, and is right of each such log
pub stepped_by : {D Q : Type 0} (device : Disk D) (M : Meaning Q) (q : Q) (f f' : FramesValue D) (pass pass' : Pass)
    (s s' : ScanCore) → MayStep device M q f pass s → ReadsOn device f pass f' pass' → IsScan s'
    → s'.keys ≡ s.keys → s'.snapshot ≡ s.snapshot → steps_left s' < steps_left s
    → ((R : Log) (pin : Pin) → Known device f R pin → pin_in pass.pin ≡ Some pin → IsScanOf M q R pin s
    → IsScanOf M q R pin s')
    → (IsReached M q f s s.stage → IsReached M q f' s' s'.stage)
    → CountsOn s pass.holds s' pass'.holds
    → HasStepped device M q f pass s f' pass' s'
stepped_by device M q f f' pass pass' s s' may reads is_scan keys snapshot lower step reached counted = record {
  scanning = record {
    is_pass = reads.is_pass;
    held = reads.held;
    is_scan = is_scan;
    pin = may.scanning.pin;
    pinned = ap pin_in reads.pin ∙ may.scanning.pinned;
    snapshot = snapshot ∙ may.scanning.snapshot;
  };
  asks = record {
    asked = ap (λ (k : QueryKeys). map asked_by k.keys.items) keys ∙ may.asks.asked;
    all = ap (λ (k : QueryKeys). k.all) keys ∙ may.asks.all;
  };
  walk = step_taken device M q f f' pass pass' s s' may.scanning.is_pass (none_added device f f' reads.adds) reads.pin
      step may.walk;
  lower = lower;
  reached = reached;
  counted = counted;
}

-- for the same keys, with as many lists
pub scan_as : (s s' : ScanCore) → IsScan s → s'.keys ≡ s.keys → s'.order ≡ s.order
    → length s'.pending.by_key.items ≡ length s.pending.by_key.items
    → length s'.main.by_key.items ≡ length s.main.by_key.items → IsWithin s' s'.stage → IsScan s'
scan_as s s' is keys order pending main within = record {
  ordered = subst₂ (λ (k : QueryKeys) (o : Vec ℕ Global). AreOrdered (map asked_by k.keys.items)
      (map (asked_at k.keys.items) o.items)) (sym keys) (sym order) is.ordered;
  pending = pending ∙ is.pending ∙ sym (ap (λ (k : QueryKeys). length k.keys.items) keys);
  main = main ∙ is.main ∙ sym (ap (λ (k : QueryKeys). length k.keys.items) keys);
  within = within;
}

-- what its walks look for
pub sought_as : (s s' : ScanCore) → s'.keys ≡ s.keys → s'.order ≡ s.order → sought_in s' ≡ sought_in s
sought_as s s' keys order =
    ap₂ (λ (k : QueryKeys) (o : Vec ℕ Global). sought_by k.all (map (asked_at k.keys.items) o.items)) keys order

-- the pin is the scan's
pub own_pin : {D : Type 0} (f : FramesValue D) (pass : Pass) (s : ScanCore) (pin : Pin) → IsScanning f pass s
    → pin_in pass.pin ≡ Some pin → s.snapshot ≡ pin.commits
own_pin f pass s pin is e =
    let same : is.pin ≡ pin = one_some is.pin pin (sym is.pinned ∙ e) in
    is.snapshot ∙ ap (λ (p : Pin). p.commits) same
  where
    one_some : (a b : Pin) → Some a ≡ Some b → a ≡ b
    one_some a b h = cc

-- what was judged is so of a scan with the same kept items
abbrev pub judged_as : {Q : Type 0} (M : Meaning Q) (q : Q) (R : Log) (pin : Pin) (from : ℕ) (s s' : ScanCore)
    → s'.kept.items ≡ s.kept.items → HasJudged M q R pin from s → HasJudged M q R pin from s'
judged_as M q R pin from s s' same j = record {
  walk = j.walk;
  is_walk = j.is_walk;
  reads = j.reads;
  kept = subst (AreKept M q j.walk) (sym same) j.kept;
}
