-- Calls that log records by which dead documents go, one after another.
use Rattle.std.proofs.Common.{ℕ, Bool, List, [], ◌∷◌, ◌++◌, subst, ◌∙◌, arith}
use Rattle.std.specs.List.{AllByRecursion}
use Rattle.disk_trait.specs.declared.device.Disk.{Ghosts as Disk}
use Rattle.wal.proofs.Paging.{kept_then}
use Rattle.buffer_frames.specs.Frames.{FramesValue, RunsOn}
use Rattle.buffer_frames.specs.Passes.{GoesOnBy}
use Rattle.buffer_frames.specs.declared.pass.Pass.{Pass}
use Rattle.buffer_frames.proofs.Added.{on_in_turn, added_in_turn}
use Rattle.buffer_frames.proofs.Beginning.{begins_then}
use Rattle.gin_place.specs.Placing.{HasRight}
use Rattle.gin_place.specs.Running.{DiskRises, BeginsThen, RecordsRise}
use Rattle.gin_place.specs.Going.{WorksOn}
use Rattle.gin_place.proofs.Carrying.{rises_on}
use Rattle.gin_vacuum.specs.Going.{IsVacuumKind, VacuumsOn}
use Rattle.gin_vacuum.proofs.Rooms.{rooms_then}
use Rattle.gin_vacuum.proofs.Histories.{history_on}
use Rattle.gin_vacuum.proofs.Logs.{commits_then, reads_vacuum}

records_then : (xs ys : List ℕ) (a b c : ℕ) → RecordsRise xs a b → RecordsRise ys b c → RecordsRise (xs ++ ys) a c
records_then [] [] a b c x y = y ∙ x
records_then [] (k ∷ ys) a b c x y = omega (arith, x, y)
records_then (j ∷ xs) [] a b c x y = omega (arith, x, y)
records_then (j ∷ xs) (k ∷ ys) a b c x y = omega (arith, x, y)

-- records of some kinds, and of others
pub all_then : (P : ℕ → Type 0) (xs ys : List ℕ) → AllByRecursion P xs → AllByRecursion P ys
    → AllByRecursion P (xs ++ ys)
all_then P [] ys a b = b
all_then P (x ∷ xs) ys a b = (a.0, all_then P xs ys a.1 b)

module _ {D : Type 0} (device : Disk D) where
  pub rises_then : (a b c : D) → DiskRises device a b → DiskRises device b c → DiskRises device a c
  rises_then a b c x y = record {
    time = omega (arith, x.time, y.time);
    faults = omega (arith, x.faults, y.faults);
    writes = omega (arith, x.writes, y.writes);
  }

  pub runs_then : (f g h : FramesValue D) (xs : List ℕ) → DiskRises device f.journal.disk g.journal.disk
      → BeginsThen device f g xs → RunsOn device f g → RunsOn device g h → RunsOn device f h
  runs_then f g h xs rises begins p q = record {
    limit = q.limit ∙ p.limit;
    opened = q.opened ∙ p.opened;
    flushed = omega (arith, p.flushed, q.flushed);
    before = λ t m c le i. p.before t m c le (q.before t m c (omega (arith, le, rises.time)) i);
    since = λ t found R H k at commits le had.
        let then = begins t found R H k in
        q.since t found then.0 then.1 then.4 at commits (omega (arith, le, rises.time))
        (p.since t found R H k at commits le had);
    pages = λ t. kept_then device f.journal.disk g.journal.disk h.journal.disk (p.pages t) (q.pages t);
    up = λ up. p.up (q.up up);
  }

  -- the right stays
  pub vacuum_right : (f g : FramesValue D) (p q : Pass) (ks : List ℕ) → HasRight p → VacuumsOn device f p g q ks
      → HasRight q
  vacuum_right f g p q ks right w = record {
    at = right.at;
    has = w.work ∙ right.has;
    within = omega (arith, right.within, w.rises.seen);
  }

module _ {D : Type 0} (device : Disk D) where
  pub vacuums_in_turn : (f g h : FramesValue D) (p q r : Pass) (xs ys : List ℕ) → VacuumsOn device f p g q xs
      → VacuumsOn device g q h r ys → VacuumsOn device f p h r (xs ++ ys)
  vacuums_in_turn f g h p q r xs ys x y =
      let all = all_then IsVacuumKind xs ys x.vacuum y.vacuum in
      record {
        is_pass = y.is_pass;
        added = added_in_turn device f g h xs ys x.added y.added;
        vacuum = all;
        history = history_on f.journal.owes (xs ++ ys) all;
        rises = rises_on device p q r x.rises y.rises;
        pin = y.pin ∙ x.pin;
        room = y.room ∙ x.room;
        xid = y.xid ∙ x.xid;
        work = y.work ∙ x.work;
        pins = y.pins ∙ x.pins;
        disk = rises_then device f.journal.disk g.journal.disk h.journal.disk x.disk y.disk;
        state = commits_then f.journal.state g.journal.state h.journal.state x.state y.state;
        records = records_then xs ys f.journal.state.records g.journal.state.records h.journal.state.records x.records
            y.records;
        runs = runs_then device f g h xs x.disk x.begins x.runs y.runs;
        begins = λ t found R H b.
            let m = x.begins t found R H b in
            let n = y.begins t found m.0 m.1 m.4 in (
              n.0,
              n.1,
              on_in_turn f.journal.owes R m.0 n.0 xs ys m.2
                  (subst (λ (o : Bool). GoesOnBy o m.0 n.0 ys) (x.added).owes n.2),
              begins_then H m.1 n.1 m.3 n.3,
              n.4,
              λ s. n.5 (m.5 s),
            );
        rooms = rooms_then device f g h xs x.begins x.rooms y.rooms;
      }

  -- calls that log nothing, and then such
  pub reads_then : (f g h : FramesValue D) (p q r : Pass) (ks : List ℕ) → WorksOn device f p g q []
      → VacuumsOn device g q h r ks → VacuumsOn device f p h r ks
  reads_then f g h p q r ks x y =
      vacuums_in_turn f g h p q r [] ks (reads_vacuum device f g p q x) y
