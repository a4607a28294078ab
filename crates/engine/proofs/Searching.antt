-- What calls that only read answer, from their parts: a snapshot is taken into use, read, and given up.
use Rattle.std.proofs.Common.{◌≡◌, ◌≤◌, ℕ, [], refl, sym, ap, subst, ◌∙◌, arith}
use Rattle.std.specs.Prelude.{IfSome, Option, None, Result, Ok, Err, IfOk, IfErr, Vec, take}
use Rattle.std.specs.declared.alloc.Global.{Global}
use Rattle.disk_trait.specs.declared.device.Disk.{Ghosts as Disk}
use Rattle.ts_base.specs.Vectors.{Vector}
use Rattle.buffer_frames.specs.Frames.{FramesValue}
use Rattle.buffer_frames.specs.Journals.{JournalValue}
use Rattle.buffer_frames.specs.Passes.{IsPassOf, PassRises, HasPinned}
use Rattle.buffer_frames.specs.declared.pass.Pass.{Pass}
use Rattle.buffer_frames.specs.declared.pass.Pinned.{Pinned}
use Rattle.engine.specs.Finding.{Name, docs, IsFound, AreCommitNames}
use Rattle.engine.specs.Going.{Goes, stays, MetNoFault, FaultIsTold}
use Rattle.engine.specs.Causes.{IsDown}
use Rattle.engine.specs.Answers.{IsResting, TakesSnapshot, OnlyReads, HasFound, HasListed}
use Rattle.engine.specs.Db.{DbValue, flushed_of, IsUp}
use Rattle.engine.specs.Inner.Finds.{IsReading, FindsAll, ListsAll, CannotFind, CannotList}
use Rattle.engine.specs.declared.commit_names.CommitNames.{CommitNames}
use Rattle.engine.specs.declared.error.DbError.{DbError}
use Rattle.engine.specs.declared.error.DbError.TheVariants.{NoDocument, Conflict, StoreFull, LogFull, XidsSpent, Down}
use Rattle.engine.specs.declared.error.DbError.TheVariants.{DiskFault, BadPage, OutOfMemory}
use Rattle.engine.proofs.Paths.{goes_on, time_of, kept_fault, path_state, told_in_turn, told_still, fault_stays}
use Rattle.engine.proofs.Logs.{stands_then}
use Rattle.engine.proofs.Starting.{down_takes}
use Rattle.engine.proofs.Growing.{stays_for, grows_by_none}

-- a session that has taken a snapshot into use, read, and given it up
pub session_after : {D : Type 0} (old new : DbValue D) (p q r u : Pass) → IsResting old p → (q.xid ≡ p.xid)
    → r.xid ≡ q.xid → r.held ≡ 0 → u.held ≡ r.held → u.xid ≡ r.xid → u.pin ≡ None → IsPassOf new.frames u
    → IsResting new u
session_after old new p q r u session xid keeps none held same pin of = record {
  is_pass = of;
  idle = (pin, held ∙ none, same ∙ keeps ∙ xid ∙ session.idle.2);
}

pub snapshot_after : {D : Type 0} (old m new : DbValue D) (f : FramesValue D) (p q r u : Pass) (n : ℕ)
    → IsResting old p → m.frames.journal ≡ old.frames.journal → HasPinned f m.frames q n → PassRises p q
    → q.room ≡ p.room → r.room ≡ q.room → q.shown ≤ r.shown → PassRises r u → u.room ≡ r.room → IsPassOf new.frames u
    → TakesSnapshot old new p u
snapshot_after {D} old m new f p q r u n session same pinned rises room kept shown last room' of =
    let all : n ≡ flushed_of old =
    pinned.commits ∙ ap (λ (j : JournalValue D). j.flushed) same in
    record {
      before = session.is_pass.shown;
      then = (omega (arith, rises.shown, shown, last.shown), of.shown);
      up = λ up. omega (arith, all, pinned.shown, shown, last.shown);
      room = room' ∙ kept ∙ room;
    }

-- it logs nothing
pub only_reads : {D : Type 0} (device : Disk D) (old new : DbValue D) → Goes device old new []
    → OnlyReads device old new
only_reads device old new path = record {
  nothing = λ t. grows_by_none device t path tt;
  log = stands_then device path;
  state = (path_state device path).state;
}

-- a snapshot that is in use
pub is_reading : {D : Type 0} (f : FramesValue D) (m : DbValue D) (q : Pass) (n : ℕ) → IsPassOf m.frames q
    → HasPinned f m.frames q n → q.held ≡ 0 → IsReading m q n
is_reading f m q n of pinned none = record {
  is_pass = of;
  taken = λ no. let e = sym no ∙ pinned.pin in let z : ⊥ = cc in z;
  snapshot = subst (λ (o : Option Pinned). IfSome o (λ p. p.commits ≡ n)) (sym pinned.pin) refl;
  held = none;
}

-- nothing is done by a store that is down
pub record Rests {D : Type 0} (device : Disk D) (old : DbValue D) (p : Pass) (new : DbValue D) (q : Pass) : Type 0 where
  pub session : IsResting new q
  pub snapshot : TakesSnapshot old new p q
  pub path : Goes device old new []
  pub none : MetNoFault device old new
  pub same : new ≡ old

pub rests : {D : Type 0} (device : Disk D) (old new : DbValue D) (p q : Pass) (f : ℕ) → IsResting old p → IsDown old f
    → new ≡ old → q ≡ p → Rests device old p new q
rests {D} device old new p q f session down same still =
    subst (λ (s : DbValue D). Rests device old p s q) (sym same)
    (subst (λ (r : Pass). Rests device old p old r) (sym still) (record {
      session = session;
      snapshot = down_takes old p f session.is_pass.shown down;
      path = stays;
      none = fault_stays device old;
      same = refl;
    }))

module _ {D : Type 0} (device : Disk D) (old m s new : DbValue D) (begins : Goes device old m [])
    (reads : Goes device m s []) (ends : Goes device s new []) where
  pub read_path : Goes device old new []
  read_path = goes_on device (goes_on device begins reads) ends

  module _ (same : m.frames.journal ≡ old.frames.journal) (kept : new.frames.journal ≡ s.frames.journal) where
    pub read_told : {T : Type 0} (r : Result T DbError) → FaultIsTold device m s r → FaultIsTold device old new r
    read_told r told =
        told_still device old s new r
        (told_in_turn device old m s r (time_of device begins) (kept_fault device old m same) told) kept

    module _ (n : ℕ) (up : IsUp old) (all : n ≡ flushed_of old) where
      pub found : (P : Vector → Type 0) (r : Result (Vec Name Global) DbError)
          → IfOk r (λ names. FindsAll device m n P names.items) → IfErr r (λ e. CannotFind device m e)
          → FaultIsTold device old new r → HasFound device old new P r
      found P (Ok names) finds why told = (
        up,
        λ tells first H f.
            subst (λ (k : ℕ). IsFound P (docs (take k H)) names.items) all
            (finds tells first H (stays_for device tells begins tt first H f)),
      )
      found P (Err DiskFault) finds why told = told
      found P (Err (BadPage p)) finds why told = (up, (why.0, goes_on device begins why.1, why.2.1))
      found P (Err OutOfMemory) finds why told = up
      found P (Err NoDocument) finds why told = absurd why
      found P (Err (Conflict y)) finds why told = absurd why
      found P (Err StoreFull) finds why told = absurd why
      found P (Err LogFull) finds why told = absurd why
      found P (Err XidsSpent) finds why told = absurd why
      found P (Err (Down f)) finds why told = absurd why

      pub listed : (r : Result (Vec CommitNames Global) DbError)
          → IfOk r (λ names. ListsAll device m n names.items) → IfErr r (λ e. CannotList e)
          → FaultIsTold device old new r → HasListed device old new r
      listed (Ok names) finds why told = (
        up,
        λ tells first H f.
            subst (λ (k : ℕ). AreCommitNames names.items (take k H)) all
            (finds tells first H (stays_for device tells begins tt first H f)),
      )
      listed (Err DiskFault) finds why told = absurd why
      listed (Err (BadPage p)) finds why told = absurd why
      listed (Err OutOfMemory) finds why told = up
      listed (Err NoDocument) finds why told = absurd why
      listed (Err (Conflict y)) finds why told = absurd why
      listed (Err StoreFull) finds why told = absurd why
      listed (Err LogFull) finds why told = absurd why
      listed (Err XidsSpent) finds why told = absurd why
      listed (Err (Down f)) finds why told = absurd why
