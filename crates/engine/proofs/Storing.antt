-- What a statement that changes documents answers, from its parts.
use Rattle.std.proofs.Common.{◌≡◌, inl, inr, List, [], ◌∷◌, ◌++◌, refl, sym, subst, ◌∙◌, arith}
use Rattle.std.specs.Prelude.{Option, Some, None, Result, Ok, Err, OnOk, OnErr, IfOk, IfErr, IfSome}
use Rattle.std.specs.List.{All}
use Rattle.std.proofs.lemmas.List.Elements.{All-nil, All-cons}
use Rattle.disk_trait.specs.declared.device.Disk.{Ghosts as Disk}
use Rattle.page_types.specs.declared.record.Record.{Record}
use Rattle.core_state.specs.History.{Commit}
use Rattle.buffer_frames.specs.Passes.{IsPassOf}
use Rattle.buffer_frames.specs.declared.pass.Pass.{Pass}
use Rattle.engine.specs.Finding.{Name}
use Rattle.engine.specs.Work.{Work, commit_of, deleted_by, deleting, IsBeginOf}
use Rattle.engine.specs.Going.{Goes, MetNoFault, FaultIsTold}
use Rattle.engine.specs.Causes.{IsListed, AreXidsSpent}
use Rattle.engine.specs.Answers.{TakesSnapshot, HasCommitted, HasRefused, HasStored, HasDeleted, WereThere}
use Rattle.engine.specs.Db.{DbValue, flushed_of, IsUp}
use Rattle.engine.specs.Inner.Parts.{IsRunning, KeepsWork, KeepsRoom, HasChanged, CannotBegin, GivesUp, IsNotEnded}
use Rattle.engine.specs.Inner.Parts.{EndsAs}
use Rattle.engine.specs.Inner.Doing.{HasDone, HasStopped, IsNotDone}
use Rattle.engine.specs.declared.transaction.Transaction.{Transaction}
use Rattle.engine.specs.declared.error.DbError.{DbError}
use Rattle.engine.proofs.Paths.{goes_on}
use Rattle.engine.proofs.Causing.{HasBegun, refuse_with, refuses_begin}
use Rattle.engine.proofs.Listing.{listed_is_there}
use Rattle.engine.proofs.Statements.{is_refused, TellsErr, fault_told, refused, committed, failed}

-- ── the pass ──

pub snapshot_on : {D : Type 0} (old s new : DbValue D) (p q r u : Pass) → TakesSnapshot old s p q → KeepsWork q r
    → KeepsRoom r u → IsPassOf new.frames u → TakesSnapshot old new p u
snapshot_on old s new p q r u takes work room of = record {
  before = takes.before;
  then = (omega (arith, takes.then.0, work.shown, room.shown), of.shown);
  up = λ up. let le = takes.up up in omega (arith, le, work.shown, room.shown);
  room = room.room ∙ work.room ∙ takes.room;
}

module _ {D : Type 0} (device : Disk D) where
  -- ── a statement begins ──

  listed_all : (old : DbValue D) (o : Option Name) → IfSome o (λ n. IsListed old n)
      → All (IsListed old) (deleted_by o)
  listed_all old None l = All-nil (IsListed old)
  listed_all old (Some n) l = All-cons (IsListed old) n [] l (All-nil (IsListed old))

  pub has_begun : (old s : DbValue D) (t : Transaction) (w : Work) → t.snapshot ≡ flushed_of old
      → (b : Record) × IsBeginOf t.xid b × Goes device old s (b ∷ [])
      → IsUp old × (AreXidsSpent old → ⊥) × IfSome w.deletes (λ n. IsListed old n) → MetNoFault device old s
      → HasBegun device old s t w
  has_begun old s t w snapshot begun may met = record {
    up = may.0;
    listed = listed_all old w.deletes may.2;
    xids = may.1;
    snapshot = snapshot;
    first = begun.0;
    is_begin = begun.1;
    goes = begun.2;
    met = met;
  }

  pub not_begun : (T : Type 0) (old new : DbValue D) (w : Work) (e : DbError) → Goes device old new []
      → CannotBegin device old new w.deletes e → TellsErr device T old new e → HasRefused device old new w e
  not_begun T old new w e p why told =
      refuse_with device old new w e (refuses_begin device old new w e (fault_told device T old new e told) why)
      (is_refused device w e p (Rattle.engine.specs.Work.AreAborted.none refl))

  -- ── it ends ──

  -- what has changed, where the work is done
  pub changed_some : (s d : DbValue D) (pass : Pass) (t : Transaction) (w : Work) (r : Result Name DbError)
      → IfOk r (λ n. HasDone device s d pass t w (commit_of w n))
      → OnOk r ((c : Commit) × HasChanged device d pass t.xid c)
  changed_some s d pass t w (Ok n) done = (commit_of w n, done.changed)
  changed_some s d pass t w (Err e) done = tt

  pub removed_some : (s d : DbValue D) (pass : Pass) (t : Transaction) (n : Name) (r : Result (Unit {0}) DbError)
      → OnOk r (HasDone device s d pass t (deleting n) (commit_of (deleting n) n))
      → OnOk r ((c : Commit) × HasChanged device d pass t.xid c)
  removed_some s d pass t n (Ok u) done = (commit_of (deleting n) n, done.changed)
  removed_some s d pass t n (Err e) done = tt

  pub stopped_none : (s d : DbValue D) (t : Transaction) (n : Name) (r : Result (Unit {0}) DbError)
      → OnErr r (Goes device s d []) → OnErr r (HasStopped device s d t.xid (deleting n))
  stopped_none s d t n (Ok u) p = tt
  stopped_none s d t n (Err e) p = inl p

  -- what work is answered, where the document that it inserts gets a name
  abbrev pub Answers : (T : Type 0) → (T → Name) → DbValue D → DbValue D → Pass → Work → Result T DbError → Type 0
  Answers T name old new pass w (Ok a) = HasCommitted device old new pass w (name a)
  Answers T name old new pass w (Err e) = HasRefused device old new w e

  -- a store that was up is so where its work was done
  pub up_after : {T : Type 0} (s d : DbValue D) (r : Result T DbError) → IsUp s → FaultIsTold device s d r
      → OnOk r (IsUp d)
  up_after s d (Ok x) up met = met.down ∙ up
  up_after s d (Err e) up met = tt

  pub stored : (old new : DbValue D) (pass : Pass) (w : Work) (r : Result Name DbError)
      → Answers Name (λ n. n) old new pass w r → HasStored device old new pass w r
  stored old new pass w (Ok n) a = a
  stored old new pass w (Err e) a = a

  pub deleted : (n : Name) (old new : DbValue D) (pass : Pass) (w : Work) (r : Result (Unit {0}) DbError)
      → Answers (Unit {0}) (λ u. n) old new pass w r → HasDeleted device old new pass w r
  deleted n old new pass w (Ok u) a = (n, a)
  deleted n old new pass w (Err e) a = a

  module _ (T : Type 0) (name : T → Name) (old s d new : DbValue D) (pass pass' : Pass) (t : Transaction) (w : Work)
      (B : HasBegun device old s t w) (up : IsUp s) (run : IsRunning device d pass t) where
    were_there : WereThere device old new w
    were_there tells found H f = λ k n lt. listed_is_there device tells found H old f B.up _ (B.listed k n lt)

    pub answers : (r q : Result T DbError)
        → IfOk r (λ a. HasDone device s d pass t w (commit_of w (name a))) → OnErr r (HasStopped device s d t.xid w)
        → IfErr r (λ e. IsNotDone device s t w e) → FaultIsTold device s d r → EndsAs device d new pass' t.xid r q
        → Answers T name old new pass' w q × FaultIsTold device old new q
    answers (Ok a) (Ok g) done stop why told ends =
        let c =
        committed device old s t w B d pass (name a) done run.is_pass run.xid told new pass' a g were_there ends in
        (subst (λ (x : T). HasCommitted device old new pass' w (name x)) (sym ends.0) c.0, c.1)
    answers (Ok a) (Err e) done stop why told ends =
        failed device old s t w B d pass (name a) done run.is_pass run.xid told T new pass' a e ends
    answers (Err r) (Ok g) done stop why told ends = absurd ends
    answers (Err r) (Err e) done stop why told ends =
        refused device old s t w B T d new r e up stop why told ends.0 ends.1

    abbrev SomePath : DbValue D → DbValue D → Type 0
    SomePath a b = (rs : List Record) × Goes device a b rs

    gone_path : (e : DbError) → GivesUp device d new t.xid e → SomePath d new
    gone_path e (inl p) = ([], p.0)
    gone_path e (inr a) = (a.0 ∷ [], a.2)

    not_ended_path : (e : DbError) → IsNotEnded device d new t.xid e → SomePath d new
    not_ended_path e (IsNotEnded.full l gone) = gone_path _ gone
    not_ended_path e (IsNotEnded.memory gone) = gone_path _ gone
    not_ended_path e (IsNotEnded.failed gone) = gone_path _ gone
    not_ended_path e (IsNotEnded.flush c is p) = (c ∷ [], p)

    end_path : (r q : Result T DbError) → EndsAs device d new pass' t.xid r q → SomePath d new
    end_path (Ok a) (Ok g) ends = (ends.1.0 ∷ [], ends.1.2)
    end_path (Ok a) (Err e) ends = not_ended_path e ends.0
    end_path (Err r) (Ok g) ends = absurd ends
    end_path (Err r) (Err e) ends = gone_path e ends.0

    done_path : (r : Result T DbError) → IfOk r (λ a. HasDone device s d pass t w (commit_of w (name a)))
        → OnErr r (HasStopped device s d t.xid w) → SomePath s d
    done_path (Ok a) done stop = (done.records, done.goes)
    done_path (Err e) done (inl p) = ([], p)
    done_path (Err e) done (inr a) = (a.0, a.2)

    pub path : (r q : Result T DbError) → IfOk r (λ a. HasDone device s d pass t w (commit_of w (name a)))
        → OnErr r (HasStopped device s d t.xid w) → EndsAs device d new pass' t.xid r q → SomePath old new
    path r q done stop ends =
        let mid = done_path r done stop in
        let last = end_path r q ends in
        ((B.first ∷ mid.0) ++ last.0, goes_on device (goes_on device B.goes mid.1) last.1)
