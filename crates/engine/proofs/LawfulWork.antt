-- What the refusal of a statement's work tells of a lawful store, from what its parts tell.
use Rattle.std.proofs.Common.{◌≡◌, ℕ, List, [], sym, subst, ◌∙◌}
use Rattle.std.specs.Prelude.{Option, Some, Result, Ok, Err, IfErr}
use Rattle.std.specs.List.{All}
use Rattle.std.proofs.lemmas.List.Elements.{All-nil, All-cons, All-head}
use Rattle.disk_trait.specs.declared.device.Disk.{Ghosts as Disk}
use Rattle.ts_base.specs.Vectors.{Vector}
use Rattle.ts_base.specs.Keys.{Key}
use Rattle.buffer_frames.specs.declared.pass.Pass.{Pass}
use Rattle.engine.specs.Finding.{Name, History, IsInSnapshot}
use Rattle.engine.specs.Work.{Work, deleted_by, storing}
use Rattle.engine.specs.Going.{MetNoFault}
use Rattle.engine.specs.Standing.{StandsFor}
use Rattle.engine.specs.Causes.{IsListed}
use Rattle.engine.specs.Answers.{IsLawfulRefusal, MeetsNoBadPage}
use Rattle.engine.specs.Db.{DbValue, flushed_of, IsUp}
use Rattle.engine.specs.Inner.Parts.{CannotBegin, IsNotEnded, EndsAs, TellsOfMark, TellsRefusal}
use Rattle.engine.specs.Inner.Indexing.{CannotStore}
use Rattle.engine.specs.Inner.Doing.{HasDone, IsUnseenBy, TellsOfWork, removing, removal}
use Rattle.engine.specs.declared.transaction.Transaction.{Transaction}
use Rattle.engine.specs.declared.error.DbError.{DbError}
use Rattle.engine.specs.declared.error.DbError.TheVariants.{NoDocument, Conflict, StoreFull, LogFull, XidsSpent, Down}
use Rattle.engine.specs.declared.error.DbError.TheVariants.{DiskFault, BadPage, OutOfMemory}
use Rattle.engine.proofs.Causing.{HasBegun}
use Rattle.engine.proofs.Growing.{stays_for}
use Rattle.engine.proofs.Listing.{listed_is_there, there_is_listed}
use Rattle.engine.proofs.Works.{begin_plain, work_plain}

module _ {D : Type 0} (device : Disk D) where
  -- ── its parts ──

  -- a mark
  pub mark_tells : (old : DbValue D) (t : Transaction) (o : Option Name) (n : Name) → o ≡ Some n
      → (r : Result (Unit {0}) DbError) → IfErr r (λ e. TellsOfMark device old t.snapshot n e)
      → IfErr r (λ e. TellsOfWork device old t (removing o) e)
  mark_tells old t o n is (Ok u) told = tt
  mark_tells old t o n is (Err e) told =
      subst (λ (z : Option Name). TellsOfWork device old t (removing z) e) (sym is) (by e told)
    where
      by : (e : DbError) → TellsOfMark device old t.snapshot n e → TellsOfWork device old t (removing (Some n)) e
      by NoDocument unseen = λ tells found H f up all.
          unseen tells found H f up (All-head (IsInSnapshot H t.snapshot) n [] all)
      by (BadPage p) unseen = λ tells found H f up all.
          unseen tells found H f up (All-head (IsInSnapshot H t.snapshot) n [] all)
      by _ unseen = tt

  -- what was told of a mark is told of the whole work
  pub removal_tells : (old : DbValue D) (t : Transaction) (o : Option Name) (v : Vector) (e : DbError)
      → TellsOfWork device old t (removing o) e → TellsOfWork device old t (storing o v) e
  removal_tells old t o v NoDocument told = told
  removal_tells old t o v (BadPage p) told = told
  removal_tells old t o v _ told = tt

  module _ (old mid : DbValue D) (pass : Pass) (t : Transaction) (o : Option Name) (v : Vector)
      (done : HasDone device old mid pass t (removing o) (removal o)) (none : MetNoFault device old mid) where
    put_tells : (bytes : List ℕ) (keys : List Key) (e : DbError) → CannotStore device mid t.xid bytes keys e
        → MeetsNoBadPage device mid e → TellsOfWork device old t (storing o v) e
    put_tells bytes keys NoDocument why told = absurd why
    put_tells bytes keys (BadPage p) why told = λ tells found H f up all.
        told tells found H
        (stays_for device tells done.goes (work_plain (removing o) t.xid done.records done.are_work) found H f)
        (none.down ∙ up)
    put_tells bytes keys _ why told = tt

    -- a document that is put
    pub placing_tells : (bytes : List ℕ) (keys : List Key) (r : Result Name DbError)
        → IfErr r (λ e. CannotStore device mid t.xid bytes keys e) → IfErr r (λ e. MeetsNoBadPage device mid e)
        → IfErr r (λ e. TellsOfWork device old t (storing o v) e)
    placing_tells bytes keys (Ok n) why told = tt
    placing_tells bytes keys (Err e) why told = put_tells bytes keys e why told

  -- ── a statement ──

  abbrev pub AreThereIn : DbValue D → Work → History → Type 0
  AreThereIn old w H = All (IsInSnapshot H (flushed_of old)) (deleted_by w.deletes)

  all_there : (old : DbValue D) (w : Work) → All (IsListed old) (deleted_by w.deletes) → device.tells
      → (found H : History) → StandsFor device found old H → IsUp old → AreThereIn old w H
  all_there old w listed tells found H f up = λ k n at. listed_is_there device tells found H old f up _ (listed k n at)

  missing : (old : DbValue D) (o : Option Name) (n : Name) → o ≡ Some n → (IsListed old n → ⊥) → device.tells
      → (found H : History) → StandsFor device found old H → IsUp old
      → All (λ (m : Name). IsInSnapshot H (flushed_of old) m → ⊥) (deleted_by o)
  missing old o n is off tells found H f up =
      let P = λ (m : Name). IsInSnapshot H (flushed_of old) m → ⊥ in
      subst (λ (z : Option Name). All P (deleted_by z)) (sym is)
      (All-cons P n [] (λ there. off (there_is_listed device tells found H old f up n there)) (All-nil P))

  -- it isn't begun
  pub begin_tells : (old new : DbValue D) (w : Work) (e : DbError) → CannotBegin device old new w.deletes e
      → IsLawfulRefusal device old w e
  begin_tells old new w NoDocument why = λ tells found H f up.
      missing old w.deletes why.1.0 why.1.1 why.1.2 tells found H f up
  begin_tells old new w XidsSpent why = λ tells found H f up. all_there old w why.1 tells found H f up
  begin_tells old new w LogFull why = λ tells found H f up. all_there old w why.1 tells found H f up
  begin_tells old new w (Down fault) why = λ tells found H f up. tt
  begin_tells old new w DiskFault why = λ tells found H f up. tt
  begin_tells old new w OutOfMemory why = λ tells found H f up. tt
  begin_tells old new w (Conflict y) why = absurd why
  begin_tells old new w StoreFull why = absurd why
  begin_tells old new w (BadPage p) why = absurd why

  -- it is begun
  module _ (old s : DbValue D) (t : Transaction) (w : Work) (B : HasBegun device old s t w) where
    unseen_never : IsUnseenBy device s t.snapshot w → device.tells → (found H : History)
        → StandsFor device found old H → ⊥
    unseen_never unseen tells found H f =
        unseen tells found H
        (stays_for device tells B.goes (begin_plain t.xid B.first B.is_begin, tt) found H f) (B.met.down ∙ B.up)
        (subst (λ (k : ℕ). All (IsInSnapshot H k) (deleted_by w.deletes)) (sym B.snapshot)
        (all_there old w B.listed tells found H f B.up))

    work_tells : (e : DbError) → TellsOfWork device s t w e → IsLawfulRefusal device old w e
    work_tells NoDocument told tells found H f up = absurd (unseen_never told tells found H f)
    work_tells (BadPage p) told tells found H f up = unseen_never told tells found H f
    work_tells (Down fault) told tells found H f up = tt
    work_tells DiskFault told tells found H f up = tt
    work_tells OutOfMemory told tells found H f up = tt
    work_tells (Conflict y) told tells found H f up = all_there old w B.listed tells found H f up
    work_tells StoreFull told tells found H f up = all_there old w B.listed tells found H f up
    work_tells LogFull told tells found H f up = all_there old w B.listed tells found H f up
    work_tells XidsSpent told tells found H f up = all_there old w B.listed tells found H f up

    refusal_tells : (d new : DbValue D) (r e : DbError) → TellsOfWork device s t w r → TellsRefusal device d new r e
        → IsLawfulRefusal device old w e
    refusal_tells d new r e told (TellsRefusal.same none rests) = work_tells r told
    refusal_tells d new r e told (TellsRefusal.failed met) = λ tells found H f up. tt
    refusal_tells d new r e told (TellsRefusal.memory off none) = λ tells found H f up. tt

    ending_tells : (d new : DbValue D) (e : DbError) → IsNotEnded device d new t.xid e → IsLawfulRefusal device old w e
    ending_tells d new e (IsNotEnded.full l gone) tells found H f up = all_there old w B.listed tells found H f up
    ending_tells d new e (IsNotEnded.memory gone) tells found H f up = tt
    ending_tells d new e (IsNotEnded.failed gone) tells found H f up = tt
    ending_tells d new e (IsNotEnded.flush c is p) tells found H f up = tt

    -- what the answer of a statement tells, whose work was answered so
    pub end_tells : {T : Type 0} (d new : DbValue D) (pass : Pass) (r q : Result T DbError)
        → IfErr r (λ e. TellsOfWork device s t w e) → EndsAs device d new pass t.xid r q
        → IfErr q (λ e. IsLawfulRefusal device old w e)
    end_tells d new pass (Ok a) (Ok g) told ends = tt
    end_tells d new pass (Err r) (Ok g) told ends = tt
    end_tells d new pass (Ok a) (Err e) told ends = ending_tells d new e ends.0
    end_tells d new pass (Err r) (Err e) told ends = refusal_tells d new r e told ends.1
