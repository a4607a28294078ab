-- How a statement that has begun ends.
use Rattle.std.proofs.Common.{◌≡◌, ◌≢◌, ◌⊎◌, inl, inr, ℕ, List, [], ◌∷◌, ◌++◌, refl, sym, ap, subst, ◌∙◌, arith}
use Rattle.std.specs.Prelude.{Some, None, Result, Ok, Err}
use Rattle.std.proofs.lemmas.List.{length-append}
use Rattle.disk_trait.specs.declared.device.Disk.{Ghosts as Disk}
use Rattle.page_types.specs.declared.record.Record.{Record}
use Rattle.buffer_frames.specs.Frames.{Stands}
use Rattle.buffer_frames.specs.Passes.{IsPassOf}
use Rattle.buffer_frames.specs.declared.pass.Pass.{Pass}
use Rattle.engine.specs.Finding.{Name}
use Rattle.engine.specs.Work.{Work, keys_by, commit_of, IsBegunWork, IsCommitOf, IsNext, AreCommitted, AreRefused}
use Rattle.engine.specs.Work.{AreAborted}
use Rattle.engine.specs.Standing.{HasGrown}
use Rattle.engine.specs.Going.{Goes, TimeGoesOn, MetFault, MetNoFault, FaultIsTold}
use Rattle.engine.specs.Causes.{SoFar, HasNoRoomFor, IsDue, AreDue, LacksLogForAbort}
use Rattle.engine.specs.Answers.{HasLogged, HasCommitted, IsRefused, HasRefused, WereThere}
use Rattle.engine.specs.Db.{DbValue, IsUp}
use Rattle.engine.specs.Inner.Parts.{IsLeft, GivesUp, IsNotEnded, EndsAs, TellsRefusal}
use Rattle.engine.specs.Inner.Doing.{HasDone, HasStopped, IsNotDone}
use Rattle.engine.specs.declared.transaction.Transaction.{Transaction}
use Rattle.engine.specs.declared.error.DbError.{DbError}
use Rattle.engine.specs.declared.error.DbError.TheVariants.{NoDocument, Conflict, StoreFull, LogFull, XidsSpent, Down}
use Rattle.engine.specs.declared.error.DbError.TheVariants.{DiskFault, BadPage, OutOfMemory}
use Rattle.core_state.proofs.PageLists.{in_either}
use Rattle.engine.proofs.Due.{due_around}
use Rattle.engine.proofs.Paths.{goes_on, goes_still, time_of, time_in_turn, none_in_turn, fault_in_turn, fault_still}
use Rattle.engine.proofs.Paths.{told_none}
use Rattle.engine.proofs.Logs.{log_shown, stands_then}
use Rattle.engine.proofs.Growing.{stays_for, grows_by_none, commit_grows, commits_told}
use Rattle.engine.proofs.Works.{begun_only, begun_done, begin_plain, work_plain, refused_plain}
use Rattle.engine.proofs.Causing.{HasBegun, refuse_with, may_start, named_one, there_of, refuses_not_done}

module _ {D : Type 0} (device : Disk D) where
  -- what a path logs, as a contract shows it
  pub logged_by : {old new : DbValue D} {rs : List Record} (Are : List Record → Type 0) → Goes device old new rs
      → Are rs → HasLogged device old new Are
  logged_by {old} {new} {rs} Are p are R s =
      let owes = old.frames.journal.owes in
      let shown = log_shown owes rs R in (
        rs,
        shown.0,
        are,
        subst (Stands device new.frames) shown.1 (stands_then device p R s),
        shown.2,
      )

  -- a path of a refused statement that is aborted, or not begun
  pub is_refused : {old new : DbValue D} {rs : List Record} (w : Work) (answer : DbError) → Goes device old new rs
      → AreAborted w rs → IsRefused device old new w answer
  is_refused {old} {new} {rs} w answer p are = record {
    nothing = λ t. grows_by_none device t p (refused_plain w rs (AreRefused.ended are));
    logged = logged_by (AreRefused w) p (AreRefused.ended are);
    aborted = inl (rs, are, p);
  }

  -- and of one whose Abort is refused
  is_left : {old new : DbValue D} {rs : List Record} (w : Work) (answer : DbError) (x : ℕ) → Goes device old new rs
      → IsBegunWork w x rs
      → (answer ≡ DiskFault) ⊎ ((answer ≡ OutOfMemory) ⊎ LacksLogForAbort device old w new)
      → IsRefused device old new w answer
  is_left {old} {new} {rs} w answer x p is why = record {
    nothing = λ t. grows_by_none device t p (refused_plain w rs (AreRefused.left x is));
    logged = logged_by (AreRefused w) p (AreRefused.left x is);
    aborted = inr why;
  }

  abbrev pub TellsErr : (T : Type 0) → DbValue D → DbValue D → DbError → Type 0
  TellsErr T a b e = let r : Result T DbError = Err e in FaultIsTold device a b r

  -- a store that is up after a call has met no fault
  up_told : (T : Type 0) (a b : DbValue D) (e : DbError)
      → TellsErr T a b e → IsUp b → MetNoFault device a b
  up_told T a b DiskFault met up =
      let e : Some (device.fault_count b.frames.journal.disk) ≡ None = sym met.down ∙ up in
      absurd (let z : ⊥ = cc in z)
  up_told T a b NoDocument met up = met
  up_told T a b (Conflict y) met up = met
  up_told T a b StoreFull met up = met
  up_told T a b LogFull met up = met
  up_told T a b XidsSpent met up = met
  up_told T a b (Down f) met up = met
  up_told T a b (BadPage p) met up = met
  up_told T a b OutOfMemory met up = met

  pub fault_told : (T : Type 0) (a b : DbValue D) (e : DbError) → TellsErr T a b e → e ≡ DiskFault → MetFault device a b
  fault_told T a b e told is = subst (TellsErr T a b) is told

  none_told : (T : Type 0) (a b : DbValue D) (e : DbError) → e ≢ DiskFault → MetNoFault device a b → TellsErr T a b e
  none_told T a b e off none =
      let r : Result T DbError = Err e in
      told_none device r (λ is. off (let same : e ≡ DiskFault = cc in same)) none

  module _ (old s : DbValue D) (t : Transaction) (w : Work) (B : HasBegun device old s t w) where
    -- ── the work was refused ──

    -- why it was left, where the store was up, or a fault is answered
    left_why : (d new : DbValue D) (answer : DbError) (begun : List Record) → IsBegunWork w t.xid begun
        → Goes device old d begun → IsUp d ⊎ (answer ≡ DiskFault) → IsLeft device d new t.xid answer
        → (answer ≡ DiskFault) ⊎ ((answer ≡ OutOfMemory) ⊎ LacksLogForAbort device old w new)
    left_why d new answer begun is p up (IsLeft.failed at) = inl at
    left_why d new answer begun is p up (IsLeft.memory at) = inr (inl at)
    left_why d new answer begun is p up (IsLeft.full u r first last abort over) = inr (inr (record {
      store = u;
      xid = t.xid;
      records = begun;
      goes = goes_still device p first;
      begun = is;
      why = (r, abort, over, last);
    }))
    left_why d new answer begun is p (inl up) (IsLeft.down f down) =
        let z : None ≡ Some f = sym up ∙ down in absurd (let y : ⊥ = cc in y)
    left_why d new answer begun is p (inr at) (IsLeft.down f down) = inl at

    gives_up : (d new : DbValue D) (answer : DbError) (begun : List Record) → IsBegunWork w t.xid begun
        → Goes device old d begun → IsUp d ⊎ (answer ≡ DiskFault) → GivesUp device d new t.xid answer
        → IsRefused device old new w answer
    gives_up d new answer begun is p up (inl (q, why)) =
        is_left w answer t.xid (goes_still device p q) is (left_why d new answer begun is p up why)
    gives_up d new answer begun is p up (inr a) =
        is_refused w answer (goes_on device p a.2) (AreAborted.aborted t.xid begun a.0 is a.1 refl)

    stopped : (d new : DbValue D) (answer : DbError) → HasStopped device s d t.xid w → IsUp d ⊎ (answer ≡ DiskFault)
        → GivesUp device d new t.xid answer → IsRefused device old new w answer
    stopped d new answer (inl q) up gone =
        gives_up d new answer (B.first ∷ [])
        (begun_only w t.xid B.first B.is_begin (named_one device old new w s t B)) (goes_on device B.goes q) up gone
    stopped d new answer (inr a) up gone =
        gives_up d new answer (B.first ∷ a.0) (B.is_begin, a.1) (goes_on device B.goes a.2) up gone

    -- the work met no fault, where none is its refusal
    work_none : (T : Type 0) (d : DbValue D) (r : DbError) → r ≢ DiskFault → TellsErr T s d r → MetNoFault device s d
    work_none T d DiskFault off told = absurd (off refl)
    work_none T d NoDocument off told = told
    work_none T d (Conflict y) off told = told
    work_none T d StoreFull off told = told
    work_none T d LogFull off told = told
    work_none T d XidsSpent off told = told
    work_none T d (Down f) off told = told
    work_none T d (BadPage p) off told = told
    work_none T d OutOfMemory off told = told

    -- so the store was up, or the refusal is the fault
    up_or_fault : (T : Type 0) (d : DbValue D) (r : DbError) → IsUp s → TellsErr T s d r → IsUp d ⊎ (r ≡ DiskFault)
    up_or_fault T d DiskFault up told = inr refl
    up_or_fault T d NoDocument up told = inl (told.down ∙ up)
    up_or_fault T d (Conflict y) up told = inl (told.down ∙ up)
    up_or_fault T d StoreFull up told = inl (told.down ∙ up)
    up_or_fault T d LogFull up told = inl (told.down ∙ up)
    up_or_fault T d XidsSpent up told = inl (told.down ∙ up)
    up_or_fault T d (Down f) up told = inl (told.down ∙ up)
    up_or_fault T d (BadPage p) up told = inl (told.down ∙ up)
    up_or_fault T d OutOfMemory up told = inl (told.down ∙ up)

    pub refused : (T : Type 0) (d new : DbValue D) (r e : DbError) → IsUp s → HasStopped device s d t.xid w
        → IsNotDone device s t w r → TellsErr T s d r → GivesUp device d new t.xid e → TellsRefusal device d new r e
        → HasRefused device old new w e × TellsErr T old new e
    refused T d new r e up stop why told gone (TellsRefusal.same none rests) =
        let met : r ≡ DiskFault → MetFault device old new = λ is.
        fault_still device (fault_in_turn device (time_of device B.goes) B.met (fault_told T s d r told is))
        (rests is) in (
          refuse_with device old new w r (refuses_not_done device old new w s t B r up met why)
              (stopped d new r stop (up_or_fault T d r up told) gone),
          told_so r told met none,
        )
      where
        all_none : MetNoFault device s d → MetNoFault device d new → MetNoFault device old new
        all_none a b = none_in_turn device B.met (none_in_turn device a b)

        told_so : (q : DbError) → TellsErr T s d q → (q ≡ DiskFault → MetFault device old new)
            → MetNoFault device d new → TellsErr T old new q
        told_so DiskFault a met none = met refl
        told_so NoDocument a met none = all_none a none
        told_so (Conflict y) a met none = all_none a none
        told_so StoreFull a met none = all_none a none
        told_so LogFull a met none = all_none a none
        told_so XidsSpent a met none = all_none a none
        told_so (Down f) a met none = all_none a none
        told_so (BadPage p) a met none = all_none a none
        told_so OutOfMemory a met none = all_none a none
    refused T d new r e up stop why told gone (TellsRefusal.failed met) =
        let before : MetNoFault device old d = none_in_turn device B.met (up_told T s d r told met.up) in
        let time = time_in_turn device (time_of device B.goes) (stop_time stop) in
        let all : MetFault device old new = fault_in_turn device time before met in
        ((all, inl (stopped d new DiskFault stop (inl met.up) gone)), all)
      where
        stop_time : HasStopped device s d t.xid w → TimeGoesOn device s d
        stop_time (inl q) = time_of device q
        stop_time (inr a) = time_of device a.2
    refused T d new r e up stop why told gone (TellsRefusal.memory off none) =
        let before = work_none T d r off told in (
          (B.up, stopped d new OutOfMemory stop (inl (before.down ∙ up)) gone),
          none_in_turn device B.met (none_in_turn device before none),
        )

    -- ── the work was done ──

    module _ (d : DbValue D) (pass : Pass) (name : Name)
        (done : HasDone device s d pass t w (commit_of w name)) (of : IsPassOf d.frames pass)
        (xid : pass.xid ≡ Some t.xid) (none : MetNoFault device s d) where
      done_path : Goes device old d (B.first ∷ done.records)
      done_path = goes_on device B.goes done.goes

      done_none : MetNoFault device old d
      done_none = none_in_turn device B.met none

      committed_path : (new : DbValue D) (e : Record) → Goes device d new (e ∷ [])
          → Goes device old new (B.first ∷ (done.records ++ e ∷ []))
      committed_path new e p = goes_on device done_path p

      are_committed : (e : Record) → IsCommitOf t.xid e → AreCommitted w (B.first ∷ (done.records ++ e ∷ []))
      are_committed e is = (t.xid, B.first, e, done.records, B.is_begin, done.are_work, is, refl)

      are_due : (e : Record) → IsCommitOf t.xid e
          → AreDue device old (keys_by w.inserts) (B.first ∷ (done.records ++ e ∷ []))
      are_due e is r (inl at) =
          subst (IsDue device old (keys_by w.inserts) (B.first ∷ (done.records ++ e ∷ [])))
          (sym (ap (λ (z : Record). z.kind) at ∙ (B.is_begin).kind_is)) tt
      are_due e is r (inr i) = elim (in_either r done.records (e ∷ []) i) [
        | inl j ↦
            due_around device old s (keys_by w.inserts) (B.first ∷ []) done.records (e ∷ []) B.goes r.kind
            (done.due r j)
        | inr (inl at) ↦
            subst (IsDue device old (keys_by w.inserts) (B.first ∷ (done.records ++ e ∷ [])))
            (sym (ap (λ (z : Record). z.kind) at ∙ is.kind_is)) tt
        | inr (inr z) ↦ absurd z
      ]

      grown : (new : DbValue D) (e : Record) → IsCommitOf t.xid e → Goes device d new (e ∷ []) → device.tells
          → HasGrown device old new (commit_of w name ∷ [])
      grown new e is p tells found H f =
          commit_grows device tells found H d new pass t.xid (commit_of w name) e of xid done.changed is p
          (stays_for device tells done_path
          (begin_plain t.xid B.first B.is_begin, work_plain w t.xid done.records done.are_work) found H f)

      pub committed : {T : Type 0} (new : DbValue D) (pass' : Pass) (a g : T) → WereThere device old new w
          → (let x : Result T DbError = Ok a in let y : Result T DbError = Ok g in EndsAs device d new pass' t.xid x y)
          → HasCommitted device old new pass' w name × MetNoFault device old new
      committed new pass' a g were ends =
          let e : Record = ends.1.0 in
          let met : MetNoFault device old new = none_in_turn device done_none ends.6 in (
            record {
              up = B.up;
              still_up = ends.2;
              is_flushed = ends.3;
              xids = B.xids;
              there = there_of device old new w s t B done.there;
              were_there = were;
              goes = (
                B.first ∷ (done.records ++ e ∷ []),
                are_committed e ends.1.1,
                are_due e ends.1.1,
                committed_path new e ends.1.2,
              );
              logged = logged_by (AreCommitted w) (committed_path new e ends.1.2) (are_committed e ends.1.1);
              grown = grown new e ends.1.1 ends.1.2;
              flushed = λ tells found H f.
                  let told = commits_told device found (H ++ commit_of w name ∷ []) new
                  (grown new e ends.1.1 ends.1.2 tells found H f) in
                  omega (arith, ends.4, told, length-append H (commit_of w name ∷ []));
              shown = ends.5;
              writes = met.writes;
            },
            met,
          )

      fault_of_sum : (new : DbValue D) (e : DbError) → e ≡ DiskFault
          → ((e ≡ DiskFault) × MetFault device d new) ⊎ ((e ≢ DiskFault) × MetNoFault device d new)
          → MetFault device d new
      fault_of_sum new e is (inl m) = m.1
      fault_of_sum new e is (inr m) = absurd (m.0 is)

      given_up : (new : DbValue D) (answer : DbError) → GivesUp device d new t.xid answer
          → IsRefused device old new w answer
      given_up new answer gone = gives_up d new answer (B.first ∷ done.records)
          (begun_done w t.xid B.first B.is_begin done.records done.are_work) done_path
          (inl (done_none.down ∙ B.up)) gone

      not_ended : (new : DbValue D) (e : DbError) → (e ≡ DiskFault → MetFault device d new)
          → IsNotEnded device d new t.xid e → HasRefused device old new w e
      not_ended new e met (IsNotEnded.full l gone) =
          let so_far : SoFar device old w
          (λ (u : DbValue D) (x : ℕ) (rs : List Record). (r : Record) × IsNext w x rs r
          × IsDue device old (keys_by w.inserts) rs r.kind × HasNoRoomFor u r) =
          record {
            store = l.0;
            xid = t.xid;
            records = B.first ∷ done.records;
            goes = goes_still device done_path l.1;
            begun = begun_done w t.xid B.first B.is_begin done.records done.are_work;
            why = (
              l.2.0,
              IsNext.commits B.first done.records l.2.0 B.is_begin done.are_work l.2.1,
              subst (IsDue device old (keys_by w.inserts) (B.first ∷ done.records)) (sym (l.2.1).kind_is) tt,
              l.2.2,
            );
          } in (
            (may_start device old new w s t B, inr (there_of device old new w s t B done.there, so_far)),
            given_up new LogFull gone,
          )
      not_ended new e met (IsNotEnded.memory gone) = (B.up, given_up new OutOfMemory gone)
      not_ended new e met (IsNotEnded.failed gone) =
          (fault_in_turn device (time_of device done_path) done_none (met refl), inl (given_up new DiskFault gone))
      not_ended new e met (IsNotEnded.flush c is p) =
          let m = met refl in (
            fault_in_turn device (time_of device done_path) done_none m,
            inr (
              name,
              record {
                there = there_of device old new w s t B done.there;
                goes = (B.first ∷ (done.records ++ c ∷ []), are_committed c is, committed_path new c p);
                logged = logged_by (AreCommitted w) (committed_path new c p) (are_committed c is);
                grown = grown new c is p;
                down = m.down;
              },
            ),
          )

      pub failed : (T : Type 0) (new : DbValue D) (pass' : Pass) (a : T) (e : DbError)
          → (let x : Result T DbError = Ok a in let y : Result T DbError = Err e in EndsAs device d new pass' t.xid x y)
          → HasRefused device old new w e × TellsErr T old new e
      failed T new pass' a e ends =
          (not_ended new e (λ is. fault_of_sum new e is ends.1) ends.0, told_by ends.1)
        where
          told_by : ((e ≡ DiskFault) × MetFault device d new) ⊎ ((e ≢ DiskFault) × MetNoFault device d new)
              → TellsErr T old new e
          told_by (inl m) =
              subst (TellsErr T old new) (sym m.0)
              (fault_in_turn device (time_of device done_path) done_none m.1)
          told_by (inr m) = none_told T old new e m.0 (none_in_turn device done_none m.1)
