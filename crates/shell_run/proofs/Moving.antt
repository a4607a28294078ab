-- What a statement that comes to the store, or doesn't, does to it.
use Rattle.std.proofs.Common.{◌≡◌, ◌⊎◌, inl, inr, ℕ, ◌≤◌, [], ◌∷◌, ◌++◌, length, arith, refl, sym, ◌∙◌, ap, subst}
use Rattle.std.specs.Prelude.{Some, None, Result, Err, take}
use Rattle.std.proofs.lemmas.List.{append-nil, take_all, take-append-le}
use Rattle.disk_trait.specs.declared.device.Disk.{Ghosts as Disk}
use Rattle.ts_config.specs.Known.{Known}
use Rattle.engine.specs.Finding.{Name, Commit, History, IsInSnapshot, docs, In}
use Rattle.engine.specs.Db.{DbValue, disk_of, fault_of, flushed_of, IsUp, IsFlushed}
use Rattle.engine.specs.Standing.{StandsFor, HasGrown, GoesOn}
use Rattle.engine.specs.Going as going
use Rattle.engine.specs.Going.{FaultIsTold, MetNoFault}
use Rattle.engine.specs.Work.{Work}
use Rattle.engine.specs.Answers.{HasRefused, Refuses, CannotRead}
use Rattle.engine.specs.Cleaning.{CannotClean}
use Rattle.engine.specs.Vacuuming.{CannotVacuum}
use Rattle.engine.specs.declared.error.DbError.{DbError}
use Rattle.engine.specs.declared.error.DbError.TheVariants as errors
use Rattle.shell_script.specs.Grammar.{Statement}
use Rattle.shell_run.specs.Run.{Note, Counts, Reply, refused, down, device as device_fault, IsAnswered, HasOwn, HasSeen}
use Rattle.shell_run.specs.Run.{MetFault, IsDownSince, FindsDown, MayCall, IsOfStore, IsOkOfStore, IsOkOfChange}
use Rattle.shell_run.specs.Run.{MayBeTidied}
use Rattle.shell_run.specs.Refusing.{refusal_for}
use Rattle.shell_run.specs.Caused.{IsCaused, IsTidied}
use Rattle.shell_run.proofs.Runs.{get_last}
use Rattle.shell_run.proofs.OfTexts.{IsTextReply}

-- the note has the statement's own commit, where it adds one to a history
abbrev pub HasNote : History → History → Note → Type 0
HasNote more H note =
    ((more ≡ []) × (note.commit ≡ None))
    ⊎ ((c : Commit) × (more ≡ c ∷ []) × (note.commit ≡ Some (length H)))

-- what counts say of a store that a statement finds so, and leaves so
pub record Tells {D : Type 0} (device : Disk D) (old new : DbValue D) (k : Counts) (note : Note) : Type 0 where
  pub met : going.MetFault device old new → MetFault k note
  pub since : (n : ℕ) → fault_of old ≡ Some n → IsDownSince k n

-- A fault was met exactly where the device is answered, but for one of a cleanup that came by itself.
abbrev pub IsFaultOf : {D : Type 0} → Disk D → DbValue D → DbValue D → Reply → Type 0
IsFaultOf device old new reply =
    (((reply ≡ refused device_fault) ⊎ MayBeTidied reply) × going.MetFault device old new)
    ⊎ ((reply ≡ refused device_fault → ⊥) × MetNoFault device old new)

-- The store as an answer Ok was settled: it was up, had these commits more, and all of them were flushed. From it
-- the new one came by what changes no document.
pub record Rested {D : Type 0} (device : Disk D) (old new : DbValue D) (more : History) : Type 0 where
  pub mid : DbValue D
  pub up : IsUp mid
  pub on : ((mid ≡ old) × (more ≡ [])) ⊎ GoesOn device old mid
  pub grown : device.tells → HasGrown device old mid more
  pub reaches : device.tells → (found H : History) → StandsFor device found old H
      → (IsUp old → length H ≤ flushed_of old) → length (H ++ more) ≤ flushed_of mid
  pub then : (new ≡ mid) ⊎ GoesOn device mid new

-- what a statement that was answered so did to the store
pub record Moves {D : Type 0} (device : Disk D) (old new : DbValue D) (known : Known) (line : ℕ) (statement : Statement)
    (reply : Reply) : Type 0 where
  pub more : History
  pub one : (more ≡ []) ⊎ ((c : Commit) × (more ≡ c ∷ []) × IsUp old)
  pub caused : IsCaused device old new known line statement reply
  pub ok_up : IsOkOfStore reply → IsUp old
  pub finds : FindsDown known statement reply ⊎ IsUp old
  pub fell : (n : ℕ) → reply ≡ refused (down n) → fault_of old ≡ Some n
  pub fault : IsFaultOf device old new reply
  pub flushed : IsOkOfChange reply → (mid : DbValue D) × IsUp mid × IsFlushed mid × IsTidied device reply mid new
  pub rested : IsOkOfStore reply → Rested device old new more
  pub called : MayCall statement reply ⊎ (new ≡ old)
  pub on : ((new ≡ old) × (more ≡ [])) ⊎ GoesOn device old new
  -- of a lawful device
  pub grown : device.tells → HasGrown device old new more
  pub reaches : device.tells → (found H : History) → StandsFor device found old H → IsUp new
      → (IsUp old → length H ≤ flushed_of old) → length (H ++ more) ≤ flushed_of new
  pub answered : device.tells → (found H : History) → StandsFor device found old H
      → (IsUp old → length H ≤ flushed_of old) → (k : Counts) (note : Note) → note.snapshot ≡ length H
      → HasNote more H note → Tells device old new k note
      → IsAnswered k (H ++ more) known line statement reply note

pub none_is : (H : History) (note : Note) → HasNote [] H note → note.commit ≡ None
none_is H note (inl n) = n.1
none_is H note (inr h) = absurd (let x : ⊥ = omega (arith, ap length h.1) in x)

pub own_is : (c : Commit) (H : History) (note : Note) → HasNote (c ∷ []) H note → HasOwn (H ++ c ∷ []) note c
own_is c H note (inl n) = absurd (let x : ⊥ = omega (arith, ap length n.0) in x)
own_is c H note (inr h) = (length H, h.2, get_last H c)

-- what is in the snapshot of all commits is what a statement saw that comes after them
pub all_taken : (H : History) (n : ℕ) → length H ≤ n → take n H ≡ H
all_taken H n le = take_all n H le

pub saw_taken : (H more : History) (note : Note) → note.snapshot ≡ length H → take note.snapshot (H ++ more) ≡ H
saw_taken H more note e =
    ap (λ n. take n (H ++ more)) e ∙ take-append-le (length H) H more (omega arith)
    ∙ take_all (length H) H (omega arith)

module _ (H more : History) (note : Note) (n : ℕ) (e : note.snapshot ≡ length H) (le : length H ≤ n) where
  pub seen_of : (name : Name) → IsInSnapshot H n name → HasSeen (H ++ more) note name
  seen_of name h = (
    h.0,
    subst (λ z. In h.0 (docs z)) (all_taken H n le ∙ sym (saw_taken H more note e)) h.1,
    h.2,
  )

  pub of_seen : (name : Name) → HasSeen (H ++ more) note name → IsInSnapshot H n name
  of_seen name h = (
    h.0,
    subst (λ z. In h.0 (docs z)) (saw_taken H more note e ∙ sym (all_taken H n le)) h.1,
    h.2,
  )

-- the errors by their refusals
pub down_of : (e : DbError) (n : ℕ) → refused (refusal_for e) ≡ refused (down n) → e ≡ errors.Down n
down_of errors.NoDocument n is = cc
down_of (errors.Conflict y) n is = cc
down_of errors.StoreFull n is = cc
down_of errors.LogFull n is = cc
down_of errors.XidsSpent n is = cc
down_of (errors.Down m) n is = let same : m ≡ n = cc in ap (λ z. errors.Down z) same
down_of errors.DiskFault n is = cc
down_of (errors.BadPage p) n is = cc
down_of errors.OutOfMemory n is = cc

module _ {D : Type 0} (device : Disk D) (old new : DbValue D) where
  -- the store is up, or was found down
  abbrev pub IsUpOrDown : DbError → Type 0
  IsUpOrDown e = (IsUp old × ((f : ℕ) → e ≡ errors.Down f → ⊥))
      ⊎ ((f : ℕ) × (e ≡ errors.Down f) × (fault_of old ≡ Some f) × (new ≡ old))

  pub work_up : (w : Work) (e : DbError) → Refuses device old new w e → IsUpOrDown e
  work_up w errors.NoDocument h = inl (h.0, λ f x. cc)
  work_up w (errors.Conflict y) h = inl (h.0.up, λ f x. cc)
  work_up w errors.StoreFull h = inl (h.0.up, λ f x. cc)
  work_up w errors.LogFull h = inl (h.0.up, λ f x. cc)
  work_up w errors.XidsSpent h = inl (h.0, λ f x. cc)
  work_up w (errors.Down m) h = inr (m, refl, h.0, h.1)
  work_up w errors.DiskFault h = inl (h.up, λ f x. cc)
  work_up w (errors.BadPage p) h = inl (h.0, λ f x. cc)
  work_up w errors.OutOfMemory h = inl (h, λ f x. cc)

  pub read_up : (e : DbError) → CannotRead device old new e → IsUpOrDown e
  read_up (errors.Down m) h = inr (m, refl, h.0, h.1)
  read_up errors.DiskFault h = inl (h.up, λ f x. cc)
  read_up (errors.BadPage p) h = inl (h.0, λ f x. cc)
  read_up errors.OutOfMemory h = inl (h, λ f x. cc)
  read_up e h = absurd h

  pub clean_up : (e : DbError) → CannotClean device old new e → IsUpOrDown e
  clean_up (errors.Down m) h = inr (m, refl, h.0, h.1)
  clean_up errors.DiskFault h = inl (h.up, λ f x. cc)
  clean_up errors.StoreFull h = inl (h.0, λ f x. cc)
  clean_up errors.LogFull h = inl (h.0, λ f x. cc)
  clean_up (errors.BadPage p) h = inl (h.0, λ f x. cc)
  clean_up errors.OutOfMemory h = inl (h, λ f x. cc)
  clean_up e h = absurd h

  pub vacuum_up : (e : DbError) → CannotVacuum device old new e → IsUpOrDown e
  vacuum_up (errors.Down m) h = inr (m, refl, h.0, h.1)
  vacuum_up errors.DiskFault h = inl (h.up, λ f x. cc)
  vacuum_up errors.StoreFull h = inl (h.0, λ f x. cc)
  vacuum_up errors.LogFull h = inl (h.0, λ f x. cc)
  vacuum_up (errors.BadPage p) h = inl (h.0, λ f x. cc)
  vacuum_up errors.OutOfMemory h = inl (h, λ f x. cc)
  vacuum_up e h = absurd h

  pub refuses_of : (w : Work) (e : DbError) → HasRefused device old new w e → Refuses device old new w e
  refuses_of w errors.DiskFault h = h.0
  refuses_of w e h = h.0

  -- a call was refused so
  abbrev pub err : (T : Type 0) → DbError → Result T DbError
  err T e = Err e

  fault_of_err : (T : Type 0) (e : DbError) → FaultIsTold device old new (err T e)
      → IsFaultOf device old new (refused (refusal_for e))
  fault_of_err T errors.NoDocument h = inr (λ x. cc, h)
  fault_of_err T (errors.Conflict y) h = inr (λ x. cc, h)
  fault_of_err T errors.StoreFull h = inr (λ x. cc, h)
  fault_of_err T errors.LogFull h = inr (λ x. cc, h)
  fault_of_err T errors.XidsSpent h = inr (λ x. cc, h)
  fault_of_err T (errors.Down m) h = inr (λ x. cc, h)
  fault_of_err T errors.DiskFault h = inl (inl refl, h)
  fault_of_err T (errors.BadPage p) h = inr (λ x. cc, h)
  fault_of_err T errors.OutOfMemory h = inr (λ x. cc, h)

  -- a statement of the store may call the device, or leaves the store
  may_call : (statement : Statement) (e : DbError) → IsOfStore statement → IsUpOrDown e
      → MayCall statement (refused (refusal_for e)) ⊎ (new ≡ old)
  may_call statement (errors.Down m) of (inl u) = absurd (u.1 m refl)
  may_call statement (errors.Down m) of (inr d) = inr d.3
  may_call statement errors.NoDocument of up = inl of
  may_call statement (errors.Conflict y) of up = inl of
  may_call statement errors.StoreFull of up = inl of
  may_call statement errors.LogFull of up = inl of
  may_call statement errors.XidsSpent of up = inl of
  may_call statement errors.DiskFault of up = inl of
  may_call statement (errors.BadPage p) of up = inl of
  may_call statement errors.OutOfMemory of up = inl of

  -- nothing is added, and the store is up at the end: as many commits are flushed
  pub still_reaches : (H : History) → flushed_of old ≤ flushed_of new → (IsUp new → IsUp old) → IsUp new
      → (IsUp old → length H ≤ flushed_of old) → length (H ++ []) ≤ flushed_of new
  still_reaches H b was up low =
      let a : length H ≤ flushed_of old = low (was up) in
      let c : length (H ++ []) ≡ length H = ap length (append-nil H) in
      omega (arith, a, b, c)

  pub was_up : (reply : Reply) → IsFaultOf device old new reply → IsUp new → IsUp old
  was_up reply (inl f) up =
      absurd (let x : None ≡ Some (device.fault_count (disk_of new)) = sym up ∙ f.1.down in let y : ⊥ = cc in y)
  was_up reply (inr f) up = sym f.1.down ∙ up

  -- a statement that didn't come to the store
  pub rests_moves : (known : Known) (line : ℕ) (statement : Statement) (reply : Reply) → new ≡ old → IsTextReply reply
      → FindsDown known statement reply → IsCaused device old new known line statement reply
      → ((k : Counts) (H : History) (note : Note) → note.commit ≡ None → IsAnswered k H known line statement reply note)
      → Moves device old new known line statement reply
  rests_moves known line statement reply same text finds caused answered =
      let none : MetNoFault device old new = record {
        writes = ap (λ z. device.write_fault_count (disk_of z)) same;
        down = ap (λ z. fault_of z) same;
      } in
      let fault : IsFaultOf device old new reply = inr (text.not_fault, none) in
      record {
        more = [];
        one = inl refl;
        caused = caused;
        ok_up = λ ok. absurd (text.not_ok ok);
        finds = inl finds;
        fell = λ n is. absurd (text.not_down n is);
        fault = fault;
        flushed = λ ok. absurd (text.not_done ok);
        rested = λ ok. absurd (text.not_ok ok);
        called = inr same;
        on = inl (same, refl);
        grown = λ t found H h. subst (λ z. StandsFor device found new z) (sym (append-nil H))
            (subst (λ s. StandsFor device found s H) (sym same) h);
        reaches = λ t found H h up low. still_reaches H (let e : flushed_of new ≡ flushed_of old =
            ap (λ z. flushed_of z) same in omega (arith, e)) (was_up reply fault) up low;
        answered = λ t found H h low k note e own tells. answered k (H ++ []) note (none_is H note own);
      }

  -- a store that is up, and as a statement left it
  pub rested_at : (more : History) → IsUp new → ((new ≡ old) × (more ≡ [])) ⊎ GoesOn device old new
      → (device.tells → HasGrown device old new more)
      → (device.tells → (found H : History) → StandsFor device found old H
      → (IsUp old → length H ≤ flushed_of old) → length (H ++ more) ≤ flushed_of new)
      → Rested device old new more
  rested_at more up on grown reaches =
      record { mid = new; up = up; on = on; grown = grown; reaches = reaches; then = inl refl }

  -- a call of the store was refused
  pub err_moves : (T : Type 0) (known : Known) (line : ℕ) (statement : Statement) (e : DbError) (more : History)
      → IsOfStore statement → ((f : ℕ) → FindsDown known statement (refused (down f))) → IsUpOrDown e
      → FaultIsTold device old new (err T e) → GoesOn device old new
      → (more ≡ []) ⊎ ((c : Commit) × (more ≡ c ∷ []) × (e ≡ errors.DiskFault))
      → IsCaused device old new known line statement (refused (refusal_for e))
      → (device.tells → HasGrown device old new more)
      → (device.tells → (found H : History) → StandsFor device found old H
      → (IsUp old → length H ≤ flushed_of old) → (k : Counts) (note : Note) → note.snapshot ≡ length H
      → HasNote more H note → Tells device old new k note
      → IsAnswered k (H ++ more) known line statement (refused (refusal_for e)) note)
      → Moves device old new known line statement (refused (refusal_for e))
  err_moves T known line statement e more of finds up told on one caused grown answered =
      let fault : IsFaultOf device old new (refused (refusal_for e)) = fault_of_err T e told in
      record {
        more = more;
        one = elim one [ inl n ↦ inl n | inr c ↦ inr (c.0, c.1, up_at c.2 up) ];
        caused = caused;
        ok_up = λ ok. absurd ok;
        finds = elim up [
          | inl u ↦ inr u.0
          | inr d ↦ inl (subst (λ z. FindsDown known statement (refused (refusal_for z))) (sym d.1) (finds d.0))
        ];
        fell = λ n is. fell_at n (down_of e n is) up;
        fault = fault;
        flushed = λ ok. absurd ok;
        rested = λ ok. absurd ok;
        called = may_call statement e of up;
        on = inr on;
        grown = grown;
        reaches = λ t found H h still low. reach fault one H still low;
        answered = answered;
      }
    where
      up_at : e ≡ errors.DiskFault → IsUpOrDown e → IsUp old
      up_at is (inl u) = u.0
      up_at is (inr d) = absurd (let x : errors.DiskFault ≡ errors.Down d.0 = sym is ∙ d.1 in let y : ⊥ = cc in y)

      fell_at : (n : ℕ) → e ≡ errors.Down n → IsUpOrDown e → fault_of old ≡ Some n
      fell_at n is (inl u) = absurd (u.1 n is)
      fell_at n is (inr d) =
          let x : errors.Down d.0 ≡ errors.Down n = sym d.1 ∙ is in let same : d.0 ≡ n = cc in
          d.2 ∙ ap (λ z. Some z) same

      reach : IsFaultOf device old new (refused (refusal_for e))
          → (more ≡ []) ⊎ ((c : Commit) × (more ≡ c ∷ []) × (e ≡ errors.DiskFault))
          → (H : History) → IsUp new → (IsUp old → length H ≤ flushed_of old) → length (H ++ more) ≤ flushed_of new
      reach fault (inl n) H still low =
          subst (λ z. length (H ++ z) ≤ flushed_of new) (sym n)
          (still_reaches H on.flushed (was_up (refused (refusal_for e)) fault) still low)
      reach (inl f) (inr c) H still low =
          absurd (let x : None ≡ Some (device.fault_count (disk_of new)) = sym still ∙ f.1.down in let y : ⊥ = cc in y)
      reach (inr f) (inr c) H still low =
          absurd (f.0 (ap (λ z. refused (refusal_for z)) c.2))
