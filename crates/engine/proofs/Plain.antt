-- A pass that holds no page may log a record that leaves none: it begins a transaction, or ends its own.
use Rattle.std.proofs.Common.{◌≡◌, ◌≢◌, ◌⊎◌, false, inl, inr, ◌<◌, ◌≤◌, ◌-◌, ℕ, suc, [], length, refl, sym, ap}
use Rattle.std.proofs.Common.{subst, ◌∙◌, arith}
use Rattle.std.proofs.Common.{length-drop}
use Rattle.std.specs.Prelude.{◌↔◌, Option, Some, None, Result, Err}
use Rattle.disk_trait.specs.declared.device.Disk.{Ghosts as Disk}
use Rattle.wal.specs.Waiting.{limit_of, length_with}
use Rattle.page_types.specs.declared.record.Kind.{Kind}
use Rattle.page_types.specs.declared.record.Kind.TheVariants as kind
use Rattle.core_state.specs.Log.{Log, In, cut, fate}
use Rattle.core_state.specs.Allowed.{MayLog, Owes, Step}
use Rattle.core_state.specs.Steady.{IsMaintenance}
use Rattle.core_state.specs.Steps.{RunsOwn}
use Rattle.core_state.specs.declared.answers.Fate.TheVariants.{Running}
use Rattle.core_state.proofs.Steps.Transactions.{begin_may, commit_may, abort_may}
use Rattle.buffer_frames.specs.Drawing.{HasEncoding}
use Rattle.buffer_frames.specs.Opens.{IsEarlyKind}
use Rattle.buffer_frames.specs.Frames.{Stands, Behind}
use Rattle.buffer_frames.specs.Passes.{IsPassOf, view_of, xids_of}
use Rattle.buffer_frames.specs.declared.pass.Pass.{Pass}
use Rattle.buffer_frames.proofs.AtHand.{log_length}
use Rattle.buffer_frames.specs.Journals.{IsSpent, is_work, logged_bytes, next_record}
use Rattle.buffer_frames.specs.LogCauses.{LogFullWhere}
use Rattle.buffer_frames.specs.declared.log_error.LogError.{LogError}
use Rattle.buffer_frames.specs.declared.log_error.LogError.TheVariants as logs
use Rattle.buffer_frames.proofs.DrawnRecords.{draws_alike}
use Rattle.engine.specs.Causes.{AreXidsSpent, HasNoRoomFor}
use Rattle.engine.specs.Db.{DbValue, state_of, state_then, fault_of, IsUp}
use Rattle.engine.specs.Inner.Plain.{plain_step, plain_record, CannotLog, MayBePlain}
use Rattle.engine.specs.Inner.Refusals.{log_refusal}
use Rattle.engine.specs.Work.{IsBeginOf, IsCommitOf, IsAbortOf}

-- a log that a pass has seen isn't empty
seen_some : (n : ℕ) (R : Log) → 0 < n → n ≤ length R → cut n R ≢ []
seen_some n R some le none =
    let short : length (cut n R) ≡ 0 = ap length none in
    omega (arith, length-drop (length R - n) R, short, some, le)

-- the pass's own xid
own_xid : (o : Option ℕ) (x : ℕ) → o ≡ Some x → In x (xids_of o)
own_xid o x is = subst (λ (p : Option ℕ). In x (xids_of p)) (sym is) (inl refl)

module _ {D : Type 0} (device : Disk D) (s : DbValue D) (pass : Pass) (x : ℕ) where
  pub plain_encoded : (k : Kind) → MayBePlain device s pass k x → HasEncoding (plain_step k x)
  plain_encoded kind.Begin may = record { kind = tt; few = omega arith; each = tt; once = tt }
  plain_encoded (kind.Commit n) may =
      record { kind = omega (arith, may.1); few = omega arith; each = tt; once = tt }
  plain_encoded kind.Abort may = record { kind = tt; few = omega arith; each = tt; once = tt }
  plain_encoded _ may = absurd may

  pub plain_early : (k : Kind) → MayBePlain device s pass k x → IsEarlyKind k
  plain_early kind.Begin may = tt
  plain_early (kind.Commit n) may = tt
  plain_early kind.Abort may = tt
  plain_early _ may = absurd may

  pub plain_rests : (k : Kind) → MayBePlain device s pass k x → is_work k ≡ false
  plain_rests kind.Begin may = refl
  plain_rests (kind.Commit n) may = refl
  plain_rests kind.Abort may = refl
  plain_rests _ may = absurd may

  -- it begins one where it has none
  pub plain_one : (k : Kind) → MayBePlain device s pass k x → k ≡ kind.Begin → pass.xid ≡ None
  plain_one kind.Begin may is = may.0
  plain_one (kind.Commit n) may is = absurd (let e : ⊥ = cc in e)
  plain_one kind.Abort may is = absurd (let e : ⊥ = cc in e)
  plain_one _ may is = absurd may

  plain_xid : (k : Kind) → MayBePlain device s pass k x
      → (x ≡ 0) ⊎ ((k ≡ kind.Begin) ⊎ In x (xids_of pass.xid))
  plain_xid kind.Begin may = inl may.1
  plain_xid (kind.Commit n) may = inr (inr (own_xid pass.xid x may.0))
  plain_xid kind.Abort may = inr (inr (own_xid pass.xid x may.0))
  plain_xid _ may = absurd may

  plain_not_all : (k : Kind) → MayBePlain device s pass k x → k ≡ kind.Abort → x ≢ 0
  plain_not_all kind.Begin may is none = let e : ⊥ = cc in e
  plain_not_all (kind.Commit n) may is none = let e : ⊥ = cc in e
  plain_not_all kind.Abort may is none = omega (arith, may.1, none)
  plain_not_all _ may is none = may

  -- what the pass owes
  pub plain_owes : (k : Kind) → MayBePlain device s pass k x → IsPassOf s.frames pass → (R : Log)
      → Stands device s.frames R → Owes (view_of s.frames pass R []) (plain_step k x)
  plain_owes k may of R stands = record {
    started = inl (seen_some pass.seen R of.some
        (omega (arith, of.seen, log_length device s.frames.journal R stands.journal)));
    pages = λ p i. absurd i;
    once = tt;
    fits = λ y i. absurd i;
    xid = plain_xid k may;
    work = λ is. absurd (no_work k may is);
    not_all = plain_not_all k may;
  }
    where
      no_work : (k : Kind) → MayBePlain device s pass k x → IsMaintenance k → ⊥
      no_work kind.Begin may is = omega (arith, is.0)
      no_work (kind.Commit n) may is = omega (arith, is.0)
      no_work kind.Abort may is = omega (arith, is.0)
      no_work _ may is = may

  -- what it sees of its own transaction
  own_runs : (R : Log) → pass.xid ≡ Some x → fate (cut pass.seen R) x ≡ Running
      → RunsOwn (view_of s.frames pass R []) x
  own_runs R is runs =
      let here : In x (xids_of pass.xid) = own_xid pass.xid x is in
      record { own = here; begun = λ none. subst (In x) none here; runs = runs }

  -- so the record may be logged
  pub plain_may : (k : Kind) → MayBePlain device s pass k x
      → Behind device s.frames (λ R. MayLog (view_of s.frames pass R []) (plain_step k x))
  plain_may kind.Begin may t up R stands legal =
      begin_may (view_of s.frames pass R []) (plain_step kind.Begin x)
      (λ P seen shown. record { kind_is = refl; after_is = refl })
  plain_may (kind.Commit n) may t up R stands legal =
      commit_may (view_of s.frames pass R []) (plain_step (kind.Commit n) x) (λ P seen shown.
      let had = may.2.1 t up R stands legal P shown in
      record {
        number = n;
        kind_is = refl;
        after_is = refl;
        own = own_runs R may.0 had.0;
        indexed = had.2;
      })
  plain_may kind.Abort may t up R stands legal =
      abort_may (view_of s.frames pass R []) (plain_step kind.Abort x) (λ P seen shown.
      record { kind_is = refl; after_is = refl; own = own_runs R may.0 (may.2 t up R stands legal P shown) })
  plain_may _ may t up R stands legal = absurd may

-- ── its record ──

module _ {D : Type 0} (s : DbValue D) (x : ℕ) where
  pub begin_is : x ≡ suc (length (state_then s).fates) → IsBeginOf x (plain_record s kind.Begin 0)
  begin_is drawn = record { xid = sym drawn; kind_is = refl; images = ([], refl, tt, refl) }

  pub commit_is : (n : ℕ) → IsCommitOf x (plain_record s (kind.Commit n) x)
  commit_is n = record {
    xid = refl;
    number = suc (length (state_then s).deleted);
    kind_is = refl;
    images = ([], refl, tt, refl);
  }

  pub abort_is : IsAbortOf x (plain_record s kind.Abort x)
  abort_is = record { xid = refl; kind_is = refl; images = ([], refl, tt, refl) }

-- ── why it isn't logged ──

module _ {D : Type 0} (s : DbValue D) where
  -- the xids are spent after the owed Abort where they were before it
  spent_then : (state_of s).xid_limit ≤ suc (length (state_of s).fates) → AreXidsSpent s
  spent_then many =
      let a = draws_alike s.frames.journal.owes (state_of s) in
      omega (arith, many, a.fates, a.xid_limit)

  spent_before : AreXidsSpent s → (state_of s).xid_limit ≤ suc (length (state_of s).fates)
  spent_before many =
      let a = draws_alike s.frames.journal.owes (state_of s) in
      omega (arith, many, a.fates, a.xid_limit)

  module _ (k : Kind) (x : ℕ) (step : Step) (is : step ≡ plain_step k x) {T : Type 0} (r : Result T LogError)
      (spent : (r ≡ Err logs.XidsSpent) ↔ (IsUp s × IsSpent (state_of s) step.kind)) where
    up_unless : (o : Option ℕ) → ((f : ℕ) → (r ≡ Err (logs.Down f)) ↔ (o ≡ Some f))
        → ((f : ℕ) → r ≡ Err (logs.Down f) → ⊥) → o ≡ None
    up_unless None down none = refl
    up_unless (Some f) down none = absurd (none f ((down f).1 refl))

    pub spent_when : IsUp s → k ≡ kind.Begin → AreXidsSpent s → r ≡ Err logs.XidsSpent
    spent_when up begins many =
        spent.1 (up, (ap (λ (t : Step). t.kind) is ∙ begins, spent_before many))

    pub refused_why : (e : LogError) → r ≡ Err e
        → LogFullWhere (limit_of s.frames.journal.wal)
        (length_with s.frames.journal.wal (logged_bytes s.frames.journal (next_record s.frames.journal step))) r
        → ((f : ℕ) → (r ≡ Err (logs.Down f)) ↔ (fault_of s ≡ Some f)) → CannotLog s k x (log_refusal e)
    refused_why logs.DiskFault at full down = tt
    refused_why logs.LogFull at full down = (
      up_unless (fault_of s) down (λ f other. let z : ⊥ = cc in z),
      subst (λ (t : Step). HasNoRoomFor s (next_record s.frames.journal t)) is
          (subst (LogFullWhere (limit_of s.frames.journal.wal)
          (length_with s.frames.journal.wal (logged_bytes s.frames.journal (next_record s.frames.journal step)))) at
          full),
    )
    refused_why (logs.Down f) at full down = (down f).0 at
    refused_why logs.XidsSpent at full down =
        let many = (spent.0 at).1 in
        (sym (ap (λ (t : Step). t.kind) is) ∙ many.0, spent_then many.1)
    refused_why logs.OutOfMemory at full down = tt
