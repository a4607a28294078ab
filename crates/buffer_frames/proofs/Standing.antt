-- What a journal stands for after a flush.
use Rattle.std.proofs.Common.{◌≡◌, ◌⊎◌, inl, inr, ⊎_elim, ℕ, ◌<◌, List, [], ◌∷◌, ◌++◌, length, refl, sym, ◌∙◌, ap}
use Rattle.std.proofs.Common.{subst}
use Rattle.std.specs.Prelude.{Option, Some, None, IfSome}
use Rattle.disk_trait.specs.Files.{Files}
use Rattle.disk_trait.specs.Runs.{images_now, LeavesOnly}
use Rattle.disk_trait.specs.declared.device.Disk.{Ghosts as Disk}
use Rattle.disk_trait.proofs.Runs.{weaker_run}
use Rattle.wal.specs.Batches.{Opens}
use Rattle.wal.specs.Settled.{Settled, BeforeOrAfter}
use Rattle.wal.specs.Waiting.{waiting, end_of, down_of, with_waiting, FlushLeaves, StandsNow}
use Rattle.wal.specs.declared.error.FlushError.{FlushError}
use Rattle.wal.specs.declared.error.FlushError.TheVariants.{DiskFault, Down}
use Rattle.core_state.specs.Log.{Log}
use Rattle.core_state.specs.States.{StateValue, state_of}
use Rattle.core_state.specs.Stores.{AreRecordsOf}
use Rattle.buffer_frames.specs.Counted.{AreNumbered, AreRecords}
use Rattle.buffer_frames.specs.Journals.{JournalValue, lasting, IsJournalOf, commits_in, CountsEither, RestsFrom}
use Rattle.buffer_frames.proofs.Batching.{records_more, records_with}

-- nothing is both up and down
pub not_both : (o : Option ℕ) (f : ℕ) → o ≡ None → o ≡ Some f → ⊥
not_both o f up down = cc

state_same : (v v' : StateValue) (R : Log) → v' ≡ v → lasting v ≡ lasting (state_of v.pages v.xid_limit R)
    → lasting v' ≡ lasting (state_of v'.pages v'.xid_limit R)
state_same v v' R same is =
    subst (λ (x : StateValue). lasting x ≡ lasting (state_of x.pages x.xid_limit R)) (sym same) is

work_same : (w w' : Option ℕ) (R : Log) → w' ≡ w → IfSome w (λ n. RestsFrom n R) → IfSome w' (λ n. RestsFrom n R)
work_same w w' R same rests = subst (λ (o : Option ℕ). IfSome o (λ n. RestsFrom n R)) (sym same) rests

module _ {D : Type 0} (device : Disk D) where
  -- once the log is down, the state alone counts
  pub down_stands : (j j' : JournalValue D) (R : Log) (f : ℕ) → IsJournalOf device j R → j'.state ≡ j.state
      → j'.work ≡ j.work → down_of j'.wal ≡ Some f → IsJournalOf device j' R
  down_stands j j' R f s same work down = record {
    counted = s.counted;
    waits = s.waits;
    all = s.all;
    numbered = s.numbered;
    state = state_same j.state j'.state R same s.state;
    flushed = λ up. absurd (not_both (down_of j'.wal) f up down);
    waiting_is = λ up. absurd (not_both (down_of j'.wal) f up down);
    settled = λ t up. absurd (not_both (down_of j'.wal) f up down);
    work = work_same j.work j'.work R work s.work;
  }

  -- what waited counts
  pub flushed_stands : (j j' : JournalValue D) (R : Log) → IsJournalOf device j R → j'.state ≡ j.state
      → j'.work ≡ j.work → j'.flushed ≡ length j.state.deleted → down_of j.wal ≡ None → waiting j'.wal ≡ []
      → (device.tells → (batches : List (List ℕ)) → Settled device batches (end_of j.wal) j.disk
      → StandsNow device (with_waiting batches (waiting j.wal)) (end_of j'.wal) j.disk j'.disk)
      → IsJournalOf device j' R
  flushed_stands j j' R s same work count up none stands = record {
    counted = R;
    waits = [];
    all = refl;
    numbered = s.numbered;
    state = state_same j.state j'.state R same s.state;
    flushed = λ up'. count ∙ ap (λ (v : StateValue). length v.deleted) s.state
        ∙ ap (λ (v : StateValue). commits_in v R) (sym same);
    waiting_is = λ up'. subst (λ (w : List ℕ). AreRecordsOf w []) (sym none) (record { each = tt; encoded = refl });
    settled = λ t up'.
        let was : (batches : List (List ℕ)) × Settled device batches (end_of j.wal) j.disk
        × AreRecords batches s.counted = s.settled t up in (
          with_waiting was.0 (waiting j.wal),
          (stands t was.0 was.1).0,
          subst (λ (l : Log). AreRecords (with_waiting was.0 (waiting j.wal)) l) (sym s.all)
              (records_with was.0 s.counted s.waits (waiting j.wal) was.2 (s.waiting_is up)
              (subst AreNumbered s.all s.numbered)),
        );
    work = work_same j.work j'.work R work s.work;
  }

  -- an image of a flush has the records that counted, or those that waited too
  counts_either : (j : JournalValue D) (R : Log) (s : IsJournalOf device j R) (batches : List (List ℕ))
      → AreRecords batches s.counted → down_of j.wal ≡ None → (c : Files)
      → BeforeOrAfter batches (waiting j.wal) (images_now device j.disk) c → CountsEither device j.disk s.counted R c
  counts_either j R s batches records up c left = record {
    before = left.before;
    was = left.was;
    pages = left.pages;
    log_is = ⊎_elim (λ (o : Opens c.log batches). inl (record { batches = batches; opens = o; records = records }))
        (λ (o : Opens c.log (batches ++ waiting j.wal ∷ [])). inr (record {
          batches = batches ++ waiting j.wal ∷ [];
          opens = o;
          records = subst (λ (l : Log). AreRecords (batches ++ waiting j.wal ∷ []) l) (sym s.all)
              (records_more batches s.counted s.waits (waiting j.wal) records (s.waiting_is up)
              (subst AreNumbered s.all s.numbered));
        })) left.log;
  }

  pub flush_moments : (o : Option ℕ) (j : JournalValue D) (R : Log) (s : IsJournalOf device j R) (disk' : D)
      → down_of j.wal ≡ o → device.tells → ((f : ℕ) → down_of j.wal ≡ Some f → disk' ≡ j.disk)
      → ((batches : List (List ℕ)) → Settled device batches (end_of j.wal) j.disk
      → (disk' ≡ j.disk) ⊎ ((0 < length (waiting j.wal)) × FlushLeaves device batches (waiting j.wal) j.disk disk'))
      → (disk' ≡ j.disk) ⊎ LeavesOnly device j.disk disk' (CountsEither device j.disk s.counted R)
  flush_moments None j R s disk' up t down moments =
      let was : (batches : List (List ℕ)) × Settled device batches (end_of j.wal) j.disk
      × AreRecords batches s.counted = s.settled t up in
      ⊎_elim (λ (same : disk' ≡ j.disk). inl same)
      (λ (left : (0 < length (waiting j.wal)) × FlushLeaves device was.0 (waiting j.wal) j.disk disk'). inr
      (weaker_run device j.disk disk' (BeforeOrAfter was.0 (waiting j.wal) (images_now device j.disk))
      (CountsEither device j.disk s.counted R) left.1 (counts_either j R s was.0 was.2 up)))
      (moments was.0 was.1)
  flush_moments (Some f) j R s disk' is t down moments = inl (down f is)

  -- a flush was refused
  pub refused_stands : (j j' : JournalValue D) (R : Log) (e : FlushError) (n : ℕ) → IsJournalOf device j R
      → j'.state ≡ j.state → j'.work ≡ j.work → (e ≡ DiskFault) ⊎ ((f : ℕ) × (e ≡ Down f))
      → (e ≡ DiskFault → down_of j'.wal ≡ Some n)
      → ((f : ℕ) → e ≡ Down f → j' ≡ j) → IsJournalOf device j' R
  refused_stands j j' R e n s same work (inl fault) down rests = down_stands j j' R n s same work (down fault)
  refused_stands j j' R e n s same work (inr (f, is)) down rests =
      subst (λ (x : JournalValue D). IsJournalOf device x R) (sym (rests f is)) s
