-- A flush of a journal, by what its log and its device did.
use Rattle.std.proofs.Common.{◌≡◌, ◌⊎◌, ◌↔◌, ℕ, ◌<◌, List, [], length, refl, sym, ◌∙◌, ap, subst}
use Rattle.std.specs.Prelude.{Bool, Option, Some, None, Result, Ok, Err, IsErrOf}
use Rattle.disk_trait.specs.Runs.{LeavesOnly}
use Rattle.disk_trait.specs.declared.device.Disk.{Ghosts as Disk}
use Rattle.wal.specs.Waiting.{waiting, end_of, limit_of, down_of, with_waiting, StandsNow, FlushLeaves}
use Rattle.wal.specs.Settled.{Settled}
use Rattle.wal.specs.Causes as wal_causes
use Rattle.wal.specs.declared.log.Wal.{Wal}
use Rattle.wal.specs.declared.sizes.TheConstants.{MOST_WAITING}
use Rattle.wal.specs.declared.error.FlushError.{FlushError}
use Rattle.wal.specs.declared.error.FlushError.TheVariants as errors
use Rattle.core_state.specs.Log.{Log}
use Rattle.core_state.specs.States.{StateValue}
use Rattle.buffer_frames.specs.Journals.{JournalValue, IsJournalOf, CountsEither}
use Rattle.buffer_frames.specs.Logging.{IsSameJournal}
use Rattle.buffer_frames.specs.Inner.Refusals.{flush_refusal}
use Rattle.buffer_frames.specs.declared.log_error.LogError.{LogError}
use Rattle.buffer_frames.specs.declared.log_error.LogError.TheVariants.{DiskFault, Down}
use Rattle.buffer_frames.proofs.Standing.{flushed_stands, refused_stands, flush_moments}
use Rattle.buffer_frames.proofs.Refused.{IsKept, up_at_ok, down_by, fault_back, rests_no_fault}

-- what contracts see of these fields
abbrev pub seen_as : {D : Type 0} → D → Wal → StateValue → ℕ → Bool → D → Option ℕ → JournalValue D
seen_as disk wal state flushed owes opened work = record {
  disk = disk;
  wal = wal;
  state = state;
  flushed = flushed;
  owes = owes;
  opened = opened;
  work = work;
}

module _ {D : Type 0} (device : Disk D) where
  -- the flush was done
  pub done_stands : (j : JournalValue D) (disk disk' : D) (wal wal' : Wal) (v : StateValue) (n n' : ℕ) (owes : Bool)
      (opened : D) (work : Option ℕ) (r : Result (Unit {0}) FlushError) (x : Unit {0})
      → seen_as disk wal v n owes opened work ≡ j
      → r ≡ Ok x → ((f : ℕ) → (r ≡ Err (errors.Down f)) ↔ (down_of wal ≡ Some f)) → n' ≡ length v.deleted
      → waiting wal' ≡ []
      → (device.tells → (batches : List (List ℕ)) → Settled device batches (end_of wal) disk
      → StandsNow device (with_waiting batches (waiting wal)) (end_of wal') disk disk')
      → (R : Log) → IsJournalOf device j R → IsJournalOf device (seen_as disk' wal' v n' owes opened work) R
  done_stands j disk disk' wal wal' v n n' owes opened work r x is ok down count none stands R s =
      flushed_stands device (seen_as disk wal v n owes opened work) (seen_as disk' wal' v n' owes opened work) R
      (subst (λ (k : JournalValue D). IsJournalOf device k R) (sym is) s) refl refl count
      (up_at_ok (down_of wal) r x down ok) none stands

  -- and not where the log is down
  pub done_not_down : (j j' : JournalValue D) (disk : D) (wal : Wal) (v : StateValue) (n : ℕ) (owes : Bool) (opened : D)
      (work : Option ℕ)
      (r : Result (Unit {0}) FlushError) (x : Unit {0}) → seen_as disk wal v n owes opened work ≡ j
      → r ≡ Ok x → ((f : ℕ) → (r ≡ Err (errors.Down f)) ↔ (down_of wal ≡ Some f)) → (f : ℕ) → down_of j.wal ≡ Some f → ⊥
  done_not_down j j' disk wal v n owes opened work r x is ok down f at =
      let here : down_of wal ≡ Some f = ap (λ (k : JournalValue D). down_of k.wal) is ∙ at in
      let up : down_of wal ≡ None = up_at_ok (down_of wal) r x down ok in
      let z : ⊥ = cc in z

  -- each moment of it
  pub moments_either : (j : JournalValue D) (disk disk' : D) (wal : Wal) (v : StateValue) (n : ℕ) (owes : Bool)
      (opened : D)
      (work : Option ℕ) → seen_as disk wal v n owes opened work ≡ j → device.tells
      → ((f : ℕ) → down_of wal ≡ Some f → disk' ≡ disk)
      → ((batches : List (List ℕ)) → Settled device batches (end_of wal) disk
      → (disk' ≡ disk) ⊎ ((0 < length (waiting wal)) × FlushLeaves device batches (waiting wal) disk disk'))
      → (R : Log) (s : IsJournalOf device j R)
      → (disk' ≡ j.disk) ⊎ LeavesOnly device j.disk disk' (CountsEither device j.disk s.counted R)
  moments_either j disk disk' wal v n owes opened work is t down moments =
      subst (λ (k : JournalValue D). (R : Log) (s : IsJournalOf device k R)
      → (disk' ≡ k.disk) ⊎ LeavesOnly device k.disk disk' (CountsEither device k.disk s.counted R)) is
      (λ R s. flush_moments device (down_of wal) (seen_as disk wal v n owes opened work) R s disk' refl t down moments)

  -- the flush was refused
  pub undone_stands : (j : JournalValue D) (disk disk' : D) (wal wal' : Wal) (v : StateValue) (n faults : ℕ) (owes
      : Bool) (opened : D) (work : Option ℕ) (r : Result (Unit {0}) FlushError) (e : FlushError)
      → seen_as disk wal v n owes opened work ≡ j
      → r ≡ Err e → (e ≡ errors.DiskFault) ⊎ ((f : ℕ) × (e ≡ errors.Down f))
      → ((f : ℕ) → (r ≡ Err (errors.Down f)) ↔ (down_of wal ≡ Some f))
      → wal_causes.GoesDown r faults (down_of wal) (down_of wal')
      → ((f : ℕ) → down_of wal ≡ Some f → (disk' ≡ disk) × (wal' ≡ wal))
      → (R : Log) → IsJournalOf device j R → IsJournalOf device (seen_as disk' wal' v n owes opened work) R
  undone_stands j disk disk' wal wal' v n faults owes opened work r e is at error down goes rests R s =
      refused_stands device (seen_as disk wal v n owes opened work) (seen_as disk' wal' v n owes opened work) R e faults
      (subst (λ (k : JournalValue D). IsJournalOf device k R) (sym is) s) refl refl error
      (λ fault. let here : r ≡ Err errors.DiskFault = cc in subst
      (λ (x : Result (Unit {0}) FlushError). wal_causes.GoesDown x faults (down_of wal) (down_of wal')) here goes)
      (λ f same. let here : r ≡ Err (errors.Down f) = cc in let rest = rests f ((down f).0 here) in
      let disks : disk' ≡ disk = rest.0 in let wals : wal' ≡ wal = rest.1 in cc)

  pub undone_idle : (j : JournalValue D) (disk disk' : D) (wal wal' : Wal) (v : StateValue) (n faults : ℕ)
      (owes : Bool) (opened : D) (work : Option ℕ) (r : Result (Unit {0}) FlushError) (e : FlushError) (e' : LogError)
      → seen_as disk wal v n owes opened work ≡ j
      → r ≡ Err e → e' ≡ flush_refusal e → (waiting wal ≡ [] → (disk' ≡ disk) × (wal' ≡ wal))
      → ((f : ℕ) → (r ≡ Err (errors.Down f)) ↔ (down_of wal ≡ Some f))
      → wal_causes.GoesDown r faults (down_of wal) (down_of wal') → waiting j.wal ≡ []
      → (disk' ≡ j.disk) × (IsErrOf (let s : Result (Unit {0}) LogError = Err e' in s) DiskFault → ⊥)
  undone_idle j disk disk' wal wal' v n faults owes opened work r e e' is at same idle down goes none =
      let here : waiting wal ≡ [] = ap (λ (k : JournalValue D). waiting k.wal) is ∙ none in
      let rest = idle here in (
        rest.0 ∙ ap (λ (k : JournalValue D). k.disk) is,
        λ fault. rests_no_fault r faults (down_of wal) (down_of wal') (ap down_of rest.1) goes down
            (fault_back e e' r at same fault),
      )

  pub undone_down : (j : JournalValue D) (disk : D) (wal : Wal) (v : StateValue) (n : ℕ) (owes : Bool) (opened : D)
      (work : Option ℕ)
      (r : Result (Unit {0}) FlushError) (e : FlushError) (e' : LogError) → seen_as disk wal v n owes opened work ≡ j
      → r ≡ Err e → e' ≡ flush_refusal e → ((f : ℕ) → (r ≡ Err (errors.Down f)) ↔ (down_of wal ≡ Some f)) → (f : ℕ)
      → (let s : Result (Unit {0}) LogError = Err e' in s ≡ Err (Down f)) ↔ (down_of j.wal ≡ Some f)
  undone_down j disk wal v n owes opened work r e e' is at same down =
      subst (λ (k : JournalValue D). (f : ℕ) → (let s : Result (Unit {0}) LogError = Err e' in s ≡ Err (Down f))
      ↔ (down_of k.wal ≡ Some f)) is (down_by e e' (down_of wal) r at same down)

-- an append that was refused leaves the journal as it was
pub kept_journal : {D : Type 0} (j : JournalValue D) (disk disk' : D) (wal wal' : Wal) (v v' : StateValue)
    (n : ℕ) (owes : Bool) (opened : D) (work : Option ℕ) → seen_as disk wal v n owes opened work ≡ j → disk' ≡ disk
    → v' ≡ v
    → limit_of wal' ≡ limit_of wal → IsKept wal wal'
    → IsSameJournal j (seen_as disk' wal' v' n owes opened work)
kept_journal j disk disk' wal wal' v v' n owes opened work is disks states limits kept =
    subst (λ k. IsSameJournal k (seen_as disk' wal' v' n owes opened work)) is (record {
      disk = disks;
      state = states;
      flushed = refl;
      owes = refl;
      work = refl;
      waits = kept.waits;
      end = kept.end;
      limit = limits;
      down = kept.down;
    })

pub few_inside : {D : Type 0} (j : JournalValue D) (disk : D) (wal : Wal) (v : StateValue) (n : ℕ)
    (owes : Bool) (opened : D) (work : Option ℕ) → seen_as disk wal v n owes opened work ≡ j
    → length (waiting j.wal) < MOST_WAITING
    → length (waiting wal) < MOST_WAITING
few_inside j disk wal v n owes opened work is few = subst (λ k. length (waiting k.wal) < MOST_WAITING) (sym is) few
