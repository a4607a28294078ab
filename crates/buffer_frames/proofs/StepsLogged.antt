-- A step that a pass may log leaves the log legal, which keeps each snapshot in use.
use Rattle.std.proofs.Common.{◌≡◌, ◌≢◌, ◌<◌, ◌≤◌, ◌+◌, ◌^◌, ℕ, suc, Bool, true, false, List, [], length}
use Rattle.std.proofs.Common.{refl, ap, subst, ◌∙◌, arith}
use Rattle.disk_trait.specs.declared.device.Disk.{Ghosts as Disk}
use Rattle.core_state.specs.Log.{Log, In}
use Rattle.core_state.specs.Legal.{IsLegal, Pin, Keeps}
use Rattle.core_state.specs.Allowed.{Sheet, View, IsAllowed, Step, MayLog, Owes}
use Rattle.core_state.specs.Logged.{IsRecordOf, pin_now, StaysLegal}
use Rattle.core_state.specs.States.{StateTells, step_of, state_of}
use Rattle.core_state.proofs.StateTold.{state_told}
use Rattle.core_state.proofs.Steps.Logged.{logged_steps, abort_of_all}
use Rattle.buffer_frames.specs.Drawing.{HasEncoding}
use Rattle.buffer_frames.specs.Journals.{JournalValue, lasting, owed_abort, with_owed, after_owed, next_record, CanDraw}
use Rattle.buffer_frames.specs.Journals as journals
use Rattle.buffer_frames.specs.Opens.{IsLoggedKind}
use Rattle.buffer_frames.specs.Frames.{FramesValue, Stands}
use Rattle.buffer_frames.specs.Passes.{xids_of, IsPassOf, view_of}
use Rattle.buffer_frames.specs.declared.pass.Pass.{Pass}
use Rattle.buffer_frames.proofs.AtHand.{log_length}
use Rattle.buffer_frames.proofs.LastingStates.{alike_step, told_alike}
use Rattle.buffer_frames.proofs.DrawnRecords.{drawn_is_made, owed_is_made}

-- what the owed Abort leaves
pub record OwedStays (v : View) (owes : Bool) (R : Log) (flushed : ℕ) : Type 0 where
  pub legal : IsLegal (with_owed owes R)
  pub keeps : (pin : Pin) → Keeps R pin → Keeps (with_owed owes R) pin
  pub now : Keeps (with_owed owes R) (pin_now flushed (with_owed owes R))
  pub allowed : IsAllowed v (with_owed owes R)

not_zero : (x : ℕ) → In x [] → ⊥
not_zero x i = i

pub owed_stays : (v : View) (owes : Bool) (R : Log) (flushed : ℕ) → R ≢ [] → IsLegal R
    → (owes ≡ true → 1 + length R < 2 ^ 64) → Keeps R (pin_now flushed R) → IsAllowed v R → (owes ≡ true → v.xids ≡ [])
    → (owes ≡ true → v.begun ≡ [])
    → OwedStays v owes R flushed
owed_stays v false R flushed some legal small now a none begun =
    record { legal = legal; keeps = λ pin k. k; now = now; allowed = a }
owed_stays v true R flushed some legal small now a none begun =
    let k = abort_of_all R (owed_abort (1 + length R)) flushed some legal (owed_is_made R legal (small refl)) now in
    record {
      legal = k.0;
      keeps = k.1;
      now = k.2;
      allowed = k.3 v a (begun refl) (λ i. subst (In 0) (none refl) i);
    }

-- the state after it
pub state_owed : {D : Type 0} (device : Disk D) (j : JournalValue D) (R : Log) → journals.IsJournalOf device j R
    → lasting (after_owed j.owes j.state) ≡ lasting (state_of j.state.pages j.state.xid_limit (with_owed j.owes R))
state_owed device j R s = go j.owes
  where
    go : (b : Bool)
        → lasting (after_owed b j.state) ≡ lasting (state_of j.state.pages j.state.xid_limit (with_owed b R))
    go false = s.state
    go true =
        ap (λ (n : ℕ). lasting (step_of (owed_abort (1 + n)) j.state)) (log_length device j R s)
        ∙ alike_step (owed_abort (1 + length R)) j.state (state_of j.state.pages j.state.xid_limit R) s.state

-- the step's record, after a legal log that the frames stand for
pub record StepStays {D : Type 0} (f : FramesValue D) (pass : Pass) (held : List Sheet) (step : Step) (R : Log)
    (flushed : ℕ) : Type 0 where
  pub owed : OwedStays (view_of f pass R held) f.journal.owes R flushed
  pub made : IsRecordOf (with_owed f.journal.owes R) step (next_record f.journal step)
  pub stays : StaysLegal (view_of f pass R held) step (with_owed f.journal.owes R) (owed.allowed).pages
      (next_record f.journal step) flushed

longer_owed : (owes : Bool) (R : Log) → length R ≤ length (with_owed owes R)
longer_owed true R = omega arith
longer_owed false R = omega arith

pub step_stays : {D : Type 0} (device : Disk D) (f : FramesValue D) (pass : Pass) (held : List Sheet) (step : Step)
    (R : Log) (flushed : ℕ) → Stands device f R → IsLegal R → IsPassOf f pass → 0 < f.journal.state.records
    → f.journal.flushed ≤ flushed → Keeps R (pin_now flushed R) → IsAllowed (view_of f pass R held) R
    → MayLog (view_of f pass R held) step → Owes (view_of f pass R held) step → HasEncoding step
    → IsLoggedKind step.kind
    → CanDraw f.journal step → StepStays f pass held step R flushed
step_stays device f pass held step R flushed s legal of some more now a may owes encoded kind can =
    let v : View = view_of f pass R held in
    let long : f.journal.state.records ≡ length R = log_length device f.journal R s.journal in
    let owed : OwedStays v f.journal.owes R flushed =
    owed_stays v f.journal.owes R flushed (λ e. omega (arith, some, long, ap length e)) legal (λ t. small f.journal.owes
    t long can.encoded.number) now a (λ t. ap xids_of (of.none_owed t)) (λ t. ap xids_of (of.none_owed t)) in
    let told : StateTells (with_owed f.journal.owes R) (after_owed f.journal.owes f.journal.state) =
    told_alike (with_owed f.journal.owes R) (after_owed f.journal.owes f.journal.state) (state_of f.journal.state.pages
    f.journal.state.xid_limit (with_owed f.journal.owes R)) (state_owed device f.journal R s.journal)
    (state_told f.journal.state.pages f.journal.state.xid_limit (with_owed f.journal.owes R) owed.legal) in
    let made = drawn_is_made (with_owed f.journal.owes R)
    (after_owed f.journal.owes f.journal.state) step owed.legal told encoded can.encoded can.below kind in
    record {
      owed = owed;
      made = made;
      stays = logged_steps v step (with_owed f.journal.owes R)
          (next_record f.journal step) flushed owed.allowed may owes made owed.now
          (record {
            floor = omega (arith, of.now.0, more);
            since = omega (arith, of.now.1, long, longer_owed f.journal.owes R);
          });
    }
  where
    small : (b : Bool) → b ≡ true → f.journal.state.records ≡ length R
        → suc (after_owed b f.journal.state).records < 2 ^ 64 → 1 + length R < 2 ^ 64
    small true t long fits = omega (arith, long, fits)
    small false t long fits = absurd (let z : ⊥ = cc in z)
