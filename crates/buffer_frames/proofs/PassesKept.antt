-- What a pass has of a store after each call.
use Rattle.std.proofs.Common.{◌≡◌, ◌≤◌, ◌-◌, ℕ, zero, suc, [], ◌∷◌, length, drop, inr, refl, sym, ap, subst, ◌∙◌, arith}
use Rattle.std.specs.Prelude.{Option, Some, None, IfSome, max}
use Rattle.disk_trait.specs.Runs.{images_now}
use Rattle.disk_trait.specs.declared.device.Disk.{Ghosts as Disk}
use Rattle.wal.specs.Waiting.{down_of}
use Rattle.page_types.specs.declared.record.Record.{Record}
use Rattle.core_state.specs.Log.{Log, Pages, In, Shows, cut}
use Rattle.core_state.specs.Legal.{IsLegal, Pin, Keeps}
use Rattle.core_state.specs.Allowed.{IsAllowed}
use Rattle.core_state.proofs.Newest.{legal_less, keeps_less}
use Rattle.snap_pins.specs.Taken.{IsPinned}
use Rattle.buffer_frames.specs.NoStore.{CountedAreOne}
use Rattle.buffer_frames.specs.Journals.{JournalValue, RestsFrom}
use Rattle.buffer_frames.specs.Journals as journals
use Rattle.buffer_frames.specs.Frames.{FramesValue, AreFrames}
use Rattle.buffer_frames.specs.Passes.{pin_in, in_use, IsPassOf, view_of, SeesOn}
use Rattle.buffer_frames.specs.declared.pass.Pass.{Pass}
use Rattle.buffer_frames.specs.declared.pass.Pinned.{Pinned}
use Rattle.buffer_frames.proofs.AtHand.{cut_length, log_length, pin_kept, Rests, rests_of, with_xid, behind_one}

-- a beginning of a legal log is legal, and keeps the pins that were taken in it
legal_drop : (k : ℕ) (R : Log) → IsLegal R → IsLegal (drop k R)
legal_drop zero R l = l
legal_drop (suc k) [] l = l
legal_drop (suc k) (r ∷ R) l = legal_drop k R (legal_less r R l)

keeps_drop : (k : ℕ) (R : Log) (pin : Pin) → pin.length ≤ length (drop k R) → Keeps R pin → Keeps (drop k R) pin
keeps_drop zero R pin le k = k
keeps_drop (suc n) [] pin le k = k
keeps_drop (suc n) (r ∷ R) pin le k = keeps_drop n R pin le (keeps_less r R pin (longer n R pin.length le) k)
  where
    longer : (n : ℕ) (R : Log) (m : ℕ) → m ≤ length (drop n R) → m ≤ length R
    longer zero R m le = le
    longer (suc n) [] m le = le
    longer (suc n) (s ∷ S) m le = omega (arith, longer n S m le)

some_xid : (o : Option ℕ) (n m k : ℕ) → IfSome o (λ x. n ≡ m) → n ≤ k → k ≤ m → IfSome o (λ x. n ≡ k)
some_xid None n m k e le most = tt
some_xid (Some x) n m k e le most = omega (arith, e, le, most)

pin_before : (o : Option Pinned) (n k : ℕ) (R : Log) → IfSome o (λ p. p.length ≤ n) → n ≤ length (drop k R)
    → IfSome (pin_in o) (Keeps R) → IfSome (pin_in o) (Keeps (drop k R))
pin_before None n k R within le keeps = tt
pin_before (Some p) n k R within le keeps = keeps_drop k R (record { commits = p.commits; length = p.length })
    (omega (arith, within, le)) keeps

in_drop : (k : ℕ) (R : Log) (r : Record) → In r (drop k R) → In r R
in_drop zero R r i = i
in_drop (suc k) [] r i = i
in_drop (suc k) (x ∷ R) r i = inr (in_drop k R r i)

rests_before : (o : Option ℕ) (seen k : ℕ) (R : Log) → IfSome o (λ at. RestsFrom (max at seen) R)
    → IfSome o (λ at. RestsFrom (max at seen) (drop k R))
rests_before None seen k R rests = tt
rests_before (Some at) seen k R rests = λ r i. rests r (in_drop k R r i)

pub pin_within : {D : Type 0} (f : FramesValue D) (pass : Pass) → IsPassOf f pass
    → IfSome pass.pin (λ p. p.length ≤ pass.seen)
pin_within f pass of = go pass.pin of.pin
  where
    go : (o : Option Pinned) → IfSome o (λ p. IsPinned f.pins p.place (in_use p) × (p.length ≤ pass.seen))
        → IfSome o (λ p. p.length ≤ pass.seen)
    go None p = tt
    go (Some x) p = p.1

-- a beginning of the log that goes on from what the pass has seen is allowed to it
pub sees_at : {D : Type 0} (f : FramesValue D) (pass : Pass) (n : ℕ) (R : Log) → IsLegal R → pass.seen ≤ n
    → n ≤ length R → IfSome pass.xid (λ x. pass.seen ≡ length R) → IfSome pass.pin (λ p. p.length ≤ pass.seen)
    → IfSome (pin_in pass.pin) (Keeps R) → Rests pass R
    → (P : Pages) → Shows (cut n R) P → IsAllowed (view_of f pass (cut n R) []) (cut n R)
sees_at f pass n R legal le most all within keeps rests P shown =
    let size : length (cut n R) ≡ n = cut_length n R most in
    with_xid f pass pass.xid (cut n R) P [] refl (legal_drop (length R - n) R legal) shown tt
    (omega (arith, size, le)) (pin_before pass.pin pass.seen (length R - n) R within (omega (arith, size, le))
    keeps)
    (some_xid pass.xid pass.seen (length R) (length (cut n R)) all (omega (arith, size, le))
    (omega (arith, size, most))) (rests_before pass.work pass.seen (length R - n) R rests)

-- so what a pass sees goes on from what it had seen, in a call that logs nothing
module _ {D : Type 0} (device : Disk D) (one : CountedAreOne)
    (law : device.tells → (d : D) → images_now device d (device.seen d)) where
  pub sees_after : (f f' : FramesValue D) (pass pass' : Pass) → AreFrames device f
      → ((R : Log) → journals.IsJournalOf device f.journal R → journals.IsJournalOf device f'.journal R)
      → (down_of f'.journal.wal ≡ None → down_of f.journal.wal ≡ None) → IsPassOf f pass
      → pass.seen ≤ pass'.seen → pass'.seen ≤ f.journal.state.records → SeesOn device f' pass pass'
  sees_after f f' pass pass' are stands back of le most =
      behind_one device one law f' (λ (R : Log). (P : Pages) → Shows (cut pass'.seen R) P
      → IsAllowed (view_of f' pass (cut pass'.seen R) []) (cut pass'.seen R)) are.log (stands are.log
      (are.stands).journal)
      (λ t up legal P shown.
      let long : f.journal.state.records ≡ length are.log = log_length device f.journal are.log (are.stands).journal in
      sees_at f' pass pass'.seen are.log legal le (omega (arith, most, long))
      (subst (λ (n : ℕ). IfSome pass.xid (λ x. pass.seen ≡ n)) long of.all) (pin_within f pass of)
      (pin_kept f pass are.log ((are.stands).pins t (back up) legal) of)
      (rests_of device f pass are.log (are.stands).journal of) P shown)

  pub sees_kept : (f f' : FramesValue D) (pass pass' : Pass) → AreFrames device f → f'.journal ≡ f.journal
      → IsPassOf f pass → pass.seen ≤ pass'.seen → pass'.seen ≤ f.journal.state.records → SeesOn device f' pass pass'
  sees_kept f f' pass pass' are e of le most =
      sees_after f f' pass pass' are (λ R s. subst (λ (j : JournalValue D). journals.IsJournalOf device j R) (sym e) s)
      (λ up. sym (ap (λ (j : JournalValue D). down_of j.wal) e) ∙ up) of le most
