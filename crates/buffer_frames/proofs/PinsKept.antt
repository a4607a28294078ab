-- Snapshots that are taken and given up, and what a pass then sees.
use Rattle.std.proofs.Common.{◌≡◌, ◌⊎◌, ◌≤◌, ℕ, List, length, sym, subst, ◌∙◌, inl, inr, arith}
use Rattle.std.specs.Prelude.{Option, Some, None, IfSome, slice_set, slice_get}
use Rattle.disk_trait.specs.declared.device.Disk.{Ghosts as Disk}
use Rattle.wal.specs.Waiting.{down_of}
use Rattle.core_state.specs.Log.{Log}
use Rattle.core_state.specs.Legal.{IsLegal, Keeps}
use Rattle.core_state.specs.States.{StateTells, state_of}
use Rattle.core_state.proofs.RunningOnes.{same_or_other}
use Rattle.core_state.proofs.StateTold.{state_told}
use Rattle.snap_pins.specs.Taken.{IsPinned, IsFree, IsTaken, IsLeast}
use Rattle.snap_pins.specs.declared.Pin.{Pin as PinInUse}
use Rattle.buffer_frames.specs.Journals.{JournalValue}
use Rattle.buffer_frames.specs.Journals as journals
use Rattle.buffer_frames.specs.Frames.{FramesValue, KeepsPins, Stands, AreFrames, pin_of}
use Rattle.buffer_frames.specs.Passes.{in_use, IsPassOf, PassRises, Seen}
use Rattle.buffer_frames.specs.declared.home.Home.{Home}
use Rattle.buffer_frames.specs.declared.pass.Pass.{Pass}
use Rattle.buffer_frames.specs.declared.pass.Pinned.{Pinned}
use Rattle.buffer_frames.proofs.AtHand.{log_length, cut_whole}
use Rattle.buffer_frames.proofs.FramesKept.{framed}
use Rattle.buffer_frames.proofs.GrowingCommits.{flushed_since}
use Rattle.buffer_frames.proofs.LastingStates.{told_alike}
use Rattle.buffer_frames.proofs.PassesOf.{set_at, set_else, some_one, least_above}

module _ {D : Type 0} (device : Disk D) where
  pub pinned_stands : (j : JournalValue D) (pins : List (Option PinInUse)) (homes : List Home) (place : ℕ)
      → IsFree pins place → (R : Log) → Stands device (framed j pins homes) R
      → Stands device (framed j (slice_set pins place (Some
      (record { commits = j.flushed; length = j.state.records }))) homes) R
  pinned_stands j pins homes place free R s = record {
    journal = s.journal;
    homes = s.homes;
    pins = λ t up legal. record {
      each = λ k p is. elim (same_or_other k place) [
        | inl e ↦
            let at : slice_get (slice_set pins place (Some new)) place ≡ Some (Some p) = subst
            (λ (i : ℕ). slice_get (slice_set pins place (Some new)) i ≡ Some (Some p)) e is in
            let same : p ≡ new = some_one p new (some_one (Some p) (Some new)
            (sym at ∙ set_at pins place (Some new) None free)) in
            subst (λ (q : PinInUse). Keeps R (pin_of q)) (sym same)
            (subst (λ (n : ℕ). Keeps R (record { commits = j.flushed; length = n }))
            (sym (log_length device j R s.journal)) (s.pins t up legal).now)
        | inr d ↦ (s.pins t up legal).each k p (set_else pins place k (Some new) (Some p) d is)
      ];
      now = (s.pins t up legal).now;
    };
  }
    where
      new : PinInUse
      new = record { commits = j.flushed; length = j.state.records }

  pub unpinned_stands : (j : JournalValue D) (pins : List (Option PinInUse)) (homes : List Home) (place : ℕ)
      → IsTaken pins place → (R : Log) → Stands device (framed j pins homes) R
      → Stands device (framed j (slice_set pins place None) homes) R
  unpinned_stands j pins homes place taken R s = record {
    journal = s.journal;
    homes = s.homes;
    pins = λ t up legal. record {
      each = λ k p is. elim (same_or_other k place) [
        | inl e ↦ absurd (
            let at : slice_get (slice_set pins place None) place ≡ Some (Some p) = subst
            (λ (i : ℕ). slice_get (slice_set pins place None) i ≡ Some (Some p)) e is in
            let same : Some p ≡ None = some_one (Some p) None (sym at ∙ set_at pins place None (Some taken.0) taken.1)
            in
            let z : ⊥ = cc in z)
        | inr d ↦ (s.pins t up legal).each k p (set_else pins place k None (Some p) d is)
      ];
      now = (s.pins t up legal).now;
    };
  }

  pub pins_since : (j j' : JournalValue D) (pins : List (Option PinInUse)) (homes : List Home)
      → (down_of j'.wal ≡ None → down_of j.wal ≡ None)
      → (j'.flushed ≡ j.flushed) ⊎ (j'.flushed ≡ length j.state.deleted)
      → (R : Log) → device.tells → down_of j'.wal ≡ None → Stands device (framed j pins homes) R → IsLegal R
      → KeepsPins R pins j'.flushed
  pins_since j j' pins homes back flushed R t up s legal =
      let k = s.pins t (back up) legal in
      record { each = k.each; now = (flushed_since device R j j' s.journal legal k.now flushed).1 }

  -- the same frames over a journal of other records that count
  pub flushed_stands : (j j' : JournalValue D) (pins : List (Option PinInUse)) (homes : List Home)
      → ((R : Log) → journals.IsJournalOf device j R → journals.IsJournalOf device j' R)
      → (down_of j'.wal ≡ None → down_of j.wal ≡ None)
      → (j'.flushed ≡ j.flushed) ⊎ (j'.flushed ≡ length j.state.deleted)
      → (R : Log) → Stands device (framed j pins homes) R → Stands device (framed j' pins homes) R
  flushed_stands j j' pins homes stands back flushed R s = record {
    journal = stands R s.journal;
    homes = λ t up legal. s.homes t (back up) legal;
    pins = λ t up legal. pins_since j j' pins homes back flushed R t up s legal;
  }

  -- a pass that has seen all knows the state
  pub state_seen : (f : FramesValue D) (pass : Pass) → pass.seen ≡ f.journal.state.records
      → Seen device f pass (λ S P. StateTells S f.journal.state)
  state_seen f pass all t up R s legal P shown =
      subst (λ (S : Log). StateTells S f.journal.state)
      (sym (cut_whole pass.seen R (all ∙ log_length device f.journal R s.journal)))
      (told_alike R f.journal.state (state_of f.journal.state.pages f.journal.state.xid_limit R) s.journal.state
      (state_told f.journal.state.pages f.journal.state.xid_limit R legal))

-- a pass that sees all rises
pub rises_seen : {D : Type 0} (f : FramesValue D) (pass : Pass) (floor since : ℕ)
    → IsLeast f.pins (λ p. p.commits) f.journal.flushed floor
    → IsLeast f.pins (λ p. p.length) f.journal.state.records since → IsPassOf f pass
    → PassRises pass (record pass { seen = f.journal.state.records; floor = floor; since = since })
rises_seen f pass floor since low short of = record {
  seen = of.seen;
  shown = omega arith;
  floor = least_above f.pins (λ p. p.commits) f.journal.flushed floor pass.floor low of.now.0
      (λ place p is. (of.below place p is).0);
  since = least_above f.pins (λ p. p.length) f.journal.state.records since pass.since short of.now.1
      (λ place p is. (of.below place p is).1);
}

pub unpinned_frames : {D : Type 0} (device : Disk D) (j : JournalValue D) (pins : List (Option PinInUse))
    (homes : List Home) (place : ℕ) → IsTaken pins place → AreFrames device (framed j pins homes)
    → AreFrames device (framed j (slice_set pins place None) homes)
unpinned_frames device j pins homes place taken are = record {
  log = are.log;
  stands = unpinned_stands device j pins homes place taken are.log are.stands;
  some = are.some;
  pages = are.pages;
}

pub pinned_frames : {D : Type 0} (device : Disk D) (j : JournalValue D) (pins : List (Option PinInUse))
    (homes : List Home) (place : ℕ) → IsFree pins place → AreFrames device (framed j pins homes)
    → AreFrames device (framed j (slice_set pins place
    (Some (record { commits = j.flushed; length = j.state.records }))) homes)
pinned_frames device j pins homes place free are = record {
  log = are.log;
  stands = pinned_stands device j pins homes place free are.log are.stands;
  some = are.some;
  pages = are.pages;
}

-- a pass's snapshot is in use
pub pin_taken : {D : Type 0} (f : FramesValue D) (pass : Pass) (s : Pinned) → pass.pin ≡ Some s → IsPassOf f pass
    → IsTaken f.pins s.place
pin_taken f pass s is of = go pass.pin is of.pin
  where
    go : (o : Option Pinned) → o ≡ Some s → IfSome o (λ q. IsPinned f.pins q.place (in_use q)
        × (q.length ≤ pass.seen)) → IsTaken f.pins s.place
    go None e p = absurd (let z : ⊥ = cc in z)
    go (Some q) e p = subst (λ (r : Pinned). IsTaken f.pins r.place) (some_one q s e) (in_use q, p.0)

-- the snapshots with a new one, and a pass that has it
abbrev pub new_pins : List (Option PinInUse) → ℕ → ℕ → ℕ → List (Option PinInUse)
new_pins pins place n m = slice_set pins place (Some (record { commits = n; length = m }))

abbrev pub pinned_pass : Pass → ℕ → ℕ → ℕ → Pass
pinned_pass pass place n m = record pass {
  seen = m;
  shown = n;
  pin = Some (record { place = place; commits = n; length = m });
}
