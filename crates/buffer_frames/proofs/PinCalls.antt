-- What a call keeps that takes a snapshot into use, or gives it up.
use Rattle.std.proofs.Common.{◌≡◌, ℕ, List, [], refl, sym, subst, arith}
use Rattle.std.specs.Prelude.{Option, None, slice_set}
use Rattle.disk_trait.specs.Runs.{images_now}
use Rattle.disk_trait.specs.declared.device.Disk.{Ghosts as Disk}
use Rattle.core_state.specs.Log.{Log}
use Rattle.snap_pins.specs.Taken.{IsFree, IsTaken}
use Rattle.snap_pins.specs.declared.Pin.{Pin as PinInUse}
use Rattle.buffer_frames.specs.NoStore.{CountedAreOne}
use Rattle.buffer_frames.specs.Journals.{JournalValue}
use Rattle.buffer_frames.specs.Frames.{FramesValue, Stands, AreFrames}
use Rattle.buffer_frames.specs.Passes.{IsPassOf, PassRises, KeepsAllButPin}
use Rattle.buffer_frames.specs.declared.home.Home.{Home}
use Rattle.buffer_frames.specs.declared.pass.Pass.{Pass}
use Rattle.buffer_frames.proofs.FramesKept.{framed, nothing_added, holds_on}
use Rattle.buffer_frames.proofs.JournalKept.{begins_kept, others_kept}
use Rattle.buffer_frames.proofs.PassesKept.{sees_kept}
use Rattle.buffer_frames.proofs.PassesOf.{of_pinned, of_unpinned}
use Rattle.buffer_frames.proofs.PinsKept.{new_pins, pinned_pass, pinned_stands, unpinned_stands}

module _ {D : Type 0} (device : Disk D) (one : CountedAreOne)
    (law : device.tells → (d : D) → images_now device d (device.seen d)) where
  -- other snapshots over the same journal and pages
  keeps_over : (j : JournalValue D) (pins pins' : List (Option PinInUse)) (homes : List Home) (pass pass' : Pass)
      → AreFrames device (framed j pins homes)
      → ((R : Log) → Stands device (framed j pins homes) R → Stands device (framed j pins' homes) R)
      → IsPassOf (framed j pins homes) pass → IsPassOf (framed j pins' homes) pass'
      → (pass'.held ≡ pass.held) × (pass'.room ≡ pass.room) × (pass'.xid ≡ pass.xid) → pass'.work ≡ pass.work
      → pass'.holds ≡ pass.holds → PassRises pass pass'
      → KeepsAllButPin device (framed j pins homes) (framed j pins' homes) pass pass'
  keeps_over j pins pins' homes pass pass' are stands of of' same work holds rises = record {
    sees_on = sees_kept device one law (framed j pins homes) (framed j pins' homes) pass pass' are refl of rises.seen
        of'.seen;
    holding = λ held h.
        holds_on device one law j j pins pins' homes pass pass' held are stands (λ up. up) of' same.0 h;
    added = nothing_added device one law j j pins pins' homes homes are stands refl;
    same = same;
    right = (work, refl);
    holds = holds;
    rises = rises;
    journal = refl;
    begins = begins_kept device j j refl;
    others = others_kept (framed j pins homes) (framed j pins' homes) [] refl;
  }

  -- nothing has changed
  pub keeps_still : (f : FramesValue D) (pass : Pass) → AreFrames device f → IsPassOf f pass
      → KeepsAllButPin device f f pass pass
  keeps_still f pass are of = keeps_over f.journal f.pins f.pins f.homes pass pass are (λ R s. s) of of
      (refl, refl, refl) refl refl
      (record { seen = omega arith; shown = omega arith; floor = omega arith; since = omega arith })

  -- a snapshot is taken into use
  pub keeps_pinned : (f : FramesValue D) (j : JournalValue D) (pins pins' : List (Option PinInUse))
      (homes : List Home) (pass : Pass) (place n m : ℕ) → framed j pins homes ≡ f
      → AreFrames device (framed j pins homes) → IsFree pins place → IsPassOf f pass
      → pins' ≡ new_pins pins place n m → n ≡ j.flushed → m ≡ j.state.records
      → KeepsAllButPin device f (framed j pins' homes) pass (pinned_pass pass place n m)
  keeps_pinned f j pins pins' homes pass place n m view are free of is flushed all =
      let was : IsPassOf (framed j pins homes) pass = subst (λ (g : FramesValue D). IsPassOf g pass) (sym view) of in
      subst (λ (g : FramesValue D). KeepsAllButPin device g (framed j pins' homes) pass (pinned_pass pass place n m))
      view
      (subst (λ (ps : List (Option PinInUse)). KeepsAllButPin device (framed j pins homes) (framed j ps homes) pass
      (pinned_pass pass place n m)) (sym is)
      (subst (λ (k : ℕ). KeepsAllButPin device (framed j pins homes) (framed j (new_pins pins place k m) homes) pass
      (pinned_pass pass place k m)) (sym flushed)
      (subst (λ (k : ℕ). KeepsAllButPin device (framed j pins homes)
      (framed j (new_pins pins place j.flushed k) homes) pass (pinned_pass pass place j.flushed k)) (sym all)
      (keeps_over j pins (new_pins pins place j.flushed j.state.records) homes pass
      (pinned_pass pass place j.flushed j.state.records) are (pinned_stands device j pins homes place free) was
      (of_pinned j pins homes pass place free was) (refl, refl, refl) refl refl
      (record { seen = was.seen; shown = was.shown; floor = omega arith; since = omega arith })))))

  -- a snapshot is given up
  pub keeps_unpinned : (f : FramesValue D) (j : JournalValue D) (pins pins' : List (Option PinInUse))
      (homes : List Home) (pass : Pass) (place : ℕ) → framed j pins homes ≡ f
      → AreFrames device (framed j pins homes) → IsTaken pins place → IsPassOf (framed j pins homes) pass
      → pins' ≡ slice_set pins place None
      → KeepsAllButPin device f (framed j pins' homes) pass (record pass { pin = None })
  keeps_unpinned f j pins pins' homes pass place view are taken of is =
      subst (λ (g : FramesValue D). KeepsAllButPin device g (framed j pins' homes) pass (record pass { pin = None }))
      view
      (subst (λ (ps : List (Option PinInUse)). KeepsAllButPin device (framed j pins homes) (framed j ps homes) pass
      (record pass { pin = None })) (sym is)
      (keeps_over j pins (slice_set pins place None) homes pass (record pass { pin = None }) are
      (unpinned_stands device j pins homes place taken) of (of_unpinned j pins homes pass place taken of)
      (refl, refl, refl) refl refl
      (record { seen = omega arith; shown = omega arith; floor = omega arith; since = omega arith })))
