-- What pages in memory stand for after a call that logs nothing: a flush, or a step that was refused.
use Rattle.std.proofs.Common.{◌≡◌, ◌⊎◌, ◌<◌, ◌≤◌, ℕ, List, [], length, ap, arith}
use Rattle.std.specs.Prelude.{Option, None}
use Rattle.disk_trait.specs.Runs.{images_now}
use Rattle.disk_trait.specs.declared.device.Disk.{Ghosts as Disk}
use Rattle.wal.specs.Waiting.{down_of}
use Rattle.core_state.specs.Log.{Log}
use Rattle.core_state.specs.Allowed.{Sheet}
use Rattle.core_state.specs.States.{StateValue}
use Rattle.snap_pins.specs.declared.Pin.{Pin as PinInUse}
use Rattle.buffer_frames.specs.NoStore.{CountedAreOne}
use Rattle.buffer_frames.specs.Homes.{HavePages, HasPut}
use Rattle.buffer_frames.specs.Journals.{JournalValue}
use Rattle.buffer_frames.specs.Journals as journals
use Rattle.buffer_frames.specs.Frames.{FramesValue, Stands, AreFrames, KeepsState}
use Rattle.buffer_frames.specs.Passes.{IsPassOf, IsHolding, SeesOn, HasAdded}
use Rattle.buffer_frames.specs.declared.home.Home.{Home}
use Rattle.buffer_frames.specs.declared.pass.Pass.{Pass}
use Rattle.buffer_frames.proofs.Added.{none_added}
use Rattle.buffer_frames.proofs.FramesKept.{framed}
use Rattle.buffer_frames.proofs.PassesKept.{sees_after}
use Rattle.buffer_frames.proofs.PassesOf.{of_flushed}
use Rattle.buffer_frames.proofs.PinsKept.{pins_since, flushed_stands}
use Rattle.buffer_frames.proofs.Released.{put_stands}

-- what such a call says of the journal
pub record IsUnlogged {D : Type 0} (device : Disk D) (j j' : JournalValue D) : Type 0 where
  pub stands : (R : Log) → journals.IsJournalOf device j R → journals.IsJournalOf device j' R
  pub was_up : down_of j'.wal ≡ None → down_of j.wal ≡ None
  pub flushed : (j'.flushed ≡ j.flushed) ⊎ (j'.flushed ≡ length j.state.deleted)
  pub more : j.flushed ≤ j'.flushed
  pub state : j'.state ≡ j.state
  pub owes : j'.owes ≡ j.owes
  pub work : j'.work ≡ j.work

module _ {D : Type 0} (device : Disk D) (one : CountedAreOne)
    (law : device.tells → (d : D) → images_now device d (device.seen d)) (j j' : JournalValue D)
    (pins : List (Option PinInUse)) (homes homes' : List Home) (un : IsUnlogged device j j')
    (are : AreFrames device (framed j pins homes))
    (stands : (R : Log) → Stands device (framed j pins homes) R → Stands device (framed j' pins homes') R) where
  abbrev new : FramesValue D
  new = framed j' pins homes'

  same_length : j'.state.records ≡ j.state.records
  same_length = ap (λ (v : StateValue). v.records) un.state

  pub unlogged_frames : HavePages homes' → AreFrames device new
  unlogged_frames have = record {
    log = are.log;
    stands = stands are.log are.stands;
    some = omega (arith, are.some, same_length);
    pages = have;
  }

  pub nothing_logged : HasAdded device (framed j pins homes) new []
  nothing_logged =
      none_added device one law (framed j pins homes) new are stands un.was_up un.owes same_length

  pub same_state : KeepsState (framed j pins homes) new
  same_state = record { state = un.state; owes = un.owes; work = un.work }

  -- a pass that was shown no more commits than are flushed
  pub unlogged_pass : (pass : Pass) (n shown : ℕ) → n < 5 → shown ≤ j'.flushed
      → IsPassOf (framed j pins homes) pass → IsPassOf new (record pass { held = n; shown = shown })
  unlogged_pass pass n shown few le of =
      of_flushed j j' pins homes homes' pass n shown few un.owes un.more same_length un.work le of

  pub unlogged_sees : (pass : Pass) (n shown : ℕ) → IsPassOf (framed j pins homes) pass
      → SeesOn device new pass (record pass { held = n; shown = shown })
  unlogged_sees pass n shown of =
      sees_after device one law (framed j pins homes) new pass (record pass { held = n; shown = shown }) are un.stands
      un.was_up of (omega arith) of.seen

module _ {D : Type 0} (device : Disk D) (one : CountedAreOne)
    (law : device.tells → (d : D) → images_now device d (device.seen d)) (j j' : JournalValue D)
    (pins : List (Option PinInUse)) (homes : List Home) (un : IsUnlogged device j j') where
  -- a flush
  pub stands_flushed : (R : Log) → Stands device (framed j pins homes) R → Stands device (framed j' pins homes) R
  stands_flushed = flushed_stands device j j' pins homes un.stands un.was_up un.flushed

  -- a step that was refused: what was held lies in memory again
  pub stands_refused : (mid : List Home) (pass : Pass) (held : List Sheet)
      → IsHolding device (framed j pins homes) pass held → HasPut homes mid held → (R : Log)
      → Stands device (framed j pins homes) R → Stands device (framed j' pins mid) R
  stands_refused mid pass held holding put =
      put_stands device one law j j' pins homes mid held un.stands un.was_up
      (pins_since device j j' pins homes un.was_up un.flushed)
      (λ R t up s legal. let a = holding.allowed t up R s legal in (a.pages, a.shown, a.held)) put
