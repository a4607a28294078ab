-- A look that a scan takes.
use Rattle.std.proofs.Common.{◌≡◌, ℕ, List, [], refl, sym, ap, subst, ◌∙◌, arith}
use Rattle.std.specs.Prelude.{◌↔◌, Result, Ok, Err, IfErr, Option, Some, slice_set}
use Rattle.disk_trait.specs.declared.device.Disk.{Ghosts as Disk}
use Rattle.core_state.specs.Allowed.{Sheet}
use Rattle.snap_pins.specs.Taken.{IsFree}
use Rattle.snap_pins.specs.declared.Pin.{Pin as PinInUse}
use Rattle.gin_opclass.specs.Class.{Meaning}
use Rattle.buffer_frames.specs.Beginnings.{BeginsOn}
use Rattle.buffer_frames.specs.Frames.{FramesValue, RunsOn, KeepsState, KeepsOthers}
use Rattle.buffer_frames.specs.LogCauses.{IsCalm}
use Rattle.buffer_frames.specs.Journals.{JournalValue}
use Rattle.buffer_frames.specs.Passes.{IsPassOf, IsHolding, HasAdded, HasPinned, KeepsPass, KeepsAllButPin, PassRises}
use Rattle.buffer_frames.specs.Passes.{pin_in}
use Rattle.buffer_frames.specs.declared.frame_error.FrameError.{FrameError}
use Rattle.buffer_frames.specs.declared.frame_error.FrameError.TheVariants.{Down}
use Rattle.buffer_frames.specs.declared.pass.Pass.{Pass}
use Rattle.gin_scan.specs.Calls.{AddsNothing, ReadsOn, BeginsReading}
use Rattle.gin_scan.specs.Inner.Looks.{LooksOn}
use Rattle.gin_scan.specs.Inner.Steps.{MayStep}
use Rattle.gin_scan.specs.declared.scan_core.ScanCore.{ScanCore}
use Rattle.gin_scan.proofs.PinCalls.{keeps_work, lie_still, pin_once}
use Rattle.gin_scan.proofs.ReadCalls.{calm_once, adds_once, adds_then, none_added, still_calm, still_works, works_then}
use Rattle.gin_scan.proofs.StepsTaken.{step_taken}

-- the cause of a look that is refused
pub down_told : {T : Type 0} (r : Result T FrameError) (down : Option ℕ)
    → IfErr r (λ (e : FrameError). (f : ℕ) × (e ≡ Down f)) → ((f : ℕ) → (r ≡ Err (Down f)) ↔ (down ≡ Some f))
    → IfErr r (λ (e : FrameError). (f : ℕ) × (e ≡ Down f) × (down ≡ Some f))
down_told (Ok x) down error is = tt
down_told (Err e) down error is = (error.0, error.1, (is error.0).0 (ap Err error.1))

module _ {D : Type 0} (device : Disk D) (a b : FramesValue D) (p q : Pass) where
  pub looks : IsPassOf b q → ((held : List Sheet) → IsHolding device a p held → IsHolding device b q held)
      → HasAdded device a b [] → KeepsPass p q → PassRises p q → RunsOn device a b
      → BeginsOn device a.journal b.journal → KeepsState a b → b.pins ≡ a.pins → KeepsOthers a b []
      → IsCalm device a.journal b.journal → LooksOn device a p b q
  looks of holding added keeps rises runs begins state pins others calm = record {
    is_pass = of;
    holding = holding;
    held = keeps.held;
    holds = keeps.holds;
    pin = keeps.pin;
    pins = pins;
    adds = adds_once device a b (calm_once device a b added state runs begins calm pins);
    lying = lie_still a b others;
    keeps = keeps_work p q keeps.xid keeps.room keeps.work rises;
    calm = calm;
  }

  -- it reads no page
  pub look_reads : p.held ≡ 0 → LooksOn device a p b q → ReadsOn device a p b q
  look_reads none l = record {
    is_pass = l.is_pass;
    held = l.held ∙ none;
    adds = l.adds;
    lying = l.lying;
    keeps = l.keeps;
    one_page = omega (arith, l.holds);
    pin = l.pin;
    pins = l.pins;
  }

  pub look_begins : p.held ≡ 0 → LooksOn device a p b q → BeginsReading device a p b q
  look_begins none l = record {
    is_pass = l.is_pass;
    held = l.held ∙ none;
    adds = l.adds;
    lying = l.lying;
    keeps = l.keeps;
    holds = l.holds;
    calm = l.calm;
  }

-- a snapshot is taken into use after it
pub pin_begins : {D : Type 0} (device : Disk D) (a b c : FramesValue D) (p q r : Pass) (n : ℕ) → p.held ≡ 0
    → LooksOn device a p b q → HasPinned b c r n → IsPassOf c r → KeepsAllButPin device b c q r
    → BeginsReading device a p c r
pin_begins {D} device a b c p q r n none l pinned of k = record {
  is_pass = of;
  held = k.same.0 ∙ l.held ∙ none;
  adds = adds_then device l.adds (adds_once device b c (pin_once device b c r n pinned k.added k.begins k.journal));
  lying = λ m x lies. lie_still b c k.others m x (l.lying m x lies);
  keeps = works_then device p q r l.keeps (keeps_work q r k.same.2 k.same.1 k.right.0 k.rises);
  holds = k.holds ∙ l.holds;
  calm = subst (λ (j : JournalValue D). IsCalm device a.journal j) (sym k.journal) l.calm;
}

-- so it is of the frames before the look
pub pinned_after : {D : Type 0} (a b c : FramesValue D) (r : Pass) (n : ℕ) → b.pins ≡ a.pins → HasPinned b c r n
    → HasPinned a c r n
pinned_after a b c r n same pinned = record {
  place = pinned.place;
  free = subst (λ (ps : List (Option PinInUse)). IsFree ps pinned.place) same pinned.free;
  pins = pinned.pins ∙ ap (λ (ps : List (Option PinInUse)). slice_set ps pinned.place
      (Some (record { commits = n; length = c.journal.state.records }))) same;
  pin = pinned.pin;
  commits = pinned.commits;
  shown = pinned.shown;
  seen = pinned.seen;
}

-- nothing was asked
pub still_looks : {D : Type 0} (device : Disk D) (a : FramesValue D) (p : Pass) → IsPassOf a p → LooksOn device a p a p
still_looks device a p of = record {
  is_pass = of;
  holding = λ held h. h;
  held = refl;
  holds = refl;
  pin = refl;
  pins = refl;
  adds = AddsNothing.stays;
  lying = λ n c l. l;
  keeps = still_works device p;
  calm = still_calm device a.journal;
}

pub still_begins : {D : Type 0} (device : Disk D) (a : FramesValue D) (p : Pass) → IsPassOf a p → p.held ≡ 0
    → BeginsReading device a p a p
still_begins device a p of none = look_begins device a a p p none (still_looks device a p of)

-- a scan may still take a step then
pub may_still : {D Q : Type 0} (device : Disk D) (M : Meaning Q) (q : Q) (f f' : FramesValue D) (pass pass' : Pass)
    (s : ScanCore) → MayStep device M q f pass s → ReadsOn device f pass f' pass' → MayStep device M q f' pass' s
may_still device M q f f' pass pass' s may reads = record {
  scanning = record {
    is_pass = reads.is_pass;
    held = reads.held;
    is_scan = may.scanning.is_scan;
    pin = may.scanning.pin;
    pinned = ap pin_in reads.pin ∙ may.scanning.pinned;
    snapshot = may.scanning.snapshot;
  };
  asks = may.asks;
  walk = step_taken device M q f f' pass pass' s s may.scanning.is_pass (none_added device f f' reads.adds) reads.pin
      (λ R pin known pinned o. o) may.walk;
}
