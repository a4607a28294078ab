-- A page that a scan holds, and gives back.
use Rattle.std.specs.Prelude.{◌≡◌, ◌≢◌, ℕ, ⊤, [], ◌∷◌, Result, Ok, Err}
use Rattle.disk_trait.specs.declared.device.Disk.{Ghosts as Disk}
use Rattle.page_types.specs.declared.page.Page.{Page}
use Rattle.core_state.specs.Allowed.{Sheet}
use Rattle.buffer_frames.specs.Frames.{FramesValue, Lies}
use Rattle.buffer_frames.specs.LogCauses.{IsCalm}
use Rattle.buffer_frames.specs.Passes.{IsPassOf, IsHolding, holds_after}
use Rattle.buffer_frames.specs.declared.frame_error.FrameError.{FrameError}
use Rattle.buffer_frames.specs.declared.pass.Pass.{Pass}
use Rattle.gin_scan.specs.Calls.{AddsNothing, KeepsWork, ReadsOn}
use Rattle.gin_scan.specs.declared.scan_core.ScanCore.{ScanCore}
use Rattle.gin_scan.specs.declared.stage.Stage.{Stage}

module _ {D : Type 0} (device : Disk D) where
  -- The pass, which held no page, holds the page with this number, as it lay in memory.
  pub record HoldsOne (old : FramesValue D) (pass : Pass) (page : ℕ) (new : FramesValue D) (pass' : Pass) (x : Sheet)
      : Type 0 where
    pub is_pass : IsPassOf new pass'
    pub holding : IsHolding device new pass' (x ∷ [])
    pub number : x.page ≡ page
    pub lies : Lies old page x.content
    pub others : (p : ℕ) (c : Page) → p ≢ page → Lies old p c → Lies new p c
    pub adds : AddsNothing device old new
    pub keeps : KeepsWork pass pass'
    pub pin : pass'.pin ≡ pass.pin
    pub pins : new.pins ≡ old.pins
    pub holds : pass'.holds ≡ holds_after pass.holds
    pub calm : IsCalm device old.journal new.journal

  -- One page was read, and no write failed.
  pub record HasReadOne (old : FramesValue D) (pass : Pass) (new : FramesValue D) (pass' : Pass) : Type 0 where
    pub reads : ReadsOn device old pass new pass'
    pub calm : IsCalm device old.journal new.journal
    pub holds : pass'.holds ≡ holds_after pass.holds

  -- The page that is held is given back.
  abbrev pub GivesBack : FramesValue D → Pass → Sheet → FramesValue D → Pass → Type 0
  GivesBack held pass x new pass' =
      (old : FramesValue D) (before : Pass) (page : ℕ) → HoldsOne old before page held pass x
      → HasReadOne old before new pass'

-- A page more was read, and what was found of it is read next; or it was refused, and so is this.
abbrev pub TurnsBy : Result Stage FrameError → ScanCore → ScanCore → Result ⊤ FrameError → Type 0
TurnsBy (Ok z) old new r =
    (r ≡ Ok tt) × (new ≡ record old { stage = z; pages_read = holds_after old.pages_read })
TurnsBy (Err e) old new r = (r ≡ Err e) × (new.took_pin ≡ old.took_pin)
