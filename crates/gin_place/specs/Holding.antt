-- Calls that log nothing, and the pages that are held after them.
use Rattle.std.specs.Prelude.{◌≡◌, List, [], ◌∷◌, ℕ}
use Rattle.disk_trait.specs.declared.device.Disk.{Ghosts as Disk}
use Rattle.ts_base.specs.Keys.{Key}
use Rattle.core_state.specs.Allowed.{Sheet}
use Rattle.core_state.specs.Steps.{IsNewSheet}
use Rattle.buffer_frames.specs.Frames.{FramesValue}
use Rattle.buffer_frames.specs.Passes.{IsHolding, Seen}
use Rattle.buffer_frames.specs.declared.pass.Pass.{Pass}
use Rattle.gin_place.specs.Going.{KeepsWays, WorksOn}
use Rattle.gin_place.specs.Placing.{IsRootOf, IsLeft, IsRoomAbove}
use Rattle.gin_place.specs.declared.sought.Sought.{Sought}

module _ {D : Type 0} (device : Disk D) (f : FramesValue D) (pass : Pass) (f' : FramesValue D) (pass' : Pass) where
  -- nothing is logged, and all that was found is so still
  pub record ReadsOn : Type 0 where
    pub works : WorksOn device f pass f' pass' []
    pub ways : KeepsWays device f pass f' pass'
    pub left : (k : Key) (s : Sought) (page n : ℕ) → IsLeft device f pass k s page n
        → IsLeft device f' pass' k s page n
    pub roots : (s : Sought) → IsRootOf device f pass s → IsRootOf device f' pass' s
    pub above : (k : Key) (s : Sought) (parent page : ℕ) → IsRoomAbove device f pass k s parent page
        → IsRoomAbove device f' pass' k s parent page

  -- the same pages are held
  pub record HoldsNoMore : Type 0 where
    pub holding : (held : List Sheet) → IsHolding device f pass held → IsHolding device f' pass' held
    pub held : pass'.held ≡ pass.held

  -- this one more is
  abbrev pub HoldsMore : Sheet → Type 0
  HoldsMore h = (held : List Sheet) → IsHolding device f pass held → IsHolding device f' pass' (h ∷ held)

-- a page that is held is a new one in the log that the pass has seen
abbrev pub IsNewHeld : {D : Type 0} → Disk D → FramesValue D → Pass → Sheet → Type 0
IsNewHeld device f pass h = Seen device f pass (λ S P. IsNewSheet P pass.since h.page h.content)
