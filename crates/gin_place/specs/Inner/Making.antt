-- Why no room is made where a page has none.
use Rattle.std.specs.Prelude.{ℕ}
use Rattle.disk_trait.specs.declared.device.Disk.{Ghosts as Disk}
use Rattle.buffer_frames.specs.Frames.{FramesValue}
use Rattle.buffer_frames.specs.declared.pass.Pass.{Pass}
use Rattle.gin_place.specs.Causes.{Finds, IsBadRoom, IsWhy}
use Rattle.gin_place.specs.declared.error.PlaceError.{PlaceError}
use Rattle.gin_place.specs.declared.sought.Sought.{Sought}

-- why the root of a tree does not grow, or this page under this parent is not split, by a call that leaves the frames
-- so
abbrev pub WhyNoRoom : {D : Type 0} → Disk D → Sought → FramesValue D → Pass → ℕ → ℕ → FramesValue D → PlaceError
    → Type 0
WhyNoRoom device s f pass parent page left e = Finds device f pass (IsWhy device (IsBadRoom s parent page) left e)
