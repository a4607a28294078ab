-- A pass that may put items into the trees.
use Rattle.std.specs.Prelude.{◌≡◌, ℕ}
use Rattle.buffer_frames.specs.Frames.{FramesValue}
use Rattle.buffer_frames.specs.Passes.{IsPassOf, IsRightFree}
use Rattle.buffer_frames.specs.declared.pass.Pass.{Pass}
use Rattle.gin_place.specs.Placing.{HasRight}

-- it is a pass of the frames of this room, has the right of maintenance, and holds no page
pub record Works {D : Type 0} (f : FramesValue D) (pass : Pass) (room : ℕ) : Type 0 where
  pub is_pass : IsPassOf f pass
  pub right : HasRight pass
  pub none : pass.held ≡ 0
  pub room_is : pass.room ≡ room

-- it is a pass of this room, holds no page, and may get the right
pub record MayWork {D : Type 0} (f : FramesValue D) (pass : Pass) (room : ℕ) : Type 0 where
  pub is_pass : IsPassOf f pass
  pub free : IsRightFree f
  pub none : pass.held ≡ 0
  pub room_is : pass.room ≡ room
