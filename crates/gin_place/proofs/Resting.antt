-- Placing where all items are under the key already.
use Rattle.std.proofs.Common.{◌≡◌, ℕ, List, [], sym, subst}
use Rattle.std.specs.Prelude.{Bool, false, None, Result, Ok}
use Rattle.disk_trait.specs.declared.device.Disk.{Ghosts as Disk}
use Rattle.wal.specs.Waiting.{down_of}
use Rattle.ts_base.specs.Keys.{Key}
use Rattle.core_state.specs.Legal.{IsLegal}
use Rattle.core_state.specs.Log.{Log}
use Rattle.buffer_frames.specs.Frames.{FramesValue, Behind}
use Rattle.buffer_frames.specs.Passes.{IsPassOf}
use Rattle.buffer_frames.specs.declared.pass.Pass.{Pass}
use Rattle.buffer_frames.proofs.Begun.{same_by_none}
use Rattle.gin_place.specs.Going.{WorksOn}
use Rattle.gin_place.specs.Placing.{ArePlaced}
use Rattle.gin_place.specs.Stepping.{HasRested, HasStepped}
use Rattle.gin_place.specs.declared.error.PlaceError.{PlaceError}
use Rattle.gin_place.specs.declared.placing.Placing.{Placing}
use Rattle.gin_place.proofs.Carrying.{reads_still, same_added, works_in_turn}
use Rattle.gin_place.proofs.Kept.{placed_still}

-- nothing was logged, no room is to be made, and the log is up
pub record IsAtRest {D : Type 0} (device : Disk D) (f : FramesValue D) (p : Pass) (g : FramesValue D) (q : Pass)
    (s : Placing) : Type 0 where
  pub works : WorksOn device f p g q []
  pub first : s.making_room ≡ false
  pub up : down_of g.journal.wal ≡ None

module _ {D : Type 0} (device : Disk D) (f : FramesValue D) (p : Pass) (k : Key) (items : List ℕ) where
  -- at the beginning it is so
  pub rests_first : IsPassOf f p → (s : Placing) → s.making_room ≡ false → ArePlaced device f p k items
      → Behind device f (λ (R : Log). IsAtRest device f p f p s)
  rests_first of s first placed t up R stands legal = record {
    works = (reads_still device f p of (same_added device f)).works;
    first = first;
    up = up;
  }

  module _ (g h : FramesValue D) (q r : Pass) (s s' : Placing)
      (was : ArePlaced device f p k items → Behind device f (λ (R : Log). IsAtRest device f p g q s)) where
    -- a step more rests
    pub rests_then : (result : Result Bool PlaceError) → HasStepped device g q h r k items s s' result
        → ArePlaced device f p k items → Behind device f (λ (R : Log). HasRested device f p h r s' result)
    rests_then result step placed t up R stands legal =
        let rest = was placed t up R stands legal in
        let on = rest.works.added.on R stands in
        let same : on.0 ≡ R = same_by_none f.journal.owes R on.0 on.2 in
        let now =
        step.standing (placed_still device f g p q [] rest.works k items placed) rest.first t rest.up on.0 on.1
        (subst IsLegal (sym same) legal) in
        record {
          works = works_in_turn device f g h p q r [] [] rest.works now.works;
          first = now.first;
          up = now.up;
        }

    pub rests_on : (b : Bool) → HasStepped device g q h r k items s s' (Ok b) → ArePlaced device f p k items
        → Behind device f (λ (R : Log). IsAtRest device f p h r s')
    rests_on b step placed t up R stands legal =
        let now = rests_then (Ok b) step placed t up R stands legal in
        record { works = now.works; first = now.first; up = now.up }

    pub nothing_logged : (result : Result Bool PlaceError) → HasStepped device g q h r k items s s' result
        → ArePlaced device f p k items → Behind device f (λ (R : Log). WorksOn device f p h r [])
    nothing_logged result step placed t up R stands legal = (rests_then result step placed t up R stands legal).works
