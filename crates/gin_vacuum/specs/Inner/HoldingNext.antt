-- The page that a sweep reads next, which is held.
use Rattle.std.specs.Prelude.{◌≡◌, ◌<◌, ℕ, suc, List, [], ◌∷◌, Option, Result}
use Rattle.std.specs.Option.{unwrap_or}
use Rattle.disk_trait.specs.declared.device.Disk.{Ghosts as Disk}
use Rattle.core_state.specs.Allowed.{Sheet}
use Rattle.core_state.specs.PageChoice.{IsLeast, AreBelow}
use Rattle.core_state.specs.States.{StateTells}
use Rattle.buffer_frames.specs.Frames.{FramesValue, Lies}
use Rattle.buffer_frames.specs.Passes.{IsPassOf, IsHolding, Seen}
use Rattle.buffer_frames.specs.declared.pass.Pass.{Pass}
use Rattle.gin_place.specs.Placing.{HasRight}
use Rattle.gin_place.specs.Faults.{MetNoFault}
use Rattle.gin_place.specs.Holding.{ReadsOn}
use Rattle.gin_place.specs.Stepping.{reads_left}
use Rattle.gin_place.specs.declared.error.PlaceError.{PlaceError}
use Rattle.gin_vacuum.specs.Sweeping.{IsSweeping}
use Rattle.gin_vacuum.specs.Stepping.{HasSwept}
use Rattle.gin_vacuum.specs.declared.sweeping.Sweeping.{Sweeping}

module _ {D : Type 0} (device : Disk D) (g : FramesValue D) (q : Pass) (dead : List ℕ) (old : Sweeping) (page : ℕ)
    (before : Option ℕ) (held : Sheet) (left : ℕ) where
  -- The page was held, alone, from these frames on, where the machine had come so far and so many pages more might be
  -- read; fewer may be after it.
  pub record HoldsNext : Type 0 where
    pub frames : FramesValue D
    pub pass : Pass
    pub is_pass : IsPassOf frames pass
    pub right : HasRight pass
    pub none : pass.held ≡ 0
    pub sweeping : IsSweeping device frames pass dead old
    pub reads : ReadsOn device frames pass g q
    pub fine : MetNoFault device frames g
    pub number : held.page ≡ page
    pub lies : Lies frames page held.content
    pub holding : IsHolding device g q (held ∷ [])
    pub seen : Seen device g q (λ S P. P held.page ≡ held.content)
    pub told : Seen device g q (λ S P. StateTells S g.journal.state)
    pub more : (extent : ℕ) × IsLeast (AreBelow g.journal.state) extent × (suc left ≡ unwrap_or before extent)
    pub lower : left < reads_left before

  -- the step, from where the page was held on, ends so
  abbrev pub SweepsOn : {T : Type 0} → FramesValue D → Pass → Sweeping → Result T PlaceError → Type 0
  SweepsOn h r new result = (w : HoldsNext) → HasSwept device w.frames w.pass h r dead old new result
