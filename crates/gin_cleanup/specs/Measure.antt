-- How much of a cleanup is left.
use Rattle.std.specs.Prelude.{◌≡◌, ◌⊎◌, ℕ, ◌+◌, ◌-◌, ◌*◌, ◌^◌, ◌<◌, length}
use Rattle.buffer_frames.specs.Frames.{FramesValue}
use Rattle.gin_place.specs.Stepping.{steps_left}
use Rattle.gin_cleanup.specs.declared.cleanup.Cleanup.{Cleanup}
use Rattle.gin_cleanup.specs.declared.cleanup.Stage.{Stage}
use Rattle.gin_cleanup.specs.declared.cleanup.Stage.TheVariants as stage

-- No more steps than these come in a stage and those after it until the list is read again or a record is logged:
-- pages of the list are read, then each key is placed, then the first page goes by a record.
abbrev pub stage_steps : Cleanup → Stage → ℕ
stage_steps c (stage.Reading page before) = 2 * 2 ^ 168 + (c.left - length c.counts.items)
stage_steps c (stage.Placing key items placing) =
    2 ^ 168 + length c.gathered * 2 ^ 100 + steps_left items.items placing
stage_steps c stage.Shifting = 0

-- and until a record is logged, since the list is read again so many times at most
abbrev pub steps_of : Cleanup → ℕ
steps_of c = c.turns * 2 ^ 170 + stage_steps c c.stage

-- there is a record more; or there is none, and fewer steps are left
abbrev pub ComesNearer : {D : Type 0} → FramesValue D → FramesValue D → Cleanup → Cleanup → Type 0
ComesNearer f f' old new =
    (f.journal.state.records < f'.journal.state.records)
    ⊎ ((f'.journal.state.records ≡ f.journal.state.records) × (steps_of new < steps_of old))
