-- What a step of placing leaves.
use Rattle.std.specs.Prelude.{◌≡◌, ◌⊎◌, ◌↔◌, ℕ, ◌+◌, ◌-◌, ◌*◌, ◌^◌, ◌<◌, ◌≤◌, List, [], ◌∷◌, length, Bool, true}
use Rattle.std.specs.Prelude.{false}
use Rattle.std.specs.Prelude.{cond, Option, Some, None, Result, IfOk, IfErr, OnOk, OnErr}
use Rattle.disk_trait.specs.declared.device.Disk.{Ghosts as Disk}
use Rattle.wal.specs.Waiting.{down_of}
use Rattle.ts_base.specs.Keys.{Key}
use Rattle.core_state.specs.Log.{Log}
use Rattle.buffer_frames.specs.Frames.{FramesValue, Behind}
use Rattle.buffer_frames.specs.declared.pass.Pass.{Pass}
use Rattle.gin_place.specs.Placing.{ArePlaced, IsPlacing}
use Rattle.gin_place.specs.Going.{WorksOn}
use Rattle.gin_place.specs.Causes.{Finds, IsBad, HadPage, NoBadPage, IsWhy}
use Rattle.gin_place.specs.Faults.{MetNoFault, FaultBy}
use Rattle.gin_place.specs.declared.error.PlaceError.{PlaceError}
use Rattle.gin_place.specs.declared.placing.Placing.{Placing}
use Rattle.gin_place.specs.declared.placing.Stage.{Stage}
use Rattle.gin_place.specs.declared.placing.Stage.TheVariants as stage
use Rattle.gin_place.specs.declared.sought.Sought.TheVariants as sought

-- nothing is logged, no room is to be made, and the log is up where the step is not refused
pub record HasRested {D : Type 0} (device : Disk D) (f : FramesValue D) (pass : Pass) (f' : FramesValue D)
    (pass' : Pass) (new : Placing) (result : Result Bool PlaceError) : Type 0 where
  pub works : WorksOn device f pass f' pass' []
  pub first : new.making_room ≡ false
  pub up : OnOk result (down_of f'.journal.wal ≡ None)

-- how many pages more a way may read; before its first, which says it, this bounds it
abbrev pub reads_left : Option ℕ → ℕ
reads_left None = 2 ^ 32
reads_left (Some n) = n

-- no way reads as many
abbrev pub most_reads : ℕ
most_reads = 2 ^ 32 + 1

-- whether a way in a posting tree may come after one in the entry tree
abbrev pub reads_below : Stage → ℕ
reads_below (stage.At sought.Key parent page) = most_reads
reads_below _ = 0

-- No more steps than these come until all items are under the key or a record is logged: those of this way, of one in
-- the key's posting tree, and where no room is to be made of one on which it is; and of as many for each item.
abbrev pub steps_left : List ℕ → Placing → ℕ
steps_left items p =
    (length items - p.from) * most_reads + cond p.making_room 0 most_reads + reads_below p.stage + reads_left p.left

-- there is a record more; or there is none, and fewer steps are left
abbrev pub IsNearer : {D : Type 0} → FramesValue D → FramesValue D → List ℕ → Placing → Placing → Type 0
IsNearer f f' items old new =
    (f.journal.state.records < f'.journal.state.records)
    ⊎ ((f'.journal.state.records ≡ f.journal.state.records) × (steps_left items new < steps_left items old))

-- the kinds of the records that take a new page: MakeTree, GrowRoot, Split
abbrev pub TakesPage : ℕ → Type 0
TakesPage k = (k ≡ 14) ⊎ ((k ≡ 16) ⊎ (k ≡ 17))

-- The way for the key has gone on, or all items are under it, and false is answered exactly where they are.
-- At most one record was logged, and no page is held. A refusal logs nothing and leaves placing as it was;
-- its cause is said; a lawful store meets no bad page. As long as no room is to be made nothing is logged where all
-- items are under the key already. Where a list became a tree or room was made, a new page was left; where none is,
-- that is the cause of the refusal. A step after which more are to come brings the end nearer.
pub record HasStepped {D : Type 0} (device : Disk D) (f : FramesValue D) (pass : Pass) (f' : FramesValue D)
    (pass' : Pass) (k : Key) (items : List ℕ) (old new : Placing) (result : Result Bool PlaceError) : Type 0 where
  pub placing : IsPlacing device f' pass' k items new
  pub done : IfOk result (λ b. (b ≡ false) ↔ (new.stage ≡ stage.Done))
  pub none_held : pass'.held ≡ 0
  pub works : (kinds : List ℕ) × (length kinds ≤ 1) × WorksOn device f pass f' pass' kinds
  pub refused : OnErr result (WorksOn device f pass f' pass' [])
  pub unmoved : OnErr result (new ≡ old)
  pub cause : IfErr result (λ e. Finds device f pass (IsWhy device (IsBad device k old) f' e))
  pub lawful : IfErr result (NoBadPage device f)
  pub standing : ArePlaced device f pass k items → old.making_room ≡ false
      → Behind device f (λ (R : Log). HasRested device f pass f' pass' new result)
  pub lower : IfOk result (λ more. more ≡ true → IsNearer f f' items old new)
  pub fine : OnOk result (MetNoFault device f f')
  pub fault : IfErr result (FaultBy device f f')
  pub took : OnOk result ((kind : ℕ) → TakesPage kind → works.0 ≡ kind ∷ [] → HadPage device f pass)
