-- One page more of the way to the parent of an empty leaf.
use Rattle.std.proofs.Common.{◌≡◌, ◌<◌, ◌+◌, ◌*◌, ◌-◌, ◌^◌, ℕ, length, refl, ap, subst, arith}
use Rattle.std.specs.Prelude.{Option, Some, None, IfNone}
use Rattle.gin_place.specs.Stepping.{reads_left, most_reads}
use Rattle.gin_vacuum.specs.Sweeping.{HasHigh}
use Rattle.gin_vacuum.specs.Stepping.{steps_left, below_left, above_left}
use Rattle.gin_vacuum.specs.declared.deleting.Empty.{Empty}
use Rattle.gin_vacuum.specs.declared.sweeping.Sweeping.{Sweeping}
use Rattle.gin_vacuum.specs.declared.sweeping.Stage.{Stage}
use Rattle.gin_vacuum.specs.declared.sweeping.Stage.TheVariants as stage

-- what holds where there is none
pub no_some : {A : Type 0} (o : Option A) (T : Type 0) → ((x : A) → o ≡ Some x → ⊥) → IfNone o T → T
no_some None T not t = t
no_some (Some x) T not t = absurd (not x refl)

-- a page more of the way is read
pub way_lower : (old : Sweeping) (e : Empty) (page child n : ℕ) (left : Option ℕ) → old.stage ≡ stage.Parent e page left
    → n < reads_left left → steps_left (record old { stage = stage.Parent e child (Some n) }) < steps_left old
way_lower old e page child n left is less =
    let steps : steps_left old
    ≡ ((reads_left old.left * 2 ^ 16 + (length old.roots.items - old.next)) * most_reads + reads_left old.left_below)
    * most_reads + reads_left left =
    ap (λ (t : Stage). ((reads_left old.left * 2 ^ 16 + (length old.roots.items - old.next)) * most_reads
    + below_left old t) * most_reads + above_left t) is in
    omega (arith, less, steps)

pub high_same : (old : Sweeping) (e : Empty) (page child : ℕ) (left more : Option ℕ)
    → old.stage ≡ stage.Parent e page left
    → HasHigh old.stage → HasHigh (stage.Parent e child more)
high_same old e page child left more is high = subst HasHigh is high
