-- The page that is read next is held, and is what the stage at work says.
use Rattle.std.proofs.Common.{◌≡◌, ◌∙◌, ℕ, List, sym, ap, subst, subst₂, Result}
use Rattle.std.specs.Prelude.{Option}
use Rattle.disk_trait.specs.declared.device.Disk.{Ghosts as Disk}
use Rattle.core_state.specs.Allowed.{Sheet}
use Rattle.buffer_frames.specs.Frames.{FramesValue}
use Rattle.buffer_frames.specs.declared.pass.Pass.{Pass}
use Rattle.gin_place.specs.declared.error.PlaceError.{PlaceError}
use Rattle.gin_vacuum.specs.Stepping.{IsNext, left_of}
use Rattle.gin_vacuum.specs.Inner.HoldingNext.{HoldsNext, SweepsOn}
use Rattle.gin_vacuum.specs.declared.sweeping.Sweeping.{Sweeping}
use Rattle.gin_vacuum.specs.declared.sweeping.Stage.{Stage}
use Rattle.gin_vacuum.specs.declared.sweeping.Stage.TheVariants as stage

-- one page is next
next_one : (t : Stage) (a b : ℕ) → IsNext t a → IsNext t b → a ≡ b
next_one (stage.Down p) a b x y = x ∙ sym y
next_one (stage.Leaf p) a b x y = x ∙ sym y
next_one (stage.TreeDown root p) a b x y = x ∙ sym y
next_one (stage.Posts root before p) a b x y = x ∙ sym y
next_one (stage.Parent empty p left) a b x y = x ∙ sym y
next_one stage.Done a b x y = absurd x

module _ {D : Type 0} (device : Disk D) (g : FramesValue D) (q : Pass) (dead : List ℕ) (old : Sweeping) (held : Sheet)
    (left : ℕ) (t : Stage) (is : old.stage ≡ t) (next : IsNext old.stage held.page) (page : ℕ) (at : IsNext t page)
  where
    same_page : held.page ≡ page
    same_page = next_one t held.page page (subst (λ (s : Stage). IsNext s held.page) is next) at

    same_left : left_of old old.stage ≡ left_of old t
    same_left = ap (left_of old) is

    pub holds_at : HoldsNext device g q dead old held.page (left_of old old.stage) held left
        → HoldsNext device g q dead old page (left_of old t) held left
    holds_at = subst₂ (λ (n : ℕ) (o : Option ℕ). HoldsNext device g q dead old n o held left) same_page same_left

    pub sweeps_at : {T : Type 0} (h : FramesValue D) (r : Pass) (new : Sweeping) (result : Result T PlaceError)
        → SweepsOn device g q dead old page (left_of old t) held left h r new result
        → SweepsOn device g q dead old held.page (left_of old old.stage) held left h r new result
    sweeps_at h r new result =
        subst₂ (λ (n : ℕ) (o : Option ℕ). SweepsOn device g q dead old n o held left h r new result) (sym same_page)
        (sym same_left)
