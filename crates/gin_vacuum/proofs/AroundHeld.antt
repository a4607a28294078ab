-- The pages around an empty leaf, one after another held.
use Rattle.std.proofs.Common.{◌≡◌, ◌<◌, ◌∙◌, ℕ, List, [], ◌∷◌, ◌++◌, length, sym, ap, arith}
use Rattle.std.specs.Prelude.{Option, Some, None}
use Rattle.disk_trait.specs.declared.device.Disk.{Ghosts as Disk}
use Rattle.core_state.specs.Allowed.{Sheet}
use Rattle.buffer_frames.specs.Frames.{FramesValue}
use Rattle.buffer_frames.specs.Passes.{IsPassOf, IsHolding}
use Rattle.buffer_frames.specs.declared.pass.Pass.{Pass}
use Rattle.gin_place.specs.Going.{WorksOn}
use Rattle.gin_place.specs.Placing.{HasRight}
use Rattle.gin_place.specs.Causes.{Finds}
use Rattle.gin_place.specs.declared.error.PlaceError.{PlaceError}
use Rattle.gin_place.proofs.Causing.{Later, finds_as}
use Rattle.gin_vacuum.specs.Stepping.{IsCause}
use Rattle.gin_vacuum.specs.Inner.Deleting.{with_before, around_pages, IsFoundEmpty}
use Rattle.gin_vacuum.specs.declared.deleting.Empty.{Empty}
use Rattle.gin_vacuum.specs.declared.deleting.Around.{Around}
use Rattle.gin_vacuum.specs.declared.sweeping.Stage.TheVariants as stage
use Rattle.gin_vacuum.proofs.SweepCauses.{cause_later}
use Rattle.gin_vacuum.proofs.Swept.{at_on}

-- the pages of which the last one comes first, where there is a leaf before the empty one, and where there is none
pub around_some : (a : Around) (b : Sheet) (l1 l2 l3 l4 : List Sheet) → a.before ≡ Some b → l1 ≡ []
    → l2 ≡ l1 ++ a.leaf ∷ [] → l3 ≡ l2 ++ b ∷ [] → l4 ≡ l3 ++ a.parent ∷ [] → l4 ≡ around_pages a
around_some a b l1 l2 l3 l4 is e1 e2 e3 e4 =
    e4
    ∙ ap (λ (l : List Sheet). l ++ a.parent ∷ [])
    (e3 ∙ ap (λ (l : List Sheet). l ++ b ∷ []) (e2 ∙ ap (λ (l : List Sheet). l ++ a.leaf ∷ []) e1))
    ∙ ap (λ (o : Option Sheet). a.leaf ∷ with_before o (a.parent ∷ [])) (sym is)

pub around_none : (a : Around) (l1 l2 l3 : List Sheet) → a.before ≡ None → l1 ≡ []
    → l2 ≡ l1 ++ a.leaf ∷ [] → l3 ≡ l2 ++ a.parent ∷ [] → l3 ≡ around_pages a
around_none a l1 l2 l3 is e1 e2 e3 =
    e3
    ∙ ap (λ (l : List Sheet). l ++ a.parent ∷ []) (e2 ∙ ap (λ (l : List Sheet). l ++ a.leaf ∷ []) e1)
    ∙ ap (λ (o : Option Sheet). a.leaf ∷ with_before o (a.parent ∷ [])) (sym is)

-- a leaf more may be held
pub few_before : (b : Option Sheet) (parent : Sheet) (n : ℕ) → length (with_before b (parent ∷ [])) ≡ n → n < 4
few_before None parent n e = omega (arith, e)
few_before (Some b) parent n e = omega (arith, e)

module _ {D : Type 0} (device : Disk D) where
  -- the leaf is empty still
  pub found_on : (f g : FramesValue D) (p q : Pass) → HasRight p → IsPassOf f p → WorksOn device f p g q []
      → (held : List Sheet) → IsHolding device f p held → (e : Empty) → IsFoundEmpty device f p e
      → IsFoundEmpty device g q e
  found_on f g p q right of works held hold e found = (
    found.0,
    found.1,
    found.2,
    found.3,
    at_on device f g p q right of works found.0 held hold found.1 (stage.Parent e found.2 found.3) found.4,
  )

  -- pages are given back after a refusal
  pub found_later : (Bad : FramesValue D → ℕ → Type 0) (f l m : FramesValue D) (p : Pass) (e : PlaceError)
      → Later device l m → Finds device f p (IsCause device Bad l e) → Finds device f p (IsCause device Bad m e)
  found_later Bad f l m p e le =
      finds_as device f p (IsCause device Bad l e) (IsCause device Bad m e)
      (λ g q why. cause_later device Bad l m e g q le why)
