-- A cleanup whose pages are shifted, at frames where the first of them is held, and after that.
use Rattle.std.proofs.Common.{◌≡◌, ◌<◌, ◌-◌, ℕ, suc, List, [], ◌∷◌, length, drop, sym, ap, subst, ◌∙◌, arith}
use Rattle.std.specs.Prelude.{slice_get, Some}
use Rattle.disk_trait.specs.declared.device.Disk.{Ghosts as Disk}
use Rattle.page_types.specs.Views.{first_in, first_of}
use Rattle.core_state.specs.Allowed.{Sheet, Step}
use Rattle.buffer_frames.specs.Frames.{FramesValue}
use Rattle.buffer_frames.specs.Passes.{IsPassOf, Seen}
use Rattle.buffer_frames.specs.declared.pass.Pass.{Pass}
use Rattle.gin_cleanup.specs.Cleaning.{IsAt, AreGone, IsCleaning}
use Rattle.gin_cleanup.specs.Gathering.{IsBatch}
use Rattle.gin_place.specs.Causes.{Finds}
use Rattle.gin_place.specs.Faults.{MetNoFault, FaultBy}
use Rattle.gin_place.specs.declared.error.PlaceError.{PlaceError}
use Rattle.gin_place.specs.declared.error.PlaceError.TheVariants.{StoreFull, LogFull, DiskFault, Down, BadPage}
use Rattle.gin_place.specs.declared.error.PlaceError.TheVariants.{OutOfMemory}
use Rattle.gin_place.proofs.Causing.{finds_now}
use Rattle.gin_cleanup.specs.Going.{IsRowPage, IsBadList, IsCause}
use Rattle.gin_cleanup.specs.Inner.Shifting.{IsShiftStep, HasNoFate, HoldsFirst, MayShift, LogsShift}
use Rattle.gin_cleanup.specs.Inner.Shifting.{HasTurnedAgain, HasGone}
use Rattle.gin_cleanup.specs.declared.cleanup.Cleanup.{Cleanup}
use Rattle.gin_cleanup.specs.declared.cleanup.Stage.{Stage}
use Rattle.gin_cleanup.specs.declared.cleanup.Stage.TheVariants as stage
use Rattle.gin_cleanup.specs.declared.first_page.First.{First}
use Rattle.gin_cleanup.proofs.Turning.{reads_from, drop_at, turned, gone_on, after_shift}

-- why it has no fate
pub no_fate_cause : {D : Type 0} (device : Disk D) (f l : FramesValue D) (p : Pass) (page : Sheet) (e : PlaceError)
    → IsPassOf f p → HasNoFate page e
    → ((IsRowPage page.content → ⊥) → Finds device f p (λ g q. IsBadList device g q page.page))
    → Finds device f p (IsCause device l e)
no_fate_cause device f l p page (BadPage n) of why bad =
    subst (λ (k : ℕ). Finds device f p (λ g q. IsBadList device g q k)) (sym why.0) (bad (λ x. why.1 x.0 x.1))
no_fate_cause device f l p page OutOfMemory of why bad =
    finds_now device f p (IsCause device l OutOfMemory) of tt
no_fate_cause device f l p page StoreFull of why bad = absurd why
no_fate_cause device f l p page LogFull of why bad = absurd why
no_fate_cause device f l p page DiskFault of why bad = absurd why
no_fate_cause device f l p page (Down n) of why bad = absurd why

-- no fault is met then
pub no_fate_told : {D : Type 0} (device : Disk D) (f g : FramesValue D) (page : Sheet) (e : PlaceError)
    → HasNoFate page e → MetNoFault device f g → FaultBy device f g e
no_fate_told device f g page (BadPage n) why none = none
no_fate_told device f g page OutOfMemory why none = none
no_fate_told device f g page StoreFull why none = absurd why
no_fate_told device f g page LogFull why none = absurd why
no_fate_told device f g page DiskFault why none = absurd why
no_fate_told device f g page (Down n) why none = absurd why

module _ {D : Type 0} (device : Disk D) (f : FramesValue D) (p : Pass) (from : ℕ) (c : Cleanup)
    (at : c.stage ≡ stage.Shifting) (was : IsCleaning device f p from c) where
  pub gone : (c.gone < length c.counts.items) × (c.gathered ≡ [])
  gone = subst (AreGone c) at was.gone

  batch : Seen device f p (λ S P. IsBatch P c.left (drop c.gone c.counts.items) [])
  batch t up R stands legal P shown = subst (λ (s : Stage). IsAt P c s) at (was.at t up R stands legal P shown)

  -- the first page with what was noted of it
  pub first_batch : (noted : ℕ) → slice_get c.counts.items c.gone ≡ Some noted
      → Seen device f p (λ S P. IsBatch P c.left (noted ∷ drop (suc c.gone) c.counts.items) [])
  first_batch noted is t up R stands legal P shown =
      subst (λ (ns : List ℕ). IsBatch P c.left ns []) (drop_at c.counts.items c.gone noted is)
      (batch t up R stands legal P shown)

  -- it is read again
  pub read_again : (t : First) → HoldsFirst device f p t → (new : Cleanup) (page : ℕ) → page ≡ t.page.page
      → HasTurnedAgain page c new → IsCleaning device f p from new
  read_again t holds new page is x =
      turned device f p from was.began (record c { turns = c.turns - 1 }) new gone.1 page x.turned
      (λ tells up R stands legal P shown.
      reads_from P c.left (drop c.gone c.counts.items) (batch tells up R stands legal P shown) page
      (ap first_of (holds.seen tells up R stands legal P shown).0 ∙ ap first_in holds.names ∙ sym holds.page_is
      ∙ sym is))
      was.left

  -- it is gone
  pub shifts : (g : FramesValue D) (q : Pass) (t : First)
      → HoldsFirst device f p t → (s : Step) → MayShift device f p (t.page ∷ t.meta ∷ []) s
      → LogsShift device f p (t.page ∷ t.meta ∷ []) s g q → IsShiftStep t.meta t.page s → 0 < c.left
      → (noted : ℕ) → slice_get c.counts.items c.gone ≡ Some noted → (new : Cleanup) (right : ℕ)
      → right ≡ t.page.content.right → HasGone right c new → IsCleaning device g q from new
  shifts g q t holds s may logs step some noted is new right same x =
      gone_on device g q from (omega (arith, was.began, ((logs.cleans).rises).seen)) c new at gone.1 right x
      (λ tells up R stands legal P shown.
      let y = after_shift device f g p q t.meta t.page s may logs step holds.meta_page from
      was.began c some noted is (λ a b R' d e P' h. (batch a b R' d e P' h, was.left a b R' d e P' h))
      tells up R stands legal P shown in
      (y.0, y.1, y.2 ∙ sym same))
