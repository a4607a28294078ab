-- Why slots of dead documents do not become free.
use Rattle.std.proofs.Common.{◌≡◌, ℕ, refl, sym, subst}
use Rattle.std.specs.Prelude.{⊤}
use Rattle.disk_trait.specs.declared.device.Disk.{Ghosts as Disk}
use Rattle.page_types.specs.declared.page.Page.{Page}
use Rattle.core_state.specs.Log.{Log}
use Rattle.buffer_frames.specs.Frames.{FramesValue, Behind}
use Rattle.buffer_frames.specs.Passes.{IsPassOf}
use Rattle.buffer_frames.specs.declared.pass.Pass.{Pass}
use Rattle.doc_heap.specs.declared.leaving.Chain.{Chain}
use Rattle.gin_place.specs.Causes.{Finds, CannotUse, CannotHold, HasNumbers, NoBadPage}
use Rattle.gin_place.specs.declared.error.PlaceError.{PlaceError}
use Rattle.gin_place.specs.declared.error.PlaceError.TheVariants.{StoreFull, LogFull, DiskFault, Down, BadPage}
use Rattle.gin_place.specs.declared.error.PlaceError.TheVariants.{OutOfMemory}
use Rattle.gin_place.proofs.Causing.{Later, weaker, finds_now, hold_later, none_before}
use Rattle.gin_vacuum.specs.Causes.{IsHeap}
use Rattle.gin_vacuum.specs.Freeing.{IsPageOf, IsBadFreed, CannotFree}
use Rattle.gin_vacuum.specs.Inner.Logging.{CannotLog}

module _ {D : Type 0} (device : Disk D) where
  -- the heap page is not held
  pub heap_cause : (f l : FramesValue D) (p : Pass) (page : ℕ) → IsPassOf f p
      → (CannotUse f IsHeap page → Behind device f (λ (R : Log). ⊥)) → (e : PlaceError)
      → Finds device f p (CannotHold device page l e)
      → ((n : ℕ) → e ≡ BadPage n → (n ≡ page) × CannotUse f (λ (c : Page). ⊤) n)
      → Finds device f p (CannotFree device l e)
  heap_cause f l p page of never StoreFull m b = absurd m.4
  heap_cause f l p page of never LogFull m b = absurd m.4
  heap_cause f l p page of never DiskFault m b = m
  heap_cause f l p page of never (Down n) m b = m
  heap_cause f l p page of never (BadPage n) m b =
      let c = b n refl in
      let cannot = weaker f IsHeap page (subst (CannotUse f (λ (x : Page). ⊤)) c.0 c.1) in
      finds_now device f p (CannotFree device l (BadPage n)) of
      (subst (IsBadFreed device f) (sym c.0) (IsBadFreed.of_heap cannot (never cannot)))
  heap_cause f l p page of never OutOfMemory m b = (m.0, m.1, m.2, m.3, tt)

  -- the page of a chain is not held
  pub chain_cause : (f : FramesValue D) (p : Pass) (c : Chain) (page : ℕ) (l m : FramesValue D) (e : PlaceError)
      → Later device l m → (CannotUse f (IsPageOf c) page → Behind device f (λ (R : Log). ⊥))
      → CannotHold device page l e f p → CannotFree device m e f p
  chain_cause f p c page l m e le never hold = by e (hold_later device page l m e le f p hold)
    where
      by : (e : PlaceError) → CannotHold device page m e f p → CannotFree device m e f p
      by StoreFull h = absurd h
      by LogFull h = absurd h
      by DiskFault h = h
      by (Down n) h = h
      by (BadPage n) h =
          let cannot = weaker f (IsPageOf c) n h.1 in
          IsBadFreed.of_chain c cannot (never (subst (CannotUse f (IsPageOf c)) h.0 cannot))
      by OutOfMemory h = tt

  -- the record is not logged
  pub log_free_cause : (l : FramesValue D) (e : PlaceError) (f : FramesValue D) (p : Pass) → CannotLog device l e f p
      → CannotFree device l e f p
  log_free_cause l StoreFull f p c = c
  log_free_cause l LogFull f p c = c
  log_free_cause l DiskFault f p c = c
  log_free_cause l (Down n) f p c = c
  log_free_cause l (BadPage n) f p c = absurd c
  log_free_cause l OutOfMemory f p c = tt

  -- no bad page is so in a legal log
  never_bad : (f : FramesValue D) (n : ℕ) → IsBadFreed device f n → HasNumbers f → Behind device f (λ (R : Log). ⊥)
  never_bad f n (IsBadFreed.of_heap cannot never) few = never
  never_bad f n (IsBadFreed.of_chain c cannot never) few = never

  pub lawful_cause : (l : FramesValue D) (e : PlaceError) (f : FramesValue D) (p : Pass)
      → Finds device f p (CannotFree device l e) → NoBadPage device f e
  lawful_cause l StoreFull f p m = tt
  lawful_cause l LogFull f p m = tt
  lawful_cause l DiskFault f p m = tt
  lawful_cause l (Down n) f p m = tt
  lawful_cause l (BadPage n) f p m = none_before device f m.0 p m.1 m.2 m.3 (never_bad m.0 n m.4)
  lawful_cause l OutOfMemory f p m = tt
