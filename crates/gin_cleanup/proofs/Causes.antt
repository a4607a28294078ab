-- Why a cleanup is refused.
use Rattle.std.proofs.Common.{◌≡◌, ℕ, length, refl, sym, ap, ◌∙◌, inl, arith}
use Rattle.disk_trait.specs.declared.device.Disk.{Ghosts as Disk}
use Rattle.page_types.specs.declared.page.Body.TheVariants as body
use Rattle.core_state.specs.Log.{Log}
use Rattle.core_state.proofs.LawsHold.{pages as pages_told}
use Rattle.buffer_frames.specs.Frames.{FramesValue, Behind}
use Rattle.buffer_frames.specs.Passes.{IsPassOf}
use Rattle.buffer_frames.specs.declared.pass.Pass.{Pass}
use Rattle.buffer_frames.proofs.AtHand.{log_length}
use Rattle.buffer_frames.proofs.FirstLogs.{shown_by}
use Rattle.gin_place.specs.Causes.{Finds, CannotUse, HasNumbers, IsBad, NoBadPage, IsWhy, CannotHold}
use Rattle.gin_place.specs.declared.error.PlaceError.{PlaceError}
use Rattle.gin_place.specs.declared.error.PlaceError.TheVariants.{StoreFull, LogFull, DiskFault, Down, BadPage}
use Rattle.gin_place.specs.declared.error.PlaceError.TheVariants.{OutOfMemory}
use Rattle.gin_place.proofs.Causing.{weaker, hold_why, none_before}
use Rattle.gin_place.proofs.Lawful.{usable}
use Rattle.gin_cleanup.specs.Going.{IsMetaPage, IsBadList, IsCause}

module _ {D : Type 0} (device : Disk D) where
  -- the causes of placing are causes here
  pub why_cause : (l : FramesValue D) (e : PlaceError) (f : FramesValue D) (p : Pass)
      → IsWhy device (IsBadList device) l e f p → IsCause device l e f p
  why_cause l StoreFull f p c = c
  why_cause l LogFull f p c = inl c
  why_cause l DiskFault f p c = c
  why_cause l (Down n) f p c = c
  why_cause l (BadPage n) f p c = c
  why_cause l OutOfMemory f p c = c

  -- in no legal log the metapage is another page
  pub never_meta : (f : FramesValue D) (p : Pass) → IsPassOf f p → CannotUse f IsMetaPage 0
      → Behind device f (λ (R : Log). ⊥)
  never_meta f p of cannot t up R stands legal =
      let P = shown_by R legal.valid in
      let long : f.journal.state.records ≡ length R = log_length device f.journal R stands.journal in
      let m = (pages_told R P.0 legal P.1).list.meta (λ e. omega (arith, of.some, of.seen, long, ap length e)) in
      usable device f R t up stands legal P.0 P.1 IsMetaPage 0 (m.0, m.1, _, m.2)
      (λ none. used m.0 m.1 _ (sym m.2 ∙ none)) cannot
    where
      used : (a b c : ℕ) → body.Meta a b c ≡ body.Free → ⊥
      used a b c e = cc

  pub bad_meta : (f : FramesValue D) (p : Pass) → IsPassOf f p → CannotUse f IsMetaPage 0
      → IsBadList device f p 0
  bad_meta f p of cannot = IsBadList.meta refl cannot (never_meta f p of cannot)

  -- the metapage is not held
  pub meta_cause : (l : FramesValue D) (e : PlaceError) (f : FramesValue D) (p : Pass)
      → Finds device f p (CannotHold device 0 l e) → Finds device f p (IsCause device l e)
  meta_cause l e f p m = (
    m.0,
    m.1,
    m.2,
    m.3,
    why_cause l e m.0 m.1
        (hold_why device (IsBadList device) 0 l e m.0 m.1
        (λ c. bad_meta m.0 m.1 (m.2).is_pass (weaker m.0 IsMetaPage 0 c)) m.4),
  )

  -- no bad page is so in a legal log
  never_bad : (f : FramesValue D) (p : Pass) (n : ℕ) → IsBadList device f p n → HasNumbers f
      → Behind device f (λ (R : Log). ⊥)
  never_bad f p n (IsBadList.meta zero cannot never) few = never
  never_bad f p n (IsBadList.rows cannot never) few = never
  never_bad f p n (IsBadList.place key (s, IsBad.read t parent at cannot never)) few = never
  never_bad f p n (IsBadList.place key (s, IsBad.far t parent at spent never)) few = never
  never_bad f p n (IsBadList.place key (s, IsBad.room t parent page at bad never)) few = never few

  pub lawful_cause : (l : FramesValue D) (e : PlaceError) (f : FramesValue D) (p : Pass)
      → Finds device f p (IsCause device l e) → NoBadPage device f e
  lawful_cause l StoreFull f p m = tt
  lawful_cause l LogFull f p m = tt
  lawful_cause l DiskFault f p m = tt
  lawful_cause l (Down n) f p m = tt
  lawful_cause l (BadPage n) f p m = none_before device f m.0 p m.1 m.2 m.3 (never_bad m.0 m.1 n m.4)
  lawful_cause l OutOfMemory f p m = tt
