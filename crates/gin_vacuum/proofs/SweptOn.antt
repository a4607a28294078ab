-- A sweep after a page was held from which dead items are gone, or the record of which was refused.
use Rattle.std.proofs.Common.{◌≡◌, ◌≢◌, ◌≤◌, ℕ, List, [], ◌∷◌, length, arith, Ok, Err}
use Rattle.std.specs.Prelude.{Option, Some, None}
use Rattle.std.specs.List.{AllByRecursion}
use Rattle.disk_trait.specs.declared.device.Disk.{Ghosts as Disk}
use Rattle.page_types.specs.declared.page.Page.{Page}
use Rattle.core_state.specs.Log.{Log, Pages, Shows}
use Rattle.core_state.specs.Allowed.{Sheet}
use Rattle.core_state.specs.Index.{Below}
use Rattle.core_state.specs.Legal.{IsLegal}
use Rattle.core_state.specs.TreeRules.{IsRoot}
use Rattle.core_vacuum.specs.Keeping.{VacuumHolds}
use Rattle.buffer_frames.specs.Frames.{FramesValue}
use Rattle.buffer_frames.specs.Passes.{IsPassOf, IsHolding, Seen}
use Rattle.buffer_frames.specs.declared.pass.Pass.{Pass}
use Rattle.gin_place.specs.Placing.{HasRight}
use Rattle.gin_place.specs.Causes.{NoBadPage}
use Rattle.gin_place.specs.Faults.{MetNoFault, FaultBy}
use Rattle.gin_place.specs.Holding.{ReadsOn}
use Rattle.gin_place.specs.declared.error.PlaceError.{PlaceError}
use Rattle.gin_place.specs.declared.error.PlaceError.TheVariants.{StoreFull, LogFull, DiskFault, Down, BadPage}
use Rattle.gin_place.specs.declared.error.PlaceError.TheVariants.{OutOfMemory}
use Rattle.gin_place.proofs.Carrying.{reads_in_turn}
use Rattle.gin_place.proofs.Causing.{finds_now, finds_after}
use Rattle.gin_vacuum.specs.Going.{VacuumsOn}
use Rattle.gin_vacuum.specs.Sweeping.{IsAt, HasHigh, IsSweeping}
use Rattle.gin_vacuum.specs.Stepping.{IsSweepKind, HasSwept, IsCause, IsBad}
use Rattle.gin_vacuum.specs.Inner.Logging.{CannotLog}
use Rattle.gin_vacuum.specs.Inner.Reading.{IsCleaned}
use Rattle.gin_vacuum.specs.Inner.Sweeping.{IsRemoval, HasCleaned}
use Rattle.gin_vacuum.specs.declared.sweeping.Sweeping.{Sweeping}
use Rattle.gin_vacuum.proofs.Cleaned.{IsLeftAs, cleaned_seen, dead_cleaned}
use Rattle.gin_vacuum.proofs.Downs.{seen_as}
use Rattle.gin_vacuum.proofs.GoneDown.{right_then, swept_at, refused}
use Rattle.gin_vacuum.proofs.InTurn.{reads_then}
use Rattle.gin_vacuum.proofs.Logs.{reads_vacuum}
use Rattle.gin_vacuum.proofs.SweepCauses.{log_cause}

-- a record that is not logged is no bad page
no_bad : {D : Type 0} (device : Disk D) (f h : FramesValue D) (g : FramesValue D) (q : Pass) (e : PlaceError)
    → CannotLog device h e g q → NoBadPage device f e
no_bad device f h g q StoreFull c = tt
no_bad device f h g q LogFull c = tt
no_bad device f h g q DiskFault c = tt
no_bad device f h g q (Down n) c = tt
no_bad device f h g q (BadPage n) c = absurd c
no_bad device f h g q OutOfMemory c = tt

-- a step that is refused, whatever it would have answered
pub swept_as : {D A B : Type 0} (device : Disk D) (f g : FramesValue D) (p q : Pass) (dead : List ℕ)
    (old new : Sweeping) (e : PlaceError) → HasSwept {T = A} device f p g q dead old new (Err e)
    → HasSwept {T = B} device f p g q dead old new (Err e)
swept_as device f g p q dead old new e s = record {
  sweeping = s.sweeping;
  none_held = s.none_held;
  works = s.works;
  refused = s.refused;
  unmoved = s.unmoved;
  cause = s.cause;
  lawful = s.lawful;
  fine = tt;
  fault = s.fault;
}

-- one that isn't, likewise
pub swept_to : {D A B : Type 0} (device : Disk D) (f g : FramesValue D) (p q : Pass) (dead : List ℕ)
    (old new : Sweeping) (a : A) (b : B) → HasSwept {T = A} device f p g q dead old new (Ok a)
    → HasSwept {T = B} device f p g q dead old new (Ok b)
swept_to device f g p q dead old new a b s = record {
  sweeping = s.sweeping;
  none_held = s.none_held;
  works = s.works;
  refused = tt;
  unmoved = tt;
  cause = tt;
  lawful = tt;
  fine = s.fine;
  fault = tt;
}

module _ {D : Type 0} (device : Disk D) (f g : FramesValue D) (p q : Pass) (right : HasRight p)
    (was : IsPassOf f p) (none : p.held ≡ 0) (reads : ReadsOn device f p g q) (dead : List ℕ) (old : Sweeping)
    (sw : IsSweeping device f p dead old) (h : FramesValue D) (r : Pass) where
  -- dead items may leave the page that is held
  pub removal_held : (held : Sheet) (cleaned : Option Page) → IsHolding device g q (held ∷ [])
      → Seen device g q (λ S P. P held.page ≡ held.content) → IsCleaned dead held.content cleaned
      → IsRemoval device g q dead held cleaned
  removal_held held cleaned hold seen is_cleaned = record {
    is_pass = reads.works.is_pass;
    right = right_then device f g p q right was none reads dead old sw;
    holding = hold;
    seen = seen;
    leave = (swept_at device f g p q right was none reads dead old sw).leave;
    is_cleaned = is_cleaned;
  }

  -- the record is not logged, and nothing is held
  pub refused_log : {T : Type 0} (e : PlaceError) → MetNoFault device f g → ReadsOn device g q h r → r.held ≡ 0
      → CannotLog device h e g q → FaultBy device f h e → HasSwept {T = T} device f p h r dead old old (Err e)
  refused_log e fine more still cannot fault =
      refused device f h p r right was none (reads_in_turn device f g h p q r reads more) dead old sw e still
      (finds_after device f g p q (IsCause device (IsBad device old) h e) reads.works fine
      (finds_now device g q (IsCause device (IsBad device old) h e) reads.works.is_pass
      (log_cause device (IsBad device old) h e g q cannot)))
      (no_bad device f h g q e cannot) fault

  module _ (law : VacuumHolds) (held : Sheet) where
    works_on : (cleaned : Option Page) → HasCleaned device g q h r held cleaned
        → (kinds : List ℕ) × (length kinds ≤ 1) × AllByRecursion IsSweepKind kinds
        × VacuumsOn device f p h r kinds
    works_on None c = (
      [],
      omega arith,
      tt,
      reads_vacuum device f h p r (reads_in_turn device f g h p q r reads c).works,
    )
    works_on (Some new) c = (
      18 ∷ [],
      omega arith,
      ((omega arith, omega arith), tt),
      reads_then device f g h p q r (18 ∷ []) reads.works c.works,
    )

    -- dead items are gone, where there were some
    pub swept_cleaned : {T : Type 0} (x : T) (cleaned : Option Page) (new : Sweeping)
        → IsRemoval device g q dead held cleaned → HasCleaned device g q h r held cleaned → r.held ≡ 0
        → MetNoFault device f h
        → ((S : Log) (P : Pages) → S ≢ [] → IsLegal S → Shows S P → IsAt P dead old old.stage
        → (root : ℕ) × IsRoot P root × Below P root held.page)
        → ((S : Log) (P : Pages) → S ≢ [] → IsLegal S → Shows S P → IsAt P dead old old.stage
        → IsLeftAs held cleaned P → IsAt P dead new new.stage)
        → HasHigh new.stage → HasSwept {T = T} device f p h r dead old new (Ok x)
    swept_cleaned x cleaned new removal c still fine there to high =
        let works = works_on cleaned c in
        let then = swept_at device f g p q right was none reads dead old sw in
        let seen = cleaned_seen device law g h q r dead held old old.stage there cleaned removal c then.at in
        record {
          sweeping = record {
            leave = dead_cleaned device law g h q r dead held cleaned removal c;
            at = seen_as device h r works.3.is_pass
                (λ S P. IsAt P dead old old.stage × IsLeftAs held cleaned P) (λ S P. IsAt P dead new new.stage)
                (λ S P some legal shown both. to S P some legal shown both.0 both.1) seen;
            high = high;
          };
          none_held = still;
          works = works;
          refused = tt;
          unmoved = tt;
          cause = tt;
          lawful = tt;
          fine = fine;
          fault = tt;
        }
