-- A sweep after a page was held, read and given back.
use Rattle.std.proofs.Common.{◌≡◌, ◌≢◌, ℕ, List, [], ◌∷◌, refl, ◌∙◌, arith, Ok, Err}
use Rattle.disk_trait.specs.declared.device.Disk.{Ghosts as Disk}
use Rattle.core_state.specs.Log.{Log, Pages, Shows}
use Rattle.core_state.specs.Legal.{IsLegal}
use Rattle.core_state.specs.Allowed.{Sheet}
use Rattle.buffer_frames.specs.Frames.{FramesValue}
use Rattle.buffer_frames.specs.Passes.{IsPassOf, IsHolding, Seen}
use Rattle.buffer_frames.specs.declared.pass.Pass.{Pass}
use Rattle.buffer_frames.proofs.AtHand.{none_held}
use Rattle.gin_place.specs.Placing.{HasRight}
use Rattle.gin_place.specs.Causes.{Finds, NoBadPage}
use Rattle.gin_place.specs.Faults.{MetNoFault, FaultBy}
use Rattle.gin_place.specs.Holding.{ReadsOn}
use Rattle.gin_place.specs.declared.error.PlaceError.{PlaceError}
use Rattle.gin_place.proofs.Carrying.{reads_in_turn}
use Rattle.gin_vacuum.specs.Sweeping.{IsAt, HasHigh, IsSweeping}
use Rattle.gin_vacuum.specs.Stepping.{HasSwept, IsCause, IsBad}
use Rattle.gin_vacuum.specs.declared.sweeping.Sweeping.{Sweeping}
use Rattle.gin_vacuum.proofs.Downs.{seen_as}
use Rattle.gin_vacuum.proofs.Logs.{reads_vacuum}
use Rattle.gin_vacuum.proofs.Swept.{dead_on, at_on, sweeping_on}

module _ {D : Type 0} (device : Disk D) (f g : FramesValue D) (p q : Pass) (right : HasRight p)
    (was : IsPassOf f p) (none : p.held ≡ 0) (reads : ReadsOn device f p g q) (dead : List ℕ) (old : Sweeping)
    (sw : IsSweeping device f p dead old) where
  pub right_then : HasRight q
  right_then = record {
    at = right.at;
    has = reads.works.work ∙ right.has;
    within = omega (arith, right.within, reads.works.rises.seen);
  }

  pub swept_at : IsSweeping device g q dead old
  swept_at = sweeping_on device f g p q right was reads.works dead [] (none_held device f p was none) old sw

  -- refused, and nothing is held
  pub refused : {T : Type 0} (e : PlaceError) → q.held ≡ 0 → Finds device f p (IsCause device (IsBad device old) g e)
      → NoBadPage device f e → FaultBy device f g e → HasSwept {T = T} device f p g q dead old old (Err e)
  refused e still cause lawful fault = record {
    sweeping = swept_at;
    none_held = still;
    works = ([], omega arith, tt, reads_vacuum device f g p q reads.works);
    refused = reads_vacuum device f g p q reads.works;
    unmoved = refl;
    cause = cause;
    lawful = lawful;
    fine = tt;
    fault = fault;
  }

  module _ (h : FramesValue D) (r : Pass) (held : Sheet) (hold : IsHolding device g q (held ∷ []))
      (back : ReadsOn device g q h r) (still : r.held ≡ 0) (new : Sweeping) where
    -- the machine has gone on, by what was seen of the page that was held
    pub gone_on : {T : Type 0} (x : T) → MetNoFault device f h → (X : Log → Pages → Type 0)
        → ((S : Log) (P : Pages) → S ≢ [] → IsLegal S → Shows S P → IsAt P dead old old.stage → X S P
        → IsAt P dead new new.stage)
        → Seen device g q X → HasHigh new.stage → HasSwept {T = T} device f p h r dead old new (Ok x)
    gone_on x fine X to seen high = record {
      sweeping = record {
        leave = dead_on device g h q r right_then reads.works.is_pass back.works dead (held ∷ []) hold swept_at.leave;
        at = at_on device g h q r right_then reads.works.is_pass back.works dead (held ∷ []) hold new new.stage
            (seen_as device g q reads.works.is_pass
            (λ S P. IsAt P dead old old.stage × X S P) (λ S P. IsAt P dead new new.stage)
            (λ S P some legal shown both. to S P some legal shown both.0 both.1)
            (λ t up R stands legal P shown.
            (swept_at.at t up R stands legal P shown, seen t up R stands legal P shown)));
        high = high;
      };
      none_held = still;
      works = (
        [],
        omega arith,
        tt,
        reads_vacuum device f h p r (reads_in_turn device f g h p q r reads back).works,
      );
      refused = tt;
      unmoved = tt;
      cause = tt;
      lawful = tt;
      fine = fine;
      fault = tt;
    }
