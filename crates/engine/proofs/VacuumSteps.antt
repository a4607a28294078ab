-- A vacuum step by step: what was found, the cleanup, and what is taken out.
use Rattle.std.proofs.Common.{◌≡◌, ◌⊎◌, ◌≤◌, ◌<◌, ℕ, List, [], ◌∷◌, ◌++◌, subst, ◌∙◌, inl, inr}
use Rattle.std.proofs.Common.{arith}
use Rattle.std.specs.List.{AllByRecursion}
use Rattle.disk_trait.specs.declared.device.Disk.{Ghosts as Disk}
use Rattle.core_maintenance.specs.Keeping.{PairsHold, ShiftHolds}
use Rattle.core_vacuum.specs.DeadHeads.{DeadHeadsHold}
use Rattle.core_vacuum.specs.Keeping.{VacuumHolds}
use Rattle.buffer_frames.specs.Frames.{FramesValue}
use Rattle.buffer_frames.specs.Passes.{IsPassOf, HasAdded}
use Rattle.buffer_frames.specs.declared.pass.Pass.{Pass}
use Rattle.buffer_frames.proofs.Added.{added_in_turn}
use Rattle.buffer_frames.proofs.AtHand.{log_length}
use Rattle.gin_place.specs.Going.{WorksOn}
use Rattle.gin_place.specs.Placing.{HasRight}
use Rattle.gin_place.specs.declared.error.PlaceError.{PlaceError}
use Rattle.gin_place.specs.declared.error.PlaceError.TheVariants.{StoreFull, LogFull, BadPage}
use Rattle.gin_vacuum.specs.Finding.{IsFloor, HasFoundDead}
use Rattle.gin_vacuum.specs.Vacuum.{HaveDeadHeads, AreDead}
use Rattle.engine.specs.Cleaning.{IsAt, Comes}
use Rattle.engine.specs.Vacuuming.{IsIndexKind, IsTakingOut, Stops, StopsFull}
use Rattle.engine.specs.Inner.Cleaned.{CleansThrough, AreGoneSince}
use Rattle.engine.specs.Inner.Vacuumed.{SeesAll, AreTakenOut, LeaveLinked, ArePlacedSince, IsVacuumed, EndsTaking}
use Rattle.engine.specs.Inner.Vacuumed.{EndsVacuum}
use Rattle.engine.proofs.Cleanups.{all_both, index_kinds}
use Rattle.engine.proofs.DeadKept.{heads_kept, dead_kept}
use Rattle.engine.proofs.Since.{sees_all}
use Rattle.engine.proofs.AtWork.{at_in_turn, at_works, at_through}
use Rattle.engine.proofs.Stopped.{kinds_taken, OutKind, taking_before, vacuum_taking}
use Rattle.engine.proofs.Sweeping.{gone_earlier, comes_before}
use Rattle.engine.proofs.Vacuumed.{placed_by, gone_then, gone_now, gone_or_linked}

-- the kinds by which dead documents go are such of work on the index
pub index_out : (ks : List ℕ) → AllByRecursion OutKind ks → AllByRecursion IsIndexKind ks
index_out [] all = tt
index_out (k ∷ ks) all = ((omega (arith, all.0.0), all.0.1), index_out ks all.1)

module _ {D : Type 0} (device : Disk D) (f f1 : FramesValue D) (p p1 : Pass) (of : IsPassOf f p) (right : HasRight p)
    (all : p.seen ≡ f.journal.state.records) (reads : WorksOn device f p f1 p1 []) where
  whole_first : SeesAll device f p
  whole_first tells up R stands legal = omega (arith, log_length device f.journal R stands.journal, all)

  read : IsAt f f1
  read = at_works device f f1 p p1 [] reads

  -- once dead documents were sought
  pub whole_found : SeesAll device f1 p1
  whole_found = sees_all device f f1 p p1 [] reads.added tt reads.is_pass right reads.work reads.rises.seen whole_first

  pub right_found : HasRight p1
  right_found = record {
    at = right.at;
    has = reads.work ∙ right.has;
    within = omega (arith, right.within, reads.rises.seen);
  }

  module _ (f2 : FramesValue D) (p2 : Pass) (ks : List ℕ) (clean : CleansThrough device f1 p1 f2 p2 ks)
      (work : p2.work ≡ p1.work) (items : List ℕ)
      (found : (floor : ℕ) → IsFloor f floor → HasFoundDead device f1 p1 p.seen floor items) where
    -- once the list was cleaned, or some of it
    pub right_cleaned : HasRight p2
    right_cleaned = record {
      at = right_found.at;
      has = work ∙ right_found.has;
      within = omega (arith, right_found.within, clean.rises.seen);
    }

    pub whole_cleaned : SeesAll device f2 p2
    whole_cleaned =
        sees_all device f1 f2 p1 p2 ks clean.added (index_kinds ks clean.are) clean.is_pass right_found work
        clean.rises.seen whole_found

    heads_found : HaveDeadHeads device f1 p1 items
    heads_found = (found 0 (record { flushed = omega arith; pinned = λ place s is. omega arith })).dead

    pub heads_cleaned : DeadHeadsHold → HaveDeadHeads device f2 p2 items
    heads_cleaned heads =
        heads_kept device heads f1 f2 p1 p2 ks reads.is_pass clean whole_found whole_cleaned items heads_found

    records_same : f1.journal.state.records ≡ f.journal.state.records
    records_same = reads.goes.records

    gone_first : AreGoneSince device p1.seen f2 → AreGoneSince device f1.journal.state.records f2
    gone_first gone =
        gone_earlier device f2 f1.journal.state.records p1.seen
        (omega (arith, records_same, all, reads.rises.seen)) gone

    pub dead_cleaned : DeadHeadsHold → AreGoneSince device p1.seen f2 → AreDead device f2 p2 items
    dead_cleaned heads gone =
        dead_kept device heads f1 f2 p1 p2 ks reads.is_pass clean whole_found whole_cleaned items heads_found
        (gone_first gone)

    module _ (f3 : FramesValue D) (js : List ℕ) (taking : IsTakingOut js) (added : HasAdded device f2 f3 js) where
      out : AllByRecursion OutKind js
      out = kinds_taken js taking

      both : AllByRecursion IsIndexKind (ks ++ js)
      both = all_both IsIndexKind ks js (index_kinds ks clean.are) (index_out js out)

      more : HasAdded device f1 f3 (ks ++ js)
      more = added_in_turn device f1 f2 f3 ks js clean.added added

      least : f.journal.state.records ≤ p2.seen
      least = omega (arith, all, reads.rises.seen, clean.rises.seen)

      most : p2.seen ≤ f3.journal.state.records
      most = omega (arith, clean.is_pass.seen, added.longer)

      found_at : (floor : ℕ) → IsFloor f floor → HasFoundDead device f1 p1 f.journal.state.records floor items
      found_at floor is = subst (λ (n : ℕ). HasFoundDead device f1 p1 n floor items) all (found floor is)

      some_first : 0 < f1.journal.state.records
      some_first = omega (arith, records_same, of.some, all)

      pub vacuumed_by : PairsHold → ShiftHolds → VacuumHolds → AreGoneSince device p1.seen f2
          → AreTakenOut device p2.seen items f3 → IsVacuumed device f f3
      vacuumed_by pairs shifts vacuum gone taken = record {
        placed = subst (λ (n : ℕ). ArePlacedSince device n f3) records_same
            (placed_by device pairs shifts vacuum f1 f2 f3 ks js clean.added clean.are some_first (gone_first gone)
            added out);
        out = λ tells up R stands legal P Q shown shown' floor is d dead.
            gone_now device f f1 f3 p1 (ks ++ js) items p2.seen reads.added more both whole_found least most found_at
            tells up R stands legal P Q shown shown' floor is d dead taken;
      }

      pub gone_by : AreGoneSince device p1.seen f2 → AreGoneSince device p.seen f3
      gone_by gone =
          gone_then device f2 f3 js p.seen added (gone_earlier device f2 p.seen p1.seen (reads.rises.seen) gone)

      pub full_by : Comes device f1 f2 StoreFull
          → Stops device f2 f3 LogFull
          ⊎ (((n : ℕ) × Stops device f2 f3 (BadPage n)) ⊎ LeaveLinked device p2.seen items f3) → StopsFull device f f3
      full_by comes rest = record {
        mid = f2;
        at = at_in_turn f f1 f2 read (at_through device f1 f2 p1 p2 ks clean);
        full = comes_before device f f1 f2 StoreFull read reads.added comes;
        kinds = js;
        taking = taking;
        added = added;
        rest = elim rest [
          | inl log ↦ inl log
          | inr (inl bad) ↦ inr (inl bad)
          | inr (inr left) ↦ inr (inr (λ tells up R stands legal P Q shown shown' floor is d dead.
              gone_or_linked device f f1 f3 p1 (ks ++ js) items p2.seen reads.added more both whole_found least most
              found_at tells up R stands legal P Q shown shown' floor is d dead left))
        ];
      }

    pub ends_by_taking : (f3 : FramesValue D) (e : PlaceError) → EndsTaking device f2 f3 e → EndsVacuum device f f3 e
    ends_by_taking f3 e ends =
        vacuum_taking device f f3 e
        (taking_before device f f1 f3 [] e read reads.added tt
        (taking_before device f1 f2 f3 ks e (at_through device f1 f2 p1 p2 ks clean) clean.added
        (index_kinds ks clean.are) ends))
