-- What calls one after another keep of a log, its history, and what a crash leaves.
use Rattle.std.proofs.Common.{◌≡◌, ℕ, Bool, List, [], ◌∷◌, ◌++◌, refl, ap, subst, ◌∙◌}
use Rattle.disk_trait.specs.declared.device.Disk.{Ghosts as Disk}
use Rattle.page_types.specs.Records.{kind_number}
use Rattle.core_state.specs.Log.{Log}
use Rattle.core_state.specs.Allowed.{Step}
use Rattle.buffer_frames.specs.Beginnings.{BeginsOn, BeginsWith}
use Rattle.buffer_frames.specs.Journals.{after_owed, logged, next_record}
use Rattle.buffer_frames.specs.Frames.{FramesValue, Stands}
use Rattle.buffer_frames.specs.Passes.{GoesOnBy, HasAdded, KeepsOn}
use Rattle.buffer_frames.proofs.Added.{on_by_none, on_in_turn, none_by_kinds}
use Rattle.buffer_frames.proofs.Beginning.{begins_all, begins_then}
use Rattle.buffer_frames.proofs.StepsKept.{number_drawn}

-- a log that goes on by no record is the same
pub same_by_none : (owes : Bool) (R R' : Log) → GoesOnBy owes R R' [] → R' ≡ R
same_by_none owes R R' g = g.log_is ∙ ap (λ (l : Log). l ++ R) (none_by_kinds g.added g.kinds_are)

module _ {D : Type 0} (device : Disk D) where
  -- a call that logs nothing
  pub keeps_of_none : (f g : FramesValue D) → HasAdded device f g [] → BeginsOn device f.journal g.journal
      → KeepsOn device f g []
  keeps_of_none f g added begins t found R H b s =
      let on = added.on R s in (
        R,
        H,
        on_by_none f.journal.owes R,
        begins_all H,
        subst (Stands device g) (same_by_none f.journal.owes R on.0 on.2) on.1,
        begins t found R H b,
      )

  -- a call that logs the record of a step
  pub keeps_of_step : (f g : FramesValue D) (step : Step)
      → ((R : Log) → Stands device f R → Stands device g (logged f.journal.owes (next_record f.journal step) R))
      → BeginsWith device f.journal g.journal (next_record f.journal step)
      → KeepsOn device f g (kind_number step.kind ∷ [])
  keeps_of_step f g step stands begins t found R H b s =
      let h = begins t found R H b in (
        logged f.journal.owes (next_record f.journal step) R,
        h.0,
        record {
          added = next_record f.journal step ∷ [];
          log_is = refl;
          kinds_are =
              ap (λ (n : ℕ). n ∷ []) (number_drawn (after_owed f.journal.owes f.journal.state) step.kind);
        },
        h.1,
        stands R s,
        h.2,
      )

  -- calls one after another
  pub keeps_in_turn : (f g h : FramesValue D) (xs ys : List ℕ) → HasAdded device f g xs → KeepsOn device f g xs
      → KeepsOn device g h ys → KeepsOn device f h (xs ++ ys)
  keeps_in_turn f g h xs ys added a b t found R H begins s =
      let m = a t found R H begins s in
      let n = b t found m.0 m.1 m.5 m.4 in (
        n.0,
        n.1,
        on_in_turn f.journal.owes R m.0 n.0 xs ys m.2
            (subst (λ (o : Bool). GoesOnBy o m.0 n.0 ys) added.owes n.2),
        begins_then H m.1 n.1 m.3 n.3,
        n.4,
        n.5,
      )
