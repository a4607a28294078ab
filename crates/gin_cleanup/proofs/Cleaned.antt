-- What records of a cleanup leave as it is.
use Rattle.std.proofs.Common.{◌∙◌, ◌≤◌, ℕ, List, [], ◌∷◌, sym, subst, inl, inr, arith}
use Rattle.std.specs.Prelude.{Bool, true, false}
use Rattle.std.specs.List.{AllByRecursion}
use Rattle.disk_trait.specs.declared.device.Disk.{Ghosts as Disk}
use Rattle.page_types.specs.Records.{kind_number}
use Rattle.core_state.specs.Log.{Log, In}
use Rattle.core_state.specs.History.{History, IsHistory}
use Rattle.core_maintenance.proofs.Pairs.{history_holds}
use Rattle.buffer_frames.specs.Frames.{FramesValue}
use Rattle.buffer_frames.specs.Passes.{GoesOnBy, before_more}
use Rattle.buffer_frames.specs.declared.pass.Pass.{Pass}
use Rattle.buffer_frames.proofs.Added.{added_in_turn}
use Rattle.gin_place.specs.Going.{IsPlacingKind, WorksOn}
use Rattle.gin_place.proofs.Carrying.{rises_on}
use Rattle.gin_place.proofs.Running.{goes_in_turn}
use Rattle.gin_cleanup.specs.Going.{IsCleaningKind, CleansOn}
use Rattle.gin_cleanup.proofs.ListKept.{in_kinds, all_in}

-- an Abort leaves the history
owed_history : (owes : Bool) (ks : List ℕ) (R : Log) (H : History) → IsHistory R H → IsHistory (before_more owes ks R) H
owed_history owes [] R H h = h
owed_history true (k ∷ ks) R H h = h
owed_history false (k ∷ ks) R H h = h

index_work : (k : ℕ) → IsCleaningKind k → (12 ≤ k) × (k ≤ 21)
index_work k (inl e) = (omega (arith, e), omega (arith, e))
index_work k (inr p) = (omega (arith, p.0), omega (arith, p.1))

-- so do these records
pub history_on : (owes : Bool) (ks : List ℕ) → AllByRecursion IsCleaningKind ks → (R R' : Log)
    (H : History) → GoesOnBy owes R R' ks → IsHistory R H → IsHistory R' H
history_on owes ks each R R' H on had =
    subst (λ (T : Log). IsHistory T H) (sym on.log_is)
    (history_holds (before_more owes ks R) on.added H
    (λ r i. index_work (kind_number r.kind) (all_in IsCleaningKind ks (kind_number r.kind) each
    (subst (In (kind_number r.kind)) on.kinds_are (in_kinds on.added r i))))
    (owed_history owes ks R H had))

of_placing : (ks : List ℕ) → AllByRecursion IsPlacingKind ks → AllByRecursion IsCleaningKind ks
of_placing [] all = tt
of_placing (k ∷ ks) all = (inr all.0, of_placing ks all.1)

module _ {D : Type 0} (device : Disk D) where
  -- placing is cleaning
  pub cleans_by : (f g : FramesValue D) (p q : Pass) (ks : List ℕ) → WorksOn device f p g q ks
      → CleansOn device f p g q ks
  cleans_by f g p q ks w = record {
    is_pass = w.is_pass;
    added = w.added;
    cleaning = of_placing ks w.placing;
    history = history_on f.journal.owes ks (of_placing ks w.placing);
    placed = w.pairs.placed;
    rises = w.rises;
    pin = w.pin;
    room = w.room;
    xid = w.xid;
    work = w.work;
    pins = w.pins;
    goes = w.goes;
  }

  -- after calls that log nothing
  pub cleans_after : (f g h : FramesValue D) (p q r : Pass) (ks : List ℕ) → WorksOn device f p g q []
      → CleansOn device g q h r ks → CleansOn device f p h r ks
  cleans_after f g h p q r ks x y = record {
    is_pass = y.is_pass;
    added = added_in_turn device f g h [] ks x.added y.added;
    cleaning = y.cleaning;
    history = history_on f.journal.owes ks y.cleaning;
    placed = λ k i had. y.placed k i (x.pairs.placed k i had);
    rises = rises_on device p q r x.rises y.rises;
    pin = y.pin ∙ x.pin;
    room = y.room ∙ x.room;
    xid = y.xid ∙ x.xid;
    work = y.work ∙ x.work;
    pins = y.pins ∙ x.pins;
    goes = goes_in_turn device f g h [] ks x.added x.goes y.goes;
  }
