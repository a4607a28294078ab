-- What is read after the opening's first calls is what the files were.
use Rattle.std.proofs.Common.{◌≡◌, inl, ⊎_elim, ℕ, List, [], refl, sym, ap, subst, ◌∙◌}
use Rattle.std.specs.Prelude.{Err}
use Rattle.disk_trait.specs.Files.{Files}
use Rattle.disk_trait.specs.declared.device.Disk.{Ghosts as Disk}
use Rattle.wal.specs.Batches.{IsUnborn, Opens, OpensToOneList}
use Rattle.wal.specs.Creating.{created}
use Rattle.wal.specs.Reading.{IsOnlyRead}
use Rattle.core_state.specs.Log.{Log}
use Rattle.buffer_frames.specs.Applied.{CanApply}
use Rattle.buffer_frames.specs.Causes.{NotAStoreWhere}
use Rattle.buffer_frames.specs.Counted.{AreRecords, IsCounted}
use Rattle.buffer_frames.specs.NoStore.{IsStoreOf, IsNoStore}
use Rattle.buffer_frames.specs.Inner.Known.{StoresAreKnown}
use Rattle.wal.specs.Creating.{IsMade}
use Rattle.buffer_frames.specs.declared.error.OpenFault.{OpenFault}
use Rattle.buffer_frames.specs.declared.error.OpenFault.TheVariants as faults
use Rattle.buffer_frames.proofs.OpeningRuns.{created_opens}

no_records : AreRecords [] []
no_records = record { lists = []; each = tt; log_is = refl; numbered = tt }

pub unborn_store : (files : Files) → IsUnborn files.log → IsStoreOf files []
unborn_store files unborn =
    record { counted = record { batches = []; opens = inl (unborn, refl); records = no_records }; applies = tt }

created_store : (files : Files) → files.log ≡ created → IsStoreOf files []
created_store files is = record {
  counted =
      record { batches = []; opens = subst (λ (l : List ℕ). Opens l []) (sym is) created_opens; records = no_records };
  applies = tt;
}

same_files : (a b : Files) → a.log ≡ b.log → a.pages ≡ b.pages → a ≡ b
same_files a b l p = ap (λ (x : List ℕ). let f : Files = record { log = x; pages = a.pages } in f) l
    ∙ ap (λ (x : List ℕ). let f : Files = record { log = b.log; pages = x } in f) p

-- records of an empty log are those of one whose creation was cut short
pub counted_unborn : OpensToOneList → (old new : List ℕ) (R : Log) → IsUnborn old → Opens new [] → IsCounted new R
    → IsCounted old R
counted_unborn one old new R unborn opens counted = record {
  batches = [];
  opens = inl (unborn, refl);
  records =
      subst (λ (bs : List (List ℕ)). AreRecords bs R) (one new counted.batches [] counted.opens opens) counted.records;
}

pub counted_empty : OpensToOneList → (old new : List ℕ) (R : Log) → IsUnborn old → Opens new [] → IsCounted old R
    → IsCounted new R
counted_empty one old new R unborn opens counted = record {
  batches = [];
  opens = opens;
  records = subst (λ (bs : List (List ℕ)). AreRecords bs R)
      (one old counted.batches [] counted.opens (inl (unborn, refl))) counted.records;
}

pub weaker_refusal : (T U P Q : Type 0) (e : OpenFault) → (Q → P) → NotAStoreWhere {T = T} Q (Err e)
    → NotAStoreWhere {T = U} P (Err e)
weaker_refusal T U P Q faults.NotAStore f h = f h
weaker_refusal T U P Q faults.DiskFault f h = tt
weaker_refusal T U P Q faults.OutOfMemory f h = tt

module _ {D : Type 0} (device : Disk D) where
  pub store_before : OpensToOneList → (first m : D) (R : Log) → IsMade device first m → IsStoreOf (device.seen m) R
      → IsStoreOf (device.seen first) R
  store_before one first m R made store = record {
    counted = ⊎_elim (λ (same : (device.seen m).log ≡ (device.seen first).log). subst
        (λ (l : List ℕ). IsCounted l R) same store.counted)
        (λ (new : IsUnborn (device.seen first).log × ((device.seen m).log ≡ created)). counted_unborn one
        (device.seen first).log (device.seen m).log R new.0
        (subst (λ (l : List ℕ). Opens l []) (sym new.1) created_opens) store.counted) made.log_is;
    applies = subst (λ (l : List ℕ). CanApply l R) made.pages store.applies;
  }

  pub no_store_before : StoresAreKnown → (first m : D) → IsMade device first m → IsNoStore (device.seen m)
      → IsNoStore (device.seen first)
  no_store_before known first m made none = ⊎_elim (λ (same : (device.seen m).log ≡ (device.seen first).log).
      subst IsNoStore (same_files (device.seen m) (device.seen first) same made.pages) none)
      (λ (new : IsUnborn (device.seen first).log × ((device.seen m).log ≡ created)). absurd
      (known (device.seen m) [] (created_store (device.seen m) new.1) none)) made.log_is

  pub none_unborn : StoresAreKnown → (first : D) → IsNoStore (device.seen first) → IsUnborn (device.seen first).log → ⊥
  none_unborn known first none unborn = known (device.seen first) [] (unborn_store (device.seen first) unborn) none

  pub only_told : (old new : D) → (device.tells → IsOnlyRead device old new) → IsOnlyRead device old new
  only_told old new read = record { same = λ t. (read t).same t; any_moment = λ t. (read t).any_moment t }

pub at_refusal : (T Q : Type 0) (e : OpenFault) → NotAStoreWhere {T = T} Q (Err e) → e ≡ faults.NotAStore → Q
at_refusal T Q e h is = subst (λ (x : OpenFault). NotAStoreWhere {T = T} Q (Err x)) is h
