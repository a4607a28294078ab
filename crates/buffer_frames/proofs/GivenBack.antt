-- A device that is given back after its journal was opened.
use Rattle.std.proofs.Common.{◌≡◌, ℕ, inl, inr, arith}
use Rattle.std.specs.Prelude.{Err}
use Rattle.std.proofs.lemmas.Bool.{cases_lt}
use Rattle.disk_trait.specs.Runs.{images_now}
use Rattle.disk_trait.specs.declared.device.Disk.{Ghosts as Disk}
use Rattle.wal.specs.Batches.{IsUnborn}
use Rattle.wal.specs.Pages.{KeepsPages}
use Rattle.wal.specs.Reading.{IsOnlyRead}
use Rattle.wal.specs.Waiting.{end_of}
use Rattle.core_state.specs.Log.{Log}
use Rattle.core_state.specs.History.{History}
use Rattle.buffer_frames.specs.Causes.{NotAStoreWhere}
use Rattle.core_state.specs.declared.settings.Settings.{Settings}
use Rattle.buffer_frames.specs.Journals.{JournalValue}
use Rattle.buffer_frames.specs.NoStore.{CountedAreOne, IsNoStore}
use Rattle.buffer_frames.specs.Opening.{IsToldOpened, IsOpenedAt, LeavesRefused}
use Rattle.buffer_frames.specs.Opens.{OpensTo, StartedFrom, OpensAsBefore}
use Rattle.buffer_frames.specs.declared.page_map.PageMap.{PageMap}
use Rattle.buffer_frames.specs.declared.error.OpenFault.{OpenFault}
use Rattle.buffer_frames.specs.declared.error.OpenFault.TheVariants.{NotAStore, DiskFault, OutOfMemory}
use Rattle.buffer_frames.proofs.Beginning.{opens_as}

-- why an opening was refused
pub no_store_at : (P : Type 0) (f : OpenFault) → NotAStoreWhere {T = ℕ} P (Err f) → f ≡ NotAStore → P
no_store_at P NotAStore is e = is
no_store_at P DiskFault is e = absurd (let z : ⊥ = cc in z)
no_store_at P OutOfMemory is e = absurd (let z : ⊥ = cc in z)

pub given_back : {D : Type 0} (device : Disk D) → CountedAreOne → ((d : D) → images_now device d (device.seen d))
    → (first : D) (c0 : ℕ) (disk : D) (end : ℕ) (R : Log) → IsToldOpened device first c0 disk end R
    → StartedFrom device first → OpensAsBefore device first disk
given_back device one law first c0 disk end R told s = record {
  images = λ m c ge le left. elim (cases_lt m c0) [
    | inl lt ↦
        let here : images_now device first c = told.early m c ge lt left in
        let k : (H : History) × OpensTo c H = s.images c here in
        (k.0, k.1, (c, here, k.1))
    | inr late ↦
        let now = told.late m c late le left in
        let H : History = s.now.0 in (
          H,
          opens_as one (device.seen first) c R H s.now.1 told.store.counted now.0 now.1,
          (device.seen first, law first, s.now.1),
        )
  ];
}

-- a journal was opened, and there was no memory for its pages
pub no_memory : {D : Type 0} (device : Disk D) → CountedAreOne
    → (device.tells → (d : D) → images_now device d (device.seen d)) → (settings : Settings) (first : D) (c0 : ℕ)
    (j : JournalValue D) (map : PageMap) → IsOpenedAt device settings first c0 j map
    → (device.tells → KeepsPages device first j.disk)
    → (device.tells → (IsUnborn (device.seen first).log → ⊥) → IsOnlyRead device first j.disk)
    → (device.tells → IsNoStore (device.seen first) → ⊥) → LeavesRefused device first (j.disk, OutOfMemory)
no_memory device one law settings first c0 j map o keeps born store = record {
  opens = λ t s. given_back device one (law t) first c0 j.disk (end_of j.wal) o.counted (o.told t) s;
  keeps_pages = keeps;
  pages = λ t.
      let told = o.told t in
      (told.late (device.clock j.disk) (device.seen j.disk) told.began.1 (omega arith) (law t j.disk)).1;
  born = born;
  no_store = λ t none. absurd (store t none);
  not_a_store = λ e. absurd (let z : ⊥ = cc in z);
  fault = λ e. absurd (let z : ⊥ = cc in z);
  memory = λ e. o.no_write_failed;
  later = o.no_fall;
  time = o.time;
}
