-- What a whole call of a device in memory does.
use Rattle.std.proofs.Common.{◌≡◌, ℕ, ◌+◌, ◌-◌, ◌^◌, Bool, true, false, List, length, refl, sym, ap, ◌∙◌, subst, arith}
use Rattle.std.proofs.Common.{inl, inr, ◌⊎◌, ⊎_elim, Result, Ok, Err, OnOk, OnErr, IsOk, IsErr}
use Rattle.disk_trait.specs.Files.{Files, file_bytes}
use Rattle.disk_trait.specs.Device.{FileTorn, FileWritten, Elapses, LeavesNoMore, LeavesAll, Durable}
use Rattle.disk_trait.specs.Events.{LeftAt}
use Rattle.disk_trait.specs.Inner.Pushed.{IsSameFile, HasWritten, HasSynced}
use Rattle.disk_trait.specs.Inner.Kept.{IsIdle, HasWrittenTo, HasSyncedFile, Steps, is_done, KeepsWrite, KeepsSync}
use Rattle.disk_trait.specs.Inner.Kept.{SameFiles}
use Rattle.disk_trait.specs.MemoryDisk.{seen_of, image_of}
use Rattle.disk_trait.proofs.Moments.{elapses, grown_same, grown_written, grown_synced, same_leaves, same_keeps}
use Rattle.disk_trait.proofs.Moments.{written_leaves, written_keeps, synced_keeps, synced_leaves, synced_no_more}
use Rattle.disk_trait.proofs.Moments.{bytes_same, bytes_written, bytes_failed, bytes_synced}
use Rattle.disk_trait.specs.Inner.Standing.{torn_same}
use Rattle.disk_trait.specs.declared.device.File.{File}
use Rattle.disk_trait.specs.declared.device.File.TheVariants.{Log, Pages}
use Rattle.disk_trait.specs.declared.memory.MemoryFile.{MemoryFile}
use Rattle.disk_trait.specs.declared.disk.MemoryDisk.{MemoryDisk}
use Rattle.disk_trait.specs.declared.schedule.Schedule.{Schedule}

pub idle_crash : (d d' : MemoryDisk) → IsIdle d d' → (c : Files) → image_of d' d'.schedule.calls c
    → image_of d d.schedule.calls c
idle_crash d d' idle c left = (
  same_leaves d.schedule.calls d'.schedule.calls d.log d'.log c.log idle.log d.log_past idle.later.0 left.0,
  same_leaves d.schedule.calls d'.schedule.calls d.pages d'.pages c.pages idle.pages d.pages_past idle.later.0 left.1,
)

pub idle_keeps : (d d' : MemoryDisk) → IsIdle d d' → (c : Files) → image_of d d.schedule.calls c
    → image_of d' d'.schedule.calls c
idle_keeps d d' idle c left = (
  same_keeps d.schedule.calls d'.schedule.calls d.log d'.log c.log idle.log d.log_past idle.later.0 left.0,
  same_keeps d.schedule.calls d'.schedule.calls d.pages d'.pages c.pages idle.pages d.pages_past idle.later.0 left.1,
)

pub idle_time : (d d' : MemoryDisk) → IsIdle d d'
    → Elapses d.schedule.calls d'.schedule.calls (image_of d) (image_of d')
idle_time d d' idle = elapses d d' (grown_same d.schedule.calls d.log d'.log idle.log)
    (grown_same d.schedule.calls d.pages d'.pages idle.pages) idle.later.0 idle.later.1

pub idle_seen : (d d' : MemoryDisk) → IsIdle d d' → seen_of d' ≡ seen_of d
idle_seen d d' idle i =
    record { log = bytes_same d.log d'.log idle.log i; pages = bytes_same d.pages d'.pages idle.pages i }

-- the device as the call began it
abbrev Begun : MemoryDisk → MemoryDisk → Type 0
Begun d mid = (mid.log ≡ d.log) × (mid.pages ≡ d.pages) × (mid.schedule.calls ≡ d.schedule.calls + 1)

writes_from : (d mid : MemoryDisk) (at : ℕ) (bytes : List ℕ) (done : Bool) (f f' g : MemoryFile)
    → mid.schedule.calls ≡ d.schedule.calls + 1 → f' ≡ f → HasWritten mid.schedule.calls at bytes done f' g
    → HasWritten (d.schedule.calls + 1) at bytes done f g
writes_from d mid at bytes done f f' g t is wrote =
    subst (λ (p : ℕ × MemoryFile). HasWritten p.0 at bytes done p.1 g) (λ i. (t i, is i)) wrote

syncs_from : (d mid : MemoryDisk) (f f' g : MemoryFile) → mid.schedule.calls ≡ d.schedule.calls + 1 → f' ≡ f
    → HasSynced mid.schedule.calls f' g → HasSynced (d.schedule.calls + 1) f g
syncs_from d mid f f' g t is synced = subst (λ (p : ℕ × MemoryFile). HasSynced p.0 p.1 g) (λ i. (t i, is i)) synced

same_from : (f f' g : MemoryFile) → f' ≡ f → IsSameFile f' g → IsSameFile f g
same_from f f' g is same = subst (λ (x : MemoryFile). IsSameFile x g) is same

-- a write that was taken up
module _ (d mid e : MemoryDisk) (begun : Begun d mid) (at : ℕ) (bytes : List ℕ) (done : Bool) where
  wrote_crash : (file : File) → HasWrittenTo file at bytes done mid e → (c : Files) → image_of e e.schedule.calls c
      → (x : Files) × image_of d d.schedule.calls x × FileTorn file at (length bytes) x c
  wrote_crash Log wrote c left =
      let t : e.schedule.calls ≡ d.schedule.calls + 1 = ap (λ (s : Schedule). s.calls) wrote.2.0 ∙ begun.2 in
      let was = written_leaves d.schedule.calls at bytes done d.log e.log c.log
      (writes_from d mid at bytes done d.log mid.log e.log begun.2 begun.0 wrote.0) d.log_past
      (subst (λ k. LeftAt e.log.first.items e.log.events.items k c.log) t left.0) in
      let rest = same_leaves d.schedule.calls e.schedule.calls d.pages e.pages c.pages
      (same_from d.pages mid.pages e.pages begun.1 wrote.1) d.pages_past (omega (arith, t)) left.1 in
      (record { log = was.0; pages = c.pages }, (was.1, rest), record { torn = was.2; same = refl })
  wrote_crash Pages wrote c left =
      let t : e.schedule.calls ≡ d.schedule.calls + 1 = ap (λ (s : Schedule). s.calls) wrote.2.0 ∙ begun.2 in
      let was = written_leaves d.schedule.calls at bytes done d.pages e.pages c.pages
      (writes_from d mid at bytes done d.pages mid.pages e.pages begun.2 begun.1 wrote.1) d.pages_past
      (subst (λ k. LeftAt e.pages.first.items e.pages.events.items k c.pages) t left.1) in
      let rest = same_leaves d.schedule.calls e.schedule.calls d.log e.log c.log
      (same_from d.log mid.log e.log begun.0 wrote.0) d.log_past (omega (arith, t)) left.0 in
      (record { log = c.log; pages = was.0 }, (rest, was.1), record { torn = was.2; same = refl })

  wrote_keeps : (file : File) → HasWrittenTo file at bytes done mid e → (x c : Files) → image_of d d.schedule.calls x
      → FileTorn file at (length bytes) x c → image_of e e.schedule.calls c
  wrote_keeps Log wrote x c was torn =
      let t : e.schedule.calls ≡ d.schedule.calls + 1 = ap (λ (s : Schedule). s.calls) wrote.2.0 ∙ begun.2 in
      let first = written_keeps d.schedule.calls at bytes done d.log e.log x.log c.log
      (writes_from d mid at bytes done d.log mid.log e.log begun.2 begun.0 wrote.0) d.log_past was.0 torn.torn in (
        subst (λ k. LeftAt e.log.first.items e.log.events.items k c.log) (sym t) first,
        same_keeps d.schedule.calls e.schedule.calls d.pages e.pages c.pages
            (same_from d.pages mid.pages e.pages begun.1 wrote.1) d.pages_past (omega (arith, t))
            (subst (LeftAt d.pages.first.items d.pages.events.items d.schedule.calls) (sym torn.same) was.1),
      )
  wrote_keeps Pages wrote x c was torn =
      let t : e.schedule.calls ≡ d.schedule.calls + 1 = ap (λ (s : Schedule). s.calls) wrote.2.0 ∙ begun.2 in
      let first = written_keeps d.schedule.calls at bytes done d.pages e.pages x.pages c.pages (writes_from d mid at
      bytes done d.pages mid.pages e.pages begun.2 begun.1 wrote.1) d.pages_past was.1 torn.torn in (
        same_keeps d.schedule.calls e.schedule.calls d.log e.log c.log
            (same_from d.log mid.log e.log begun.0 wrote.0) d.log_past (omega (arith, t))
            (subst (LeftAt d.log.first.items d.log.events.items d.schedule.calls) (sym torn.same) was.0),
        subst (λ k. LeftAt e.pages.first.items e.pages.events.items k c.pages) (sym t) first,
      )

  wrote_time : (file : File) → HasWrittenTo file at bytes done mid e
      → Elapses d.schedule.calls e.schedule.calls (image_of d) (image_of e)
  wrote_time Log wrote =
      let t : e.schedule.calls ≡ d.schedule.calls + 1 = ap (λ (s : Schedule). s.calls) wrote.2.0 ∙ begun.2 in
      elapses d e (grown_written d.schedule.calls at bytes done d.log e.log
      (writes_from d mid at bytes done d.log mid.log e.log begun.2 begun.0 wrote.0)) (grown_same d.schedule.calls
      d.pages e.pages (same_from d.pages mid.pages e.pages begun.1 wrote.1)) (omega (arith, t)) (omega (arith, t))
  wrote_time Pages wrote =
      let t : e.schedule.calls ≡ d.schedule.calls + 1 = ap (λ (s : Schedule). s.calls) wrote.2.0 ∙ begun.2 in
      elapses d e (grown_same d.schedule.calls d.log e.log (same_from d.log mid.log e.log begun.0 wrote.0))
      (grown_written d.schedule.calls at bytes done d.pages e.pages (writes_from d mid at bytes done d.pages
      mid.pages e.pages begun.2 begun.1 wrote.1)) (omega (arith, t)) (omega (arith, t))

failed_seen : (d mid e : MemoryDisk) → Begun d mid → (at : ℕ) (bytes : List ℕ) (file : File)
    → HasWrittenTo file at bytes false mid e → seen_of e ≡ seen_of d
failed_seen d mid e begun at bytes Log wrote i = record {
  log = bytes_failed (d.schedule.calls + 1) at bytes d.log e.log
      (writes_from d mid at bytes false d.log mid.log e.log begun.2 begun.0 wrote.0) i;
  pages = bytes_same d.pages e.pages (same_from d.pages mid.pages e.pages begun.1 wrote.1) i;
}
failed_seen d mid e begun at bytes Pages wrote i = record {
  log = bytes_same d.log e.log (same_from d.log mid.log e.log begun.0 wrote.0) i;
  pages = bytes_failed (d.schedule.calls + 1) at bytes d.pages e.pages
      (writes_from d mid at bytes false d.pages mid.pages e.pages begun.2 begun.1 wrote.1) i;
}

wrote_seen : (d mid e : MemoryDisk) → Begun d mid → (at : ℕ) (bytes : List ℕ) (file : File)
    → HasWrittenTo file at bytes true mid e → FileWritten file at bytes (seen_of d) (seen_of e)
wrote_seen d mid e begun at bytes Log wrote = record {
  written = bytes_written (d.schedule.calls + 1) at bytes d.log e.log
      (writes_from d mid at bytes true d.log mid.log e.log begun.2 begun.0 wrote.0);
  same = bytes_same d.pages e.pages (same_from d.pages mid.pages e.pages begun.1 wrote.1);
}
wrote_seen d mid e begun at bytes Pages wrote = record {
  written = bytes_written (d.schedule.calls + 1) at bytes d.pages e.pages
      (writes_from d mid at bytes true d.pages mid.pages e.pages begun.2 begun.1 wrote.1);
  same = bytes_same d.log e.log (same_from d.log mid.log e.log begun.0 wrote.0);
}

-- a sync that was taken up
module _ (d mid e : MemoryDisk) (begun : Begun d mid) where
  synced_crash : (file : File) → HasSyncedFile file mid e → (c : Files) → image_of e e.schedule.calls c
      → image_of d d.schedule.calls c × (file_bytes file c ≡ file_bytes file (seen_of d))
  synced_crash Log synced c left =
      let t : e.schedule.calls ≡ d.schedule.calls + 1 = ap (λ (s : Schedule). s.calls) synced.2.0 ∙ begun.2 in
      let now = subst (λ k. LeftAt e.log.first.items e.log.events.items k c.log) t left.0 in
      let step = syncs_from d mid d.log mid.log e.log begun.2 begun.0 synced.0 in
      let rest = same_leaves d.schedule.calls e.schedule.calls d.pages e.pages c.pages
      (same_from d.pages mid.pages e.pages begun.1 synced.1) d.pages_past (omega (arith, t)) left.1 in (
        (synced_no_more d.schedule.calls d.log e.log c.log step d.log_past now, rest),
        synced_leaves d.schedule.calls d.log e.log c.log step d.log_past now,
      )
  synced_crash Pages synced c left =
      let t : e.schedule.calls ≡ d.schedule.calls + 1 = ap (λ (s : Schedule). s.calls) synced.2.0 ∙ begun.2 in
      let now = subst (λ k. LeftAt e.pages.first.items e.pages.events.items k c.pages) t left.1 in
      let step = syncs_from d mid d.pages mid.pages e.pages begun.2 begun.1 synced.1 in
      let rest = same_leaves d.schedule.calls e.schedule.calls d.log e.log c.log
      (same_from d.log mid.log e.log begun.0 synced.0) d.log_past (omega (arith, t)) left.0 in (
        (rest, synced_no_more d.schedule.calls d.pages e.pages c.pages step d.pages_past now),
        synced_leaves d.schedule.calls d.pages e.pages c.pages step d.pages_past now,
      )

  synced_all : (file : File) → HasSyncedFile file mid e → (c : Files) → image_of d d.schedule.calls c
      → file_bytes file c ≡ file_bytes file (seen_of d) → image_of e e.schedule.calls c
  synced_all Log synced c was is =
      let t : e.schedule.calls ≡ d.schedule.calls + 1 = ap (λ (s : Schedule). s.calls) synced.2.0 ∙ begun.2 in (
        subst (λ k. LeftAt e.log.first.items e.log.events.items k c.log) (sym t) (synced_keeps d.schedule.calls d.log
            e.log c.log (syncs_from d mid d.log mid.log e.log begun.2 begun.0 synced.0) d.log_past is),
        same_keeps d.schedule.calls e.schedule.calls d.pages e.pages c.pages
            (same_from d.pages mid.pages e.pages begun.1 synced.1) d.pages_past (omega (arith, t)) was.1,
      )
  synced_all Pages synced c was is =
      let t : e.schedule.calls ≡ d.schedule.calls + 1 = ap (λ (s : Schedule). s.calls) synced.2.0 ∙ begun.2 in (
        same_keeps d.schedule.calls e.schedule.calls d.log e.log c.log
            (same_from d.log mid.log e.log begun.0 synced.0) d.log_past (omega (arith, t)) was.0,
        subst (λ k. LeftAt e.pages.first.items e.pages.events.items k c.pages)
            (sym t) (synced_keeps d.schedule.calls d.pages e.pages c.pages
            (syncs_from d mid d.pages mid.pages e.pages begun.2 begun.1 synced.1) d.pages_past is),
      )

  synced_time : (file : File) → HasSyncedFile file mid e
      → Elapses d.schedule.calls e.schedule.calls (image_of d) (image_of e)
  synced_time Log synced =
      let t : e.schedule.calls ≡ d.schedule.calls + 1 = ap (λ (s : Schedule). s.calls) synced.2.0 ∙ begun.2 in
      elapses d e
      (grown_synced d.schedule.calls d.log e.log (syncs_from d mid d.log mid.log e.log begun.2 begun.0 synced.0))
      (grown_same d.schedule.calls d.pages e.pages (same_from d.pages mid.pages e.pages begun.1 synced.1))
      (omega (arith, t)) (omega (arith, t))
  synced_time Pages synced =
      let t : e.schedule.calls ≡ d.schedule.calls + 1 = ap (λ (s : Schedule). s.calls) synced.2.0 ∙ begun.2 in
      elapses d e (grown_same d.schedule.calls d.log e.log (same_from d.log mid.log e.log begun.0 synced.0))
      (grown_synced d.schedule.calls d.pages e.pages
      (syncs_from d mid d.pages mid.pages e.pages begun.2 begun.1 synced.1)) (omega (arith, t)) (omega (arith, t))

  synced_seen : (file : File) → HasSyncedFile file mid e → seen_of e ≡ seen_of d
  synced_seen Log synced i = record {
    log = bytes_synced (d.schedule.calls + 1) d.log e.log
        (syncs_from d mid d.log mid.log e.log begun.2 begun.0 synced.0) i;
    pages = bytes_same d.pages e.pages (same_from d.pages mid.pages e.pages begun.1 synced.1) i;
  }
  synced_seen Pages synced i = record {
    log = bytes_same d.log e.log (same_from d.log mid.log e.log begun.0 synced.0) i;
    pages = bytes_synced (d.schedule.calls + 1) d.pages e.pages
        (syncs_from d mid d.pages mid.pages e.pages begun.2 begun.1 synced.1) i;
  }

-- whether it was taken up or not
abbrev Writes : File → ℕ → List ℕ → Bool → MemoryDisk → MemoryDisk → Type 0
Writes file at bytes done d e = ((done ≡ false) × IsIdle d e) ⊎ Steps (HasWrittenTo file at bytes done) d e

abbrev Syncs : File → Bool → MemoryDisk → MemoryDisk → Type 0
Syncs file done d e = ((done ≡ false) × IsIdle d e) ⊎ ((done ≡ true) × Steps (HasSyncedFile file) d e)

-- what a call is taken for, where it is no matter that memory ran out
module _ {E : Type 0} where
  pub writes_way : (file : File) (at : ℕ) (bytes : List ℕ) (d e : MemoryDisk) (tried : Result Bool E)
      → KeepsWrite file at bytes d e tried → Writes file at bytes (is_done tried) d e
  writes_way file at bytes d e (Ok done) keeps =
      ⊎_elim (λ (idle : (done ≡ false) × (d.schedule.calls ≡ 2 ^ 64 - 1) × IsIdle d e). inl (idle.0, idle.2))
      (λ (kept : Steps (HasWrittenTo file at bytes done) d e). inr kept) keeps
  writes_way file at bytes d e (Err err) keeps = inl (refl, keeps)

  pub syncs_way : (file : File) (d e : MemoryDisk) (tried : Result Bool E) → KeepsSync file d e tried
      → Syncs file (is_done tried) d e
  syncs_way file d e (Ok true) keeps = inr (refl, keeps)
  syncs_way file d e (Ok false) keeps = inl (refl, keeps)
  syncs_way file d e (Err err) keeps = inl (refl, keeps)

-- what the answer says of it
module _ {T E : Type 0} where
  pub failed : (b : Bool) (r : Result T E) → OnOk r (b ≡ true) → b ≡ false → IsErr r
  failed b (Ok x) done fails = absurd (cc (done, fails))
  failed b (Err e) done fails = refl

  pub succeeded : (b : Bool) (r : Result T E) → OnErr r (b ≡ false) → b ≡ true → IsOk r
  succeeded b (Ok x) fails done = refl
  succeeded b (Err e) fails done = absurd (cc (fails, done))

torn_not : (file : File) (at n : ℕ) (c : Files) → FileTorn file at n c c
torn_not Log at n c = record { torn = torn_same at n c.log; same = refl }
torn_not Pages at n c = record { torn = torn_same at n c.pages; same = refl }

pub write_crash : (file : File) (at : ℕ) (bytes : List ℕ) (done : Bool) (d e : MemoryDisk)
    → Writes file at bytes done d e → (c : Files) → image_of e e.schedule.calls c
    → (x : Files) × image_of d d.schedule.calls x × FileTorn file at (length bytes) x c
write_crash file at bytes done d e way c left = ⊎_elim
    (λ (idle : (done ≡ false) × IsIdle d e). (c, idle_crash d e idle.1 c left, torn_not file at (length bytes) c))
    (λ (w : Steps (HasWrittenTo file at bytes done) d e). wrote_crash d w.0 e
    (w.1, w.2, w.3) at bytes done file w.4 c left) way

pub write_time : (file : File) (at : ℕ) (bytes : List ℕ) (done : Bool) (d e : MemoryDisk)
    → Writes file at bytes done d e → Elapses d.schedule.calls e.schedule.calls (image_of d) (image_of e)
write_time file at bytes done d e way = ⊎_elim (λ (idle : (done ≡ false) × IsIdle d e). idle_time d e idle.1)
    (λ (w : Steps (HasWrittenTo file at bytes done) d e). wrote_time d w.0 e (w.1, w.2, w.3) at bytes done file w.4) way

pub write_seen : (file : File) (at : ℕ) (bytes : List ℕ) (done : Bool) (d e : MemoryDisk)
    → Writes file at bytes done d e → done ≡ true → FileWritten file at bytes (seen_of d) (seen_of e)
write_seen file at bytes done d e way is =
    ⊎_elim (λ (idle : (done ≡ false) × IsIdle d e). let no = idle.0 in absurd (cc (no, is)))
    (λ (w : Steps (HasWrittenTo file at bytes done) d e). wrote_seen d w.0 e (w.1, w.2, w.3) at bytes file
    (subst (λ b. HasWrittenTo file at bytes b w.0 e) is w.4)) way

pub write_unseen : (file : File) (at : ℕ) (bytes : List ℕ) (done : Bool) (d e : MemoryDisk)
    → Writes file at bytes done d e → done ≡ false → seen_of e ≡ seen_of d
write_unseen file at bytes done d e way is = ⊎_elim (λ (idle : (done ≡ false) × IsIdle d e). idle_seen d e idle.1)
    (λ (w : Steps (HasWrittenTo file at bytes done) d e). failed_seen d w.0 e (w.1, w.2, w.3) at bytes file
    (subst (λ b. HasWrittenTo file at bytes b w.0 e) is w.4)) way

-- all that a torn write can leave
pub write_all : (file : File) (at : ℕ) (bytes : List ℕ) (done : Bool) (d e : MemoryDisk) → Writes file at bytes done d e
    → ((done ≡ false) × LeavesNoMore (image_of e e.schedule.calls) (image_of d d.schedule.calls))
    ⊎ LeavesAll (FileTorn file at (length bytes)) (image_of d d.schedule.calls) (image_of e e.schedule.calls)
write_all file at bytes done d e way =
    ⊎_elim (λ (idle : (done ≡ false) × IsIdle d e). inl (idle.0, idle_keeps d e idle.1))
    (λ (w : Steps (HasWrittenTo file at bytes done) d e). inr
    (λ x c was torn. wrote_keeps d w.0 e (w.1, w.2, w.3) at bytes done file w.4 x c was torn)) way

pub sync_crash : (file : File) (done : Bool) (d e : MemoryDisk) → Syncs file done d e → (c : Files)
    → image_of e e.schedule.calls c → image_of d d.schedule.calls c
sync_crash file done d e way c left = ⊎_elim (λ (idle : (done ≡ false) × IsIdle d e). idle_crash d e idle.1 c left)
    (λ (w : (done ≡ true) × Steps (HasSyncedFile file) d e).
    (synced_crash d w.1.0 e (w.1.1, w.1.2, w.1.3) file w.1.4 c left).0) way

pub sync_durable : (file : File) (done : Bool) (d e : MemoryDisk) → Syncs file done d e → done ≡ true
    → Durable file (file_bytes file (seen_of d)) (image_of e e.schedule.calls)
sync_durable file done d e way is c left =
    ⊎_elim (λ (idle : (done ≡ false) × IsIdle d e). let no = idle.0 in absurd (cc (no, is)))
    (λ (w : (done ≡ true) × Steps (HasSyncedFile file) d e).
    (synced_crash d w.1.0 e (w.1.1, w.1.2, w.1.3) file w.1.4 c left).1) way

-- the other file stays as it was
pub sync_all : (file : File) (done : Bool) (d e : MemoryDisk) → Syncs file done d e → (c : Files)
    → image_of d d.schedule.calls c → (done ≡ true → file_bytes file c ≡ file_bytes file (seen_of d))
    → image_of e e.schedule.calls c
sync_all file done d e way c was is = ⊎_elim (λ (idle : (done ≡ false) × IsIdle d e). idle_keeps d e idle.1 c was)
    (λ (w : (done ≡ true) × Steps (HasSyncedFile file) d e). synced_all d w.1.0 e (w.1.1, w.1.2, w.1.3) file w.1.4 c was
    (is w.0)) way

pub sync_time : (file : File) (done : Bool) (d e : MemoryDisk) → Syncs file done d e
    → Elapses d.schedule.calls e.schedule.calls (image_of d) (image_of e)
sync_time file done d e way = ⊎_elim (λ (idle : (done ≡ false) × IsIdle d e). idle_time d e idle.1)
    (λ (w : (done ≡ true) × Steps (HasSyncedFile file) d e). synced_time d w.1.0 e (w.1.1, w.1.2, w.1.3) file w.1.4) way

pub sync_seen : (file : File) (done : Bool) (d e : MemoryDisk) → Syncs file done d e → seen_of e ≡ seen_of d
sync_seen file done d e way = ⊎_elim (λ (idle : (done ≡ false) × IsIdle d e). idle_seen d e idle.1)
    (λ (w : (done ≡ true) × Steps (HasSyncedFile file) d e). synced_seen d w.1.0 e (w.1.1, w.1.2, w.1.3) file w.1.4) way

-- the counts say nothing of the files
pub answered_time : (d e f : MemoryDisk) → SameFiles e f → Elapses d.schedule.calls e.schedule.calls (image_of d)
    (image_of e) → Elapses d.schedule.calls f.schedule.calls (image_of d) (image_of f)
answered_time d e f same time = subst (λ (p : MemoryFile × MemoryFile × ℕ). Elapses d.schedule.calls p.2 (image_of d)
    (λ m c. LeftAt p.0.first.items p.0.events.items m c.log × LeftAt p.1.first.items p.1.events.items m c.pages))
    (λ i. (sym same.0 i, sym same.1 i, sym same.2 i)) time

pub answered_now : (e f : MemoryDisk) → SameFiles e f → (c : Files) → image_of f f.schedule.calls c
    → image_of e e.schedule.calls c
answered_now e f same c left =
    subst (λ (p : MemoryFile × MemoryFile × ℕ). LeftAt p.0.first.items p.0.events.items p.2 c.log
    × LeftAt p.1.first.items p.1.events.items p.2 c.pages) (λ i. (same.0 i, same.1 i, same.2 i)) left

pub answered_keeps : (e f : MemoryDisk) → SameFiles e f → (c : Files) → image_of e e.schedule.calls c
    → image_of f f.schedule.calls c
answered_keeps e f same c left =
    subst (λ (p : MemoryFile × MemoryFile × ℕ). LeftAt p.0.first.items p.0.events.items p.2 c.log
    × LeftAt p.1.first.items p.1.events.items p.2 c.pages) (λ i. (sym same.0 i, sym same.1 i, sym same.2 i)) left

pub answered_seen : (e f : MemoryDisk) → SameFiles e f → seen_of f ≡ seen_of e
answered_seen e f same i = record { log = (same.0 i).bytes.items; pages = (same.1 i).bytes.items }
