-- A store just after its opening.
use Rattle.std.proofs.Common.{◌≡◌, ◌≤◌, ℕ, length, sym, ap, subst, ◌∙◌, arith}
use Rattle.std.proofs.lemmas.List.{length-map}
use Rattle.disk_trait.specs.Files.{Files}
use Rattle.disk_trait.specs.Runs.{images_now}
use Rattle.disk_trait.specs.declared.device.Disk.{Ghosts as Disk}
use Rattle.wal.specs.Pages.{KeepsPages}
use Rattle.page_types.specs.Numbers.{page_limit}
use Rattle.core_state.specs.Log.{Log}
use Rattle.core_state.specs.History.{Commit, History}
use Rattle.core_state.specs.States.{state_of}
use Rattle.core_state.specs.declared.settings.Settings.{Settings}
use Rattle.core_state.proofs.StateTold.{state_told}
use Rattle.buffer_frames.specs.Frames.{AreFrames}
use Rattle.buffer_frames.specs.Beginnings.{BeginsBy}
use Rattle.buffer_frames.specs.NoStore.{CountedAreOne}
use Rattle.buffer_frames.specs.Opens.{IsLogOf, OpensTo, StartedFrom}
use Rattle.buffer_frames.specs.Opening.{IsOpenedAt, HasStarted, opened_log}
use Rattle.buffer_frames.specs.Passes.{IsWhole}
use Rattle.buffer_frames.specs.declared.page_map.PageMap.{PageMap}
use Rattle.buffer_frames.specs.declared.pass.Pass.{Pass}
use Rattle.buffer_frames.proofs.Beginning.{begins_opened, opens_as, stands_one}
use Rattle.engine.specs.Db.{DbValue, disk_of, opened_of, flushed_of}
use Rattle.engine.specs.Opened.{IsFixedSince, IsLawfulSince, OpenedAt}
use Rattle.engine.specs.Opening.{HasSamePages}
use Rattle.engine.proofs.HeapPagesKept.{heaps_begin}

module _ {D : Type 0} (device : Disk D) (one : CountedAreOne)
    (law : device.tells → (d : D) → images_now device d (device.seen d)) (settings : Settings) (first : D) (c0 : ℕ)
    (s : DbValue D) (pass : Pass) (pages : PageMap) (o : IsOpenedAt device settings first c0 s.frames.journal pages)
    (whole : IsWhole s.frames.journal pass) (since : opened_of s ≡ disk_of s)
    (on : device.tells → (H : History) → OpensTo (device.seen first) H → OpensTo (device.seen (disk_of s)) H)
    (are : AreFrames device s.frames) (started : HasStarted s.frames.journal.state) (few : settings.pages ≤ page_limit)
    (pending : s.pending ≡ settings.pending)
  where
    fixed : device.tells → IsFixedSince device first c0 (disk_of s)
    fixed t =
        let told = o.told t in
        record { began = told.began; early = told.early; pages = λ m c ge le left. (told.late m c ge le left).1 }

    -- what a crash leaves opens to what was found
    late : device.tells → (found : History) → OpensTo (device.seen first) found → (m : ℕ) (c : Files) → c0 ≤ m
        → m ≤ device.clock (disk_of s) → device.image (disk_of s) m c → OpensTo c found
    late t found entry m c ge le left =
        let told = o.told t in
        let seen = told.late (device.clock (disk_of s)) (device.seen (disk_of s)) told.began.1 (omega arith)
        (law t (disk_of s)) in
        let there = told.late m c ge le left in
        opens_as one (device.seen (disk_of s)) c o.counted found (on t found entry) seen.0 there.0
        (there.1 ∙ sym seen.1)

    -- all its commits are flushed
    all_flushed : device.tells → (found : History) → OpensTo (device.seen first) found → flushed_of s ≡ length found
    all_flushed t found entry =
        let j = s.frames.journal in
        let told = o.told t in
        let here : OpensTo (device.seen (disk_of s)) found = on t found entry in
        let seen = told.late (device.clock (disk_of s)) (device.seen (disk_of s)) told.began.1 (omega arith)
        (law t (disk_of s)) in
        let same : here.records ≡ o.counted =
        one (device.seen (disk_of s)).log here.records o.counted here.counted seen.0 in
        let of : IsLogOf o.counted found = subst (λ (l : Log). IsLogOf l found) same here.log_of in
        let flushed : j.flushed ≡ length (state_of j.state.pages j.state.xid_limit o.counted).deleted =
        subst (λ (l : Log). j.flushed ≡ length (state_of j.state.pages j.state.xid_limit l).deleted) o.none_lost
        (o.stands.flushed o.up) in
        let tells = (state_told j.state.pages j.state.xid_limit o.counted of.legal).deleted found of.history in
        flushed ∙ ap length tells ∙ length-map found (λ (c : Commit). c.deleted)

    lawful : device.tells → StartedFrom device first → (found : History) × IsLawfulSince device first c0 s found
    lawful t from =
        let found : History = from.now.0 in
        let entry : OpensTo (device.seen first) found = from.now.1 in
        let j = s.frames.journal in
        let opens : OpensTo (device.seen (opened_of s)) found =
        subst (λ (d : D). OpensTo (device.seen d) found) (sym since) (on t found entry) in
        let begins : BeginsBy device j found (opened_log o.counted) found =
        begins_opened device one (law t) t settings first c0 j pages o since found opens in
        let same : opened_log o.counted ≡ are.log =
        stands_one device one (law t) j (opened_log o.counted) are.log o.stands are.stands.journal t o.up in (
          found,
          record {
            entry = entry;
            stands = record {
              entry = opens;
              log = are.log;
              stands = are.stands;
              begins = subst (λ (l : Log). BeginsBy device j found l found) same begins;
              heaps = heaps_begin device s are.log are.stands started;
              few = omega (arith, o.pages, few);
            };
            flushed = all_flushed t found entry;
            kept = λ m c ge le left.
                let began = (o.told t).began.1 in
                (found, late t found entry m c (omega (arith, ge, began)) le left, omega arith);
            late = late t found entry;
          },
        )

    pub opened_at : OpenedAt device settings first c0 s pass
    opened_at = record {
      up = o.up;
      limits = record { log = o.limit; xids = o.xid_limit; pages = o.pages; pending = pending };
      opened = since;
      shown = ap (λ (p : Pass). p.shown) whole;
      time = o.time;
      no_fall = o.no_fall;
      no_write_failed = o.no_write_failed;
      below_last = o.below_last;
      fixed = fixed;
      lawful = lawful;
    }

-- a device that is given back has the pages that it had
pub same_pages : {D : Type 0} (device : Disk D) (old new : D) → KeepsPages device old new
    → (device.seen new).pages ≡ (device.seen old).pages → HasSamePages device old new
same_pages device old new keeps seen = record { now = seen; images = λ m c ge le left. keeps.each m c ge le left }
