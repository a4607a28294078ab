-- What a crash leaves of an opening, and what a journal stands for after it.
use Rattle.std.proofs.Common.{◌≡◌, inl, inr, ⊎_elim, ◌≤◌, ℕ, Bool, true, false, List, [], ◌∷◌, length, refl, sym, ap}
use Rattle.std.proofs.Common.{subst, ◌∙◌, arith}
use Rattle.std.specs.Prelude.{None}
use Rattle.std.proofs.lemmas.Bool.{cases_lt}
use Rattle.std.proofs.lemmas.List.{append-nil}
use Rattle.disk_trait.specs.Files.{Files}
use Rattle.disk_trait.specs.Runs.{images_now}
use Rattle.disk_trait.specs.declared.device.Disk.{Ghosts as Disk}
use Rattle.disk_trait.proofs.Runs.{then, weaker_run}
use Rattle.wal.specs.Batches.{front, IsUnborn, Opens, OpensToOneList}
use Rattle.wal.specs.Pages.{HasPagesOf, KeepsPages}
use Rattle.wal.specs.Settled.{Settled}
use Rattle.wal.specs.Waiting.{waiting, end_of}
use Rattle.wal.specs.declared.log.Wal.{Wal}
use Rattle.page_types.specs.Records.{record_bytes}
use Rattle.core_state.specs.Log.{Log}
use Rattle.core_state.specs.History.{History}
use Rattle.core_state.specs.States.{StateValue, state_of, step_of, run_started}
use Rattle.core_state.specs.Stores.{AreRecordsOf, PagesStand}
use Rattle.core_state.specs.declared.settings.Settings.{Settings}
use Rattle.core_state.proofs.Bounds.{step_marks, state_bounds}
use Rattle.buffer_frames.specs.Counted.{IsCounted}
use Rattle.buffer_frames.specs.First.{first_record}
use Rattle.buffer_frames.specs.Journals.{lasting, IsJournalOf}
use Rattle.buffer_frames.specs.NoStore.{IsStoreOf}
use Rattle.buffer_frames.specs.Opens.{OpensTo, StartedFrom, OpensAsBefore}
use Rattle.buffer_frames.specs.Opening.{IsOpenedAt, IsToldOpened}
use Rattle.wal.specs.Creating.{IsLogBefore}
use Rattle.buffer_frames.specs.Inner.Making.{HasRun, RunsFrom, IsReadAs, HasBegun, AreBelowLast}
use Rattle.buffer_frames.specs.declared.page_map.PageMap.{PageMap}
use Rattle.buffer_frames.proofs.FirstRecord.{first_encoded}
use Rattle.buffer_frames.proofs.Flushing.{seen_as}
use Rattle.buffer_frames.proofs.StoreBefore.{counted_empty}

module _ {D : Type 0} (device : Disk D) where
  -- each image has the pages of one on entry
  pub runs_keep : device.tells → ((d : D) → images_now device d (device.seen d)) → (first disk : D)
      → RunsFrom device first disk → KeepsPages device first disk
  runs_keep told law first disk (inl only) = weaker_run device first disk (images_now device first)
      (HasPagesOf (images_now device first)) (only.any_moment told) (λ c here. (c, here, refl))
  runs_keep told law first disk (inr (c0, run)) =
      then device first run.mid disk (HasPagesOf (images_now device first)) _
      (weaker_run device first run.mid (images_now device first) (HasPagesOf (images_now device first)) run.synced
      (λ c here. (c, here, refl)))
      run.rest (λ c left. (device.seen first, law first, left.0))

  -- what a read gives of the page file is as it was
  pub runs_seen : device.tells → ((d : D) → images_now device d (device.seen d)) → (first disk : D)
      → RunsFrom device first disk → (device.seen disk).pages ≡ (device.seen first).pages
  runs_seen told law first disk (inl only) = ap (λ (f : Files). f.pages) (only.same told)
  runs_seen told law first disk (inr (c0, run)) =
      (run.rest.each (device.clock disk) (device.seen disk) run.rest.later (omega arith) (law disk)).0

  -- an image of it opens to what the files did
  image_opens : OpensToOneList → (first : D) (c : Files) (H : History) → (c.pages ≡ (device.seen first).pages)
      × IsLogBefore (device.seen first).log c.log → OpensTo (device.seen first) H → OpensTo c H
  image_opens one first c H left opens = record {
    records = opens.records;
    counted = ⊎_elim (λ (same : c.log ≡ (device.seen first).log). subst (λ (l : List ℕ). IsCounted l opens.records)
        (sym same) opens.counted)
        (λ (new : IsUnborn (device.seen first).log × Opens c.log []). counted_empty one
        (device.seen first).log c.log opens.records new.0 new.1 opens.counted) left.1;
    log_of = opens.log_of;
    pages = subst (λ (l : List ℕ). PagesStand opens.records l) (sym left.0) opens.pages;
  }

  pub runs_open : device.tells → OpensToOneList → ((d : D) → images_now device d (device.seen d)) → (first disk : D)
      → RunsFrom device first disk → StartedFrom device first → OpensAsBefore device first disk
  runs_open told one law first disk (inl only) s = record {
    images = λ m c ge le left.
        let here : images_now device first c = (only.any_moment told).each m c ge le left in
        let k : (H : History) × OpensTo c H = s.images c here in
        (k.0, k.1, (c, here, k.1));
  }
  runs_open told one law first disk (inr (c0, run)) s = record {
    images = λ m c ge le left. elim (cases_lt (device.clock run.mid) m) [
      | inl lt ↦
          let now = run.rest.each m c (omega arith) le left in
          (s.now.0, image_opens one first c s.now.0 now s.now.1, (device.seen first, law first, s.now.1))
      | inr below ↦
          let here : images_now device first c = run.synced.each m c ge below (run.rest.before m c below left) in
          let k : (H : History) × OpensTo c H = s.images c here in
          (k.0, k.1, (c, here, k.1))
    ];
  }

  -- the log ends after the batches that count
  end_told : (disk : D) → OpensToOneList → device.image disk (device.clock disk) (device.seen disk)
      → (first : D) (c0 : ℕ)
      → HasRun device first c0 disk → (read counted : List (List ℕ)) (end : ℕ) → Settled device read end disk
      → Opens (device.seen first).log counted → end ≡ length (front counted)
  end_told disk one here first c0 run read counted end settled opens =
      let now = (run.rest.each (device.clock disk) (device.seen disk) run.rest.later (omega arith) here).1 in
      let has : Opens (device.seen disk).log read = inr (record {
        commit_byte = settled.commit_byte;
        rest = settled.rest;
        split = settled.log.now;
        unset = settled.unset;
        fit = settled.fit;
      }) in
      let same : read ≡ counted =
      ⊎_elim (λ (e : (device.seen disk).log ≡ (device.seen first).log). one (device.seen first).log read counted
      (subst (λ (l : List ℕ). Opens l read) e has) opens)
      (λ (new : IsUnborn (device.seen first).log × Opens (device.seen disk).log []).
      one (device.seen disk).log read [] has new.1
      ∙ one (device.seen first).log [] counted (inl (new.0, refl)) opens) now in
      sym settled.ends ∙ ap (λ (bs : List (List ℕ)). length (front bs)) same

  told_opened : OpensToOneList → ((d : D) → images_now device d (device.seen d)) → (first : D) (c0 : ℕ) (disk : D)
      (end : ℕ) (R : Log) (run : HasRun device first c0 disk) → IsStoreOf (device.seen first) R
      → (batches : List (List ℕ)) → Settled device batches end disk → IsToldOpened device first c0 disk end R
  told_opened one law first c0 disk end R run store batches settled = record {
    store = store;
    end_is = end_told disk one (law disk) first c0 run batches store.counted.batches end settled store.counted.opens;
    began = (omega (arith, run.synced.later, run.at), omega (arith, run.rest.later, run.at));
    early = λ m c ge lt left. run.synced.each m c ge (omega (arith, run.at, lt))
        (run.rest.before m c (omega (arith, run.at, lt)) left);
    late = λ m c ge le left.
        let now = run.rest.each m c (omega (arith, run.at, ge)) le left in (
          ⊎_elim (λ (same : c.log ≡ (device.seen first).log). subst (λ (l : List ℕ). IsCounted l R)
              (sym same) store.counted)
              (λ (new : IsUnborn (device.seen first).log × Opens c.log []). counted_empty one
              (device.seen first).log c.log R new.0 new.1 store.counted) now.1,
          now.0,
        );
  }

  -- what the journal stands for where records were read
  goes_on : (settings : Settings) (first disk : D) (wal : Wal) (v : StateValue) (map : PageMap) (R : Log) (n : ℕ)
      → IsReadAs device settings first disk wal v map R → n ≡ length v.deleted
      → IsJournalOf device (seen_as disk wal v n true disk None) R
  goes_on settings first disk wal v map R n read count =
      let b = state_bounds settings.pages settings.xid_limit R in
      let pages : v.pages ≡ settings.pages = ap (λ (s : StateValue). s.pages) read.state_is ∙ b.0 in
      let limit : v.xid_limit ≡ settings.xid_limit = ap (λ (s : StateValue). s.xid_limit) read.state_is ∙ b.1 in
      let state : v ≡ state_of v.pages v.xid_limit R = read.state_is ∙ ap (λ (k : ℕ). state_of k settings.xid_limit R)
      (sym pages) ∙ ap (λ (k : ℕ). state_of v.pages k R) (sym limit) in
      record {
        counted = R;
        waits = [];
        all = refl;
        numbered = read.numbered;
        state = ap lasting state;
        flushed = λ up. count ∙ ap (λ (s : StateValue). length s.deleted) state;
        waiting_is = λ up. subst (λ (w : List ℕ). AreRecordsOf w []) (sym read.fresh.none)
            (record { each = tt; encoded = refl });
        settled = λ t up. read.settled t;
        work = tt;
      }

  -- and where there was none
  starts : (settings : Settings) (first disk : D) (wal wal' : Wal) (v v' : StateValue) (map : PageMap) (n : ℕ)
      → IsReadAs device settings first disk wal v map [] → n ≡ length v.deleted
      → waiting wal' ≡ record_bytes first_record → end_of wal' ≡ end_of wal → v' ≡ step_of first_record v
      → IsJournalOf device (seen_as disk wal' v' n false disk None) (first_record ∷ [])
  starts settings first disk wal wal' v v' map n read count waits end state =
      let p : ℕ = settings.pages in
      let x : ℕ = settings.xid_limit in
      let now : v' ≡ state_of p x (first_record ∷ []) = state ∙ ap (step_of first_record) read.state_is in
      let b = state_bounds p x (first_record ∷ []) in
      let pages : v'.pages ≡ p = ap (λ (s : StateValue). s.pages) now ∙ b.0 in
      let limit : v'.xid_limit ≡ x = ap (λ (s : StateValue). s.xid_limit) now ∙ b.1 in
      record {
        counted = [];
        waits = first_record ∷ [];
        all = refl;
        numbered = (tt, refl);
        state = ap lasting (now ∙ ap (λ (k : ℕ). state_of k x (first_record ∷ [])) (sym pages)
            ∙ ap (λ (k : ℕ). state_of v'.pages k (first_record ∷ [])) (sym limit));
        flushed = λ up. count ∙ ap (λ (s : StateValue). length s.deleted) read.state_is;
        waiting_is = λ up. subst (λ (w : List ℕ). AreRecordsOf w (first_record ∷ [])) (sym waits)
            (record { each = (first_encoded, tt); encoded = sym (append-nil (record_bytes first_record)) });
        settled = λ t up. let was = read.settled t in
            (was.0, subst (λ (e : ℕ). Settled device was.0 e disk) (sym end) was.1, was.2);
        work = tt;
      }

  pub opened_at : OpensToOneList → (settings : Settings) (first disk : D) (wal wal' : Wal) (v v' : StateValue)
      (map : PageMap) (R : Log) (n : ℕ) (owes : Bool) → (device.tells → (d : D) → images_now device d (device.seen d))
      → IsReadAs device settings first disk wal v map R → (c0 : ℕ) → (device.tells → HasRun device first c0 disk)
      → device.clock first ≤ device.clock disk → device.fault_count first ≤ device.fault_count disk
      → device.write_fault_count disk ≡ device.write_fault_count first
      → AreBelowLast device first disk → n ≡ length v.deleted → HasBegun owes wal wal' v v'
      → IsOpenedAt device settings first c0 (seen_as disk wal' v' n owes disk None) map
  unfolding starts goes_on
  opened_at one settings first disk wal wal' v v' map [] n false law read c0 run time later writes below count begun =
      let now : v' ≡ state_of settings.pages settings.xid_limit (first_record ∷ []) =
      begun.5 ∙ ap (step_of first_record) read.state_is in
      let b = state_bounds settings.pages settings.xid_limit (first_record ∷ []) in
      record {
        counted = [];
        stands = starts settings first disk wal wal' v v' map n read count begun.1 begun.2 begun.5;
        none_lost = refl;
        owes = refl;
        up = begun.4 ∙ read.fresh.up;
        limit = begun.3 ∙ read.fresh.limit_is;
        pages = ap (λ (s : StateValue). s.pages) now ∙ b.0;
        xid_limit = ap (λ (s : StateValue). s.xid_limit) now ∙ b.1;
        time = time;
        no_fall = later;
        no_write_failed = writes;
        below_last = (below.faults, below.write_faults);
        told = λ t.
            let was = read.settled t in
            told_opened one (law t) first c0 disk (end_of wal') [] (run t) (read.store t) was.0
            (subst (λ (e : ℕ). Settled device was.0 e disk) (sym begun.2) was.1);
        applied = read.applied;
      }
  opened_at one settings first disk wal wal' v v' map
      (r ∷ R) n true law read c0 run time later writes below count begun =
      let b = state_bounds settings.pages settings.xid_limit (r ∷ R) in
      let same : v' ≡ v = begun.2 in
      let wals : wal' ≡ wal = begun.1 in
      subst (λ (w : Wal). IsOpenedAt device settings first c0 (seen_as disk w v' n true disk None) map) (sym wals)
      (subst (λ (s : StateValue). IsOpenedAt device settings first c0 (seen_as disk wal s n true disk None) map)
      (sym same)
      (record {
        counted = r ∷ R;
        stands = goes_on settings first disk wal v map (r ∷ R) n read count;
        none_lost = refl;
        owes = refl;
        up = read.fresh.up;
        limit = read.fresh.limit_is;
        pages = ap (λ (s : StateValue). s.pages) read.state_is ∙ b.0;
        xid_limit = ap (λ (s : StateValue). s.xid_limit) read.state_is ∙ b.1;
        time = time;
        no_fall = later;
        no_write_failed = writes;
        below_last = (below.faults, below.write_faults);
        told = λ t.
            let was = read.settled t in
            told_opened one (law t) first c0 disk (end_of wal) (r ∷ R) (run t) (read.store t) was.0 was.1;
        applied = read.applied;
      }))
  opened_at one settings first disk wal wal' v v' map [] n true law read c0 run time later writes below count begun =
      absurd (omega (arith, begun.0, ap (λ (s : StateValue). s.records) read.state_is))
  opened_at one settings first disk wal wal' v v' map
      (r ∷ R) n false law read c0 run time later writes below count begun =
      absurd (omega (
        arith,
        begun.0,
        ap (λ (s : StateValue). s.records) read.state_is,
        ap (λ (t : ℕ × ℕ × ℕ). t.2) (step_marks r (state_of settings.pages settings.xid_limit R)),
        read.numbered.1,
      ))

  -- once a run begins
  pub run_at : (settings : Settings) (first disk : D) (wal : Wal) (v : StateValue) (map : PageMap)
      (c0 n : ℕ) (owes : Bool) → IsOpenedAt device settings first c0 (seen_as disk wal v n owes disk None) map
      → IsOpenedAt device settings first c0 (seen_as disk wal (run_started v) n owes disk None) map
  run_at settings first disk wal v map c0 n owes o = record {
    counted = o.counted;
    stands = record {
      counted = (o.stands).counted;
      waits = (o.stands).waits;
      all = (o.stands).all;
      numbered = (o.stands).numbered;
      state = (o.stands).state;
      flushed = (o.stands).flushed;
      waiting_is = (o.stands).waiting_is;
      settled = (o.stands).settled;
      work = (o.stands).work;
    };
    none_lost = o.none_lost;
    owes = o.owes;
    up = o.up;
    limit = o.limit;
    pages = o.pages;
    xid_limit = o.xid_limit;
    time = o.time;
    no_fall = o.no_fall;
    no_write_failed = o.no_write_failed;
    below_last = o.below_last;
    told = o.told;
    applied = o.applied;
  }
