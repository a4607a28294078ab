use Rattle.std.proofs.Common.{rules, arith, ◌≡◌, ◌∙◌, ℕ, List, [], inl, inr, ⊎_elim, refl, sym, ap, subst}
use Rattle.disk_trait.specs.Files.{Files}
use Rattle.disk_trait.specs.Runs.{images_now}
use Rattle.disk_trait.specs.declared.device.Disk.{Ghosts as Disk}
use Rattle.disk_trait.proofs.Runs.{then}
use Rattle.wal.specs.Batches.{IsUnborn, Opens}
use Rattle.wal.specs.Reading.{IsOnlyRead}
use Rattle.buffer_frames.specs.NoStore.{IsStoreOf}
use Rattle.wal.specs.Creating.{IsLogBefore}
use Rattle.buffer_frames.specs.Inner.Making.{RunsFrom}
use Rattle.std.specs.Prelude.{Err, None}
use Rattle.buffer_frames.specs.Beginnings.{BeginsOpened}
use Rattle.buffer_frames.specs.Opening.{opened_log}
use Rattle.buffer_frames.proofs.Beginning.{begins_opened, opens_still}
use Rattle.buffer_frames.proofs.Flushing.{seen_as}
use Rattle.buffer_frames.proofs.Opened.{runs_keep, runs_open, runs_seen}
use Rattle.buffer_frames.proofs.opening.open.Goals as goal

pub returns-in-Ok-clause-keeps_pages : goal.returns-in-Ok-clause-keeps_pages
returns-in-Ok-clause-keeps_pages g c t = runs_keep g.D.Disk t
    (λ d. g.met.D.Disk.seen_is_image d t) c.args.disk c.open_parts.new.disk (c.open_parts.ensures.runs t)

pub invariant_of-journal : goal.invariant_of-journal
invariant_of-journal g c =
    let at = c.in-Ok.ensures.opened in (
      c.in-Ok.ensures.ready,
      c.in-Ok.ensures.fits,
      c.in-Ok.ensures.some,
      omega (arith, (at.1).xid_limit, c.requires.xids),
    )

pub returns-in-Ok-clause-begins : goal.returns-in-Ok-clause-begins
returns-in-Ok-clause-begins g c t =
    let p = c.in-Ok.parts in
    let at = c.in-Ok.ensures.opened in
    let disk : g.row.D.Denot = c.open_parts.new.disk in
    subst (λ (d : g.row.D.Denot). BeginsOpened g.D.Disk (seen_as disk p.wal p.state.value p.flushed p.owes d None))
    (sym c.of-opened.ensures) (λ found opens. (
      opened_log (at.1).counted,
      begins_opened g.D.Disk c.counted_are_one.ensures (λ d. g.met.D.Disk.seen_is_image d t) t c.args.settings.now
          c.args.disk at.0 (seen_as disk p.wal p.state.value p.flushed p.owes disk None) p.map at.1 refl found opens,
    ))

pub returns-in-Ok-clause-opens_on : goal.returns-in-Ok-clause-opens_on
returns-in-Ok-clause-opens_on g c t =
    let p = c.in-Ok.parts in
    let at = c.in-Ok.ensures.opened in
    let disk : g.row.D.Denot = c.open_parts.new.disk in
    opens_still g.D.Disk c.counted_are_one.ensures (λ d. g.met.D.Disk.seen_is_image d t) t c.args.settings.now
    c.args.disk at.0 (seen_as disk p.wal p.state.value p.flushed p.owes disk None) p.map at.1

unborn_is_store : (files : Files) → IsUnborn files.log → IsStoreOf files []
unborn_is_store files unborn = record {
  counted = record {
    batches = [];
    opens = inl (unborn, refl);
    records = record { lists = []; each = search rules; log_is = refl; numbered = search rules };
  };
  applies = search rules;
}

files_are : (c d : Files) → c.log ≡ d.log → c.pages ≡ d.pages → c ≡ d
files_are c d log pages =
    let first : c ≡ record { log = d.log; pages = c.pages } =
    ap (λ (l : List ℕ). let f : Files = record { log = l; pages = c.pages } in f) log in
    let second : record { log = d.log; pages = c.pages } ≡ d =
    ap (λ (p : List ℕ). let f : Files = record { log = d.log; pages = p } in f) pages in
    first ∙ second

module _ {D : Type 0} (device : Disk D) where
  stays : (first : D) (c : Files) → (IsUnborn (device.seen first).log → ⊥)
      → (c.pages ≡ (device.seen first).pages) × IsLogBefore (device.seen first).log c.log → c ≡ device.seen first
  stays first c born left =
      ⊎_elim (λ (same : c.log ≡ (device.seen first).log). files_are c (device.seen first) same left.0)
      (λ (new : IsUnborn (device.seen first).log × Opens c.log []). absurd (born new.0)) left.1

  runs_only : device.tells → ((d : D) → images_now device d (device.seen d)) → (first disk : D)
      → RunsFrom device first disk → (IsUnborn (device.seen first).log → ⊥) → IsOnlyRead device first disk
  runs_only told law first disk (inl only) born = only
  runs_only told law first disk (inr (c0, run)) born = record {
    same = λ t. stays first (device.seen disk) born
        (run.rest.each (device.clock disk) (device.seen disk) run.rest.later (omega arith) (law disk));
    any_moment = λ t. then device first run.mid disk (images_now device first) _ run.synced run.rest
        (λ c left. subst (images_now device first) (sym (stays first c born left)) (law first));
  }

pub returns-in-Ok-clause-born : goal.returns-in-Ok-clause-born
returns-in-Ok-clause-born g c = λ t born.
    runs_only g.D.Disk t (λ d. g.met.D.Disk.seen_is_image d t) c.args.disk c.open_parts.new.disk
    (c.open_parts.ensures.runs t) born

pub returns-in-Err-clause-refused : goal.returns-in-Err-clause-refused
returns-in-Err-clause-refused g c =
    let e = c.open_parts.ensures in
    let disk : g.row.D.Denot = c.open_parts.new.disk in
    let is = c.in-Err.is in
    record {
      opens =
          λ t s. runs_open g.D.Disk t c.one_list.ensures.opens (λ d. g.met.D.Disk.seen_is_image d t) c.args.disk disk
          (e.runs t) s;
      keeps_pages = λ t. runs_keep g.D.Disk t (λ d. g.met.D.Disk.seen_is_image d t) c.args.disk disk (e.runs t);
      pages = λ t. runs_seen g.D.Disk t (λ d. g.met.D.Disk.seen_is_image d t) c.args.disk disk (e.runs t);
      born = λ t born.
          runs_only g.D.Disk t (λ d. g.met.D.Disk.seen_is_image d t) c.args.disk disk (e.runs t) born;
      no_store = λ t none.
          runs_only g.D.Disk t (λ d. g.met.D.Disk.seen_is_image d t) c.args.disk disk (e.runs t)
          (λ unborn. c.stores_are_known.ensures (g.D.Disk.seen c.args.disk) []
          (unborn_is_store (g.D.Disk.seen c.args.disk) unborn) none);
      not_a_store = λ same. e.only_read (is ∙ ap Err same);
      fault = λ same. e.cause.fault (is ∙ ap Err same);
      memory = λ same. e.cause.at_memory (is ∙ ap Err same);
      later = e.cause.later;
      time = e.cause.time;
    }
