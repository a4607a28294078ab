-- What the images of a journal's device open to, call by call.
use Rattle.std.proofs.Common.{◌≡◌, ◌⊎◌, ◌≤◌, ◌+◌, Bool, true, false, inl, inr, ⊎_elim, ℕ, List, [], ◌∷◌, ◌++◌}
use Rattle.std.proofs.Common.{refl, sym, ap, subst, ◌∙◌, arith, append-nil, append_assoc, length, length-append}
use Rattle.std.proofs.lemmas.Bool.{cases_lt}
use Rattle.std.proofs.lemmas.List.{reverse-reverse}
use Rattle.std.specs.Prelude.{Option, Some, None, reverse}
use Rattle.disk_trait.specs.Files.{Files}
use Rattle.disk_trait.specs.Runs.{images_now, LeavesOnly}
use Rattle.disk_trait.specs.declared.device.Disk.{Ghosts as Disk}
use Rattle.wal.specs.Settled.{Settled}
use Rattle.wal.specs.Waiting.{waiting, end_of, down_of}
use Rattle.page_types.specs.declared.record.Record.{Record}
use Rattle.core_state.specs.Log.{Log}
use Rattle.core_state.specs.History.{History, Begins, IsHistory}
use Rattle.page_types.specs.declared.record.Kind.{Kind}
use Rattle.page_types.specs.declared.record.Kind.TheVariants as kind
use Rattle.core_state.specs.Legal.{IsLegal}
use Rattle.core_state.specs.States.{StateValue}
use Rattle.core_state.specs.Stores.{PagesStand}
use Rattle.core_state.specs.declared.settings.Settings.{Settings}
use Rattle.core_state.proofs.Histories.{history_one, legal_history}
use Rattle.core_state.proofs.StateTold.{state_told}
use Rattle.buffer_frames.specs.Beginnings.{BeginsBy, HasSince, HasFlushed}
use Rattle.buffer_frames.specs.Beginnings.{BeginsOn, BeginsWith, StaysSince}
use Rattle.buffer_frames.specs.Counted.{AreRecords, IsCounted}
use Rattle.buffer_frames.specs.Drawing.{kind_by}
use Rattle.buffer_frames.specs.Journals.{JournalValue, IsJournalOf, CountsEither, owed_abort}
use Rattle.buffer_frames.specs.Journals.{with_owed, logged, commits_in}
use Rattle.buffer_frames.specs.NoStore.{CountedAreOne}
use Rattle.buffer_frames.specs.First.{first_record}
use Rattle.buffer_frames.specs.Opens.{IsEarlyKind, IsLoggedKind, IsLogOf, OpensTo}
use Rattle.buffer_frames.specs.Inner.LogFiles.{AreEarly}
use Rattle.buffer_frames.specs.Opening.{IsOpenedAt, opened_log}
use Rattle.buffer_frames.specs.declared.page_map.PageMap.{PageMap}
use Rattle.buffer_frames.proofs.LogFiles.{stands_beside_more}
use Rattle.buffer_frames.proofs.FirstLogs.{first_is_log, early_more}
use Rattle.buffer_frames.proofs.HistoryParts.{commits_told, history_begins}
use Rattle.buffer_frames.proofs.BatchRecords.{one_batch}

-- beginnings of beginnings
pub begins_all : (H : History) → Begins H H
begins_all H = ([], append-nil H)

pub begins_then : (A B C : History) → Begins A B → Begins B C → Begins A C
begins_then A B C a b = (a.0 ++ b.0, sym (append_assoc A a.0 b.0) ∙ ap (λ (H : History). H ++ b.0) a.1 ∙ b.1)

begins_short : (A B : History) → Begins A B → length A ≤ length B
begins_short A B b = omega (arith, length-append A b.0, ap length b.1)

-- what files open to is one history
same_opens : CountedAreOne → (f : Files) (K H : History) → OpensTo f K → OpensTo f H → K ≡ H
same_opens one f K H a b =
    history_one a.records K H a.log_of.history
    (subst (λ (l : Log). IsHistory l H) (sym (one f.log a.records b.records a.counted b.counted)) b.log_of.history)

-- files whose log counts the same records, beside the same pages
pub opens_as : CountedAreOne → (old new : Files) (R : Log) (H : History) → OpensTo old H → IsCounted old.log R
    → IsCounted new.log R
    → new.pages ≡ old.pages → OpensTo new H
opens_as one old new R H o was is pages =
    let same : o.records ≡ R = one old.log o.records R o.counted was in
    record {
      records = R;
      counted = is;
      log_of = subst (λ (l : Log). IsLogOf l H) same o.log_of;
      pages =
          subst (λ (l : List ℕ). PagesStand R l) (sym pages) (subst (λ (l : Log). PagesStand l old.pages) same o.pages);
    }

-- and those whose log counts more of them
opens_more : CountedAreOne → (old new : Files) (more R S : Log) (K H : History) → S ≡ more ++ R → OpensTo old K
    → IsCounted old.log R → IsCounted new.log S
    → new.pages ≡ old.pages → IsLogOf S H → OpensTo new H
opens_more one old new more R S K H parts o was is pages log =
    let same : o.records ≡ R = one old.log o.records R o.counted was in
    let beside : PagesStand (more ++ R) old.pages = stands_beside_more more R H old.pages
    (subst (λ (l : Log). IsLogOf l H) parts log) (subst (λ (l : Log). PagesStand l old.pages) same o.pages) in
    record {
      records = S;
      counted = is;
      log_of = log;
      pages = subst (λ (l : List ℕ). PagesStand S l) (sym pages)
          (subst (λ (l : Log). PagesStand l old.pages) (sym parts) beside);
    }

-- the log of a store that was opened
opened_is_log : (R : Log) (H : History) → IsLogOf R H → IsLogOf (opened_log R) H
opened_is_log [] H l = subst (IsLogOf (first_record ∷ [])) (sym l.history) first_is_log
opened_is_log (r ∷ R) H l = l

module _ {D : Type 0} (device : Disk D) (one : CountedAreOne) where
  -- what counts in each image of a log that is up
  image_counted : (j : JournalValue D) (R : Log) (s : IsJournalOf device j R) → device.tells → down_of j.wal ≡ None
      → (c : Files) → images_now device j.disk c → IsCounted c.log s.counted
  image_counted j R s t up c left =
      let was : (batches : List (List ℕ)) × Settled device batches (end_of j.wal) j.disk
      × AreRecords batches s.counted = s.settled t up in
      record {
        batches = was.0;
        opens = inr (record {
          commit_byte = was.1.commit_byte;
          rest = was.1.rest;
          split = was.1.log.durable c left;
          unset = was.1.unset;
          fit = was.1.fit;
        });
        records = was.2;
      }

  -- where the device says what it holds, a journal that is up stands for one log
  pub stands_one : ((d : D) → images_now device d (device.seen d)) → (j : JournalValue D) (R S : Log)
      → IsJournalOf device j R → IsJournalOf device j S → device.tells → down_of j.wal ≡ None → R ≡ S
  stands_one law j R S r s t up =
      let counted : r.counted ≡ s.counted = one (device.seen j.disk).log r.counted s.counted (image_counted j R r t up
      (device.seen j.disk) (law j.disk)) (image_counted j S s t up (device.seen j.disk) (law j.disk)) in
      let turned : reverse r.waits ≡ reverse s.waits =
      one_batch (waiting j.wal) (reverse r.waits) (reverse s.waits) (r.waiting_is up) (s.waiting_is up) in
      let waits : r.waits ≡ s.waits = sym (reverse-reverse r.waits) ∙ ap reverse turned ∙ reverse-reverse s.waits in
      r.all ∙ ap (λ (l : Log). l ++ r.counted) waits ∙ ap (λ (l : Log). s.waits ++ l) counted ∙ sym s.all

  -- an image of a flush opens to what an image before it did, or to the whole history
  flush_image : (j : JournalValue D) (found H : History) (R : Log) (k : BeginsBy device j found R H) → device.tells
      → down_of j.wal ≡ None → (c : Files) → CountsEither device j.disk k.stands.counted R c
      → (kept : History) × OpensTo c kept × Begins found kept × Begins kept H
  flush_image j found H R k t up c either =
      let b = k.images (device.clock j.disk) either.before k.later (omega arith) either.was in
      let was : IsCounted either.before.log k.stands.counted =
      image_counted j R k.stands t up either.before either.was in
      ⊎_elim (λ (is : IsCounted c.log k.stands.counted).
      (b.0, opens_as one either.before c k.stands.counted b.0 b.1 was is either.pages, b.2, b.3))
      (λ (is : IsCounted c.log R). (
        H,
        opens_more one either.before c k.stands.waits k.stands.counted R b.0 H k.stands.all b.1 was is
            either.pages k.log_of,
        k.goes_on,
        begins_all H,
      ))
      either.log_is

  -- what a crash now leaves has the commits that are flushed
  pub has_flushed : (j : JournalValue D) → HasFlushed device j
  has_flushed j t up found R H k m f ge le left =
      let now : m ≡ device.clock j.disk = omega (arith, ge, le) in
      let b = k.images m f (omega (arith, k.later, ge)) le left in
      let is : IsCounted f.log k.stands.counted =
      image_counted j R k.stands t up f (subst (λ (x : ℕ). device.image j.disk x f) now left) in
      let same : b.1.records ≡ k.stands.counted = one f.log b.1.records k.stands.counted b.1.counted is in
      let log_of : IsLogOf k.stands.counted b.0 = subst (λ (l : Log). IsLogOf l b.0) same b.1.log_of in
      let commits : commits_in j.state k.stands.counted ≡ length b.0 =
      (state_told j.state.pages j.state.xid_limit k.stands.counted log_of.legal).commits
      ∙ commits_told k.stands.counted b.0 log_of.history in
      (b.0, b.1, omega (arith, k.stands.flushed up, commits))

  -- an image of a flush has what the images before it had
  reached_image : (j : JournalValue D) (found H : History) (R : Log) (k : BeginsBy device j found R H) → device.tells
      → down_of j.wal ≡ None → (f : Files) → CountsEither device j.disk k.stands.counted R f
      → (c commits : ℕ) → c ≤ device.clock j.disk → HasSince device c commits j.disk
      → (kept : History) × OpensTo f kept × (commits ≤ length kept)
  reached_image j found H R k t up f either c commits early has =
      let b = has (device.clock j.disk) either.before early (omega arith) either.was in
      let d = k.images (device.clock j.disk) either.before k.later (omega arith) either.was in
      let same : length b.0 ≡ length d.0 = ap length (same_opens one either.before b.0 d.0 b.1 d.1) in
      let was : IsCounted either.before.log k.stands.counted =
      image_counted j R k.stands t up either.before either.was in
      ⊎_elim (λ (is : IsCounted f.log k.stands.counted).
      (b.0, opens_as one either.before f k.stands.counted b.0 b.1 was is either.pages, b.2))
      (λ (is : IsCounted f.log R). (
        H,
        opens_more one either.before f k.stands.waits k.stands.counted R b.0 H
            k.stands.all b.1 was is either.pages k.log_of,
        omega (arith, b.2, same, begins_short d.0 H d.3),
      ))
      either.log_is

  pub stays_since : StaysSince device
  stays_since j j' found R H k t up run c commits early has m f ge le left = elim (cases_lt (device.clock j.disk) m) [
    | inl lt ↦ reached_image j found H R k t up f (run.each m f (omega arith) le left) c commits early has
    | inr below ↦ has m f ge below (run.before m f below left)
  ]

  -- no call of the device: the history goes on
  begins_still : (j j' : JournalValue D) (found H H' : History) (R R' : Log) → BeginsBy device j found R H
      → j'.disk ≡ j.disk → j'.opened ≡ j.opened → IsJournalOf device j' R' → IsLogOf R' H' → Begins H H'
      → BeginsBy device j' found R' H'
  begins_still j j' found H H' R R' k disk opened stands log_of longer =
      record {
        stands = stands;
        log_of = log_of;
        goes_on = begins_then found H H' k.goes_on longer;
        later = subst (λ (d : D). device.clock d ≤ device.clock j'.disk) (sym opened)
            (subst (λ (d : D). device.clock j.opened ≤ device.clock d) (sym disk) k.later);
        images = λ m c ge le left.
            let b = k.images m c (subst (λ (d : D). device.clock d ≤ m) opened ge)
            (subst (λ (d : D). m ≤ device.clock d) disk le) (subst (λ (d : D). device.image d m c) disk left) in
            (b.0, b.1, b.2, begins_then b.0 H H' b.3 longer);
        before = λ m c le left.
            subst (λ (d : D). device.image d m c) (sym opened) (k.before m c
            (subst (λ (d : D). m ≤ device.clock d) opened le) (subst (λ (d : D). device.image d m c) disk left));
      }

  -- what an image after a flush opens to
  moved_image : (j j' : JournalValue D) (found H : History) (R : Log) (k : BeginsBy device j found R H) → device.tells
      → down_of j.wal ≡ None → LeavesOnly device j.disk j'.disk (CountsEither device j.disk k.stands.counted R)
      → (m : ℕ) (c : Files) → device.clock j.opened ≤ m → m ≤ device.clock j'.disk → device.image j'.disk m c
      → (kept : History) × OpensTo c kept × Begins found kept × Begins kept H
  moved_image j j' found H R k t up run m c ge le left = elim (cases_lt (device.clock j.disk) m) [
    | inl lt ↦ flush_image j found H R k t up c (run.each m c (omega arith) le left)
    | inr below ↦ k.images m c ge below (run.before m c below left)
  ]

  -- a flush, in which the history goes on
  begins_moved : (j j' : JournalValue D) (found H H' : History) (R R' : Log) (k : BeginsBy device j found R H)
      (o : Option ℕ) → device.tells → down_of j.wal ≡ o → ((f : ℕ) → down_of j.wal ≡ Some f → j'.disk ≡ j.disk)
      → (j'.disk ≡ j.disk) ⊎ LeavesOnly device j.disk j'.disk (CountsEither device j.disk k.stands.counted R)
      → j'.opened ≡ j.opened → IsJournalOf device j' R' → IsLogOf R' H' → Begins H H' → BeginsBy device j' found R' H'
  begins_moved j j' found H H' R R' k (Some f) t is rests left opened stands log_of longer =
      begins_still j j' found H H' R R' k (rests f is) opened stands log_of longer
  begins_moved j j' found H H' R R' k None t up rests (inl same) opened stands log_of longer =
      begins_still j j' found H H' R R' k same opened stands log_of longer
  begins_moved j j' found H H' R R' k None t up rests (inr run) opened stands log_of longer =
      record {
        stands = stands;
        log_of = log_of;
        goes_on = begins_then found H H' k.goes_on longer;
        later =
            subst (λ (d : D). device.clock d ≤ device.clock j'.disk) (sym opened) (omega (arith, k.later, run.later));
        images = λ m c ge le left.
            let late : device.clock j.opened ≤ m = subst (λ (d : D). device.clock d ≤ m) opened ge in
            let b = moved_image j j' found H R k t up run m c late le left in
            (b.0, b.1, b.2, begins_then b.0 H H' b.3 longer);
        before = λ m c le left.
            let early : m ≤ device.clock j.opened = subst (λ (d : D). m ≤ device.clock d) opened le in
            subst (λ (d : D). device.image d m c) (sym opened)
            (k.before m c early (run.before m c (omega (arith, early, k.later)) left));
      }

  -- so a call that logs nothing goes on
  pub begins_on : (j j' : JournalValue D) → j'.opened ≡ j.opened
      → ((f : ℕ) → down_of j.wal ≡ Some f → j'.disk ≡ j.disk)
      → (device.tells → (R : Log) (s : IsJournalOf device j R)
      → (j'.disk ≡ j.disk) ⊎ LeavesOnly device j.disk j'.disk (CountsEither device j.disk s.counted R))
      → ((R : Log) → IsJournalOf device j R → IsJournalOf device j' R) → BeginsOn device j j'
  begins_on j j' opened rests moments stands t found R H k =
      begins_moved j j' found H H R R k (down_of j.wal) t refl rests (moments t R k.stands) opened
      (stands R k.stands) k.log_of (begins_all H)

  -- an opening
  pub begins_opened : ((d : D) → images_now device d (device.seen d)) → device.tells → (settings : Settings) (first : D)
      (c0 : ℕ) (j : JournalValue D) (map : PageMap) (o : IsOpenedAt device settings first c0 j map)
      → j.opened ≡ j.disk → (found : History) → OpensTo (device.seen j.opened) found
      → BeginsBy device j found (opened_log o.counted) found
  begins_opened law t settings first c0 j map o opened found opens =
      let told = o.told t in
      let here : OpensTo (device.seen j.disk) found = subst (λ (d : D). OpensTo (device.seen d) found) opened opens in
      let seen = told.late (device.clock j.disk) (device.seen j.disk) told.began.1 (omega arith) (law j.disk) in
      let same : here.records ≡ o.counted = one (device.seen j.disk).log here.records o.counted here.counted seen.0 in
      record {
        stands = o.stands;
        log_of = opened_is_log o.counted found (subst (λ (l : Log). IsLogOf l found) same here.log_of);
        goes_on = begins_all found;
        later = subst (λ (d : D). device.clock d ≤ device.clock j.disk) (sym opened) (omega arith);
        images = λ m c ge le left.
            let ge' : device.clock j.disk ≤ m = subst (λ (d : D). device.clock d ≤ m) opened ge in
            let now = told.late m c (omega (arith, told.began.1, ge')) le left in (
              found,
              opens_as one (device.seen j.disk) c o.counted found here seen.0 now.0 (now.1 ∙ sym seen.1),
              begins_all found,
              begins_all found,
            );
        before = λ m c le left. subst (λ (d : D). device.image d m c) (sym opened) left;
      }

  -- what it reads opens to what it opened to on entry
  pub opens_still : ((d : D) → images_now device d (device.seen d)) → device.tells → (settings : Settings) (first : D)
      (c0 : ℕ) (j : JournalValue D) (map : PageMap) → IsOpenedAt device settings first c0 j map
      → (H : History) → OpensTo (device.seen first) H → OpensTo (device.seen j.disk) H
  opens_still law t settings first c0 j map o H opens =
      let told = o.told t in
      let seen = told.late (device.clock j.disk) (device.seen j.disk) told.began.1 (omega arith) (law j.disk) in
      opens_as one (device.seen first) (device.seen j.disk) o.counted H opens told.store.counted seen.0 seen.1

-- a kind that is drawn is as early
pub early_drawn : (s : StateValue) (k : Kind) → IsEarlyKind k → IsEarlyKind (kind_by s k)
early_drawn s (kind.Commit n) e = tt
early_drawn s (kind.PlaceHead item serial) e = tt
early_drawn s _ e = e

-- and as one that is logged
pub drawn_is_logged : (s : StateValue) (k : Kind) → IsLoggedKind k → IsLoggedKind (kind_by s k)
drawn_is_logged s (kind.Commit n) e = tt
drawn_is_logged s (kind.PlaceHead item serial) e = tt
drawn_is_logged s _ e = e

-- a log with a record more goes on with a history
early_owed : (owes : Bool) (R : Log) → AreEarly R → AreEarly (with_owed owes R)
early_owed true R early = early_more R (owed_abort (1 + length R)) early tt
early_owed false R early = early

pub owed_begins : (owes : Bool) (R : Log) → (more : Log) × (with_owed owes R ≡ more ++ R)
owed_begins true R = (owed_abort (1 + length R) ∷ [], refl)
owed_begins false R = ([], refl)

log_goes_on : (owes : Bool) (r : Record) (R : Log) (H : History) → IsLogOf R H → IsEarlyKind r.kind
    → IsLegal (logged owes r R)
    → (H' : History) × IsLogOf (logged owes r R) H' × Begins H H'
log_goes_on owes r R H l early legal =
    let h = legal_history (logged owes r R) legal in
    let o = owed_begins owes R in
    let b = history_begins (r ∷ o.0) R h.0 (subst (λ (S : Log). IsHistory (r ∷ S) h.0) o.1 h.1) in (
      h.0,
      record {
        legal = legal;
        history = h.1;
        early = early_more (with_owed owes R) r (early_owed owes R l.early) early;
      },
      subst (λ (K : History). Begins K h.0) (history_one R b.0 H b.1 l.history) b.2,
    )

module _ {D : Type 0} (device : Disk D) (one : CountedAreOne) where
  -- a call that logs a record of an early kind, which leaves a legal log legal
  pub begins_with : (j j' : JournalValue D) (r : Record) → j'.opened ≡ j.opened
      → ((f : ℕ) → down_of j.wal ≡ Some f → j'.disk ≡ j.disk)
      → (device.tells → (R : Log) (s : IsJournalOf device j R)
      → (j'.disk ≡ j.disk) ⊎ LeavesOnly device j.disk j'.disk (CountsEither device j.disk s.counted R))
      → ((R : Log) → IsJournalOf device j R → IsJournalOf device j' (logged j.owes r R)) → IsEarlyKind r.kind
      → (device.tells → (R : Log) → IsJournalOf device j R → IsLegal R → IsLegal (logged j.owes r R))
      → BeginsWith device j j' r
  begins_with j j' r opened rests moments stands early legal t found R H k =
      let h = log_goes_on j.owes r R H k.log_of early (legal t R k.stands k.log_of.legal) in (
        h.0,
        h.2,
        begins_moved device one j j' found H h.0 R (logged j.owes r R) k (down_of j.wal) t refl rests
            (moments t R k.stands) opened (stands R k.stands) h.1 h.2,
      )
