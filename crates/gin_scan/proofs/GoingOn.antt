-- A scan goes on as it was where the log goes on.
use Rattle.std.proofs.Common.{◌≡◌, ℕ, ◌≤◌, ◌-◌, Bool, true, false, List, [], ◌∷◌, ◌++◌, length, take, drop, Option}
use Rattle.std.proofs.Common.{Some, None, IfSome, refl}
use Rattle.std.proofs.Common.{sym, ap, subst, ◌∙◌, arith, append_assoc, length-append}
use Rattle.std.proofs.lemmas.List.{take-append-drop}
use Rattle.disk_trait.specs.declared.device.Disk.{Ghosts as Disk}
use Rattle.page_types.specs.declared.record.Kind.{Kind}
use Rattle.page_types.specs.declared.record.Kind.TheVariants as kind
use Rattle.page_types.specs.declared.page.Name.{Name}
use Rattle.core_state.specs.Log.{Log, In, Shows, cut, commits, commits_with}
use Rattle.core_state.specs.History.{Document, History, IsHistory, docs}
use Rattle.core_state.specs.Legal.{IsLegal, Pin, Keeps}
use Rattle.core_state.specs.Readings.{Read, WasShown, AreReads}
use Rattle.core_state.proofs.Newest.{cut_less}
use Rattle.gin_opclass.specs.Class.{Meaning}
use Rattle.core_moments.specs.Walk.{Walk, KeyWalk, IsKeyWalk, Sought, reads_of}
use Rattle.buffer_frames.specs.Frames.{FramesValue, Stands}
use Rattle.snap_pins.specs.Taken.{IsPinned}
use Rattle.buffer_frames.specs.Passes.{IsPassOf, GoesOnBy, before_more, pin_in, in_use}
use Rattle.buffer_frames.specs.declared.pass.Pinned.{Pinned}
use Rattle.buffer_frames.specs.Journals.{owed_abort}
use Rattle.buffer_frames.specs.declared.pass.Pass.{Pass}
use Rattle.buffer_frames.proofs.HistoryParts.{legal_before, history_begins, commits_told}
use Rattle.core_moments.specs.OpenWalk.{ReadsTree}
use Rattle.gin_scan.specs.Reading.{ReadsParts, ReadsKeysBy, WereReadOn}
use Rattle.gin_scan.specs.Ways.{IsGoingDown, IsGoingAlong, IsGoingInTrees}
use Rattle.gin_scan.specs.Taking.{IsAmong, IsLongOf, AreTaken, first_items}
use Rattle.gin_scan.specs.Held.{AreChains, ArePages}
use Rattle.gin_scan.specs.Scanning.{HasJudged, HasTaken, HadTaken, HasRead, IsScanOf, sought_in, trees_from}
use Rattle.gin_scan.specs.Laws.{ScansGoOn}
use Rattle.gin_scan.specs.declared.scan_core.ScanCore.{ScanCore}
use Rattle.gin_scan.specs.declared.stage.LongVector.{LongVector}
use Rattle.gin_scan.specs.declared.stage.Stage.{Stage}
use Rattle.gin_scan.specs.declared.stage.Stage.TheVariants as stage

-- ── what was read ──

cut_longer : (later R : Log) (n : ℕ) → n ≤ length R → cut n (later ++ R) ≡ cut n R
cut_longer [] R n le = refl
cut_longer (r ∷ later) R n le =
    cut_less n r (later ++ R) (omega (arith, le, length-append later R)) ∙ cut_longer later R n le

shown_longer : (later R : Log) (x : Read) → x.length ≤ length R → WasShown R x → WasShown (later ++ R) x
shown_longer later R x le was =
    (was.0, subst (λ (S : Log). Shows S was.0) (sym (cut_longer later R x.length le)) was.1, was.2)

pub reads_longer : (later R : Log) (from : ℕ) (xs : List Read) → AreReads R from xs → AreReads (later ++ R) from xs
reads_longer later R from [] rs = tt
reads_longer later R from (x ∷ xs) rs = (
  rs.0,
  omega (arith, rs.1, length-append later R),
  shown_longer later R x rs.1 rs.2,
  reads_longer later R x.length xs rs.3,
)

chains_longer : (later R : Log) (from : ℕ) (ls : List LongVector) (xs : List (List Read)) → AreChains R from ls xs
    → AreChains (later ++ R) from ls xs
chains_longer later R from [] [] cs = tt
chains_longer later R from [] (y ∷ ys) cs = absurd cs
chains_longer later R from (m ∷ ms) [] cs = absurd cs
chains_longer later R from (m ∷ ms) (y ∷ ys) cs =
    (cs.0, reads_longer later R from y cs.1, chains_longer later R from ms ys cs.2)

pages_longer : (later R : Log) (from : ℕ) (w : Walk) (items : List ℕ) (ls : List LongVector) (n : ℕ)
    → ArePages R from w items ls n → ArePages (later ++ R) from w items ls n
pages_longer later R from w items ls n a = record {
  heap = a.heap;
  heap_pages = a.heap_pages;
  parts = a.parts;
  chains = chains_longer later R from ls a.parts a.chains;
  most = a.most;
}

-- ── how many commits there are ──

more_with : (k : Kind) (c : ℕ) → c ≤ commits_with k c
more_with (kind.Commit n) c = omega arith
more_with _ c = omega arith

commits_more : (later R : Log) → commits R ≤ commits (later ++ R)
commits_more [] R = omega arith
commits_more (r ∷ later) R = omega (arith, commits_more later R, more_with r.kind (commits (later ++ R)))

pub commits_within : (R : Log) (pin : Pin) → Keeps R pin → pin.commits ≤ commits R
commits_within R pin keeps =
    let k = length R - pin.length in
    let e : take k R ++ drop k R ≡ R = take-append-drop k R in
    omega (
      arith,
      keeps.counted,
      subst (λ (S : Log). commits (drop k R) ≤ commits S) e
          (commits_more (take k R) (drop k R)),
    )

take_begins : (n : ℕ) (H rest : History) → n ≤ length H → take n (H ++ rest) ≡ take n H
take_begins n H rest le = grind (arith, Rattle.std.proofs.lemmas.List.take-append-le)

-- ── a log that goes on ──

module _ {Q : Type 0} (M : Meaning Q) (q : Q) (later R : Log) (pin : Pin) (keeps : Keeps R pin) where
  abbrev judged_on : (from : ℕ) (s : ScanCore) → HasJudged M q R pin from s → HasJudged M q (later ++ R) pin from s
  judged_on from s j = record {
    walk = j.walk;
    is_walk = record {
      sought = j.is_walk.sought;
      are_sought = j.is_walk.are_sought;
      is_walk = j.is_walk.is_walk;
      reads = reads_longer later R pin.length (reads_of j.walk) j.is_walk.reads;
    };
    reads = reads_longer later R from (reads_of j.walk) j.reads;
    kept = j.kept;
  }

  long_on : (d : Document) (l : LongVector) → IsLongOf R pin d l → IsLongOf (later ++ R) pin d l
  long_on d l o = record {
    name = o.name;
    at = o.at;
    since = o.since;
    within = omega (arith, o.within, length-append later R);
    pages = o.pages;
    shown = subst (λ (S : Log). Shows S o.pages) (sym (cut_longer later R o.at o.within)) o.shown;
    doc = o.doc;
    named = o.named;
    head = o.head;
    has = o.has;
    whole = o.whole;
    long = o.long;
    first = o.first;
    size = o.size;
  }

  all_on : (items : List ℕ) (names : List Name) (long : List LongVector)
      → ((H : History) → IsHistory R H → AreTaken (M.satisfies q) R pin H items names long)
      → (H : History) → IsHistory (later ++ R) H → AreTaken (M.satisfies q) (later ++ R) pin H items names long
  all_on items names long t H' h' =
      let b = history_begins later R H' h' in
      let within : pin.commits ≤ length b.0 = omega (arith, commits_within R pin keeps, commits_told R b.0 b.1) in
      let same : docs (take pin.commits b.0) ≡ docs (take pin.commits H')
      = ap docs (sym (take_begins pin.commits b.0 b.2.0 within) ∙ ap (take pin.commits) b.2.1) in
      let a = t b.0 b.1 in record {
        found = λ n i. let f = a.found n i in (f.0, among same f.1, f.2, f.3);
        waits = λ l i. let f = a.waits l i in (f.0, among same f.1, long_on f.0 l f.2);
        all = λ d i. a.all d (among (sym same) i);
        once = a.once;
      }
    where
      among : {H H' : History} {items : List ℕ} {d : Document} → docs (take pin.commits H) ≡ docs (take pin.commits H')
          → IsAmong H pin.commits items d → IsAmong H' pin.commits items d
      among {H} {H'} {items} {d} e i = record { there = subst (In d) e i.there; item = i.item }

  taken_on : (s : ScanCore) (at from : ℕ) → HasTaken M q R pin s at from → HasTaken M q (later ++ R) pin s at from
  taken_on s at from = all_on (first_items at s.kept.items) s.names.items (drop from s.long.items)

  had_on : (items : List ℕ) (long : List LongVector) → HadTaken M q R pin items long
      → HadTaken M q (later ++ R) pin items long
  had_on items long had = record { names = had.names; taken = all_on items had.names long had.taken }

  parts_on : (s : ScanCore) (l : LongVector) (page left : ℕ) → {from : ℕ} → ReadsParts R from s l page left
      → ReadsParts (later ++ R) from s l page left
  parts_on s l page left {from} p = record {
    pages = p.pages;
    leads = p.leads;
    reads = reads_longer later R from p.pages p.reads;
    bytes = p.bytes;
    left_is = p.left_is;
  }

  keys_on : (from : ℕ) (s : ScanCore) (key left : ℕ) (Open : Sought → List KeyWalk → Type 0)
      → ReadsKeysBy (WereReadOn R from) IsKeyWalk (M.asked q) (sought_in s) s key left Open
      → ReadsKeysBy (WereReadOn (later ++ R) from) IsKeyWalk (M.asked q) (sought_in s) s key left Open
  keys_on from s key left Open r = record {
    walk = r.walk;
    so_far = record {
      meta_page = r.so_far.meta_page;
      reads = record {
        reads = reads_longer later R from (reads_of r.walk) r.so_far.reads.reads;
        list = r.so_far.reads.list;
      };
      noted = r.so_far.noted;
      first = r.so_far.first;
      noted_tree = r.so_far.noted_tree;
      unjudged = r.so_far.unjudged;
      pages_read = r.so_far.pages_read;
    };
    keys = r.keys;
    left_is = r.left_is;
  }

  read_on : (from : ℕ) (s : ScanCore) (z : Stage) → HasRead M q R pin from s z → HasRead M q (later ++ R) pin from s z
  read_on from s stage.Meta r = r
  read_on from s (stage.Pending page left) r = record {
    meta = r.meta;
    pending = r.pending;
    meta_page = r.meta_page;
    leads = r.leads;
    reads = reads_longer later R from (r.meta ∷ r.pending) r.reads;
    noted = r.noted;
    begun = r.begun;
    first = r.first;
    main = r.main;
    unjudged = r.unjudged;
    left_is = r.left_is;
    pages_read = r.pages_read;
  }
  read_on from s (stage.Down key page left) r = keys_on from s key left (IsGoingDown page) r
  read_on from s (stage.Leaf key page left) r = keys_on from s key left (IsGoingAlong ReadsTree page) r
  read_on from s (stage.Posting key at page left next read) r = (
    r.0,
    keys_on from s key (s.extent - read) (IsGoingInTrees ReadsTree page left s.extent (trees_from at s) next) r.1,
  )
  read_on from s (stage.Heads at) r = (
    judged_on from s r.0,
    taken_on s at 0 r.1,
    r.2,
    pages_longer later R from r.0.walk (first_items at s.kept.items) [] s.pages_read r.3,
    r.4,
  )
  read_on from s (stage.Parts at page left) r = (
    judged_on from s r.0,
    taken_on s (length s.kept.items) at r.1,
    (λ l e. parts_on s l page left (r.2 l e)),
    r.3,
    pages_longer later R from r.0.walk (first_items (length s.kept.items) s.kept.items) (take at s.long.items)
        (s.pages_read - (s.extent - left)) r.4,
    had_on (first_items (length s.kept.items) s.kept.items) s.long.items r.5,
  )
  read_on from s stage.Done r = (
    judged_on from s r.0,
    taken_on s (length s.kept.items) (length s.long.items) r.1,
    r.2,
    r.3,
    pages_longer later R from r.0.walk (first_items (length s.kept.items) s.kept.items) s.long.items s.pages_read r.4,
    had_on (first_items (length s.kept.items) s.kept.items) s.long.items r.5,
  )

  pub scan_on : (s : ScanCore) → IsScanOf M q R pin s → IsScanOf M q (later ++ R) pin s
  scan_on s o = record {
    from = o.from;
    since = o.since;
    within = omega (arith, o.within, length-append later R);
    below = λ P p shown. o.below P p (subst (λ (S : Log). Shows S P) (cut_longer later R o.from o.within) shown);
    read = read_on o.from s s.stage o.read;
  }

-- ── by frames ──

goes_by : (owes : Bool) (kinds : List ℕ) (R : Log) → (later : Log) × (before_more owes kinds R ≡ later ++ R)
goes_by owes [] R = ([], refl)
goes_by false (k ∷ kinds) R = ([], refl)
goes_by true (k ∷ kinds) R = (owed_abort _ ∷ [], refl)

pub goes_later : (owes : Bool) (R R' : Log) (kinds : List ℕ) → GoesOnBy owes R R' kinds
    → (later : Log) × (R' ≡ later ++ R)
goes_later owes R R' kinds g =
    let b = goes_by owes kinds R in
    (g.added ++ b.0, g.log_is ∙ ap (λ (S : Log). g.added ++ S) b.1 ∙ sym (append_assoc g.added b.0 R))

-- a pass's snapshot is kept
pub kept_pin : {D : Type 0} (device : Disk D) (f : FramesValue D) (pass : Pass) (R : Log) (pin : Pin) → IsPassOf f pass
    → device.tells → Rattle.wal.specs.Waiting.down_of f.journal.wal ≡ None → Stands device f R → IsLegal R
    → pin_in pass.pin ≡ Some pin → Keeps R pin
kept_pin device f pass R pin is told up stands legal e = by pass.pin e is.pin
  where
    by : (p : Option Pinned) → pin_in p ≡ Some pin
        → IfSome p (λ (z : Pinned). IsPinned f.pins z.place (in_use z) × (z.length ≤ pass.seen)) → Keeps R pin
    by None g h = absurd (let z : ⊥ = cc in z)
    by (Some p) g h =
        let same : record { commits = p.commits; length = p.length } ≡ pin = cc in
        subst (Keeps R) same ((stands.pins told up legal).each p.place (in_use p) h.0)

pub go_on : {D Q : Type 0} (device : Disk D) (M : Meaning Q) → ScansGoOn device M
go_on device M q s old new pass pass' kinds added of of' same scan told up R' stands' legal' pin e =
    let up_old = added.was_up up in
    let b = added.back told up R' stands' in
    let g = goes_later _ b.0 R' kinds b.2 in
    let R = b.0 in
    let legal = legal_before g.0 R (subst IsLegal g.1 legal') in
    let pinned = ap pin_in (sym same) ∙ e in
    let keeps = kept_pin device old pass R pin of told up_old b.1 legal pinned in
    subst (λ (S : Log). IsScanOf M q S pin s) (sym g.1) (scan_on M q g.0 R pin keeps s
    (scan told up_old R b.1 legal pin pinned))
