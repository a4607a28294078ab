-- A step along the pending list: what was read, and what is noted, grows by one page.
use Rattle.std.proofs.Common.{◌≡◌, ◌≢◌, ℕ, zero, suc, ◌+◌, ◌-◌, ◌≤◌, Bool, true, cond, List, [], ◌∷◌, ◌++◌, length, map}
use Rattle.std.proofs.Common.{None, refl}
use Rattle.std.proofs.Common.{sym, ap, subst, ◌∙◌, arith, length-append, All}
use Rattle.disk_trait.specs.declared.device.Disk.{Ghosts as Disk}
use Rattle.wal.specs.Waiting.{down_of}
use Rattle.page_types.specs.Pages.{IsPage}
use Rattle.page_types.specs.Views.{kept_rows_of, first_of}
use Rattle.page_types.specs.declared.page.Page.{Page}
use Rattle.page_types.specs.declared.page.Row.{Row}
use Rattle.page_types.proofs.PageLaws.{page_told}
use Rattle.core_state.specs.Log.{Log, Pages, Shows, replay}
use Rattle.core_state.specs.Legal.{IsLegal}
use Rattle.core_state.specs.Readings.{Read, WasShown}
use Rattle.core_state.proofs.Moments.Timeline.{cut_all}
use Rattle.gin_opclass.specs.Class.{Asked}
use Rattle.core_moments.specs.Walk.{rightward}
use Rattle.buffer_frames.specs.Frames.{FramesValue, Stands, Lies}
use Rattle.buffer_frames.specs.Homes.{home_at}
use Rattle.buffer_frames.proofs.HomesLie.{lies_shown}
use Rattle.gin_hits.specs.Rows.{items_with, lists_of, rows_read, first_of_rows, first_read, AreNoted}
use Rattle.gin_hits.proofs.Noted.{rows_more}
use Rattle.gin_scan.specs.Reading.{IsNoHit, IsUnjudged, IsUnread, ReadsListBy, has_read}
use Rattle.gin_scan.specs.declared.scan_core.ScanCore.{ScanCore}
use Rattle.gin_scan.specs.declared.stage.Stage.{Stage}
use Rattle.gin_scan.proofs.Growing.{lead_more}

-- ── a page that lies in memory is one of the log ──

abbrev pub now : Log → ℕ → Page → Read
now R p c = record { length = length R; page = p; content = c }

module _ {D : Type 0} (device : Disk D) (f : FramesValue D) (R : Log) (told : device.tells)
    (up : down_of f.journal.wal ≡ None) (stands : Stands device f R) (legal : IsLegal R) (P : Pages)
    (shown : Shows R P) where
  pub lies_as : (p : ℕ) (c : Page) → IsPage c → Lies f p c → c ≡ P p
  lies_as p c is lies =
      page_told c (P p) is (shown p).0
      (sym (lies_shown (home_at f.homes p) c (replay R p) lies (stands.homes told up legal p)) ∙ sym (shown p).1)

  pub read_now : (p : ℕ) (c : Page) → IsPage c → Lies f p c → WasShown R (now R p c)
  read_now p c is lies =
      (P, subst (λ (S : Log). Shows S P) (sym (cut_all R (length R) refl)) shown, sym (lies_as p c is lies))

-- ── the metapage ──

pub lists_none : (ls : List (List ℕ)) (asked : List Asked) → All (λ (is : List ℕ). is ≡ []) ls
    → length ls ≡ length asked
    → ls ≡ map (λ (a : Asked). items_with a []) asked
lists_none [] [] none e = refl
lists_none [] (a ∷ as') none e = absurd (let z : ⊥ = cc in z)
lists_none (l ∷ ls) [] none e = absurd (let z : ⊥ = cc in z)
lists_none (l ∷ ls) (a ∷ as') none e =
    ap (λ (x : List ℕ). x ∷ ls) (none zero l (omega arith))
    ∙ ap (λ (xs : List (List ℕ)). [] ∷ xs)
    (lists_none ls as' (λ k d lt. none (suc k) d (omega (arith, lt))) (omega (arith, e)))

-- What a scan has that has read the metapage alone. Of the two scans the second is the first with another stage.
pub meta_read : (WereRead : List Read → Type 0) (x : Read) (asked : List Asked) (s s' : ScanCore) → x.page ≡ 0
    → WereRead (x ∷ []) → IsUnread s → length (lists_of s.pending) ≡ length asked
    → s'.pages_read ≤ suc s.pages_read → s' ≡ record s { stage = s'.stage; pages_read = s'.pages_read }
    → ReadsListBy WereRead asked s' (first_of x.content) s.extent
meta_read WereRead x asked s s' at was unread count one same =
    subst (λ (z : ScanCore). ReadsListBy WereRead asked z (first_of x.content) s.extent) (sym same) (record {
      meta = x;
      pending = [];
      meta_page = at;
      leads = refl;
      reads = was;
      noted = record {
        any = unread.pending.any;
        by_key = lists_none (lists_of s.pending) asked unread.pending.by_key count;
      };
      begun = unread.not_begun;
      first = unread.first;
      main = unread.main;
      unjudged = record {
        kept = unread.unjudged.kept;
        long = unread.unjudged.long;
        names = unread.unjudged.names;
        heads_read = unread.unjudged.heads_read;
      };
      left_is = omega arith;
      pages_read = omega (arith, one, unread.pages_read);
    })

-- ── a page of the list ──

first_more : (xs : List Read) (x : Read) → cond (has_read xs) (first_read xs) (first_of_rows (kept_rows_of x.content))
    ≡ first_read (xs ++ x ∷ [])
first_more [] x = refl
first_more (y ∷ ys) x = refl

has_more : (xs : List Read) (x : Read) → has_read (xs ++ x ∷ []) ≡ true
has_more [] x = refl
has_more (y ∷ ys) x = refl

pub page_read : (WereRead : List Read → Type 0) (x : Read) (asked : List Asked) (s s' : ScanCore) (page left : ℕ)
    → x.page ≡ page → page ≢ 0 → left ≢ 0 → (r : ReadsListBy WereRead asked s page left)
    → WereRead (r.meta ∷ (r.pending ++ x ∷ []))
    → ((rows : List Row) → AreNoted asked rows s.pending → AreNoted asked (rows ++ kept_rows_of x.content) s'.pending)
    → s'.first_item ≡ cond s.has_begun s.first_item (first_of_rows (kept_rows_of x.content))
    → s'.pages_read ≤ suc s.pages_read
    → s' ≡ record s {
      pending = s'.pending;
      has_begun = true;
      first_item = s'.first_item;
      stage = s'.stage;
      pages_read = s'.pages_read;
    } → ReadsListBy WereRead asked s' (rightward x.content) (left - 1)
page_read WereRead x asked s s' page left at some more r was noted first one same =
    record {
      meta = r.meta;
      pending = r.pending ++ x ∷ [];
      meta_page = r.meta_page;
      leads = lead_more (first_of r.meta.content) r.pending page x r.leads some at;
      reads = was;
      noted = subst (λ (rows : List Row). AreNoted asked rows s'.pending) (sym (rows_more r.pending x))
          (noted (rows_read r.pending) r.noted);
      begun = ap (λ (z : ScanCore). z.has_begun) same ∙ sym (has_more r.pending x);
      first = first
          ∙ ap (λ (b : Bool). cond b s.first_item (first_of_rows (kept_rows_of x.content))) r.begun
          ∙ ap (λ o. cond (has_read r.pending) o (first_of_rows (kept_rows_of x.content))) r.first
          ∙ first_more r.pending x;
      main = subst (λ (z : ScanCore). IsNoHit z.main) (sym same) r.main;
      unjudged = subst IsUnjudged (sym same) (record {
        kept = r.unjudged.kept;
        long = r.unjudged.long;
        names = r.unjudged.names;
        heads_read = r.unjudged.heads_read;
      });
      left_is = subst (λ (n : ℕ). left - 1 + length (r.pending ++ x ∷ []) ≡ n)
          (sym (ap (λ (z : ScanCore). z.extent) same))
          (omega (arith, r.left_is, some_left left more, length-append r.pending (x ∷ [])));
      pages_read = omega (arith, one, r.pages_read, length-append r.pending (x ∷ []));
    }
  where
    some_left : (n : ℕ) → n ≢ 0 → 1 ≤ n
    some_left zero off = absurd (off refl)
    some_left (suc n) off = omega arith

-- pages go further
pub list_further : (WereRead : List Read → Type 0) (asked : List Asked) (s : ScanCore) (page more : ℕ) (z : Stage)
    → ReadsListBy WereRead asked s page 0
    → ReadsListBy WereRead asked (record s { stage = z; extent = s.extent + more }) page more
list_further WereRead asked s page more z r = record {
  meta = r.meta;
  pending = r.pending;
  meta_page = r.meta_page;
  leads = r.leads;
  reads = r.reads;
  noted = r.noted;
  begun = r.begun;
  first = r.first;
  main = r.main;
  unjudged = record {
    kept = r.unjudged.kept;
    long = r.unjudged.long;
    names = r.unjudged.names;
    heads_read = r.unjudged.heads_read;
  };
  left_is = omega (arith, r.left_is);
  pages_read = r.pages_read;
}
