-- The step by which the first page of the list goes.
use Rattle.std.proofs.Common.{◌≡◌, ◌≢◌, ◌<◌, ◌≤◌, ◌-◌, ℕ, suc, List, [], ◌∷◌, length, refl, sym, ap, subst}
use Rattle.std.proofs.Common.{◌∙◌}
use Rattle.std.proofs.Common.{inl, inr, arith, length-drop, length-append, ◌^◌, ◌++◌, Result, Ok, Err}
use Rattle.std.specs.Prelude.{IfOk, OnOk}
use Rattle.std.specs.List.{AllByRecursion}
use Rattle.disk_trait.specs.declared.device.Disk.{Ghosts as Disk}
use Rattle.page_types.specs.Keys.{Rising}
use Rattle.page_types.specs.Numbers.{page_limit, u32_bytes}
use Rattle.page_types.specs.Pages.{IsPage, IsBody}
use Rattle.page_types.specs.Records.{IsKind}
use Rattle.page_types.specs.Views.{rows_in, rows_of, first_in, first_of}
use Rattle.page_types.specs.declared.page.Page.{Page}
use Rattle.page_types.specs.declared.page.Row.{Row}
use Rattle.page_types.specs.declared.page.Body.TheVariants as body
use Rattle.page_types.specs.declared.record.Kind.TheVariants as kind
use Rattle.page_types.proofs.Framing.{length-u32_bytes}
use Rattle.core_state.specs.Log.{Log, Pages, In, Shows, cut}
use Rattle.core_state.specs.Index.{Line}
use Rattle.core_state.specs.Allowed.{Sheet, Step, Owes, sheet_pages}
use Rattle.core_state.specs.Legal.{IsLegal}
use Rattle.core_state.specs.PagesTold.{ListStands}
use Rattle.core_state.specs.PendingRules.{IsLastAfter}
use Rattle.core_state.specs.Steps.{sheet}
use Rattle.core_state.proofs.Histories.{chain_one}
use Rattle.core_state.proofs.LawsHold.{pages as pages_told}
use Rattle.core_maintenance.specs.MovingSteps.{CanShift}
use Rattle.core_maintenance.proofs.Moves.{shift_may}
use Rattle.buffer_frames.specs.Drawing.{IsSheet}
use Rattle.buffer_frames.specs.Frames.{FramesValue, Stands}
use Rattle.buffer_frames.specs.Passes.{IsPassOf, Seen, view_of}
use Rattle.buffer_frames.specs.declared.pass.Pass.{Pass}
use Rattle.buffer_frames.proofs.AtHand.{cut_length, log_length}
use Rattle.gin_place.specs.Placing.{HasRight}
use Rattle.gin_place.proofs.Owing.{right_of}
use Rattle.gin_cleanup.specs.Gathering.{IsBatch, AreCounted}
use Rattle.gin_cleanup.specs.Inner.Shifting.{IsMetaWithout, IsDeletedOf, IsShiftStep, HoldsFirst, MayShift}
use Rattle.gin_cleanup.specs.declared.first_page.First.{First}
use Rattle.gin_cleanup.proofs.Shifting.{ready}

same_first : (a b c d e f : ℕ) → body.Meta a b c ≡ body.Meta d e f → a ≡ d
same_first a b c d e f m = cc

same_count : (a b c d e f : ℕ) → body.Meta a b c ≡ body.Meta d e f → c ≡ f
same_count a b c d e f m = cc

not_free : (a b c : ℕ) → body.Meta a b c ≡ body.Free → ⊥
not_free a b c e = cc

-- the metapage with such numbers
pub meta_page : (c : Page) (first last n right then count : ℕ) → IsPage c → c.body ≡ body.Meta first last n
    → right < page_limit → IsLastAfter right last then → count ≤ n
    → IsPage (record c { body = body.Meta right then count })
meta_page c first last n right then count page is low after few =
    let m = subst (IsBody c.right c.stamp) is page.body in
    record {
      right = page.right;
      stamp = page.stamp;
      body = record {
        first_page = low;
        last_page = last_low right last then after m.last_page;
        number = omega (arith, few, m.number);
      };
      count = omega arith;
      fits = omega (
        arith,
        length-append (u32_bytes right) (u32_bytes then ++ u32_bytes count),
        length-append (u32_bytes then) (u32_bytes count),
        length-u32_bytes right,
        length-u32_bytes then,
        length-u32_bytes count,
      );
    }
  where
    last_low : (r l k : ℕ) → IsLastAfter r l k → l < page_limit → k < page_limit
    last_low r l _ (IsLastAfter.none e) lo = omega arith
    last_low r l _ (IsLastAfter.same e) lo = lo

-- the step that was made of these pages
pub shift_made : {E : Type 0} (meta page : Sheet) (m d : Page) → IsMetaWithout meta.content page.content.right m
    → IsDeletedOf page.content d → IsPage m × IsPage d → (r : Result Step E)
    → IfOk r (λ s. s ≡ record { kind = kind.Shift; xid = 0; after = sheet meta.page m ∷ sheet page.page d ∷ [] })
    → OnOk r ((meta.page < page_limit) × (page.page < page_limit)) → IfOk r (IsShiftStep meta page)
shift_made meta page m d without deleted pages (Err e) made low = tt
shift_made meta page m d without deleted pages (Ok s) made low = record {
  meta_then = m;
  deleted = d;
  kind_is = ap (λ (t : Step). t.kind) made;
  xid = ap (λ (t : Step). t.xid) made;
  after_is = ap (λ (t : Step). t.after) made;
  meta_is = without;
  deleted_is = deleted;
  pages = pages;
  low = low;
}

-- the list of a batch with a page begins with the one that the metapage names
first_line : (P : Pages) (left n : ℕ) (ns line : List ℕ) → Line P line → AreCounted P left (n ∷ ns) line
    → (rest : List ℕ) × (line ≡ first_of (P 0) ∷ rest)
first_line P left n ns [] on counted = absurd counted
first_line P left n ns (q ∷ rest) on counted = (rest, ap (λ (p : ℕ). p ∷ rest) (sym on.0))

module _ {D : Type 0} (device : Disk D) (f : FramesValue D) (p : Pass) (t : First) (s : Step)
    (holds : HoldsFirst device f p t) (of : IsPassOf f p) (right : HasRight p) (x : IsShiftStep t.meta t.page s)
    (left n : ℕ) (ns : List ℕ) (batch : Seen device f p (λ S P. IsBatch P left (n ∷ ns) []))
    (few : length (rows_of t.page.content) ≤ n) where
  abbrev held : List Sheet
  held = t.page ∷ t.meta ∷ []

  can : device.tells → (R : Log) → Stands device f R → IsLegal R → (P : Pages) → IsLegal (cut p.seen R)
      → Shows (cut p.seen R) P → ListStands (cut p.seen R) P → (P 0 ≡ t.meta.content) × (P t.page.page ≡ t.page.content)
      → IsBatch P left (n ∷ ns) [] → CanShift (view_of f p R held) P s
  can tells R stands legal P legal_seen shown list seen b =
      let S : Log = cut p.seen R in
      let mw = x.meta_is in
      let dl = x.deleted_is in
      let long : f.journal.state.records ≡ length R = log_length device f.journal R stands.journal in
      let size : length S ≡ p.seen = cut_length p.seen R (omega (arith, of.seen, long)) in
      let m = list.meta (λ e. omega (arith, of.some, size, ap length e)) in
      let metas : body.Meta m.0 m.1 (length list.pages) ≡ body.Meta mw.first mw.last mw.pages =
      sym m.2 ∙ ap (λ (c : Page). c.body) seen.0 ∙ mw.was in
      let l = first_line P left n ns b.gathered.line b.gathered.is_line b.gathered.counted in
      let first_is : first_of (P 0) ≡ t.page.page =
      ap first_of seen.0 ∙ ap first_in holds.names ∙ sym holds.page_is in
      let line_is : b.gathered.line ≡ t.page.page ∷ l.0 = l.1 ∙ ap (λ (q : ℕ). q ∷ l.0) first_is in
      let same : list.pages ≡ b.gathered.line =
      chain_one P (first_of (P 0)) list.pages b.gathered.line list.is_line b.gathered.is_line in
      let count : mw.pages ≡ suc (mw.pages - 1) =
      omega (arith, same_count m.0 m.1 (length list.pages) mw.first mw.last mw.pages metas, ap length (same ∙ line_is))
      in
      let first : mw.first ≡ t.page.page =
      same_first mw.first mw.last mw.pages t.names.first t.names.last t.names.pages (sym mw.was ∙ holds.names)
      ∙ sym holds.page_is in
      let rows_are : rows_of (P t.page.page) ≡ dl.rows = ap rows_of seen.1 ∙ ap rows_in dl.was in
      record {
        page = t.page.page;
        last = mw.last;
        count = mw.pages - 1;
        new_last = mw.last_then;
        rows = dl.rows;
        meta = t.meta.content;
        old = t.page.content;
        meta_then = x.meta_then;
        new = x.deleted;
        kind_is = x.kind_is;
        after_is = x.after_is
            ∙ ap (λ (k : ℕ). sheet k x.meta_then ∷ sheet t.page.page x.deleted ∷ []) holds.meta_page;
        may = right_of device f p held R of right stands;
        held_meta = inr (inl (ap (λ (k : ℕ). sheet k t.meta.content) (sym holds.meta_page)));
        held = inl refl;
        meta_is = mw.was ∙ ap (λ (k : ℕ). body.Meta k mw.last mw.pages) first
            ∙ ap (λ (k : ℕ). body.Meta t.page.page mw.last k) count;
        was = dl.was;
        moved = λ w i. ready S P list left n t.page.page ns l.0 b line_is
            (subst (λ (ws : List Row). length ws ≤ n) (sym (ap rows_of seen.1)) few) w
            (subst (In w) (sym rows_are) i);
        last_is = mw.last_is;
        meta_right = ap (λ (c : Page). c.right) mw.same;
        meta_content = ap (λ (c : Page). c.body) mw.same;
        right = ap (λ (c : Page). c.right) dl.same;
        content = ap (λ (c : Page). c.body) dl.same;
      }

  shift_pages : sheet_pages s.after ≡ t.meta.page ∷ t.page.page ∷ []
  shift_pages = ap sheet_pages x.after_is

  apart : Rising (λ (a b : ℕ). a ≢ b) (sheet_pages s.after)
  apart = subst (Rising (λ (a b : ℕ). a ≢ b)) (sym shift_pages)
      ((λ e. (holds.holding.once).0.0 (sym e), tt), (tt, tt))

  pages_fit : (z : Sheet) → In z s.after → IsPage z.content
  pages_fit z i = elim (subst (In z) x.after_is i) [
    | inl e ↦ subst (λ (y : Sheet). IsPage y.content) (sym e) x.pages.0
    | inr (inl e) ↦ subst (λ (y : Sheet). IsPage y.content) (sym e) x.pages.1
    | inr (inr none) ↦ absurd none
  ]

  no_abort : s.kind ≡ kind.Abort → ⊥
  no_abort is = let two : kind.Shift ≡ kind.Abort = sym x.kind_is ∙ is in cc

  owes : (R : Log) → Stands device f R → Owes (view_of f p R held) s
  owes R stands =
      let long : f.journal.state.records ≡ length R = log_length device f.journal R stands.journal in
      record {
        started = inl (λ none.
            omega (arith, of.some, of.seen, long, length-drop (length R - p.seen) R, ap length none));
        pages = λ q i. elim (subst (In q) shift_pages i) [
          | inl e ↦ inr (inl e)
          | inr (inl e) ↦ inl e
          | inr (inr none) ↦ absurd none
        ];
        once = apart;
        fits = pages_fit;
        xid = inl x.xid;
        work = λ is. (right.at, right.has);
        not_all = λ is. absurd (no_abort is);
      }

  pub may_shift : MayShift device f p (t.page ∷ t.meta ∷ []) s
  may_shift = record {
    is_pass = of;
    right = right;
    holding = holds.holding;
    encoded = record {
      kind = subst IsKind (sym x.kind_is) tt;
      few = subst (λ (xs : List Sheet). length xs < 2 ^ 8) (sym x.after_is) (omega arith);
      each = subst (AllByRecursion IsSheet) (sym x.after_is) (
        record {
          page = x.low.0;
          content = x.pages.0;
          used = λ free. not_free t.page.content.right x.meta_is.last_then (x.meta_is.pages - 1)
              (sym (ap (λ (c : Page). c.body) x.meta_is.same) ∙ free);
        },
        (
          record {
            page = x.low.1;
            content = x.pages.1;
            used = λ free. let two = sym (ap (λ (c : Page). c.body) x.deleted_is.same) ∙ free in let z : ⊥ = cc in z;
          },
          tt,
        ),
      );
      once = apart;
    };
    kind_is = x.kind_is;
    pages = subst (λ (xs : List Sheet). length xs ≤ 2) (sym x.after_is) (omega arith);
    may = λ tells up R stands legal. shift_may (view_of f p R held) s (λ P legal_seen shown.
        can tells R stands legal P legal_seen shown (pages_told (cut p.seen R) P legal_seen shown).list
        (holds.seen tells up R stands legal P shown) (batch tells up R stands legal P shown));
    owes = owes;
  }
