-- A row of a document's keys is added to the pending list, or its pages of rows are linked: what is
-- logged, and that the transaction inserts the document then.
use Rattle.std.proofs.Common.{◌≡◌, ◌≢◌, ◌⊎◌, ◌<◌, ◌^◌, ℕ, List, [], ◌∷◌, map, refl, sym}
use Rattle.std.proofs.Common.{ap, subst, ◌∙◌, inl, inr, ⊎_elim, arith}
use Rattle.std.specs.Prelude.{Option, Some, None, IfSome, IfNone, Result, Ok, Err, IfOk, IfErr}
use Rattle.std.specs.Result.{result_transpose}
use Rattle.disk_trait.specs.declared.device.Disk.{Ghosts as Disk}
use Rattle.ts_base.specs.Vectors.{Vector}
use Rattle.ts_base.specs.Keys.{Key, keys_of}
use Rattle.page_types.specs.Numbers.{most_slots, page_limit}
use Rattle.page_types.specs.Pages.{IsPage, IsBody}
use Rattle.page_types.specs.Views.{rows_of, rows_in}
use Rattle.page_types.specs.declared.page.Page.{Page}
use Rattle.page_types.specs.declared.page.Head.{Head}
use Rattle.page_types.specs.declared.page.Name.{Name}
use Rattle.page_types.specs.declared.page.Body.TheVariants as body
use Rattle.page_types.specs.declared.record.Record.{Record}
use Rattle.page_types.specs.declared.record.Kind.{Kind}
use Rattle.page_types.specs.declared.record.Kind.TheVariants as kind
use Rattle.core_state.specs.Log.{Log, Pages, In, fate}
use Rattle.core_state.specs.Allowed.{Sheet, Step, MayLog, Owes, drawn_kind}
use Rattle.core_state.specs.Documents.{Doc, Has, HasVector, IsWhole, item_at, name_of}
use Rattle.core_state.specs.Documents.{placed_with, placed, marked_with, marked}
use Rattle.core_state.specs.History.{Commit, IsCommitOf}
use Rattle.core_state.specs.Steady.{KeepsHead}
use Rattle.core_state.specs.Steps.{sheet}
use Rattle.core_state.specs.States.{StateValue}
use Rattle.core_state.specs.declared.answers.Fate.TheVariants.{Running}
use Rattle.core_state.proofs.Histories.{head_one}
use Rattle.core_state.proofs.Steps.Pending.{add_row_may}
use Rattle.pending_list.specs.Packing.{row_of}
use Rattle.pending_list.specs.Adding.{IsPendingPage, with_row}
use Rattle.buffer_frames.specs.Drawing.{HasEncoding, record_of}
use Rattle.buffer_frames.specs.Frames.{Stands, Behind}
use Rattle.buffer_frames.specs.Passes.{IsPassOf, IsHolding, view_of}
use Rattle.buffer_frames.specs.declared.pass.Pass.{Pass}
use Rattle.engine.specs.Db.{DbValue, state_then}
use Rattle.engine.specs.Finding.{document}
use Rattle.engine.specs.Work.{IsRowOf}
use Rattle.engine.specs.Inner.Parts.{IsRowedSoFar, AreIndexed, HasRows, HasChanged, with_inserted}
use Rattle.engine.specs.Inner.Changing.{doc_of, ChangesDocument, MayLogStep, LogsStep}
use Rattle.engine.specs.Inner.Indexing.{IsRowStep, NamesEnd}
use Rattle.engine.specs.declared.error.DbError.{DbError}
use Rattle.engine.specs.declared.error.DbError.TheVariants.{OutOfMemory}
use Rattle.engine.proofs.Marking.{named}
use Rattle.engine.proofs.Puts.{inserts_it}
use Rattle.engine.proofs.RowsKept.{linked_now, some_log}
use Rattle.engine.proofs.StepSeen.{GrowsBy, after_step, owes_of, own_here, own_begun, runs_still}

-- ── the document is indexed then ──

-- the kind places and marks none
none_by_row : (k : Kind) (d : Doc) (xid x : ℕ) (ps ms : List Doc)
    → (k ≡ kind.AddRow d.item d.serial) ⊎ (k ≡ kind.LinkPending d.item d.serial)
    → (placed_with k xid x ps ≡ ps) × (marked_with k xid x ms ≡ ms)
none_by_row k d xid x ps ms (inl e) =
    (ap (λ (q : Kind). placed_with q xid x ps) e, ap (λ (q : Kind). marked_with q xid x ms) e)
none_by_row k d xid x ps ms (inr e) =
    (ap (λ (q : Kind). placed_with q xid x ps) e, ap (λ (q : Kind). marked_with q xid x ms) e)

module _ (held : List Sheet) (step : Step) (x serial : ℕ) (d : Doc) (n : Name) (v : Vector) (back : List Page)
    (last : ℕ) (c : Commit) (at : n ≡ name_of d) (none : c.inserted ≡ []) (doc : ChangesDocument step.kind)
    (S R : Log) (P P' Q : Pages) (r : Record) (g : GrowsBy held step x serial S P R P' r Q)
    (links : (r.kind ≡ kind.AddRow d.item d.serial) ⊎ (r.kind ≡ kind.LinkPending d.item d.serial))
    (p : IsRowedSoFar S P x d v back last) where
  here : In d (placed S x)
  here = subst (In d) (sym p.placed_one) (inl refl)

  kept : (k : Head) × Has P d k × KeepsHead P P' d k
  kept = (g.runs_on).heads d here

  vector_then : HasVector P' d v
  vector_then = (
    kept.0,
    (kept.2).head,
    (kept.2).vector v (subst (λ (k : Head). IsWhole P k v) (head_one P d p.head kept.0 p.has kept.1) p.whole),
  )

  pub indexed_then : map name_of (marked S x) ≡ c.deleted
      → (fate (r ∷ R) x ≡ Running) × IsCommitOf (r ∷ R) x (with_inserted (document n v) c) × AreIndexed (r ∷ R) Q x
  indexed_then marks =
      let now = linked_now R r P' Q (some_log R x (g.runs_on).runs) g.legal_now g.shown_then g.shown_now d v g.legal
      links vector_then in
      let same = none_by_row r.kind d r.xid x (placed R x) (marked R x) links in
      inserts_it (r ∷ R) Q x d n v c g.shown_now at none (runs_still R step r x g.drawn doc (g.runs_on).runs)
      (same.0 ∙ g.placed_same ∙ p.placed_one) (ap (map name_of) (same.1 ∙ g.marked_same) ∙ marks) now.0 now.1

-- ── a row that is added ──

abbrev pub row_of_step : ℕ → Name → ℕ → Page → Step
row_of_step x name page new = record {
  kind = kind.AddRow (item_at name.page name.slot) name.serial;
  xid = x;
  after = sheet page new ∷ [];
}

pub row_record : (s : StateValue) (x : ℕ) (name : Name) (last : Sheet) (keys : List Key) (step : Step)
    → IsRowStep x name last keys step → IsRowOf x (doc_of name) (record_of s step)
row_record s x name last keys step made =
    let q = row_of_step x name last.page made.new in
    subst (λ (k : Step). IsRowOf x (doc_of name) (record_of s k)) (sym made.step_is) (record {
      xid = refl;
      kind_is = refl;
      images = (q.after, refl, (made.is_page, tt), refl);
    })

-- a page with rows has just those that are seen on it
pub rows_there : (p : Page) → IsPendingPage p → p.body ≡ body.Pending (rows_of p)
rows_there p is = is.1 ∙ ap body.Pending (sym (ap rows_in is.1))

-- the metapage names a last page that is held
pub named_last : (meta : Page) (first pages : ℕ) (o : Option Sheet) (last : Sheet) → NamesEnd meta first pages o
    → o ≡ Some last → (meta.body ≡ body.Meta first last.page pages) × (last.page ≢ 0) × IsPendingPage last.content
named_last meta first pages _ last (NamesEnd.none is) e = absurd (let z : ⊥ = cc in z)
named_last meta first pages _ last (NamesEnd.some end is off rows) e =
    let same : end ≡ last = cc in (
      is ∙ ap (λ (h : Sheet). body.Meta first h.page pages) same,
      subst (λ (h : Sheet). h.page ≢ 0) same off,
      subst (λ (h : Sheet). IsPendingPage h.content) same rows,
    )

pub named_none : (meta : Page) (first pages : ℕ) (o : Option Sheet) → NamesEnd meta first pages o → o ≡ None
    → meta.body ≡ body.Meta first 0 pages
named_none meta first pages _ (NamesEnd.none is) e = is
named_none meta first pages _ (NamesEnd.some end is off rows) e = absurd (let z : ⊥ = cc in z)

-- a metapage names pages that have a number
pub named_low : (meta : Page) (first last pages : ℕ) → IsPage meta → meta.body ≡ body.Meta first last pages
    → (first < page_limit) × (last < page_limit)
named_low meta first last pages is names =
    let m : IsBody meta.right meta.stamp (body.Meta first last pages) =
    subst (IsBody meta.right meta.stamp) names is.body in
    (m.first_page, m.last_page)

-- what is told of a step, where there is one, and of none
pub made_row : (x : ℕ) (name : Name) (last : Sheet) (keys : List Key) (made : Result (Option Step) DbError)
    (some : Result Step DbError) (step : Step) → Some some ≡ result_transpose made → some ≡ Ok step
    → IfOk made (λ o. IfSome o (λ s. IsRowStep x name last keys s)) → IsRowStep x name last keys step
made_row x name last keys (Ok (Some s)) some step is ok told =
    let e : s ≡ step = cc in subst (IsRowStep x name last keys) e told
made_row x name last keys (Ok None) some step is ok told = let n : ⊥ = cc in absurd n
made_row x name last keys (Err e) some step is ok told = let n : ⊥ = cc in absurd n

-- it isn't for want of memory alone
pub told_memory : (made : Result (Option Step) DbError) (some : Result Step DbError) → Some some ≡ result_transpose made
    → IfErr made (λ e. e ≡ OutOfMemory) → IfErr some (λ e. e ≡ OutOfMemory)
told_memory (Ok (Some s)) some is memory =
    let e : some ≡ Ok s = cc in subst (λ (r : Result Step DbError). IfErr r (λ e. e ≡ OutOfMemory)) (sym e) tt
told_memory (Ok None) some is memory = let n : ⊥ = cc in absurd n
told_memory (Err w) some is memory =
    let e : some ≡ Err w = cc in subst (λ (r : Result Step DbError). IfErr r (λ e. e ≡ OutOfMemory)) (sym e) memory

pub full_none : (A : Type 0) (made : Result (Option Step) DbError) (some : Option (Result Step DbError))
    → some ≡ result_transpose made → ((r : Result Step DbError) → some ≡ Some r → ⊥) → IfOk made (λ o. IfNone o A) → A
full_none A (Ok (Some s)) some is none told = absurd (none (Ok s) is)
full_none A (Ok None) some is none told = told
full_none A (Err e) some is none told = absurd (none (Err e) is)

-- where it has no other case
pub is_none : (o : Option Sheet) → ((x : Sheet) → o ≡ Some x → ⊥) → o ≡ None
is_none None not = refl
is_none (Some x) not = absurd (not x refl)

module _ {D : Type 0} (device : Disk D) (s : DbValue D) (pass : Pass) (meta last : Sheet) (first pages : ℕ) (x : ℕ)
    (name : Name) (v : Vector) (keys : List Key) (names : List Name) (step : Step) (is : pass.xid ≡ Some x)
    (hold : IsHolding device s.frames pass (last ∷ meta ∷ []))
    (of_keys : keys ≡ keys_of v) (at : meta.page ≡ 0) (ends : NamesEnd meta.content first pages (Some last))
    (low : (name.page < page_limit) × (name.slot < most_slots)) (last_low : last.page < page_limit)
    (made : IsRowStep x name last keys step) where
  row_allowed : HasRows device s pass x (doc_of name) v [] 0 names
      → Behind device s.frames (λ (R : Log). MayLog (view_of s.frames pass R (last ∷ meta ∷ [])) step)
  row_allowed had t up R stands legal =
      let u = view_of s.frames pass R (last ∷ meta ∷ []) in
      let d = doc_of name in
      let end = named_last meta.content first pages (Some last) last ends refl in
      let metapage : sheet 0 meta.content ≡ meta = ap (λ (p : ℕ). sheet p meta.content) (sym at) in
      subst (MayLog u) (sym made.step_is)
      (add_row_may u (row_of_step x name last.page made.new) (λ P seen_is shown.
      let p = (had t up R stands legal P shown).0 in
      record {
        doc = d;
        head = p.head;
        vector = v;
        first = first;
        last = last.page;
        count = pages;
        rows = rows_of last.content;
        row = row_of d.item keys;
        meta = meta.content;
        old = last.content;
        new = made.new;
        kind_is = refl;
        after_is = refl;
        own = record { own = own_here x pass.xid is; begun = own_begun x pass.xid is; runs = p.runs };
        has = p.has;
        placed_by = p.by;
        whole = p.whole;
        no_row = p.no_row;
        held_meta = inr (inl metapage);
        held = inl refl;
        meta_is = end.0;
        some_last = end.1;
        was = rows_there last.content end.2;
        item = refl;
        keys = of_keys;
        right = ap (λ (q : Page). q.right) made.new_is;
        content = ap (λ (q : Page). q.body) made.new_is;
      }))

  row_not_free : made.new.body ≢ body.Free
  row_not_free free =
      let e : with_row last.content (item_at name.page name.slot) keys ≡ body.Free =
      sym (ap (λ (q : Page). q.body) made.new_is) ∙ free in cc

  row_encoded : name.serial < 2 ^ 64 → HasEncoding (row_of_step x name last.page made.new)
  row_encoded serial = record {
    kind = (omega (arith, low.0, low.1), serial);
    few = omega arith;
    each = (record { page = last_low; content = made.is_page; used = row_not_free }, tt);
    once = (tt, tt);
  }

  pub row_may_log : IsPassOf s.frames pass → HasRows device s pass x (doc_of name) v [] 0 names
      → name.serial < 2 ^ 64 → MayLogStep device s pass (last ∷ meta ∷ []) step
  row_may_log of had serial =
      let held = last ∷ meta ∷ [] in
      record {
        is_pass = of;
        holding = hold;
        document = subst (λ (q : Step). ChangesDocument q.kind) (sym made.step_is) tt;
        encoded = subst HasEncoding (sym made.step_is) (row_encoded serial);
        may = row_allowed had;
        owes = subst (λ (q : Step). (R : Log) → Stands device s.frames R → Owes (view_of s.frames pass R held) q)
            (sym made.step_is)
            (owes_of device s pass held (row_of_step x name last.page made.new) x of is refl tt
            (λ p i. ⊎_elim (λ (e : p ≡ last.page). inl e) absurd i) (tt, tt)
            (λ y i. ⊎_elim (λ (e : y ≡ sheet last.page made.new). subst (λ (z : Sheet). IsPage z.content) (sym e)
            made.is_page) absurd i));
      }

module _ {D : Type 0} (device : Disk D) (old new : DbValue D) (pass pass' : Pass) (held : List Sheet) (step : Step)
    (w : LogsStep device old pass held step new pass') (was : IsPassOf old.frames pass)
    (of : IsPassOf new.frames pass') where
  -- once its rows are linked the transaction inserts the document
  pub links_then : (x : ℕ) (name : Name) (v : Vector) (back : List Page) (last : ℕ) (c : Commit) → pass.xid ≡ Some x
      → name.slot < most_slots → c.inserted ≡ []
      → (step.kind ≡ kind.AddRow (doc_of name).item name.serial)
      ⊎ (step.kind ≡ kind.LinkPending (doc_of name).item name.serial)
      → HasRows device old pass x (doc_of name) v back last c.deleted
      → HasChanged device new pass' x (with_inserted (document name v) c)
  links_then x name v back last c is lt none links had =
      let d = doc_of name in
      after_step device old new pass pass' held step w was of x
      (λ (S : Log) (P : Pages). IsRowedSoFar S P x d v back last × (map name_of (marked S x) ≡ c.deleted))
      (λ (S : Log) (P : Pages). (fate S x ≡ Running) × IsCommitOf S x (with_inserted (document name v) c)
      × AreIndexed S P x) is
      (λ S P h. (h.0).runs)
      (λ S R P P' Q r g h. indexed_then held step x (state_then old).next_serial d name v back last c
      (sym (named name lt)) none (doc links) S R P P' Q r g (drawn R r g.drawn.kind links) h.0 h.1)
      had
    where
      doc : (step.kind ≡ kind.AddRow (doc_of name).item name.serial)
          ⊎ (step.kind ≡ kind.LinkPending (doc_of name).item name.serial) → ChangesDocument step.kind
      doc (inl e) = subst ChangesDocument (sym e) tt
      doc (inr e) = subst ChangesDocument (sym e) tt

      drawn : (R : Log) (r : Record) → r.kind ≡ drawn_kind R step.kind
          → (step.kind ≡ kind.AddRow (doc_of name).item name.serial)
          ⊎ (step.kind ≡ kind.LinkPending (doc_of name).item name.serial)
          → (r.kind ≡ kind.AddRow (doc_of name).item (doc_of name).serial)
          ⊎ (r.kind ≡ kind.LinkPending (doc_of name).item (doc_of name).serial)
      drawn R r k (inl e) = inl (k ∙ ap (drawn_kind R) e)
      drawn R r k (inr e) = inr (k ∙ ap (drawn_kind R) e)
