-- A page of a document's rows is put: what is logged, and what is there of the document then.
use Rattle.std.proofs.Common.{◌≡◌, ◌≢◌, ◌⊎◌, ◌<◌, ◌^◌, ℕ, suc, Bool, List, [], ◌∷◌, ◌++◌, map, refl}
use Rattle.std.proofs.Common.{sym}
use Rattle.std.proofs.Common.{ap, ap₂, subst, ◌∙◌, inl, inr, ⊎_elim, arith}
use Rattle.std.specs.Prelude.{Option, Some, true, false, cond, ◌==◌}
use Rattle.std.specs.List.{flat_map}
use Rattle.disk_trait.specs.declared.device.Disk.{Ghosts as Disk}
use Rattle.ts_base.specs.Vectors.{Vector}
use Rattle.ts_base.specs.Keys.{Key, keys_of}
use Rattle.page_types.specs.Numbers.{most_slots, page_limit}
use Rattle.page_types.specs.Keys.{KeyLess, Rising}
use Rattle.page_types.specs.Pages.{IsPage, IsBody}
use Rattle.page_types.specs.Parts.{head_with}
use Rattle.page_types.specs.Views.{slots_in, slot_at, rows_of, rows_in}
use Rattle.page_types.specs.declared.page.Page.{Page}
use Rattle.page_types.specs.declared.page.Head.{Head}
use Rattle.page_types.specs.declared.page.Row.{Row}
use Rattle.page_types.specs.declared.page.Name.{Name}
use Rattle.page_types.specs.declared.page.Body.{Body}
use Rattle.page_types.specs.declared.page.Body.TheVariants as body
use Rattle.page_types.specs.declared.record.Record.{Record}
use Rattle.page_types.specs.declared.record.Kind.{Kind}
use Rattle.page_types.specs.declared.record.Kind.TheVariants as kind
use Rattle.page_types.specs.declared.slots.HeadFields.{HeadFields}
use Rattle.core_state.specs.Log.{Log, Pages, In, changed}
use Rattle.core_state.specs.Allowed.{Sheet, Step, MayLog, Owes, drawn_body}
use Rattle.core_state.specs.Changes.{PutsSlot}
use Rattle.core_state.specs.Documents.{Doc, Has, IsChain, IsWhole, item_at, page_of, slot_of, name_of}
use Rattle.core_state.specs.Documents.{placed_with, placed, marked_with, marked}
use Rattle.core_state.specs.Index.{keys_on}
use Rattle.core_state.specs.PagesTold.{IsLastOf}
use Rattle.core_state.specs.PendingSteps.{RowsInFront}
use Rattle.core_state.specs.Steady.{KeepsHead}
use Rattle.core_state.specs.Steps.{RunsOwn, IsNewSheet, sheet}
use Rattle.core_state.specs.States.{StateValue}
use Rattle.core_state.proofs.Histories.{head_one}
use Rattle.core_state.proofs.LawsHold.{put_in_front}
use Rattle.core_state.proofs.Steps.Seen.{held_page, own_holds}
use Rattle.core_state.proofs.Steps.Pending.{put_pending_may}
use Rattle.doc_heap.specs.HeapPages.{head_on, ChangesSlot}
use Rattle.pending_list.specs.Packing.{ArePacked, row_of}
use Rattle.pending_list.specs.Adding.{IsPendingPage}
use Rattle.pending_list.proofs.LoggedRows.{pages_follow}
use Rattle.buffer_frames.specs.Drawing.{HasEncoding, record_of}
use Rattle.buffer_frames.specs.Frames.{Stands, Behind}
use Rattle.buffer_frames.specs.Passes.{IsPassOf, IsHolding, Seen, view_of}
use Rattle.buffer_frames.specs.declared.pass.Pass.{Pass}
use Rattle.engine.specs.Db.{DbValue, state_then}
use Rattle.engine.specs.Work.{IsRowPageOf}
use Rattle.engine.specs.Inner.Parts.{IsRowedSoFar, HasRows}
use Rattle.engine.specs.Inner.Changing.{doc_of, ChangesDocument, MayLogStep, LogsStep}
use Rattle.engine.specs.Inner.Indexing.{LeadsToRows, IsRowPageStep, IsNextPage, row_page, last_then}
use Rattle.engine.proofs.Carrying.{rows_kept}
use Rattle.engine.proofs.HeadChanges.{changed_is, head_is, slot_below}
use Rattle.engine.proofs.Marking.{page_is, slot_is}
use Rattle.engine.proofs.StepSeen.{GrowsBy, after_step, owes_of, own_here, own_begun, runs_still}

-- ── a head that leads to a page of rows ──

-- it has an encoding, and so has the number of the other page
pub rows_lead_is : (page new : Page) (k rows next : ℕ) → LeadsToRows page k rows new next → IsPage page
    → rows < page_limit → IsPage new × (next < page_limit)
rows_lead_is page new k rows next w is lt =
    let h = head_is page k w.head is w.there in (
      changed_is page new k w.head (record w.head { private = rows }) w.changes w.there refl
          (record {
            serial = h.serial;
            inserted_by = h.inserted_by;
            deleted_by = h.deleted_by;
            overflow = h.overflow;
            private = lt;
            bytes = h.bytes;
            vector = h.vector;
          }) is,
      omega (arith, w.next_is, h.private),
    )

-- a head that gets the number of another page of rows leads there
pub rows_by : (page : Page) (slot rows : ℕ) (f : HeadFields) (v : List ℕ) (new : Page)
    → Some (head_with f v) ≡ head_on page slot
    → ((h : Head) → head_on page slot ≡ Some h
    → ChangesSlot page slot (Some (head_with (record f { private = rows }) h.vector)) new)
    → LeadsToRows page slot rows new f.private
rows_by page slot rows f v new there changes = record {
  head = head_with f v;
  there = sym there;
  changes = changes (head_with f v) (sym there);
  next_is = refl;
}

-- ── the step ──

-- a page of rows that leads to another has an encoding still
row_page_is : (rows : Page) (next : ℕ) → IsPage rows → IsPendingPage rows → next < page_limit
    → IsPage (row_page next rows.body)
row_page_is rows next is pending lt =
    let b = subst (λ (x : Body). IsBody rows.right rows.stamp x) pending.1 is.body in
    record {
      right = lt;
      stamp = omega arith;
      body = subst (IsBody next 0) (sym pending.1) b;
      count = is.count;
      fits = is.fits;
    }

pub row_page_step_is : (x : ℕ) (name : Name) (heap copy : Page) (rows : Page) (page number : ℕ) (new : Page) (next : ℕ)
    (step : Step) → name.page < page_limit → copy ≡ heap → number ≡ page → LeadsToRows copy name.slot number new next
    → IsPage copy → page < page_limit → IsPage rows → IsPendingPage rows
    → step ≡ record {
      kind = kind.PutPending (item_at name.page name.slot) name.serial;
      xid = x;
      after = sheet name.page new ∷ sheet page (row_page next rows.body) ∷ [];
    } → IsRowPageStep x name heap rows.body page step
row_page_step_is x name heap copy rows page number new next step low same numbers w heap_is lt is pending step_is =
    let leads : LeadsToRows heap name.slot page new next =
    subst (λ (p : Page). LeadsToRows p name.slot page new next) same
    (subst (λ (n : ℕ). LeadsToRows copy name.slot n new next) numbers w) in
    let both = rows_lead_is copy new name.slot number next w heap_is (omega (arith, numbers, lt)) in
    record {
      place = (low, slot_below copy name.slot w.head heap_is w.there);
      low = lt;
      new = new;
      next = next;
      leads = leads;
      is_page = both.0;
      is_rows = row_page_is rows next is pending both.1;
      step_is = step_is;
    }

-- the step, with its parts
abbrev pub row_page_of_step : ℕ → Name → Page → ℕ → ℕ → Body → Step
row_page_of_step x name new page next rows = record {
  kind = kind.PutPending (item_at name.page name.slot) name.serial;
  xid = x;
  after = sheet name.page new ∷ sheet page (row_page next rows) ∷ [];
}

-- its record
pub row_page_record : (s : StateValue) (x : ℕ) (name : Name) (heap : Page) (rows : Body) (page : ℕ) (step : Step)
    → IsRowPageStep x name heap rows page step → IsRowPageOf x (doc_of name) (record_of s step)
row_page_record s x name heap rows page step made =
    let q = row_page_of_step x name made.new page made.next rows in
    subst (λ (k : Step). IsRowPageOf x (doc_of name) (record_of s k)) (sym made.step_is) (record {
      xid = refl;
      kind_is = refl;
      images = (q.after, refl, (made.is_page, (made.is_rows, tt)), refl);
    })

-- ── a page of a packing ──

record IsRowPage (item : ℕ) (page : Page) : Type 0 where
  row : Row
  of_item : row.item ≡ item
  content : page.body ≡ body.Pending (row ∷ [])

one_of : (item : ℕ) (keys : List Key) (pages : List Page) (page : Page) → ArePacked item keys pages → In page pages
    → IsRowPage item page
one_of item _ _ page (ArePacked.last keys fits) (inl e) =
    record { row = row_of item keys; of_item = refl; content = ap (λ (p : Page). p.body) e }
one_of item _ _ page (ArePacked.last keys fits) (inr z) = absurd z
one_of item _ _ page (ArePacked.more front key back pages some fits most rest) (inl e) =
    record { row = row_of item front; of_item = refl; content = ap (λ (p : Page). p.body) e }
one_of item _ _ page (ArePacked.more front key back pages some fits most rest) (inr i) =
    one_of item (key ∷ back) pages page rest i

in_middle : {A : Type 0} (front back : List A) (x : A) → In x (front ++ x ∷ back)
in_middle [] back x = inl refl
in_middle (y ∷ front) back x = inr (in_middle front back x)

-- the rows of a page of a packing
pub next_row : (item : ℕ) (v : Vector) (page : Page) (back : List Page) → IsNextPage item v page back
    → (row : Row) × (row.item ≡ item) × (page.body ≡ body.Pending (row ∷ []))
next_row item v page back n =
    let w = one_of item (keys_of v) (n.front ++ page ∷ back) page n.packed (in_middle n.front back page) in
    (w.row, w.of_item, w.content)

-- ── it may be logged ──

some_one : (a b : Head) (o : Option Head) → o ≡ Some a → o ≡ Some b → a ≡ b
some_one a b o p q = let e : Some a ≡ Some b = sym p ∙ q in cc

module _ {D : Type 0} (device : Disk D) (s : DbValue D) (pass : Pass) (heap fresh : Sheet) (x : ℕ) (name : Name)
    (v : Vector) (rows : Page) (back : List Page) (last : ℕ) (names : List Name) (step : Step) (is : pass.xid ≡ Some x)
    (hold : IsHolding device s.frames pass (fresh ∷ heap ∷ []))
    (next : IsNextPage (item_at name.page name.slot) v rows back)
    (on : heap.page ≡ name.page) (made : IsRowPageStep x name heap.content rows.body fresh.page step) where
  lt : name.slot < most_slots
  lt = made.place.1

  row_page_allowed : HasRows device s pass x (doc_of name) v back last names
      → Seen device s.frames pass (λ (S : Log) (P : Pages). IsNewSheet P pass.since fresh.page fresh.content)
      → Behind device s.frames (λ (R : Log). MayLog (view_of s.frames pass R (fresh ∷ heap ∷ [])) step)
  row_page_allowed had is_new t up R stands legal =
      let u = view_of s.frames pass R (fresh ∷ heap ∷ []) in
      let d = doc_of name in
      let item = item_at name.page name.slot in
      let a = hold.allowed t up R stands legal in
      let at_page : page_of item ≡ name.page = page_is name lt in
      let at_slot : slot_of item ≡ name.slot = slot_is name lt in
      let here : sheet (page_of item) heap.content ≡ heap =
      ap (λ (p : ℕ). sheet p heap.content) (at_page ∙ sym on) in
      let h = (made.leads).head in
      let w = (made.leads).changes in
      let row = next_row item v rows back next in
      let follows = pages_follow item (keys_of v) next.front rows back next.packed next.are_keys in
      let rows_are : rows_of rows ≡ row.0 ∷ [] = ap rows_in row.2 in
      subst (MayLog u) (sym made.step_is)
      (put_pending_may u (row_page_of_step x name made.new fresh.page made.next rows.body) (λ P seen_is shown.
      let p = (had t up R stands legal P shown).0 in
      let own : RunsOwn u x = record { own = own_here x pass.xid is; begun = own_begun x pass.xid is; runs = p.runs } in
      let stay = own_holds u R a P x own shown in
      let kept = (stay.runs_on).heads d (subst (In d) (sym p.placed_one) (inl refl)) in
      let page : a.pages (page_of item) ≡ heap.content =
      held_page u R a (page_of item) heap.content (inr (inl here)) in
      let found : head_on heap.content (slot_of item) ≡ Some kept.0 =
      ap (λ (c : Page). head_on c (slot_of item)) (sym page) ∙ ((kept.2).head).at in
      let made_head : head_on heap.content (slot_of item) ≡ Some h =
      ap (head_on heap.content) at_slot ∙ (made.leads).there in
      let same : h ≡ p.head =
      some_one h kept.0 (head_on heap.content (slot_of item)) made_head found
      ∙ head_one P d kept.0 p.head kept.1 p.has in
      record {
        doc = d;
        head = h;
        vector = v;
        new = fresh.page;
        rows = row.0 ∷ [];
        chain = p.chain;
        old = heap.content;
        old_rows = fresh.content;
        heap = made.new;
        put = row_page made.next rows.body;
        kind_is = refl;
        after_is = ap (λ (q : ℕ). sheet q made.new ∷ sheet fresh.page (row_page made.next rows.body) ∷ [])
            (sym at_page);
        own = own;
        placed_by = ap (λ (g : Head). g.inserted_by) same ∙ p.by;
        held = inr (inl here);
        held_rows = inl refl;
        is_new = is_new t up R stands legal P shown;
        whole = subst (λ (g : Head). IsWhole P g v) (sym same) p.whole;
        no_row = p.no_row;
        some_row = λ z. cc;
        items = λ y i. ⊎_elim (λ (e : y ≡ row.0). ap (λ (q : Row). q.item) e ∙ row.1) absurd i;
        keys = λ k i. follows.of_document k (subst (λ (ws : List Row). In k (keys_on ws)) (sym rows_are) i);
        is_chain = subst (λ (g : Head). IsChain P g.private p.chain) (sym same) p.is_chain;
        rising = subst (λ (ws : List Row). Rising KeyLess (keys_on (row.0 ∷ [] ++ ws))) (sym p.rows)
            (subst (λ (ws : List Row). Rising KeyLess (keys_on (ws ++ flat_map rows_of back))) rows_are follows.rising);
        head_after = record {
          slots = w.slots;
          new_slots = w.new_slots;
          before = w.was;
          head = ap (λ (b : Body). slot_at (slots_in b) (slot_of item)) (sym w.was) ∙ made_head;
          serial = ap (λ (g : Head). g.serial) same ∙ (p.has).serial;
          put = subst (λ (k : ℕ). PutsSlot w.slots k (Some (record h { private = fresh.page })) w.new_slots)
              (sym at_slot) w.put;
          right = ap (λ (c : Page). c.right) w.after;
          after = ap (λ (c : Page). c.body) w.after;
        };
        right = (made.leads).next_is;
        content = row.2;
      }))

  part_is_heap : made.new.body ≡ body.Heap ((made.leads).changes).new_slots
  part_is_heap = ap (λ (c : Page). c.body) ((made.leads).changes).after

  heap_not_free : made.new.body ≢ body.Free
  heap_not_free free = let e : body.Heap ((made.leads).changes).new_slots ≡ body.Free = sym part_is_heap ∙ free in cc

  rows_not_free : rows.body ≢ body.Free
  rows_not_free free =
      let row = next_row (item_at name.page name.slot) v rows back next in
      let e : body.Pending (row.0 ∷ []) ≡ body.Free = sym row.2 ∙ free in cc

  row_page_encoded : name.serial < 2 ^ 64
      → HasEncoding (row_page_of_step x name made.new fresh.page made.next rows.body)
  row_page_encoded serial = record {
    kind = (omega (arith, made.place.0, made.place.1), serial);
    few = omega arith;
    each = (
      record { page = made.place.0; content = made.is_page; used = heap_not_free },
      (record { page = made.low; content = made.is_rows; used = rows_not_free }, tt),
    );
    once = ((λ e. (hold.once).0.0 (sym e ∙ sym on), tt), (tt, tt));
  }

  pub row_page_may_log : IsPassOf s.frames pass → HasRows device s pass x (doc_of name) v back last names
      → Seen device s.frames pass (λ (S : Log) (P : Pages). IsNewSheet P pass.since fresh.page fresh.content)
      → name.serial < 2 ^ 64 → MayLogStep device s pass (fresh ∷ heap ∷ []) step
  row_page_may_log of had is_new serial =
      let held = fresh ∷ heap ∷ [] in
      record {
        is_pass = of;
        holding = hold;
        document = subst (λ (q : Step). ChangesDocument q.kind) (sym made.step_is) tt;
        encoded = subst HasEncoding (sym made.step_is) (row_page_encoded serial);
        may = row_page_allowed had is_new;
        owes = subst (λ (q : Step). (R : Log) → Stands device s.frames R → Owes (view_of s.frames pass R held) q)
            (sym made.step_is)
            (owes_of device s pass held (row_page_of_step x name made.new fresh.page made.next rows.body) x of is
            refl tt
            (λ p i. ⊎_elim (λ (e : p ≡ name.page). inr (inl (e ∙ sym on)))
            (λ (j : (p ≡ fresh.page) ⊎ ⊥). ⊎_elim (λ (e : p ≡ fresh.page). inl e) absurd j) i)
            ((λ e. (hold.once).0.0 (sym e ∙ sym on), tt), (tt, tt))
            (λ y i. ⊎_elim
            (λ (e : y ≡ sheet name.page made.new). subst (λ (z : Sheet). IsPage z.content) (sym e) made.is_page)
            (λ (j : (y ≡ sheet fresh.page (row_page made.next rows.body)) ⊎ ⊥). ⊎_elim
            (λ (e : y ≡ sheet fresh.page (row_page made.next rows.body)).
            subst (λ (z : Sheet). IsPage z.content) (sym e) made.is_rows) absurd j) i));
      }

-- ── what is there then ──

-- the last page of a chain with one more in front
last_more : (chain : List ℕ) (last new : ℕ) → IsLastOf chain last
    → (last ≢ 0 → (front : List ℕ) × (chain ≡ front ++ last ∷ []))
    → (last ≡ 0 → chain ≡ []) → IsLastOf (new ∷ chain) (last_then last new)
last_more chain last new ends some none = by (last == 0) refl
  where
    by : (b : Bool) → (last == 0) ≡ b → IsLastOf (new ∷ chain) (cond b new last)
    by true e =
        let zero : last ≡ 0 = grind (arith, e) in
        subst (λ (c : List ℕ). IsLastOf (new ∷ c) new) (sym (none zero)) (IsLastOf.some [] new)
    by false e =
        let off : last ≢ 0 = λ z. let t : true ≡ false = sym (ap (λ (n : ℕ). n == 0) z) ∙ e in cc in
        let f = some off in
        subst (λ (c : List ℕ). IsLastOf (new ∷ c) last) (sym f.1) (IsLastOf.some (new ∷ f.0) last)

ends_in : (chain : List ℕ) (last : ℕ) → IsLastOf chain last → last ≢ 0 → (front : List ℕ) × (chain ≡ front ++ last ∷ [])
ends_in _ _ IsLastOf.none off = absurd (off refl)
ends_in _ _ (IsLastOf.some front last) off = (front, refl)

in_end : (front : List ℕ) (last : ℕ) → In last (front ++ last ∷ [])
in_end [] last = inl refl
in_end (x ∷ front) last = inr (in_end front last)

not_zero : (P : Pages) (n : ℕ) (qs : List ℕ) (q : ℕ) → IsChain P n qs → In q qs → q ≢ 0
not_zero P n [] q c i = absurd i
not_zero P n (p ∷ qs) q c (inl e) = λ z. c.1 (sym e ∙ z)
not_zero P n (p ∷ qs) q c (inr i) = not_zero P (P p).right qs q c.2 i

ends_none : (P : Pages) (n : ℕ) (chain : List ℕ) (last : ℕ) → IsChain P n chain → IsLastOf chain last → last ≡ 0
    → chain ≡ []
ends_none P n _ _ c IsLastOf.none zero = refl
ends_none P n _ _ c (IsLastOf.some front last) zero =
    absurd (not_zero P n (front ++ last ∷ []) last c (in_end front last) zero)

module _ (heap fresh : Sheet) (x serial : ℕ) (name : Name) (v : Vector) (rows : Page) (back : List Page) (last : ℕ)
    (names : List Name) (new : Page) (next_page : ℕ) (h : Head) (there : head_on heap.content name.slot ≡ Some h)
    (next : IsNextPage (item_at name.page name.slot) v rows back)
    (on : heap.page ≡ name.page) (lt : name.slot < most_slots) (S R : Log) (P P' Q : Pages) (r : Record)
    (g : GrowsBy (fresh ∷ heap ∷ []) (row_page_of_step x name new fresh.page next_page rows.body) x serial S P R P' r Q)
    (p : IsRowedSoFar S P x (doc_of name) v back last) where
  abbrev pub d : Doc
  d = doc_of name

  abbrev pub item : ℕ
  item = item_at name.page name.slot

  kinds : r.kind ≡ kind.PutPending item name.serial
  kinds = (g.drawn).kind

  here : In d (placed S x)
  here = subst (In d) (sym p.placed_one) (inl refl)

  kept : (k : Head) × Has P d k × KeepsHead P P' d k
  kept = (g.runs_on).heads d here

  same_kept : kept.0 ≡ p.head
  same_kept = head_one P d kept.0 p.head kept.1 p.has

  has_then : Has P' d p.head
  has_then = subst (Has P' d) same_kept (kept.2).head

  chain_then : IsChain P' p.head.private p.chain × ((q : ℕ) → In q p.chain → P' q ≡ P q)
  chain_then = subst (λ (k : Head). IsChain P' k.private p.chain × ((q : ℕ) → In q p.chain → P' q ≡ P q)) same_kept
      ((kept.2).private p.chain (subst (λ (k : Head). IsChain P k.private p.chain) (sym same_kept) p.is_chain))

  whole_then : IsWhole P' p.head v
  whole_then = subst (λ (k : Head). IsWhole P' k v) same_kept
      ((kept.2).vector v (subst (λ (k : Head). IsWhole P k v) (sym same_kept) p.whole))

  pages_are : changed r ≡ page_of d.item ∷ fresh.page ∷ []
  pages_are = (g.drawn).pages ∙ ap (λ (q : ℕ). q ∷ fresh.page ∷ []) (sym (page_is name lt))

  front : RowsInFront P' Q d p.head p.chain fresh.page
  front = put_in_front R r P' Q d p.head p.chain fresh.page g.legal_now g.shown_then g.shown_now kinds pages_are
      has_then
      chain_then.0

  rows_then : rows_of (Q fresh.page) ≡ rows_of rows
  rows_then =
      ap rows_of (g.leaves).here.1.0
      ∙ ap (λ (k : Kind). rows_in (drawn_body k rows.body)) kinds

  pub row_page_done : map name_of (marked S x) ≡ names
      → IsRowedSoFar (r ∷ R) Q x d v (rows ∷ back) (last_then last fresh.page)
      × (map name_of (marked (r ∷ R) x) ≡ names)
  row_page_done marks = (
    record {
      runs = runs_still R (row_page_of_step x name new fresh.page next_page rows.body) r x g.drawn tt (g.runs_on).runs;
      placed_one = ap (λ (k : Kind). placed_with k r.xid x (placed R x)) kinds ∙ g.placed_same ∙ p.placed_one;
      head = record p.head { private = fresh.page };
      has = front.has;
      by = p.by;
      whole = front.whole v whole_then;
      no_row = front.no_row ((g.runs_on).no_row d here p.no_row);
      chain = fresh.page ∷ p.chain;
      is_chain = front.is_chain;
      rows = ap₂ (λ (a b : List Row). a ++ b) rows_then
          (rows_kept P' Q p.chain front.same ∙ rows_kept P P' p.chain chain_then.1 ∙ p.rows);
      many = ap (λ (n : ℕ). suc n) p.many;
      ends = last_more p.chain last fresh.page p.ends (ends_in p.chain last p.ends)
          (ends_none P p.head.private p.chain last p.is_chain p.ends);
    },
    ap (map name_of) (ap (λ (k : Kind). marked_with k r.xid x (marked R x)) kinds ∙ g.marked_same) ∙ marks,
  )

module _ {D : Type 0} (device : Disk D) (old new : DbValue D) (pass pass' : Pass) (heap fresh : Sheet) (x : ℕ)
    (name : Name) (rows : Page) (step : Step) (on : heap.page ≡ name.page)
    (made : IsRowPageStep x name heap.content rows.body fresh.page step)
    (w : LogsStep device old pass (fresh ∷ heap ∷ []) step new pass') (was : IsPassOf old.frames pass)
    (of : IsPassOf new.frames pass') where
  -- the page is then on the document's private chain too
  pub row_page_then : (v : Vector) (back : List Page) (last : ℕ) (names : List Name) → pass.xid ≡ Some x
      → IsNextPage (item_at name.page name.slot) v rows back
      → HasRows device old pass x (doc_of name) v back last names
      → HasRows device new pass' x (doc_of name) v (rows ∷ back) (last_then last fresh.page) names
  row_page_then v back last names is next had =
      let d = doc_of name in
      let held = fresh ∷ heap ∷ [] in
      let serial = (state_then old).next_serial in
      after_step device old new pass pass' held step w was of x
      (λ (S : Log) (P : Pages). IsRowedSoFar S P x d v back last × (map name_of (marked S x) ≡ names))
      (λ (S : Log) (P : Pages). IsRowedSoFar S P x d v (rows ∷ back) (last_then last fresh.page)
      × (map name_of (marked S x) ≡ names)) is
      (λ S P h. (h.0).runs)
      (λ S R P P' Q r g h. row_page_done heap fresh x serial name v rows back last names made.new made.next
      (made.leads).head (made.leads).there next on made.place.1 S R P P' Q r
      (subst (λ (k : Step). GrowsBy held k x serial S P R P' r Q) made.step_is g) h.0 h.1)
      had
