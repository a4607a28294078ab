-- The pages of a document's rows are linked to the pending list: what is logged.
use Rattle.std.proofs.Common.{◌≡◌, ◌≢◌, ◌⊎◌, ◌<◌, ◌^◌, ◌+◌, ℕ, List, [], ◌∷◌, ◌++◌, length, refl, sym, ap}
use Rattle.std.proofs.Common.{subst}
use Rattle.std.proofs.Common.{◌∙◌, inl, inr, ⊎_elim, arith, length-append}
use Rattle.std.specs.Prelude.{Option, Some, None, IfSome}
use Rattle.std.specs.List.{flat_map, AllByRecursion}
use Rattle.disk_trait.specs.declared.device.Disk.{Ghosts as Disk}
use Rattle.ts_base.specs.Vectors.{Vector}
use Rattle.ts_base.specs.Keys.{Key, keys_of}
use Rattle.page_types.specs.Keys.{Rising}
use Rattle.page_types.specs.Numbers.{most_slots, page_limit, u32_bytes}
use Rattle.page_types.specs.Pages.{IsPage, IsBody}
use Rattle.page_types.proofs.Framing.{length-u32_bytes}
use Rattle.page_types.specs.Views.{slots_in, slot_at, rows_of}
use Rattle.page_types.specs.declared.page.Page.{Page}
use Rattle.page_types.specs.declared.page.Head.{Head}
use Rattle.page_types.specs.declared.page.Row.{Row}
use Rattle.page_types.specs.declared.page.Name.{Name}
use Rattle.page_types.specs.declared.page.Body.{Body}
use Rattle.page_types.specs.declared.page.Body.TheVariants as body
use Rattle.page_types.specs.declared.record.Kind.TheVariants as kind
use Rattle.core_state.specs.Log.{Log, In}
use Rattle.core_state.specs.Allowed.{Sheet, Step, View, MayLog, Owes, sheet_pages}
use Rattle.core_state.specs.Changes.{PutsSlot}
use Rattle.core_state.specs.Documents.{IsChain, IsWhole, item_at, page_of, slot_of}
use Rattle.core_state.specs.Index.{InRows, rows_on}
use Rattle.core_state.specs.PagesTold.{IsLastOf}
use Rattle.core_state.specs.PendingSteps.{LinksAtEnd}
use Rattle.core_state.specs.Steps.{RunsOwn, sheet}
use Rattle.core_state.specs.States.{StateValue}
use Rattle.core_state.proofs.Histories.{head_one}
use Rattle.core_state.proofs.Steps.Seen.{held_page, own_holds}
use Rattle.core_state.proofs.Steps.Pending.{link_pending_may}
use Rattle.doc_heap.specs.HeapPages.{head_on}
use Rattle.pending_list.specs.Packing.{ArePacked}
use Rattle.pending_list.specs.Adding.{IsPendingPage}
use Rattle.pending_list.proofs.LoggedRows.{have_all}
use Rattle.buffer_frames.specs.Drawing.{HasEncoding, IsSheet, record_of}
use Rattle.buffer_frames.specs.Frames.{Stands, Behind}
use Rattle.buffer_frames.specs.Passes.{IsPassOf, IsHolding, view_of}
use Rattle.buffer_frames.specs.declared.pass.Pass.{Pass}
use Rattle.engine.specs.Db.{DbValue}
use Rattle.engine.specs.Work.{IsLinkOf}
use Rattle.engine.specs.Inner.Parts.{HasRows}
use Rattle.engine.specs.Inner.Changing.{doc_of, ChangesDocument, MayLogStep}
use Rattle.engine.specs.Inner.Indexing.{IsLinkStep, IsListEnd, NamesEnd, LeadsToRows, end_sheets, end_then, meta_then}
use Rattle.engine.specs.declared.list_end.ListEnd.{ListEnd}
use Rattle.engine.proofs.AddedRows.{rows_there, named_low}
use Rattle.engine.proofs.HeadChanges.{slot_below}
use Rattle.engine.proofs.Marking.{page_is, slot_is}
use Rattle.engine.proofs.StepSeen.{owes_of, own_here, own_begun}

-- the step, with its parts
abbrev pub link_of_step : ℕ → Name → Page → List Sheet → Step
link_of_step x name new list = record {
  kind = kind.LinkPending (item_at name.page name.slot) name.serial;
  xid = x;
  after = sheet name.page new ∷ list;
}

-- ── its record ──

end_long : (meta : Sheet) (first pages : ℕ) (o : Option Sheet) (to last added : ℕ)
    → (length (end_then meta first pages o to last added) ≡ 1)
    ⊎ (length (end_then meta first pages o to last added) ≡ 2)
end_long meta first pages None to last added = inl refl
end_long meta first pages (Some end) to last added = inr refl

link_long : (n : Sheet) (list : List Sheet) → (length list ≡ 1) ⊎ (length list ≡ 2)
    → (length (n ∷ list) ≡ 2) ⊎ (length (n ∷ list) ≡ 3)
link_long n list (inl e) = inl (omega (arith, e))
link_long n list (inr e) = inr (omega (arith, e))

sheets_are : (xs : List Sheet) → AllByRecursion IsSheet xs → AllByRecursion (λ (x : Sheet). IsPage x.content) xs
sheets_are [] all = tt
sheets_are (x ∷ xs) all = ((all.0).content, sheets_are xs all.1)

pub link_record : (s : StateValue) (x : ℕ) (name : Name) (heap : Page) (end : ListEnd) (last pages : ℕ) (step : Step)
    → IsLinkStep x name heap end last pages step → IsLinkOf x (doc_of name) (record_of s step)
link_record s x name heap end last pages step made =
    let list : List Sheet = end_then end.meta end.first end.pages end.last made.first last pages in
    let q = link_of_step x name made.new list in
    let are : AllByRecursion (λ (x : Sheet). IsPage x.content) q.after =
    (made.is_page, sheets_are list made.are_sheets) in
    subst (λ (k : Step). IsLinkOf x (doc_of name) (record_of s k)) (sym made.step_is) (record {
      xid = refl;
      kind_is = refl;
      images = ⊎_elim
          (λ (e : length q.after ≡ 2). inl (q.after, e, are, refl))
          (λ (e : length q.after ≡ 3). inr (q.after, e, are, refl))
          (link_long (sheet name.page made.new) list
          (end_long end.meta end.first end.pages end.last made.first last pages));
    })

-- ── the end of the list ──

-- the pages come behind what is held
links_end : (v : View) (meta : Sheet) (first pages : ℕ) (o : Option Sheet) (to last added : ℕ) → meta.page ≡ 0
    → NamesEnd meta.content first pages o → ((y : Sheet) → In y (end_sheets meta o) → In y v.held)
    → LinksAtEnd v to last added (end_then meta first pages o to last added)
links_end v meta first pages _ to last added at (NamesEnd.none is) held =
    let then : Page = meta_then meta.content to last (pages + added) in
    subst (λ (p : ℕ). LinksAtEnd v to last added (sheet p then ∷ [])) (sym at)
    (LinksAtEnd.empty first pages meta.content then
    (subst (λ (y : Sheet). In y v.held) (ap (λ (p : ℕ). sheet p meta.content) at) (held meta (inl refl)))
    is refl refl)
links_end v meta first pages _ to last added at (NamesEnd.some end is off rows) held =
    let then : Page = meta_then meta.content first last (pages + added) in
    let leads : Page = record end.content { right = to } in
    subst (λ (p : ℕ). LinksAtEnd v to last added (sheet p then ∷ sheet end.page leads ∷ [])) (sym at)
    (LinksAtEnd.behind first end.page pages (rows_of end.content) meta.content end.content then leads
    (subst (λ (y : Sheet). In y v.held) (ap (λ (p : ℕ). sheet p meta.content) at) (held meta (inr (inl refl))))
    (held end (inl refl)) is off (rows_there end.content rows) refl refl refl (rows_there end.content rows))

-- the pages that it leaves are among those that are held, each once
abbrev OnceIn : List Sheet → List Sheet → ℕ → Type 0
OnceIn list held p = Rising (λ (a b : ℕ). a ≢ b) (p ∷ sheet_pages list)
    × ((q : ℕ) → In q (sheet_pages list) → In q (sheet_pages held))

once_in : (meta : Sheet) (first pages : ℕ) (o : Option Sheet) (to last added : ℕ) (heap : Sheet)
    → Rising (λ (a b : ℕ). a ≢ b) (sheet_pages (end_sheets meta o ++ heap ∷ []))
    → OnceIn (end_then meta first pages o to last added) (end_sheets meta o ++ heap ∷ []) heap.page
once_in meta first pages None to last added heap once = (
  ((λ e. once.0.0 (sym e), tt), (tt, tt)),
  λ q i. ⊎_elim (λ (e : q ≡ meta.page). inl e) absurd i,
)
once_in meta first pages (Some end) to last added heap once = (
  (
    (λ e. once.1.0.0 (sym e), (λ e. once.0.1.0 (sym e), tt)),
    ((λ e. once.0.0 (sym e), tt), (tt, tt)),
  ),
  λ q i. ⊎_elim (λ (e : q ≡ meta.page). inr (inl e))
      (λ (j : (q ≡ end.page) ⊎ ⊥). ⊎_elim (λ (e : q ≡ end.page). inl e) absurd j) i,
)

heap_in : (meta : Sheet) (o : Option Sheet) (heap : Sheet) → In heap (end_sheets meta o ++ heap ∷ [])
heap_in meta None heap = inr (inl refl)
heap_in meta (Some end) heap = inr (inr (inl refl))

page_in : (held : List Sheet) (y : Sheet) → In y held → In y.page (sheet_pages held)
page_in [] y i = absurd i
page_in (x ∷ xs) y (inl e) = inl (ap (λ (z : Sheet). z.page) e)
page_in (x ∷ xs) y (inr i) = inr (page_in xs y i)

ends_in : (meta : Sheet) (o : Option Sheet) (heap : Sheet) (y : Sheet) → In y (end_sheets meta o)
    → In y (end_sheets meta o ++ heap ∷ [])
ends_in meta None heap y (inl e) = inl e
ends_in meta None heap y (inr z) = absurd z
ends_in meta (Some end) heap y (inl e) = inl e
ends_in meta (Some end) heap y (inr (inl e)) = inr (inl e)
ends_in meta (Some end) heap y (inr (inr z)) = absurd z

sheet_is_page : (list : List Sheet) → AllByRecursion IsSheet list → (y : Sheet) → In y list → IsPage y.content
sheet_is_page [] all y i = absurd i
sheet_is_page (x ∷ xs) all y (inl e) = subst (λ (z : Sheet). IsPage z.content) (sym e) (all.0).content
sheet_is_page (x ∷ xs) all y (inr i) = sheet_is_page xs all.1 y i

few_sheets : (list : List Sheet) (n : Sheet) → (length list ≡ 1) ⊎ (length list ≡ 2) → length (n ∷ list) < 2 ^ 8
few_sheets list n (inl e) = omega (arith, e)
few_sheets list n (inr e) = omega (arith, e)

-- ── the pages that are left have an encoding ──

meta_is : (meta : Page) (first last pages : ℕ) → IsPage meta → first < page_limit → last < page_limit
    → pages < 2 ^ 32 → IsPage (meta_then meta first last pages)
meta_is meta first last pages is a b c = record {
  right = is.right;
  stamp = omega arith;
  body = record { first_page = a; last_page = b; number = c };
  count = omega arith;
  fits = omega (
    arith,
    length-append (u32_bytes first) (u32_bytes last ++ u32_bytes pages),
    length-append (u32_bytes last) (u32_bytes pages),
    length-u32_bytes first,
    length-u32_bytes last,
    length-u32_bytes pages,
  );
}

-- a page of rows that leads to another
leading_is : (p : Page) (to : ℕ) → IsPage p → IsPendingPage p → to < page_limit → IsPage (record p { right = to })
leading_is p to is pending lt =
    let b = subst (IsBody p.right p.stamp) pending.1 is.body in
    record {
      right = lt;
      stamp = is.stamp;
      body = subst (IsBody to p.stamp) (sym pending.1) b;
      count = is.count;
      fits = is.fits;
    }

not_free : (b : Body) (rows : List Row) → b ≡ body.Pending rows → b ≢ body.Free
not_free b rows is free = let z : ⊥ = cc in z

pub end_are : (meta : Sheet) (first pages : ℕ) (o : Option Sheet) (to last added : ℕ) → meta.page < page_limit
    → IsPage meta.content → NamesEnd meta.content first pages o
    → IfSome o (λ (h : Sheet). IsPage h.content) → to < page_limit → last < page_limit
    → pages + added < 2 ^ 32 → AllByRecursion IsSheet (end_then meta first pages o to last added)
end_are meta first pages _ to last added low is (NamesEnd.none names) there a b few = (
  record { page = low; content = meta_is meta.content to last (pages + added) is a b few; used = λ e. cc },
  tt,
)
end_are meta first pages _ to last added low is (NamesEnd.some end names off rows) there a b few = (
  record {
    page = low;
    content = meta_is meta.content first last (pages + added) is
        (named_low meta.content first end.page pages is names).0 b few;
    used = λ e. cc;
  },
  (
    record {
      page = (named_low meta.content first end.page pages is names).1;
      content = leading_is end.content to there rows a;
      used = not_free end.content.body rows.0 rows.1;
    },
    tt,
  ),
)

pub link_step_is : (x : ℕ) (name : Name) (heap copy : Page) (end : ListEnd) (last pages : ℕ) (new : Page) (first : ℕ)
    (step : Step) → name.page < page_limit → copy ≡ heap → LeadsToRows copy name.slot 0 new first → IsPage copy
    → IsPage new × (first < page_limit)
    → AllByRecursion IsSheet (end_then end.meta end.first end.pages end.last first last pages)
    → step ≡ record {
      kind = kind.LinkPending (item_at name.page name.slot) name.serial;
      xid = x;
      after = sheet name.page new ∷ end_then end.meta end.first end.pages end.last first last pages;
    } → IsLinkStep x name heap end last pages step
link_step_is x name heap copy end last pages new first step low same w heap_is new_is are step_is = record {
  place = (low, slot_below copy name.slot w.head heap_is w.there);
  new = new;
  first = first;
  leads = subst (λ (p : Page). LeadsToRows p name.slot 0 new first) same w;
  is_page = new_is.0;
  are_sheets = are;
  step_is = step_is;
}

-- a chain with a page has a last one
chain_ends : (chain : List ℕ) (last : ℕ) → IsLastOf chain last → 0 < length chain
    → (front : List ℕ) × (chain ≡ front ++ last ∷ [])
chain_ends _ _ IsLastOf.none some = absurd (omega (arith, some))
chain_ends _ _ (IsLastOf.some front last) some = (front, refl)

some_packed : (item : ℕ) (keys : List Key) (pages : List Page) → ArePacked item keys pages → 0 < length pages
some_packed item _ _ (ArePacked.last keys fits) = omega arith
some_packed item _ _ (ArePacked.more front key back pages some fits most rest) = omega arith

some_one : (a b : Head) (o : Option Head) → o ≡ Some a → o ≡ Some b → a ≡ b
some_one a b o p q = let e : Some a ≡ Some b = sym p ∙ q in cc

-- ── it may be logged ──

module _ {D : Type 0} (device : Disk D) (s : DbValue D) (pass : Pass) (heap : Sheet) (end : ListEnd) (x : ℕ)
    (name : Name) (v : Vector) (packed : List Page) (last pages : ℕ) (names : List Name) (step : Step)
    (is : pass.xid ≡ Some x) (hold : IsHolding device s.frames pass (end_sheets end.meta end.last ++ heap ∷ []))
    (ends : IsListEnd end) (many : length packed ≡ pages)
    (pack : ArePacked (item_at name.page name.slot) (keys_of v) packed)
    (on : heap.page ≡ name.page) (made : IsLinkStep x name heap.content end last pages step) where
  lt : name.slot < most_slots
  lt = made.place.1

  abbrev held : List Sheet
  held = end_sheets end.meta end.last ++ heap ∷ []

  abbrev list : List Sheet
  list = end_then end.meta end.first end.pages end.last made.first last pages

  link_allowed : HasRows device s pass x (doc_of name) v packed last names
      → Behind device s.frames (λ (R : Log). MayLog (view_of s.frames pass R held) step)
  link_allowed had t up R stands legal =
      let u = view_of s.frames pass R held in
      let d = doc_of name in
      let item = item_at name.page name.slot in
      let a = hold.allowed t up R stands legal in
      let at_page : page_of item ≡ name.page = page_is name lt in
      let at_slot : slot_of item ≡ name.slot = slot_is name lt in
      let here : sheet (page_of item) heap.content ≡ heap =
      ap (λ (p : ℕ). sheet p heap.content) (at_page ∙ sym on) in
      let h = (made.leads).head in
      let w = (made.leads).changes in
      let heap_held : In (sheet (page_of item) heap.content) held =
      subst (λ (y : Sheet). In y held) (sym here) (heap_in end.meta end.last heap) in
      subst (MayLog u) (sym made.step_is)
      (link_pending_may u (link_of_step x name made.new list) (λ P seen_is shown.
      let p = (had t up R stands legal P shown).0 in
      let own : RunsOwn u x = record { own = own_here x pass.xid is; begun = own_begun x pass.xid is; runs = p.runs } in
      let stay = own_holds u R a P x own shown in
      let kept = (stay.runs_on).heads d (subst (In d) (sym p.placed_one) (inl refl)) in
      let page : a.pages (page_of item) ≡ heap.content = held_page u R a (page_of item) heap.content heap_held in
      let found : head_on heap.content (slot_of item) ≡ Some kept.0 =
      ap (λ (c : Page). head_on c (slot_of item)) (sym page) ∙ ((kept.2).head).at in
      let made_head : head_on heap.content (slot_of item) ≡ Some h =
      ap (head_on heap.content) at_slot ∙ (made.leads).there in
      let same : h ≡ p.head =
      some_one h kept.0 (head_on heap.content (slot_of item)) made_head found
      ∙ head_one P d kept.0 p.head kept.1 p.has in
      let some : 0 < length p.chain = omega (arith, p.many, some_packed item (keys_of v) packed pack) in
      let chain = chain_ends p.chain last p.ends some in
      let rows : rows_on P (chain.0 ++ last ∷ []) ≡ flat_map rows_of packed =
      ap (rows_on P) (sym chain.1) ∙ p.rows in
      let added : pages ≡ length (chain.0 ++ last ∷ []) = sym many ∙ sym p.many ∙ ap length chain.1 in
      let first : made.first ≡ h.private = (made.leads).next_is in
      record {
        doc = d;
        head = h;
        vector = v;
        front = chain.0;
        end = last;
        old = heap.content;
        heap = made.new;
        list = list;
        kind_is = refl;
        after_is = ap (λ (q : ℕ). sheet q made.new ∷ list) (sym at_page);
        own = own;
        placed_by = ap (λ (g : Head). g.inserted_by) same ∙ p.by;
        held = heap_held;
        whole = subst (λ (g : Head). IsWhole P g v) (sym same) p.whole;
        no_row = p.no_row;
        is_chain = subst (λ (g : Head). IsChain P g.private (chain.0 ++ last ∷ [])) (sym same)
            (subst (IsChain P (p.head).private) chain.1 p.is_chain);
        all_keys = λ k i. subst (λ (ws : List Row). InRows ws k item) (sym rows)
            ((have_all item (keys_of v) packed pack).each k i);
        links = subst (λ (n : ℕ). LinksAtEnd u h.private last n list) added
            (subst (λ (f : ℕ). LinksAtEnd u f last pages list) first
            (links_end u end.meta end.first end.pages end.last made.first last pages ends.at ends.names
            (λ y i. ends_in end.meta end.last heap y i)));
        head_after = record {
          slots = w.slots;
          new_slots = w.new_slots;
          before = w.was;
          head = ap (λ (b : Body). slot_at (slots_in b) (slot_of item)) (sym w.was) ∙ made_head;
          serial = ap (λ (g : Head). g.serial) same ∙ (p.has).serial;
          put = subst (λ (k : ℕ). PutsSlot w.slots k (Some (record h { private = 0 })) w.new_slots)
              (sym at_slot) w.put;
          right = ap (λ (c : Page). c.right) w.after;
          after = ap (λ (c : Page). c.body) w.after;
        };
      }))

  heap_not_free : made.new.body ≢ body.Free
  heap_not_free free =
      let e : body.Heap ((made.leads).changes).new_slots ≡ body.Free =
      sym (ap (λ (c : Page). c.body) ((made.leads).changes).after) ∙ free in cc

  once : OnceIn list held name.page
  once = subst (OnceIn list held) on
      (once_in end.meta end.first end.pages end.last made.first last pages heap hold.once)

  long : (length list ≡ 1) ⊎ (length list ≡ 2)
  long = end_long end.meta end.first end.pages end.last made.first last pages

  link_encoded : name.serial < 2 ^ 64 → HasEncoding (link_of_step x name made.new list)
  link_encoded serial = record {
    kind = (omega (arith, made.place.0, made.place.1), serial);
    few = few_sheets list (sheet name.page made.new) long;
    each = (record { page = made.place.0; content = made.is_page; used = heap_not_free }, made.are_sheets);
    once = once.0;
  }

  pub link_may_log : IsPassOf s.frames pass → HasRows device s pass x (doc_of name) v packed last names
      → name.serial < 2 ^ 64 → MayLogStep device s pass held step
  link_may_log of had serial =
      record {
        is_pass = of;
        holding = hold;
        document = subst (λ (q : Step). ChangesDocument q.kind) (sym made.step_is) tt;
        encoded = subst HasEncoding (sym made.step_is) (link_encoded serial);
        may = link_allowed had;
        owes = subst (λ (q : Step). (R : Log) → Stands device s.frames R → Owes (view_of s.frames pass R held) q)
            (sym made.step_is)
            (owes_of device s pass held (link_of_step x name made.new list) x of is refl tt
            (λ p i. ⊎_elim
            (λ (e : p ≡ name.page). subst (λ (q : ℕ). In q (sheet_pages held)) (on ∙ sym e)
            (page_in held heap (heap_in end.meta end.last heap)))
            (λ (j : In p (sheet_pages list)). once.1 p j) i)
            once.0
            (λ y i. ⊎_elim
            (λ (e : y ≡ sheet name.page made.new). subst (λ (z : Sheet). IsPage z.content) (sym e) made.is_page)
            (λ (j : In y list). sheet_is_page list made.are_sheets y j) i));
      }
