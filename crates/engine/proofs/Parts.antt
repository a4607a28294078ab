-- A part of a document's vector is put: what is logged, and what is there of the document then.
use Rattle.std.proofs.Common.{◌≡◌, ◌≢◌, ◌⊎◌, ◌<◌, ◌^◌, ℕ, List, [], ◌∷◌, ◌++◌, length, map, refl, sym, ap}
use Rattle.std.proofs.Common.{ap₂}
use Rattle.std.proofs.Common.{subst, ◌∙◌, inl, inr, ⊎_elim, arith, length-append}
use Rattle.std.specs.Prelude.{Option, Some}
use Rattle.disk_trait.specs.declared.device.Disk.{Ghosts as Disk}
use Rattle.page_types.specs.Numbers.{most_slots}
use Rattle.page_types.specs.Pages.{IsPage}
use Rattle.page_types.specs.Records.{kind_number}
use Rattle.page_types.specs.Views.{slots_in, slots_of, slot_at, part_in}
use Rattle.page_types.specs.declared.page.Page.{Page}
use Rattle.page_types.specs.declared.page.Head.{Head}
use Rattle.page_types.specs.declared.page.Name.{Name}
use Rattle.page_types.specs.declared.page.Body.{Body}
use Rattle.page_types.specs.declared.page.Gone.{Gone}
use Rattle.page_types.specs.declared.page.Body.TheVariants as body
use Rattle.page_types.specs.declared.record.Record.{Record}
use Rattle.page_types.specs.declared.record.Kind.{Kind}
use Rattle.page_types.specs.declared.record.Kind.TheVariants as kind
use Rattle.core_state.specs.Log.{Log, Pages, In}
use Rattle.core_state.specs.Allowed.{Sheet, Step, MayLog, Owes, made_by, drawn_body}
use Rattle.core_state.specs.Bullets.PagePlace.{meta, overflow_of}
use Rattle.core_state.specs.Changes.{PutsSlot}
use Rattle.core_state.specs.Documents.{Doc, Has, IsChain, item_at, page_of, slot_of, name_of}
use Rattle.core_state.specs.Documents.{placed_with, placed, marked_with, marked, head_of}
use Rattle.core_state.specs.PagesTold.{PagesTold}
use Rattle.core_state.specs.Steady.{KeepsHead}
use Rattle.core_state.specs.Steps.{RunsOwn, IsNewSheet, sheet}
use Rattle.core_state.proofs.Histories.{head_one}
use Rattle.core_state.proofs.LawsHold.{pages}
use Rattle.core_state.proofs.Steps.Seen.{held_page, own_holds}
use Rattle.core_state.proofs.Steps.Documents.{put_overflow_may}
use Rattle.doc_heap.specs.HeapPages.{head_on, ChangesSlot}
use Rattle.buffer_frames.specs.Drawing.{HasEncoding}
use Rattle.buffer_frames.specs.Frames.{Stands, Behind}
use Rattle.buffer_frames.specs.Passes.{IsPassOf, IsHolding, Seen, view_of}
use Rattle.buffer_frames.specs.declared.pass.Pass.{Pass}
use Rattle.engine.specs.Db.{DbValue}
use Rattle.engine.specs.Inner.Parts.{IsPlacedSoFar, HasPlaced}
use Rattle.engine.specs.Inner.Changing.{doc_of, part_page, IsPartStep, IsNextPart, ChangesDocument, MayLogStep}
use Rattle.engine.proofs.Carrying.{parts_stay}
use Rattle.engine.proofs.Marking.{page_is, slot_is}
use Rattle.engine.proofs.RowsKept.{no_row_after, some_log}
use Rattle.engine.proofs.StepSeen.{GrowsBy, owes_of, own_here, own_begun, runs_still}

some_one : (a b : Head) (o : Option Head) → o ≡ Some a → o ≡ Some b → a ≡ b
some_one a b o p q = let e : Some a ≡ Some b = sym p ∙ q in cc

some_length : (xs : List ℕ) → xs ≢ [] → 0 < length xs
some_length [] some = absurd (some refl)
some_length (x ∷ xs) some = omega arith

-- what is behind is shorter than all
shorter : (bytes behind part : List ℕ) → IsNextPart bytes behind part → length behind < length bytes
shorter bytes behind part n =
    let all : length bytes ≡ length (n.front ++ (part ++ behind)) = ap length n.order in
    omega (arith, all, length-append n.front (part ++ behind), length-append part behind, some_length part n.some)

-- the step, with its parts
abbrev pub part_of_step : ℕ → Name → Page → ℕ → ℕ → List ℕ → Step
part_of_step x name new page next part = record {
  kind = kind.PutOverflow (item_at name.page name.slot) name.serial;
  xid = x;
  after = sheet name.page new ∷ sheet page (part_page next part) ∷ [];
}

-- ── it may be logged ──

module _ {D : Type 0} (device : Disk D) (s : DbValue D) (pass : Pass) (heap fresh : Sheet) (x : ℕ) (name : Name)
    (bytes behind part : List ℕ) (names : List Name) (step : Step) (is : pass.xid ≡ Some x)
    (hold : IsHolding device s.frames pass (fresh ∷ heap ∷ [])) (next : IsNextPart bytes behind part)
    (on : heap.page ≡ name.page) (made : IsPartStep x name heap.content part fresh.page step) where
  lt : name.slot < most_slots
  lt = made.place.1

  part_allowed : HasPlaced device s pass x (doc_of name) bytes behind names
      → Seen device s.frames pass (λ (S : Log) (P : Pages). IsNewSheet P pass.since fresh.page fresh.content)
      → Behind device s.frames (λ (R : Log). MayLog (view_of s.frames pass R (fresh ∷ heap ∷ [])) step)
  part_allowed had is_new t up R stands legal =
      let v = view_of s.frames pass R (fresh ∷ heap ∷ []) in
      let d = doc_of name in
      let item = item_at name.page name.slot in
      let a = hold.allowed t up R stands legal in
      let at_page : page_of item ≡ name.page = page_is name lt in
      let at_slot : slot_of item ≡ name.slot = slot_is name lt in
      let here : sheet (page_of item) heap.content ≡ heap =
      ap (λ (p : ℕ). sheet p heap.content) (at_page ∙ sym on) in
      let h = (made.leads).head in
      let w = (made.leads).changes in
      subst (MayLog v) (sym made.step_is)
      (put_overflow_may v (part_of_step x name made.new fresh.page made.next part) (λ P seen_is shown.
      let p = (had t up R stands legal P shown).0 in
      let own : RunsOwn v x = record { own = own_here x pass.xid is; begun = own_begun x pass.xid is; runs = p.runs } in
      let stay = own_holds v R a P x own shown in
      let kept = (stay.runs_on).heads d (subst (In d) (sym p.placed_one) (inl refl)) in
      let page : a.pages (page_of item) ≡ heap.content =
      held_page v R a (page_of item) heap.content (inr (inl here)) in
      let found : head_on heap.content (slot_of item) ≡ Some kept.0 =
      ap (λ (c : Page). head_on c (slot_of item)) (sym page) ∙ ((kept.2).head).at in
      let made_head : head_on heap.content (slot_of item) ≡ Some h =
      ap (head_on heap.content) at_slot ∙ (made.leads).there in
      let same : h ≡ p.head =
      some_one h kept.0 (head_on heap.content (slot_of item)) made_head found
      ∙ head_one P d kept.0 p.head kept.1 p.has in
      let long : h.bytes ≡ length bytes = ap (λ (g : Head). g.bytes) same ∙ p.length_is in
      record {
        doc = d;
        head = h;
        new = fresh.page;
        part = part;
        chain = p.chain;
        old = heap.content;
        old_part = fresh.content;
        heap = made.new;
        put = part_page made.next part;
        kind_is = refl;
        after_is = ap (λ (q : ℕ). sheet q made.new ∷ sheet fresh.page (part_page made.next part) ∷ []) (sym at_page);
        own = own;
        placed_by = ap (λ (g : Head). g.inserted_by) same ∙ p.by;
        held = inr (inl here);
        held_part = inl refl;
        long = omega (arith, long, next.long);
        full = λ some. next.full (λ none. some (ap (λ (g : Head). g.overflow) same ∙ p.none none));
        is_new = is_new t up R stands legal P shown;
        is_chain = subst (λ (g : Head). IsChain P g.overflow p.chain) (sym same) p.is_chain;
        missing = λ e. omega (arith, ap length p.there, e, long, shorter bytes behind part next);
        head_after = record {
          slots = w.slots;
          new_slots = w.new_slots;
          before = w.was;
          head = ap (λ (b : Body). slot_at (slots_in b) (slot_of item)) (sym w.was) ∙ made_head;
          serial = ap (λ (g : Head). g.serial) same ∙ (p.has).serial;
          put = subst (λ (k : ℕ). PutsSlot w.slots k (Some (record h { overflow = fresh.page })) w.new_slots)
              (sym at_slot) w.put;
          right = ap (λ (c : Page). c.right) w.after;
          after = ap (λ (c : Page). c.body) w.after;
        };
        right = (made.leads).next_is;
        content = refl;
      }))

  part_is_heap : made.new.body ≡ body.Heap ((made.leads).changes).new_slots
  part_is_heap = ap (λ (c : Page). c.body) ((made.leads).changes).after

  heap_not_free : made.new.body ≢ body.Free
  heap_not_free free = let e : body.Heap ((made.leads).changes).new_slots ≡ body.Free = sym part_is_heap ∙ free in cc

  part_encoded : name.serial < 2 ^ 64 → HasEncoding (part_of_step x name made.new fresh.page made.next part)
  part_encoded serial = record {
    kind = (omega (arith, made.place.0, made.place.1), serial);
    few = omega arith;
    each = (
      record { page = made.place.0; content = made.is_page; used = heap_not_free },
      (
        record {
          page = made.low;
          content = made.is_part;
          used = λ free. let e : body.Overflow part ≡ body.Free = free in absurd (let z : ⊥ = cc in z);
        },
        tt,
      ),
    );
    once = ((λ e. (hold.once).0.0 (sym e ∙ sym on), tt), (tt, tt));
  }

  pub part_may_log : IsPassOf s.frames pass → HasPlaced device s pass x (doc_of name) bytes behind names
      → Seen device s.frames pass (λ (S : Log) (P : Pages). IsNewSheet P pass.since fresh.page fresh.content)
      → name.serial < 2 ^ 64 → MayLogStep device s pass (fresh ∷ heap ∷ []) step
  part_may_log of had is_new serial =
      let held = fresh ∷ heap ∷ [] in
      record {
        is_pass = of;
        holding = hold;
        document = subst (λ (q : Step). ChangesDocument q.kind) (sym made.step_is) tt;
        encoded = subst HasEncoding (sym made.step_is) (part_encoded serial);
        may = part_allowed had is_new;
        owes = subst (λ (q : Step). (R : Log) → Stands device s.frames R → Owes (view_of s.frames pass R held) q)
            (sym made.step_is)
            (owes_of device s pass held (part_of_step x name made.new fresh.page made.next part) x of is refl tt
            (λ p i. ⊎_elim (λ (e : p ≡ name.page). inr (inl (e ∙ sym on)))
            (λ (j : (p ≡ fresh.page) ⊎ ⊥). ⊎_elim (λ (e : p ≡ fresh.page). inl e) absurd j) i)
            ((λ e. (hold.once).0.0 (sym e ∙ sym on), tt), (tt, tt))
            (λ y i. ⊎_elim
            (λ (e : y ≡ sheet name.page made.new). subst (λ (z : Sheet). IsPage z.content) (sym e) made.is_page)
            (λ (j : (y ≡ sheet fresh.page (part_page made.next part)) ⊎ ⊥). ⊎_elim
            (λ (e : y ≡ sheet fresh.page (part_page made.next part)).
            subst (λ (z : Sheet). IsPage z.content) (sym e) made.is_part) absurd j) i));
      }

-- ── what is there then ──

chain_moves : (P Q : Pages) (n : ℕ) (qs : List ℕ) → ((q : ℕ) → In q qs → Q q ≡ P q) → IsChain P n qs → IsChain Q n qs
chain_moves P Q n [] same chain = chain
chain_moves P Q n (q ∷ qs) same chain = (
  chain.0,
  chain.1,
  subst (λ (c : Page). IsChain Q c.right qs) (sym (same q (inl refl)))
      (chain_moves P Q (P q).right qs (λ p i. same p (inr i)) chain.2),
)

not_new : (P : Pages) (since p : ℕ) (c : Page) → IsNewSheet P since p c → (c.body ≡ body.Free → ⊥)
    → ((g : Gone) → c.body ≡ body.Deleted g → ⊥) → ⊥
not_new P since p c (IsNewSheet.unused free low) a b = a free
not_new P since p c (IsNewSheet.deleted g gone small) a b = b g gone

module _ (heap fresh : Sheet) (x serial since : ℕ) (name : Name) (bytes behind part : List ℕ) (names : List Name)
    (new : Page) (next_page : ℕ) (h : Head) (there : head_on heap.content name.slot ≡ Some h)
    (changes : ChangesSlot heap.content name.slot (Some (record h { overflow = fresh.page })) new)
    (link : next_page ≡ h.overflow) (next : IsNextPart bytes behind part) (on : heap.page ≡ name.page)
    (lt : name.slot < most_slots)
    (S R : Log) (P P' Q : Pages) (r : Record)
    (g : GrowsBy (fresh ∷ heap ∷ []) (part_of_step x name new fresh.page next_page part) x serial S P R P' r Q)
    (p : IsPlacedSoFar S P x (doc_of name) bytes behind) (is_new : IsNewSheet P since fresh.page fresh.content) where
  abbrev pub d : Doc
  d = doc_of name

  abbrev pub item : ℕ
  item = item_at name.page name.slot

  kinds : r.kind ≡ kind.PutOverflow item name.serial
  kinds = (g.drawn).kind

  kept : (k : Head) × Has P d k × KeepsHead P P' d k
  kept = (g.runs_on).heads d (subst (In d) (sym p.placed_one) (inl refl))

  heap_then : P' name.page ≡ heap.content
  heap_then = ap P' (sym on) ∙ (g.here).1.0

  found : head_of P' item ≡ Some h
  found =
      ap (λ (q : ℕ). slot_at (slots_of (P' q)) (slot_of item)) (page_is name lt)
      ∙ ap (λ (c : Page). slot_at (slots_of c) (slot_of item)) heap_then
      ∙ ap (head_on heap.content) (slot_is name lt) ∙ there

  same_kept : kept.0 ≡ h
  same_kept = some_one kept.0 h (head_of P' item) ((kept.2).head).at found

  same : h ≡ p.head
  same = sym same_kept ∙ head_one P d kept.0 p.head kept.1 p.has

  chain_then : IsChain P' h.overflow p.chain × ((q : ℕ) → In q p.chain → P' q ≡ P q)
  chain_then = subst (λ (k : Head). IsChain P' k.overflow p.chain × ((q : ℕ) → In q p.chain → P' q ≡ P q)) same_kept
      ((kept.2).overflow p.chain
      (subst (λ (k : Head). IsChain P k.overflow p.chain) (sym (same_kept ∙ same)) p.is_chain))

  told : PagesTold R P'
  told = pages R P' g.legal g.shown_then

  some : R ≢ []
  some = some_log R x (g.runs_on).runs

  fresh_isnt : (b : Body) → (P' fresh.page).body ≡ b → b ≢ body.Free → ((gone : Gone) → b ≢ body.Deleted gone) → ⊥
  fresh_isnt b is a e =
      let content : fresh.content.body ≡ b = ap (λ (c : Page). c.body) (sym (g.here).0) ∙ is in
      not_new P since fresh.page fresh.content is_new (λ free. a (sym content ∙ free))
      (λ gone deleted. e gone (sym content ∙ deleted))

  -- the chain has neither of the two pages
  chain_stays : (q : ℕ) → In q p.chain → Q q ≡ P' q
  chain_stays q i =
      let part_there = (told.kinds).kinds some q (overflow_of item) (
        d,
        h,
        p.chain,
        refl,
        record { at = found; serial = ap (λ (k : Head). k.serial) same ∙ (p.has).serial },
        chain_then.0,
        i,
      ) in
      (g.leaves).elsewhere q (λ j. ⊎_elim
      (λ (e : q ≡ name.page).
      let two : body.Overflow part_there.0 ≡ body.Heap changes.slots =
      sym part_there.1 ∙ ap (λ (n : ℕ). (P' n).body) e ∙ ap (λ (c : Page). c.body) heap_then ∙ changes.was in cc)
      (λ (k : (q ≡ fresh.page) ⊎ ⊥). ⊎_elim
      (λ (e : q ≡ fresh.page). fresh_isnt (body.Overflow part_there.0)
      (ap (λ (n : ℕ). (P' n).body) (sym e) ∙ part_there.1) (λ z. cc) (λ gone z. cc))
      absurd k) j)

  fresh_some : fresh.page ≢ 0
  fresh_some zero =
      let m = (told.kinds).kinds some 0 meta refl in
      fresh_isnt (body.Meta m.0 m.1 m.2) (ap (λ (n : ℕ). (P' n).body) zero ∙ m.3) (λ z. cc) (λ gone z. cc)

  part_then : Q fresh.page ≡ made_by r (part_page next_page part)
  part_then = (g.leaves).here.1.0

  part_body : (Q fresh.page).body ≡ body.Overflow part
  part_body = ap (λ (c : Page). c.body) part_then ∙ ap (λ (k : Kind). drawn_body k (body.Overflow part)) kinds

  head_then : head_of Q item ≡ Some (record h { overflow = fresh.page })
  head_then =
      ap (λ (q : ℕ). slot_at (slots_of (Q q)) (slot_of item)) (page_is name lt)
      ∙ ap (λ (c : Page). slot_at (slots_of c) (slot_of item)) (g.leaves).here.0
      ∙ ap (λ (k : Kind). slot_at (slots_in (drawn_body k new.body)) (slot_of item)) kinds
      ∙ ap (λ (c : Page). slot_at (slots_in c.body) (slot_of item)) changes.after
      ∙ ap (slot_at changes.new_slots) (slot_is name lt)
      ∙ (changes.put).put

  pub part_done : map name_of (marked S x) ≡ names
      → IsPlacedSoFar (r ∷ R) Q x d bytes (part ++ behind) × (map name_of (marked (r ∷ R) x) ≡ names)
  part_done marks = (
    record {
      runs = runs_still R (part_of_step x name new fresh.page next_page part) r x g.drawn tt (g.runs_on).runs;
      placed_one = ap (λ (k : Kind). placed_with k r.xid x (placed R x)) kinds ∙ g.placed_same ∙ p.placed_one;
      head = record h { overflow = fresh.page };
      has = record { at = head_then; serial = ap (λ (k : Head). k.serial) same ∙ (p.has).serial };
      by = ap (λ (k : Head). k.inserted_by) same ∙ p.by;
      length_is = ap (λ (k : Head). k.bytes) same ∙ p.length_is;
      short = ap (λ (k : Head). k.vector) same ∙ p.short;
      chain = fresh.page ∷ p.chain;
      is_chain = (
        refl,
        fresh_some,
        subst (λ (n : ℕ). IsChain Q n p.chain)
            (sym (ap (λ (c : Page). c.right) part_then ∙ link))
            (chain_moves P' Q h.overflow p.chain chain_stays chain_then.0),
      );
      there = ap₂ (λ (a b : List ℕ). a ++ b) (ap part_in part_body)
          (parts_stay P' Q p.chain chain_stays ∙ parts_stay P P' p.chain chain_then.1 ∙ p.there);
      none = λ e. absurd (let size : length (part ++ behind) ≡ 0 = ap length e in
          let z : ⊥ = omega (arith, size, length-append part behind, some_length part next.some) in z);
      front = next.front;
      ends = next.order;
      no_rows = ap (λ (k : Head). k.private) same ∙ p.no_rows;
      no_row = no_row_after R r P' Q some g.legal_now g.shown_then g.shown_now item
          (let number : kind_number r.kind ≡ 7 = ap kind_number kinds in omega (arith, number))
          ((g.runs_on).no_row d (subst (In d) (sym p.placed_one) (inl refl)) p.no_row);
    },
    ap (map name_of) (ap (λ (k : Kind). marked_with k r.xid x (marked R x)) kinds ∙ g.marked_same) ∙ marks,
  )
