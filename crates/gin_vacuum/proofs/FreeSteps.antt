-- The steps by which chains and slots of dead documents go may be logged.
use Rattle.std.proofs.Common.{◌≡◌, ◌≢◌, ◌<◌, ◌≤◌, ◌-◌, ◌^◌, ℕ, List, [], ◌∷◌, length, refl, sym, ap, subst}
use Rattle.std.proofs.Common.{◌∙◌, inl, inr, arith, length-drop}
use Rattle.std.specs.Prelude.{Option, Some, None, Result, Ok, Err, IfOk, OnOk}
use Rattle.std.specs.declared.alloc.AllocError.{AllocError}
use Rattle.std.specs.List.{AllByRecursion}
use Rattle.disk_trait.specs.declared.device.Disk.{Ghosts as Disk}
use Rattle.page_types.specs.Keys.{Rising}
use Rattle.page_types.specs.Numbers.{page_limit}
use Rattle.page_types.specs.Pages.{IsPage}
use Rattle.page_types.specs.Records.{IsKind, kind_number}
use Rattle.page_types.specs.Views.{slot_at, slots_in}
use Rattle.page_types.specs.declared.page.Page.{Page}
use Rattle.page_types.specs.declared.page.Head.{Head}
use Rattle.page_types.specs.declared.page.Body.{Body}
use Rattle.page_types.specs.declared.page.Body.TheVariants as body
use Rattle.page_types.specs.declared.page.Gone.{Gone}
use Rattle.page_types.specs.declared.page.Gone.TheVariants as gone
use Rattle.page_types.specs.declared.record.Kind.{Kind}
use Rattle.page_types.specs.declared.record.Kind.TheVariants as kind
use Rattle.core_state.specs.Log.{Log, Pages, In, cut}
use Rattle.core_state.specs.Documents.{page_of, slot_of, item_at, doc_at}
use Rattle.core_state.specs.VacuumRules.{IsDropped}
use Rattle.core_state.specs.Allowed.{Sheet, Step, Owes, sheet_pages}
use Rattle.core_state.specs.Steps.{MayBy, sheet}
use Rattle.core_vacuum.specs.Leaving.{IsOut}
use Rattle.core_vacuum.specs.VacuumSteps.{CanDropPage, SlotGoes, CanFreeSlots}
use Rattle.buffer_frames.specs.Drawing.{IsSheet}
use Rattle.buffer_frames.specs.Opens.{IsLoggedKind}
use Rattle.buffer_frames.specs.Frames.{FramesValue, Stands}
use Rattle.buffer_frames.specs.Passes.{IsPassOf, IsHolding, Seen, view_of}
use Rattle.buffer_frames.specs.declared.pass.Pass.{Pass}
use Rattle.buffer_frames.proofs.AtHand.{log_length}
use Rattle.doc_heap.specs.HeapPages.{head_on, ChangesSlot}
use Rattle.doc_heap.specs.Leaving.{with_first, first_of, StaysOrFree, SlotIsHead}
use Rattle.doc_heap.specs.declared.leaving.Chain.{Chain}
use Rattle.doc_heap.specs.declared.leaving.Chain.TheVariants as chain
use Rattle.gin_place.specs.Placing.{HasRight}
use Rattle.gin_place.proofs.Owing.{right_of}
use Rattle.gin_vacuum.specs.Going.{IsVacuumKind}
use Rattle.gin_vacuum.specs.Inner.Freeing.{IsChained, HasNoChain, KeepsAs, IsDeletedOf, IsDropStep}
use Rattle.gin_vacuum.specs.Inner.Freeing.{IsFreeStep}
use Rattle.gin_vacuum.specs.Inner.Logging.{MayLogStep}
use Rattle.gin_vacuum.specs.declared.freeing.Chained.{Chained}

item_is : (i p : ℕ) → page_of i ≡ p → item_at p (slot_of i) ≡ i
item_is i p e = omega (arith, e)

no_abort : (k : Kind) → IsVacuumKind (kind_number k) → k ≢ kind.Abort
no_abort k vacuum is =
    let z = subst (λ (j : Kind). IsVacuumKind (kind_number j)) is vacuum in omega (arith, z.0)

pub owes_vacuum : {D : Type 0} (device : Disk D) (f : FramesValue D) (pass : Pass) (held : List Sheet) (step : Step)
    → IsPassOf f pass → HasRight pass → step.xid ≡ 0 → IsVacuumKind (kind_number step.kind)
    → ((p : ℕ) → In p (sheet_pages step.after) → In p (sheet_pages held))
    → Rising (λ (p q : ℕ). p ≢ q) (sheet_pages step.after) → ((x : Sheet) → In x step.after → IsPage x.content)
    → (R : Log) → Stands device f R → Owes (view_of f pass R held) step
owes_vacuum device f pass held step of right xid vacuum pages once fits R s =
    let long : f.journal.state.records ≡ length R = log_length device f.journal R s.journal in
    record {
      started = inl (λ none.
          omega (arith, of.some, of.seen, long, length-drop (length R - pass.seen) R, ap length none));
      pages = pages;
      once = once;
      fits = fits;
      xid = inl xid;
      work = λ is. (right.at, right.has);
      not_all = λ is. absurd (no_abort step.kind vacuum is);
    }

-- the first page of a chain
dropped_by : (c : Chain) (old : Page) (g : Gone) (h : Head) (page right : ℕ) → KeepsAs c old g → first_of c h ≡ page
    → IsDropped h page right old.body g (with_first c right h)
dropped_by chain.Overflow old g h page right keeps first =
    subst (λ (x : Gone). IsDropped h page right old.body x (record h { overflow = right })) (sym keeps.2)
    (subst (λ (b : Body). IsDropped h page right b (gone.Overflow keeps.0) (record h { overflow = right }))
    (sym keeps.1)
    (IsDropped.overflow keeps.0 first))
dropped_by chain.Private old g h page right keeps first =
    subst (λ (x : Gone). IsDropped h page right old.body x (record h { private = right })) (sym keeps.2)
    (subst (λ (b : Body). IsDropped h page right b (gone.Pending keeps.0) (record h { private = right })) (sym keeps.1)
    (IsDropped.private keeps.0 first))

not_free_heap : (slots : List (Option Head)) → body.Heap slots ≡ body.Free → ⊥
not_free_heap slots e = cc

not_free_deleted : (g : Gone) → body.Deleted g ≡ body.Free → ⊥
not_free_deleted g e = cc

module _ {D : Type 0} (device : Disk D) (f : FramesValue D) (p : Pass) (of : IsPassOf f p) (right : HasRight p)
    (heap : Sheet) (s : Step) where
  module _ (page : Sheet) (found : Chained) (hold : IsHolding device f p (page ∷ heap ∷ []))
      (x : IsDropStep heap page found s) (ch : IsChained heap.content found) (number : heap.page ≡ page_of found.item)
      (same : page.page ≡ found.page) (heads : SlotIsHead) (fits : IsKind (kind.DropPage found.item found.serial))
      (out : Seen device f p (λ S P. IsOut S P p.floor found.item)) where
    abbrev held : List Sheet
    held = page ∷ heap ∷ []

    can_drop : (R : Log) → Stands device f R → (P : Pages) → IsOut (cut p.seen R) P p.floor found.item
        → CanDropPage (view_of f p R held) P s
    can_drop R stands P o = record {
      doc = doc_at found.item found.serial;
      head = ch.head;
      head_then = with_first found.chain page.content.right ch.head;
      page = page.page;
      content = (x.deleted_is).content;
      old = heap.content;
      was = page.content;
      heap = x.heap_then;
      dropped = x.deleted;
      kind_is = x.kind_is;
      after_is = x.after_is ∙ ap (λ (n : ℕ). sheet n x.heap_then ∷ sheet page.page x.deleted ∷ []) number;
      may = right_of device f p held R of right stands;
      held = inr (inl (ap (λ (n : ℕ). sheet n heap.content) (sym number)));
      held_page = inl refl;
      out = o;
      not_none = λ none. ch.some (sym same ∙ none);
      first = dropped_by found.chain page.content (x.deleted_is).content ch.head page.page page.content.right
          (x.deleted_is).keeps (ch.first ∙ sym same);
      head_after = heads (doc_at found.item found.serial) heap.content x.heap_then ch.head
          (with_first found.chain page.content.right ch.head) (x.changes ch.head ch.at) ch.at ch.serial;
      right = ap (λ (c : Page). c.right) (x.deleted_is).same;
      deleted = ap (λ (c : Page). c.body) (x.deleted_is).same;
    }

    drop_pages : sheet_pages s.after ≡ heap.page ∷ page.page ∷ []
    drop_pages = ap sheet_pages x.after_is

    drop_once : Rising (λ (a b : ℕ). a ≢ b) (sheet_pages s.after)
    drop_once = subst (Rising (λ (a b : ℕ). a ≢ b)) (sym drop_pages)
        ((λ e. (hold.once).0.0 (sym e), tt), (tt, tt))

    drop_fits : (z : Sheet) → In z s.after → IsPage z.content
    drop_fits z i = elim (subst (In z) x.after_is i) [
      | inl e ↦ subst (λ (y : Sheet). IsPage y.content) (sym e) x.pages.0
      | inr (inl e) ↦ subst (λ (y : Sheet). IsPage y.content) (sym e) x.pages.1
      | inr (inr none) ↦ absurd none
    ]

    heap_used : (x.heap_then).body ≢ body.Free
    heap_used free =
        let c = x.changes ch.head ch.at in
        not_free_heap c.new_slots (sym (ap (λ (q : Page). q.body) c.after) ∙ free)

    deleted_used : (x.deleted).body ≢ body.Free
    deleted_used free =
        not_free_deleted (x.deleted_is).content (sym (ap (λ (q : Page). q.body) (x.deleted_is).same) ∙ free)

    vacuum_kind : IsVacuumKind (kind_number s.kind)
    vacuum_kind = subst (λ (k : Kind). IsVacuumKind (kind_number k)) (sym x.kind_is) (omega arith, omega arith)

    pub may_drop : MayBy CanDropPage → MayLogStep device f p (page ∷ heap ∷ []) s
    may_drop law = record {
      is_pass = of;
      right = right;
      holding = hold;
      encoded = record {
        kind = subst IsKind (sym x.kind_is) fits;
        few = subst (λ (xs : List Sheet). length xs < 2 ^ 8) (sym x.after_is) (omega arith);
        each = subst (AllByRecursion IsSheet) (sym x.after_is) (
          record { page = x.low.0; content = x.pages.0; used = heap_used },
          (record { page = x.low.1; content = x.pages.1; used = deleted_used }, tt),
        );
        once = drop_once;
      };
      kind = subst IsLoggedKind (sym x.kind_is) tt;
      vacuum = vacuum_kind;
      pages = subst (λ (xs : List Sheet). length xs ≤ 3) (sym x.after_is) (omega arith);
      may = λ tells up R stands legal. law (view_of f p R held) s
          (λ P legal_seen shown. can_drop R stands P (out tells up R stands legal P shown));
      owes = owes_vacuum device f p held s of right x.xid vacuum_kind
          (λ q i. elim (subst (In q) drop_pages i) [
            | inl e ↦ inr (inl e)
            | inr (inl e) ↦ inl e
            | inr (inr none) ↦ absurd none
          ]) drop_once drop_fits;
    }

  module _ (group : List ℕ) (hold : IsHolding device f p (heap ∷ [])) (x : IsFreeStep heap group s)
      (here : (i : ℕ) → In i group → page_of i ≡ heap.page) (bare : (i : ℕ) → In i group → HasNoChain heap.content i)
      (out : Seen device f p (λ S P. (i : ℕ) → In i group → IsOut S P p.floor i)) where
    abbrev slots : List (Option Head)
    slots = (x.frees).slots

    abbrev new_slots : List (Option Head)
    new_slots = (x.frees).new_slots

    slot_goes : (R : Log) (P : Pages) → ((i : ℕ) → In i group → IsOut (cut p.seen R) P p.floor i) → (k : ℕ)
        (old new : Option Head) → slot_at slots k ≡ old → StaysOrFree group k old new
        → SlotGoes (view_of f p R (heap ∷ [])) P (item_at heap.page k) old new
    slot_goes R P o k old new is (inl stays) = SlotGoes.same stays
    slot_goes R P o k None new is (inr free) = SlotGoes.same free.0
    slot_goes R P o k (Some h) new is (inr free) =
        let i = free.1 in
        let at : slot_at (slots_in heap.content.body) (slot_of i) ≡ Some h =
        ap (λ (b : Body). slot_at (slots_in b) (slot_of i)) (x.frees).was ∙ ap (slot_at slots) free.3 ∙ is in
        let none = bare i free.2 h at in
        let item : item_at heap.page k ≡ i =
        ap (item_at heap.page) (sym free.3) ∙ item_is i heap.page (here i free.2) in
        SlotGoes.freed h refl free.0 none.0 none.1
        (subst (λ (j : ℕ). IsOut (cut p.seen R) P p.floor j) (sym item) (o i free.2))

    can_free : (R : Log) → Stands device f R → (P : Pages)
        → ((i : ℕ) → In i group → IsOut (cut p.seen R) P p.floor i) → CanFreeSlots (view_of f p R (heap ∷ [])) P s
    can_free R stands P o = record {
      page = heap.page;
      slots = slots;
      new_slots = new_slots;
      old = heap.content;
      new = x.new;
      kind_is = x.kind_is;
      after_is = x.after_is;
      may = right_of device f p (heap ∷ []) R of right stands;
      held = inl refl;
      was = (x.frees).was;
      same_length = ((x.frees).frees).same_length;
      each = λ k. slot_goes R P o k (slot_at slots k) (slot_at new_slots k) refl (((x.frees).frees).others k);
      some =
          λ e. x.some ((x.frees).after ∙ ap (λ (l : List (Option Head)). record heap.content { body = body.Heap l }) e
          ∙ ap (λ (b : Body). record heap.content { body = b }) (sym (x.frees).was));
      right = ap (λ (c : Page). c.right) (x.frees).after;
      content = ap (λ (c : Page). c.body) (x.frees).after;
    }

    free_kind : IsVacuumKind (kind_number s.kind)
    free_kind = subst (λ (k : Kind). IsVacuumKind (kind_number k)) (sym x.kind_is) (omega arith, omega arith)

    free_pages : sheet_pages s.after ≡ heap.page ∷ []
    free_pages = ap sheet_pages x.after_is

    free_once : Rising (λ (a b : ℕ). a ≢ b) (sheet_pages s.after)
    free_once = subst (Rising (λ (a b : ℕ). a ≢ b)) (sym free_pages) (tt, tt)

    pub may_free : MayBy CanFreeSlots → MayLogStep device f p (heap ∷ []) s
    may_free law = record {
      is_pass = of;
      right = right;
      holding = hold;
      encoded = record {
        kind = subst IsKind (sym x.kind_is) tt;
        few = subst (λ (xs : List Sheet). length xs < 2 ^ 8) (sym x.after_is) (omega arith);
        each = subst (AllByRecursion IsSheet) (sym x.after_is) (
          record {
            page = x.low;
            content = x.page;
            used = λ free. not_free_heap new_slots (sym (ap (λ (q : Page). q.body) (x.frees).after) ∙ free);
          },
          tt,
        );
        once = free_once;
      };
      kind = subst IsLoggedKind (sym x.kind_is) tt;
      vacuum = free_kind;
      pages = subst (λ (xs : List Sheet). length xs ≤ 3) (sym x.after_is) (omega arith);
      may = λ tells up R stands legal. law (view_of f p R (heap ∷ [])) s
          (λ P legal_seen shown. can_free R stands P (out tells up R stands legal P shown));
      owes = owes_vacuum device f p (heap ∷ []) s of right x.xid free_kind
          (λ q i. elim (subst (In q) free_pages i) [ inl e ↦ inl e | inr none ↦ absurd none ]) free_once
          (λ z i. elim (subst (In z) x.after_is i) [
            | inl e ↦ subst (λ (y : Sheet). IsPage y.content) (sym e) x.page
            | inr none ↦ absurd none
          ]);
    }

-- the step that was made of both pages
pub drop_made : (heap page : Sheet) (found : Chained) (heap_then deleted : Page) (r : Result Step AllocError)
    → IfOk r (λ s. s ≡ record {
      kind = kind.DropPage found.item found.serial;
      xid = 0;
      after = sheet heap.page heap_then ∷ sheet page.page deleted ∷ [];
    })
    → OnOk r ((heap.page < page_limit) × (page.page < page_limit))
    → ((h : Head) → head_on heap.content (slot_of found.item) ≡ Some h
    → ChangesSlot heap.content (slot_of found.item) (Some (with_first found.chain page.content.right h)) heap_then)
    → IsDeletedOf found.chain page.content deleted → IsPage heap_then → IsPage deleted
    → IfOk r (IsDropStep heap page found)
drop_made heap page found heap_then deleted (Ok s) is low changes gone page_then page_gone = record {
  heap_then = heap_then;
  deleted = deleted;
  kind_is = ap (λ (u : Step). u.kind) is;
  xid = ap (λ (u : Step). u.xid) is;
  after_is = ap (λ (u : Step). u.after) is;
  changes = changes;
  deleted_is = gone;
  pages = (page_then, page_gone);
  low = low;
}
drop_made heap page found heap_then deleted (Err e) is low changes gone page_then page_gone = tt

-- what a change of a copy of a page is of the page
pub changes_by : (c : Chain) (old heap new : Page) (slot k right next : ℕ) → old ≡ heap → slot ≡ k → right ≡ next
    → ((h : Head) → head_on old slot ≡ Some h → ChangesSlot old slot (Some (with_first c right h)) new)
    → (h : Head) → head_on heap k ≡ Some h → ChangesSlot heap k (Some (with_first c next h)) new
changes_by c old heap new slot k right next e at same changes =
    subst (λ (p : Page). (h : Head) → head_on p k ≡ Some h → ChangesSlot p k (Some (with_first c next h)) new) e
    (subst (λ (n : ℕ). (h : Head) → head_on old n ≡ Some h → ChangesSlot old n (Some (with_first c next h)) new) at
    (subst (λ (n : ℕ). (h : Head) → head_on old slot ≡ Some h → ChangesSlot old slot (Some (with_first c n h)) new) same
    changes))
