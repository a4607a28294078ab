-- Heads that are placed and marked, and parts that are put.
use Rattle.std.proofs.Common.{◌≡◌, ◌≢◌, ◌<◌, ◌++◌, ℕ, List, [], ◌∷◌, length, refl, sym, ap, subst, ◌∙◌, inl, inr, arith}
use Rattle.std.specs.Prelude.{Option, Some, None}
use Rattle.ts_base.specs.Vectors.{Vector}
use Rattle.page_types.specs.Numbers.{most_short}
use Rattle.page_types.specs.Views.{slots_in, slot_at, part_of}
use Rattle.page_types.specs.declared.page.Page.{Page}
use Rattle.page_types.specs.declared.page.Head.{Head}
use Rattle.page_types.specs.declared.page.Body.{Body}
use Rattle.page_types.specs.declared.page.Body.TheVariants as body
use Rattle.page_types.specs.declared.record.Kind.{Kind}
use Rattle.page_types.specs.declared.record.Kind.TheVariants as kind
use Rattle.core_state.specs.Log.{Pages, In, next_serial, fate}
use Rattle.core_state.specs.Documents.{Doc, Has, HasBytes, IsChain, IsWhole, page_of, slot_of, head_of, parts}
use Rattle.core_state.specs.Changes.{PutsSlot, made_with}
use Rattle.core_state.specs.Legal.{RuleHolds}
use Rattle.core_state.specs.Steady.{KeepsHead}
use Rattle.core_state.specs.Allowed.{numbered, with_serial, drawn_body}
use Rattle.core_state.specs.Steps.{IsNewSheet, ChangesHead, CanPlace, CanPutOverflow, CanMark, MayBy}
use Rattle.core_state.proofs.Leaving.{numbered_length}
use Rattle.core_state.proofs.Histories.{chain_one}
use Rattle.core_state.proofs.Law.AllCases.{all_steps}
use Rattle.core_state.proofs.Law.SteadyLogs.{all_owned}
use Rattle.core_state.proofs.Steps.Seen.{held_page, own_runs_on, steady_facts, some_seen, still_new, shows}
use Rattle.core_state.proofs.Steps.Heads.{drawn_as, drawn_by, drawn_pages, one_of, two_of, left_all, left_is}
use Rattle.core_state.proofs.Steps.Heads.{head_changes, has_head, numbered_at, numbered_else}
use Rattle.core_state.proofs.Steps.OwnHeads.{held_head}

-- no slot is used on a new page
none_on_new : (P : Pages) (since p k : ℕ) (c : Page) → IsNewSheet P since p c → slot_at (slots_in c.body) k ≡ None
none_on_new P since p k c (IsNewSheet.unused free low) = ap (λ (b : Body). slot_at (slots_in b) k) free
none_on_new P since p k c (IsNewSheet.deleted g gone small) = ap (λ (b : Body). slot_at (slots_in b) k) gone

-- the slots with the serial that was drawn
puts_drawn : (slots new_slots : List (Option Head)) (k : ℕ) (head : Head) (serial : ℕ)
    → PutsSlot slots k (Some head) new_slots
    → PutsSlot slots k (Some (record head { serial = serial })) (numbered new_slots k serial)
puts_drawn slots new_slots k head serial p = record {
  put = numbered_at new_slots k serial ∙ ap (λ (h : Option Head). with_serial h serial) p.put;
  others = λ j off. numbered_else new_slots k serial j off ∙ p.others j off;
  size = numbered_length new_slots k serial ∙ p.size;
}

pub place_may : MayBy CanPlace
place_may v s can R a r Q n l =
    let t = shows CanPlace v s R a can in
    let c = t.2 in
    let k : Kind = kind.PlaceHead c.item c.serial in
    let serial : ℕ = next_serial R in
    let xid : r.xid ≡ s.xid = drawn_by R s r n k c.kind_is in
    let kind_is : r.kind ≡ kind.PlaceHead c.item serial = drawn_as R s r n k c.kind_is in
    let pages = drawn_pages R s r n _ c.after_is in
    let was = held_page v R a (page_of c.item) c.old c.held in
    let left = left_all a.pages Q r s _ l c.after_is in
    let free : head_of a.pages c.item ≡ None = ap (λ (p : Page). slot_at (slots_in p.body) (slot_of c.item)) was
    ∙ elim c.page [
      | inl h ↦ ap (λ (b : Body). slot_at (slots_in b) (slot_of c.item)) h.0 ∙ c.was_free
      | inr h ↦ none_on_new t.0 v.since (page_of c.item) (slot_of c.item) c.old h.2
    ] in
    RuleHolds.place_head (record {
      here = record {
        doc = record { item = c.item; serial = serial };
        head = record c.head { serial = serial };
        old = c.old;
        slots = c.slots;
        new_slots = numbered c.new_slots (slot_of c.item) serial;
        right = c.new.right;
        kind_is = kind_is;
        pages = pages;
        runs = ap (fate R) xid ∙ (own_runs_on v R a t.0 t.1 s.xid c.own).runs;
        next = refl;
        before_is = one_of a.pages _ (page_of c.item) c.old pages was;
        page = elim c.page [
          | inl h ↦ inl (h.0, h.1)
          | inr h ↦ inr (h.0, h.1, still_new v R a t.0 t.1 v.since (page_of c.item) c.old c.held h.2)
        ];
        was_free = c.was_free;
        in_row = c.in_row;
        new_head = record {
          serial_is = refl;
          inserted_by = c.new_head.inserted_by ∙ sym xid;
          deleted_by = c.new_head.deleted_by;
          overflow = c.new_head.overflow;
          private = c.new_head.private;
        };
        put = puts_drawn c.slots c.new_slots (slot_of c.item) c.head serial c.put;
        after_is = one_of Q _ (page_of c.item) _ pages (left.0
            ∙ ap (λ (z : Kind). made_with r c.new.right (drawn_body z c.new.body)) kind_is
            ∙ ap (λ (b : Body). made_with r c.new.right (drawn_body (kind.PlaceHead c.item serial) b)) c.content);
      };
      rest = (all_owned all_steps R a.pages a.legal a.shown).free_clean c.item free;
    })

pub mark_may : MayBy CanMark
mark_may v s can R a r Q n l =
    let t = shows CanMark v s R a can in
    let c = t.2 in
    let k : Kind = kind.MarkDeleted c.doc.item c.doc.serial in
    let xid : r.xid ≡ s.xid = drawn_by R s r n k c.kind_is in
    let kind_is : r.kind ≡ k = drawn_as R s r n k c.kind_is in
    let pages = drawn_pages R s r n _ c.after_is in
    let was = held_page v R a (page_of c.doc.item) c.old c.held in
    let left = left_all a.pages Q r s _ l c.after_is in
    let ends = (steady_facts v R a t.0 t.1 (some_seen v s.xid c.own)).ends_stay in
    let marks : ChangesHead c.doc c.old c.head (record c.head { deleted_by = r.xid }) c.new =
    subst (λ (x : ℕ). ChangesHead c.doc c.old c.head (record c.head { deleted_by = x }) c.new) (sym xid)
    c.head_after in
    RuleHolds.mark_deleted (record {
      here = record {
        doc = c.doc;
        head = c.head;
        number = c.number;
        old = c.old;
        heap_then = made_with r c.old.right (body.Heap marks.new_slots);
        kind_is = kind_is;
        pages = pages;
        runs = ap (fate R) xid ∙ (own_runs_on v R a t.0 t.1 s.xid c.own).runs;
        inserted = ends.committed_stays c.head.inserted_by c.number c.inserted;
        unmarked = elim c.unmarked [
          | inl none ↦ inl none
          | inr by ↦ inr (ends.aborted_stays c.head.deleted_by by)
        ];
        before_is = one_of a.pages _ (page_of c.doc.item) c.old pages was;
        head_after = head_changes r c.doc c.old c.head (record c.head { deleted_by = r.xid }) c.new marks;
        after_is = one_of Q _ (page_of c.doc.item) _ pages (left.0
            ∙ left_is r k c.new c.old.right (body.Heap marks.new_slots) kind_is refl marks.right marks.after);
      };
    })

-- the parts on pages that are the same
same_parts : (P Q : Pages) (qs : List ℕ) → ((q : ℕ) → In q qs → Q q ≡ P q) → parts Q qs ≡ parts P qs
same_parts P Q [] same = refl
same_parts P Q (q ∷ qs) same =
    ap (λ (p : Page). part_of p ++ parts Q qs) (same q (inl refl))
    ∙ ap (λ (b : List ℕ). part_of (P q) ++ b) (same_parts P Q qs (λ p i. same p (inr i)))

-- a long vector isn't whole where the parts on its chain have another length
not_whole : (P : Pages) (h : Head) (qs : List ℕ) → most_short < h.bytes → IsChain P h.overflow qs
    → length (parts P qs) ≢ h.bytes → (w : Vector) → IsWhole P h w → ⊥
not_whole P h qs long chain off w is = go is.bytes is.there is.size
  where
    go : (bytes : List ℕ) → HasBytes P h bytes → length bytes ≡ h.bytes → ⊥
    go _ (HasBytes.short le) size = omega (arith, le, long)
    go _ (HasBytes.long lt ps c) size = off (ap (λ (z : List ℕ). length (parts P z))
        (chain_one P h.overflow qs ps chain c)
        ∙ size)

pub put_overflow_may : MayBy CanPutOverflow
put_overflow_may v s can R a r Q n l =
    let t = shows CanPutOverflow v s R a can in
    let P = t.0 in
    let c = t.2 in
    let d : Doc = c.doc in
    let k : Kind = kind.PutOverflow d.item d.serial in
    let xid : r.xid ≡ s.xid = drawn_by R s r n k c.kind_is in
    let kind_is : r.kind ≡ k = drawn_as R s r n k c.kind_is in
    let pages = drawn_pages R s r n _ c.after_is in
    let was = held_page v R a (page_of d.item) c.old c.held in
    let was_part = held_page v R a c.new c.old_part c.held_part in
    let left = left_all a.pages Q r s _ l c.after_is in
    let on = own_runs_on v R a P t.1 s.xid c.own in
    let has : Has a.pages d c.head = has_head a.pages d c.old c.head _ c.heap was c.head_after in
    let keeps : KeepsHead P a.pages d c.head =
    (held_head v R a P t.1 s.xid c.own d c.head c.placed_by has).1 in
    let chain = keeps.overflow c.chain c.is_chain in
    RuleHolds.put_overflow (record {
      here = record {
        doc = d;
        head = c.head;
        new = c.new;
        part = c.part;
        old = c.old;
        was = c.old_part;
        heap_then = made_with r c.old.right (body.Heap c.head_after.new_slots);
        kind_is = kind_is;
        pages = pages;
        own = record { by = c.placed_by ∙ sym xid; runs = ap (fate R) xid ∙ on.runs };
        long = c.long;
        full = c.full;
        is_new = still_new v R a P t.1 v.since c.new c.old_part c.held_part c.is_new;
        before_is = two_of a.pages _ (page_of d.item) c.new c.old c.old_part pages was was_part;
        head_after = head_changes r d c.old c.head _ c.heap c.head_after;
        after_is = two_of Q _ (page_of d.item) c.new _ _ pages (left.0
            ∙ left_is r k c.heap c.old.right (body.Heap c.head_after.new_slots) kind_is refl c.head_after.right
            c.head_after.after)
            (left.1.0 ∙ left_is r k c.put c.head.overflow (body.Overflow c.part) kind_is refl c.right c.content);
      };
      rest = not_whole a.pages c.head c.chain c.long chain.0
          (λ e. c.missing (sym (ap length (same_parts P a.pages c.chain chain.1)) ∙ e));
    })
