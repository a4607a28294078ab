-- Steps by which dead documents leave the index and their pages are valid after each log that is allowed to the
-- session.
use Rattle.std.proofs.Common.{◌≡◌, ℕ, List, [], ◌∷◌, ◌++◌, map, refl, sym, ap, ◌∙◌}
use Rattle.std.specs.Prelude.{Option, Some, None}
use Rattle.page_types.specs.Views.{slot_at}
use Rattle.page_types.specs.declared.page.Page.{Page}
use Rattle.page_types.specs.declared.page.Head.{Head}
use Rattle.page_types.specs.declared.page.Body.TheVariants as body
use Rattle.page_types.specs.declared.page.Gone.TheVariants as gone
use Rattle.page_types.specs.declared.record.Record.{Record}
use Rattle.page_types.specs.declared.record.Kind.TheVariants as kind
use Rattle.core_state.specs.Log.{Log, Pages, Shows}
use Rattle.core_state.specs.Documents.{Doc, Has, page_of, item_at, doc_at}
use Rattle.core_state.specs.Known.{known}
use Rattle.core_state.specs.Changes.{made_with}
use Rattle.core_state.specs.TreeRules.{IsLeftLeaf, IsUnlinked, IsDeletePost}
use Rattle.core_state.specs.VacuumRules.{SlotLoses, IsGoneFrom}
use Rattle.core_state.specs.Legal.{RuleHolds}
use Rattle.core_state.specs.Allowed.{Sheet, View, IsAllowed, Step, IsDrawn, Leaves}
use Rattle.core_state.specs.Steps.{sheet, MayBy}
use Rattle.core_state.proofs.LawsHold.{bullets}
use Rattle.core_state.proofs.Steps.Seen.{held_page, shows}
use Rattle.core_state.proofs.Steps.Heads.{drawn_as, drawn_pages, one_of, two_of, left_all, left_is}
use Rattle.core_state.proofs.Steps.Heads.{head_changes, has_head}
use Rattle.core_maintenance.proofs.Right.{index_stays}
use Rattle.core_vacuum.specs.VacuumSteps.{CanRemoveItems, LinksOn, CanDeletePost, CanDropPage, SlotGoes, CanFreeSlots}
use Rattle.core_vacuum.proofs.Out.{leave_still, out_still, gone_from, dead_head, has_slot}

pub remove_items_may : MayBy CanRemoveItems
remove_items_may v s can R a r Q n l =
    let t = shows CanRemoveItems v s R a can in
    let c = t.2 in
    let kind_is : r.kind ≡ kind.RemoveItems = drawn_as R s r n kind.RemoveItems c.kind_is in
    let named = drawn_pages R s r n _ c.after_is in
    let was = held_page v R a c.page c.old c.held in
    let left = left_all a.pages Q r s _ l c.after_is in
    RuleHolds.remove_items (record {
      here = record {
        page = c.page;
        removed = c.removed;
        content = c.new.body;
        old = c.old;
        kind_is = kind_is;
        pages = named;
        before_is = one_of a.pages _ c.page c.old named was;
        lists = c.lists;
        went = c.went;
        some = c.some;
        after_is = one_of Q _ c.page _ named
            (left.0 ∙ left_is r kind.RemoveItems c.new c.old.right c.new.body kind_is refl c.right refl);
      };
      rest = λ i j. leave_still v R a t.0 t.1 c.may v.floor i (c.leave i j);
    })

three_of : (P : Pages) (ps : List ℕ) (a b c : ℕ) (x y z : Page) → ps ≡ a ∷ b ∷ c ∷ [] → P a ≡ x → P b ≡ y → P c ≡ z
    → map P ps ≡ x ∷ y ∷ z ∷ []
three_of P ps a b c x y z e is is' is'' =
    ap (map P) e ∙ ap (λ (p : Page). p ∷ P b ∷ P c ∷ []) is ∙ ap (λ (p : Page). x ∷ p ∷ P c ∷ []) is'
    ∙ ap (λ (p : Page). x ∷ y ∷ p ∷ []) is''

module _ (v : View) (P : Pages) (s : Step) (c : CanDeletePost v P s) (shown : Shows v.seen P) (R : Log)
    (a : IsAllowed v R) (r : Record) (Q : Pages) (n : IsDrawn R s r) (l : Leaves a.pages Q r s) where
  -- a leaf before the page was there already
  left_was : (q : ℕ) → IsLeftLeaf a.pages q c.page → IsLeftLeaf P q c.page
  left_was q left =
      let stay = index_stays v R a P shown c.may in
      let tree = (bullets R a.pages a.legal a.shown).named q left.high left.items left.body_is in
      let was = stay.no_more_trees tree.0 q tree.1 tree.3 in
      let same : P q ≡ a.pages q = sym (stay.trees tree.0 q was.0 was.1) in
      record {
        high = left.high;
        items = left.items;
        body_is = ap (λ (p : Page). p.body) same ∙ left.body_is;
        link = ap (λ (p : Page). p.right) same ∙ left.link;
      }

  kind_is : r.kind ≡ kind.DeletePost
  kind_is = drawn_as R s r n kind.DeletePost c.kind_is

  by_links : (lefts : List Sheet) → LinksOn v P c.page c.old.right lefts
      → s.after ≡ sheet c.page c.deleted ∷ (lefts ++ sheet c.parent c.without ∷ []) → IsDeletePost R a.pages Q r
  by_links _ (LinksOn.none no_left) after_is =
      let named = drawn_pages R s r n _ after_is in
      let left = left_all a.pages Q r s _ l after_is in
      let then = body.PostInner (c.front ++ c.next ∷ c.back) in
      record {
        here = record {
          page = c.page;
          parent = c.parent;
          lefts = [];
          high = c.high;
          bound = c.bound;
          front = c.front;
          next = c.next;
          back = c.back;
          old = c.old;
          old_parent = c.old_parent;
          lefts_before = [];
          lefts_after = [];
          kind_is = kind_is;
          pages = named;
          before_is = two_of a.pages _ c.page c.parent c.old c.old_parent named
              (held_page v R a c.page c.old c.held) (held_page v R a c.parent c.old_parent c.held_parent);
          empty = c.empty;
          child = c.child;
          unlinked = IsUnlinked.none;
          after_is = two_of Q _ c.page c.parent _ _ named
              (left.0
              ∙ left_is r kind.DeletePost c.deleted c.old.right (body.Deleted (gone.PostLeaf c.high [])) kind_is refl
              c.right c.content)
              (left.1.0
              ∙ left_is r kind.DeletePost c.without c.old_parent.right then kind_is refl c.parent_right
              c.parent_content);
        };
        rest = λ e q i. no_left q (left_was q i);
      }
  by_links _ (LinksOn.one q before then high items held was link to same) after_is =
      let named = drawn_pages R s r n _ after_is in
      let left = left_all a.pages Q r s _ l after_is in
      let without = body.PostInner (c.front ++ c.next ∷ c.back) in
      record {
        here = record {
          page = c.page;
          parent = c.parent;
          lefts = q ∷ [];
          high = c.high;
          bound = c.bound;
          front = c.front;
          next = c.next;
          back = c.back;
          old = c.old;
          old_parent = c.old_parent;
          lefts_before = before ∷ [];
          lefts_after = made_with r c.old.right before.body ∷ [];
          kind_is = kind_is;
          pages = named;
          before_is = three_of a.pages _ c.page q c.parent c.old before c.old_parent named
              (held_page v R a c.page c.old c.held) (held_page v R a q before held)
              (held_page v R a c.parent c.old_parent c.held_parent);
          empty = c.empty;
          child = c.child;
          unlinked = IsUnlinked.one q before high items was link;
          after_is = three_of Q _ c.page q c.parent _ _ _ named
              (left.0
              ∙ left_is r kind.DeletePost c.deleted c.old.right (body.Deleted (gone.PostLeaf c.high [])) kind_is refl
              c.right c.content)
              (left.1.0 ∙ left_is r kind.DeletePost then c.old.right before.body kind_is refl to same)
              (left.1.1.0
              ∙ left_is r kind.DeletePost c.without c.old_parent.right without kind_is refl c.parent_right
              c.parent_content);
        };
        rest = λ e. absurd (some_not e);
      }
    where
      some_not : q ∷ [] ≡ [] → ⊥
      some_not e = cc

pub delete_post_may : MayBy CanDeletePost
delete_post_may v s can R a r Q n l =
    let t = shows CanDeletePost v s R a can in
    let c = t.2 in
    RuleHolds.delete_post (by_links v t.0 s c t.1 R a r Q n l c.lefts c.links c.after_is)

pub drop_page_may : MayBy CanDropPage
drop_page_may v s can R a r Q n l =
    let t = shows CanDropPage v s R a can in
    let c = t.2 in
    let d : Doc = c.doc in
    let k = kind.DropPage d.item d.serial in
    let kind_is : r.kind ≡ k = drawn_as R s r n k c.kind_is in
    let named = drawn_pages R s r n _ c.after_is in
    let was = held_page v R a (page_of d.item) c.old c.held in
    let left = left_all a.pages Q r s _ l c.after_is in
    let has : Has a.pages d c.head = has_head a.pages d c.old c.head c.head_then c.heap was c.head_after in
    let gone_is : IsGoneFrom R a.pages v.floor d =
    gone_from R a.pages v.floor d c.head has (out_still v R a t.0 t.1 c.may v.floor d.item c.out) in
    RuleHolds.drop_page (record {
      here = record {
        doc = d;
        head = c.head;
        head_then = c.head_then;
        page = c.page;
        content = c.content;
        old = c.old;
        heap_then = made_with r c.old.right (body.Heap c.head_after.new_slots);
        was = c.was;
        kind_is = kind_is;
        pages = named;
        before_is = two_of a.pages _ (page_of d.item) c.page c.old c.was named was
            (held_page v R a c.page c.was c.held_page);
        dead = dead_head R a.pages a.legal a.shown v.floor d c.head has gone_is.dead;
        not_none = c.not_none;
        dropped = c.first;
        head_after = head_changes r d c.old c.head c.head_then c.heap c.head_after;
        after_is = two_of Q _ (page_of d.item) c.page _ _ named
            (left.0
            ∙ left_is r k c.heap c.old.right (body.Heap c.head_after.new_slots) kind_is refl c.head_after.right
            c.head_after.after)
            (left.1.0 ∙ left_is r k c.dropped c.was.right (body.Deleted c.content) kind_is refl c.right c.deleted);
      };
      rest = gone_is;
    })

none_some : (h : Head) (x : Option Head) → x ≡ Some h → x ≡ None → ⊥
none_some h x e f = cc

module _ (v : View) (P : Pages) (s : Step) (c : CanFreeSlots v P s) (shown : Shows v.seen P) (R : Log)
    (a : IsAllowed v R) where
  heap_is : (a.pages c.page).body ≡ body.Heap c.slots
  heap_is = ap (λ (p : Page). p.body) (held_page v R a c.page c.old c.held) ∙ c.was

  freed_from : (slot : ℕ) (h : Head) (x y : Option Head) → SlotGoes v P (item_at c.page slot) x y
      → slot_at c.slots slot ≡ x → x ≡ Some h → y ≡ None
      → IsGoneFrom R a.pages v.floor (doc_at (item_at c.page slot) h.serial)
  freed_from slot h x y (SlotGoes.same e) at is none = absurd (none_some h x is (sym e ∙ none))
  freed_from slot h x y (SlotGoes.freed k e f no_overflow no_private out) at is none =
      let has = has_slot R a.pages a.shown c.page slot c.slots h heap_is (at ∙ is) in
      gone_from R a.pages v.floor (doc_at (item_at c.page slot) h.serial) h has
      (out_still v R a P shown c.may v.floor (item_at c.page slot) out)

  slot_loses : (slot : ℕ) (x y : Option Head) → SlotGoes v P (item_at c.page slot) x y → slot_at c.slots slot ≡ x
      → SlotLoses (known R a.pages) v.floor x y
  slot_loses slot x y (SlotGoes.same e) at = SlotLoses.same e
  slot_loses slot x y (SlotGoes.freed h e f no_overflow no_private out) at =
      let goes = SlotGoes.freed h e f no_overflow no_private out in
      let has = has_slot R a.pages a.shown c.page slot c.slots h heap_is (at ∙ e) in
      SlotLoses.freed h e f (record {
        dead = dead_head R a.pages a.legal a.shown v.floor (doc_at (item_at c.page slot) h.serial) h has
            (freed_from slot h x y goes at e f).dead;
        no_overflow = no_overflow;
        no_private = no_private;
      })

pub free_slots_may : MayBy CanFreeSlots
free_slots_may v s can R a r Q n l =
    let t = shows CanFreeSlots v s R a can in
    let c = t.2 in
    let kind_is : r.kind ≡ kind.FreeSlots = drawn_as R s r n kind.FreeSlots c.kind_is in
    let named = drawn_pages R s r n _ c.after_is in
    let was = held_page v R a c.page c.old c.held in
    let left = left_all a.pages Q r s _ l c.after_is in
    RuleHolds.free_slots (record {
      here = record {
        page = c.page;
        slots = c.slots;
        new_slots = c.new_slots;
        old = c.old;
        kind_is = kind_is;
        pages = named;
        before_is = one_of a.pages _ c.page c.old named was;
        was = c.was;
        same_length = c.same_length;
        each = λ slot. slot_loses v t.0 s c t.1 R a slot (slot_at c.slots slot) (slot_at c.new_slots slot)
            (c.each slot) refl;
        some = c.some;
        after_is = one_of Q _ c.page _ named
            (left.0
            ∙ left_is r kind.FreeSlots c.new c.old.right (body.Heap c.new_slots) kind_is refl c.right c.content);
      };
      rest = λ slot h at none. freed_from v t.0 s c t.1 R a slot h (slot_at c.slots slot) (slot_at c.new_slots slot)
          (c.each slot) refl at none;
    })
