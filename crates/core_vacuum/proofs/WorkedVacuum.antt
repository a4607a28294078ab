-- Steps of a session with the right of maintenance, after the abort of the one insert, and at pages that it comes to.
use Rattle.std.proofs.Common.{◌≡◌, ◌≢◌, ◌<◌, ℕ, zero, suc, List, [], ◌∷◌, length, refl, sym, ap, subst, inl, inr, arith}
use Rattle.std.specs.Prelude.{Option, Some, None}
use Rattle.ts_base.specs.Keys.{Key}
use Rattle.page_types.specs.Numbers.{no_bound}
use Rattle.page_types.specs.Keys.{Rising}
use Rattle.page_types.specs.Views.{free_page, entries_of, list_in, slot_at}
use Rattle.page_types.specs.declared.page.Page.{Page}
use Rattle.page_types.specs.declared.page.Head.{Head}
use Rattle.page_types.specs.declared.page.Entry as on_page
use Rattle.page_types.specs.declared.page.PostChild.{PostChild}
use Rattle.page_types.specs.declared.page.Postings.TheVariants.{Inline, Root}
use Rattle.page_types.specs.declared.page.Body.{Body}
use Rattle.page_types.specs.declared.page.Body.TheVariants as body
use Rattle.page_types.specs.declared.page.Gone.TheVariants as gone
use Rattle.page_types.specs.declared.record.Record.{Record}
use Rattle.page_types.specs.declared.record.Kind.TheVariants as kind
use Rattle.core_state.specs.Log.{Log, Pages, In}
use Rattle.core_state.specs.Documents.{IsDead, item_at}
use Rattle.core_state.specs.TreeRules.{IsLeftLeaf}
use Rattle.core_state.specs.VacuumRules.{ItemsLeave, ItemGoes, EntryLoses, ListsLose, MayLeave, IsDropped}
use Rattle.core_state.specs.Allowed.{Sheet, View, Step}
use Rattle.core_state.specs.Steps.{sheet, ChangesHead}
use Rattle.core_state.proofs.Worked as first
use Rattle.core_state.proofs.WorkedPending as rows
use Rattle.core_maintenance.specs.Right.{HasRight}
use Rattle.core_vacuum.specs.Leaving.{IsOut}
use Rattle.core_vacuum.specs.VacuumSteps.{CanRemoveItems, LinksOn, CanDeletePost, CanDropPage, SlotGoes, CanFreeSlots}

-- a session that has the right since the log's length
abbrev session : Log → List Sheet → View
session seen held = record {
  seen = seen;
  pin = None;
  floor = 0;
  since = 0;
  from = 0;
  readings = [];
  held = held;
  xids = [];
  begun = [];
  work = Some (length seen);
}

has_right : (R : Log) (held : List Sheet) → R ≢ [] → HasRight (session R held)
has_right R held some = record { at = length R; has = refl; within = omega arith; started = some }

abbrev abort : ℕ → Record
abort number = record { number = number; xid = 1; kind = kind.Abort; changes = [] }

-- 18: the item of the aborted document leaves both lists
abbrev log_gone : Log
log_gone = abort 9 ∷ rows.shift_record ∷ rows.log_added

abbrev full : List on_page.Entry
full = rows.entry rows.cat_key ∷ rows.entry rows.fat_key ∷ []

abbrev bare : Key → on_page.Entry
bare key = record { key = key; postings = Inline [] }

abbrev emptied : List on_page.Entry
emptied = bare rows.cat_key ∷ bare rows.fat_key ∷ []

leaves : ItemsLeave (4096 ∷ []) (128 ∷ 32 ∷ []) []
leaves = record {
  rises = subst (Rising (λ (i j : ℕ). i < j)) (sym rows.none_is) tt;
  no_other = λ i there. absurd (subst (In i) rows.none_is there);
  each = λ i there. inr (subst (In i) rows.list_is there);
}

entry_loses : (key : Key) → EntryLoses (4096 ∷ []) (rows.entry key) (bare key)
entry_loses key = EntryLoses.less (128 ∷ 32 ∷ []) [] refl refl refl leaves

each_went : (i : ℕ) → In i (4096 ∷ []) → ItemGoes i (body.EntryLeaf [] full) (body.EntryLeaf [] emptied)
each_went i (inl e) =
    ItemGoes.from_entry [] full emptied 0 (rows.entry rows.cat_key) (bare rows.cat_key)
    (128 ∷ 32 ∷ []) [] refl refl refl
    refl (subst (In i) (sym rows.list_is) (inl e)) (λ there. subst (In i) rows.none_is there)
each_went i (inr e) = absurd e

may_leave : MayLeave log_gone rows.shifted 0 4096
may_leave = record {
  doc = first.doc;
  head = rows.head 0;
  item = refl;
  has = record { at = refl; serial = refl };
  dead = IsDead.insert_aborted 1 refl (inl refl);
  no_row = λ h. first.in_no_chain rows.shifted h.linked.line h.linked.page h.linked.is_line h.linked.on;
}

each_leaves : (i : ℕ) → In i (4096 ∷ []) → MayLeave log_gone rows.shifted 0 i
each_leaves i (inl e) = subst (MayLeave log_gone rows.shifted 0) (sym e) may_leave
each_leaves i (inr e) = absurd e

abbrev first_list : Body → ℕ
first_list (body.EntryLeaf high (e ∷ es)) = length (list_in e.postings)
first_list _ = 0

some_left : body.EntryLeaf [] emptied ≢ body.EntryLeaf [] full
some_left e =
    let size : 0 ≡ 2 = ap first_list e in
    omega (arith, size)

abbrev remove_step : Step
remove_step = record { kind = kind.RemoveItems; xid = 0; after = sheet 1 (rows.leaf_page 0 emptied) ∷ [] }

abbrev full_leaf : List Sheet
full_leaf = sheet 1 (rows.leaf_page 7 full) ∷ []

can_remove : CanRemoveItems (session log_gone full_leaf) rows.shifted remove_step
can_remove = record {
  page = 1;
  removed = 4096 ∷ [];
  old = rows.leaf_page 7 full;
  new = rows.leaf_page 0 emptied;
  kind_is = refl;
  after_is = refl;
  may = has_right log_gone full_leaf (λ e. cc);
  held = inl refl;
  lists = ListsLose.entries [] full emptied (entry_loses rows.cat_key, (entry_loses rows.fat_key, tt));
  went = each_went;
  some = some_left;
  leave = each_leaves;
  right = refl;
}

-- but not while its row is linked
row_is_linked : (R : Log) (floor : ℕ) → MayLeave R rows.with_both floor 4096 → ⊥
row_is_linked R floor m =
    let p = rows.pending_there (rows.with_both 1) rows.cat_key (inl refl) in
    m.no_row (record { row = p.row; linked = p.linked; item = p.item })

-- 19: an empty leaf leaves its parent, where no leaf leads to it; nor where one does that isn't held
abbrev child_of : ℕ → ℕ → PostChild
child_of page bound = record { page = page; bound = bound }

abbrev post_leaf : ℕ → ℕ → List ℕ → Page
post_leaf right high items = record { right = right; stamp = 7; body = body.PostLeaf high items }

abbrev upper : List PostChild → Page
upper children = record { right = 0; stamp = 7; body = body.PostInner children }

abbrev two_leaves : Page
two_leaves = upper (child_of 2 9 ∷ child_of 3 no_bound ∷ [])

abbrev post_tree : Pages
post_tree zero = first.meta_page
post_tree (suc zero) = rows.leaf_page 7 (record { key = rows.cat_key; postings = Root 4 } ∷ [])
post_tree (suc (suc zero)) = post_leaf 3 9 []
post_tree (suc (suc (suc zero))) = post_leaf 0 0 (128 ∷ 32 ∷ [])
post_tree (suc (suc (suc (suc zero)))) = two_leaves
post_tree (suc (suc (suc (suc (suc p))))) = free_page

no_left : (q : ℕ) → IsLeftLeaf post_tree q 2 → ⊥
no_left zero l = let b = l.body_is in cc
no_left (suc zero) l = let b = l.body_is in cc
no_left (suc (suc zero)) l = let link : 3 ≡ 2 = l.link in omega (arith, link)
no_left (suc (suc (suc zero))) l = let link : 0 ≡ 2 = l.link in omega (arith, link)
no_left (suc (suc (suc (suc zero)))) l = let b = l.body_is in cc
no_left (suc (suc (suc (suc (suc q))))) l = let b = l.body_is in cc

abbrev leaf_gone : Page
leaf_gone = record { right = 3; stamp = 0; body = body.Deleted (gone.PostLeaf 9 []) }

abbrev delete_step : Step
delete_step = record {
  kind = kind.DeletePost;
  xid = 0;
  after = sheet 2 leaf_gone ∷ sheet 4 (upper (child_of 3 no_bound ∷ [])) ∷ [];
}

abbrev leaf_and_parent : List Sheet
leaf_and_parent = sheet 4 two_leaves ∷ sheet 2 (post_leaf 3 9 []) ∷ []

can_delete : CanDeletePost (session log_gone leaf_and_parent) post_tree delete_step
can_delete = record {
  page = 2;
  parent = 4;
  high = 9;
  bound = 9;
  front = [];
  next = child_of 3 no_bound;
  back = [];
  lefts = [];
  old = post_leaf 3 9 [];
  old_parent = two_leaves;
  deleted = leaf_gone;
  without = upper (child_of 3 no_bound ∷ []);
  kind_is = refl;
  after_is = refl;
  may = has_right log_gone leaf_and_parent (λ e. cc);
  held = inr (inl refl);
  held_parent = inl refl;
  empty = refl;
  child = refl;
  links = LinksOn.none no_left;
  right = refl;
  content = refl;
  parent_right = refl;
  parent_content = refl;
}

-- the leaf after it has one before it
left_of_third : (v : View) → LinksOn v post_tree 3 0 [] → ⊥
left_of_third v (LinksOn.none none) = none 2 (record { high = 9; items = []; body_is = refl; link = refl })

-- 20: the private page of the aborted document is deleted
abbrev log_dead : Log
log_dead = abort 5 ∷ rows.log_put

no_entry : (p : ℕ) (e : on_page.Entry) → In e (entries_of (rows.with_row rows.row p)) → ⊥
no_entry zero e i = absurd i
no_entry (suc zero) e i = absurd i
no_entry (suc (suc zero)) e i = absurd i
no_entry (suc (suc (suc zero))) e i = absurd i
no_entry (suc (suc (suc (suc p)))) e i = absurd i

out_of_index : IsOut log_dead (rows.with_row rows.row) 0 4096
out_of_index = record {
  may = record {
    doc = first.doc;
    head = rows.head 3;
    item = refl;
    has = record { at = refl; serial = refl };
    dead = IsDead.insert_aborted 1 refl (inl refl);
    no_row = rows.no_row (rows.with_row rows.row) refl 4096;
  };
  swept = λ k m. no_entry m.page m.entry m.on;
}

head_goes_on : ChangesHead first.doc (rows.heap_page 4 3) (rows.head 3) (rows.head 0) (rows.heap_page 0 0)
head_goes_on = record {
  slots = Some (rows.head 3) ∷ [];
  new_slots = Some (rows.head 0) ∷ [];
  before = refl;
  head = refl;
  serial = refl;
  put = record { put = refl; others = others; size = refl };
  right = refl;
  after = refl;
}
  where
    others : (j : ℕ) → j ≢ 0 → slot_at (Some (rows.head 0) ∷ []) j ≡ slot_at (Some (rows.head 3) ∷ []) j
    others zero off = absurd (off refl)
    others (suc j) off = refl

abbrev page_gone : Page
page_gone = record { right = 0; stamp = 0; body = body.Deleted (gone.Pending (rows.row ∷ [])) }

abbrev drop_step : Step
drop_step = record {
  kind = kind.DropPage 4096 1;
  xid = 0;
  after = sheet 2 (rows.heap_page 0 0) ∷ sheet 3 page_gone ∷ [];
}

abbrev heap_and_chain : List Sheet
heap_and_chain = sheet 2 (rows.heap_page 4 3) ∷ sheet 3 (rows.row_page rows.row) ∷ []

can_drop : CanDropPage (session log_dead heap_and_chain) (rows.with_row rows.row) drop_step
can_drop = record {
  doc = first.doc;
  head = rows.head 3;
  head_then = rows.head 0;
  page = 3;
  content = gone.Pending (rows.row ∷ []);
  old = rows.heap_page 4 3;
  was = rows.row_page rows.row;
  heap = rows.heap_page 0 0;
  dropped = page_gone;
  kind_is = refl;
  after_is = refl;
  may = has_right log_dead heap_and_chain (λ e. cc);
  held = inl refl;
  held_page = inr (inl refl);
  out = out_of_index;
  not_none = λ e. omega (arith, e);
  first = IsDropped.private (rows.row ∷ []) refl;
  head_after = head_goes_on;
  right = refl;
  deleted = refl;
}

-- 21: its slot becomes free, once no chain is left
abbrev log_aborted : Log
log_aborted = abort 4 ∷ first.log_placed

free_out : IsOut log_aborted (first.placed_by 1) 0 4096
free_out =
    let none = first.none_placed 4096 in
    record {
      may = record {
        doc = first.doc;
        head = first.head 1;
        item = refl;
        has = record { at = refl; serial = refl };
        dead = IsDead.insert_aborted 1 refl (inl refl);
        no_row = none.no_row;
      };
      swept = none.no_posting;
    }

abbrev one_slot : List Sheet
one_slot = sheet 2 (first.heap_page 1) ∷ []

each_slot : (slot : ℕ) → SlotGoes (session log_aborted one_slot) (first.placed_by 1) (item_at 2 slot)
    (slot_at (Some (first.head 1) ∷ []) slot) (slot_at (None ∷ []) slot)
each_slot zero = SlotGoes.freed (first.head 1) refl refl refl refl free_out
each_slot (suc slot) = SlotGoes.same refl

abbrev no_slot : Page
no_slot = record { right = 0; stamp = 0; body = body.Heap (None ∷ []) }

can_free : CanFreeSlots (session log_aborted one_slot) (first.placed_by 1)
    (record { kind = kind.FreeSlots; xid = 0; after = sheet 2 no_slot ∷ [] })
can_free = record {
  page = 2;
  slots = Some (first.head 1) ∷ [];
  new_slots = None ∷ [];
  old = first.heap_page 1;
  new = no_slot;
  kind_is = refl;
  after_is = refl;
  may = has_right log_aborted one_slot (λ e. cc);
  held = inl refl;
  was = refl;
  same_length = refl;
  each = each_slot;
  some = λ e. cc;
  right = refl;
  content = refl;
}

-- and not while it has a private page
abbrev private_of : Option Head → ℕ
private_of None = 0
private_of (Some h) = h.private

chain_is_left : (v : View) (P : Pages) (item : ℕ) → SlotGoes v P item (Some (rows.head 3)) None → ⊥
chain_is_left v P item (SlotGoes.same e) = cc
chain_is_left v P item (SlotGoes.freed h e f no_overflow no_private out) =
    let private : 3 ≡ h.private = ap private_of e in
    omega (arith, private, no_private)
