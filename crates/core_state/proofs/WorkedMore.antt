-- The definitions at the same store opened again: a second run ends what runs, and inserts once more,
-- whose row comes after the first one.
use Rattle.std.proofs.Common.{◌≡◌, ◌≢◌, ℕ, zero, suc, ◌+◌, ◌≤◌, List, [], ◌∷◌, refl, sym, ap, subst, ◌∙◌, inl, inr}
use Rattle.std.proofs.Common.{arith}
use Rattle.std.specs.Prelude.{Option, Some, None}
use Rattle.ts_base.specs.Keys.{Key, keys_of}
use Rattle.page_types.specs.Numbers.{u16_bytes, u32_bytes, u64_bytes, zeros}
use Rattle.page_types.specs.Encoding.{page_bytes, front_bytes, framed, head_bytes}
use Rattle.page_types.specs.Pages.{IsPage, IsHead}
use Rattle.page_types.specs.Edits.{used_in, body_in, edited}
use Rattle.page_types.specs.Views.{free_page, slots_in, slots_of, slot_at}
use Rattle.page_types.specs.declared.page.Page.{Page}
use Rattle.page_types.specs.declared.page.Head.{Head}
use Rattle.page_types.specs.declared.page.Row.{Row}
use Rattle.page_types.specs.declared.page.Body.TheVariants as body
use Rattle.page_types.specs.declared.record.Edit.{Edit}
use Rattle.page_types.specs.declared.record.Edit.TheVariants.{Image, Delta}
use Rattle.page_types.specs.declared.record.Record.{Record}
use Rattle.page_types.specs.declared.record.Kind.TheVariants as kind
use Rattle.core_state.specs.Log.{Log, Pages, In, Shows, replay}
use Rattle.core_state.specs.Documents.{Doc, page_of, slot_of, HasBytes, IsWhole}
use Rattle.core_state.specs.Index.{Pending, HasRow, IsIndexed}
use Rattle.core_state.specs.Known.{use_in}
use Rattle.core_state.specs.Changes.{IsNew}
use Rattle.core_state.specs.declared.answers.PageUse.TheVariants as usage
use Rattle.core_state.specs.HeapRules.{IsMarkDeleted}
use Rattle.core_state.specs.Legal.{RuleHolds, Valid}
use Rattle.core_state.proofs.Showing.{replay_kept, free_is}
use Rattle.core_state.proofs.Worked as first
use Rattle.core_state.proofs.WorkedPending as rows
use Rattle.core_state.proofs.WorkedRun as run

-- the heap page with a second head
abbrev second_head : Head
second_head = record {
  serial = 2;
  inserted_by = 2;
  deleted_by = 0;
  overflow = 0;
  private = 0;
  bytes = 22;
  vector =
      first.bytes;
}

abbrev pub two_slots : List (Option Head)
two_slots = Some (first.head 1) ∷ Some second_head ∷ []

abbrev pub two_heads : Page
two_heads = record { right = 0; stamp = 9; body = body.Heap two_slots }

-- and the row of its document
abbrev second_row : Row
second_row = record { item = 4097; keys = rows.cat_key ∷ rows.fat_key ∷ [] }

abbrev two_rows : Page
two_rows = record { right = 0; stamp = 10; body = body.Pending (rows.row ∷ second_row ∷ []) }

abbrev with_both : Page → Page → Pages
with_both heap listed zero = rows.meta_page 5 3 3 1
with_both heap listed (suc zero) = first.root_page
with_both heap listed (suc (suc zero)) = heap
with_both heap listed (suc (suc (suc zero))) = listed
with_both heap listed (suc (suc (suc (suc p)))) = free_page

abbrev with_two : Pages
with_two = with_both two_heads (rows.row_page rows.row)

abbrev pub with_rows : Pages
with_rows = with_both two_heads two_rows

-- the records of the second run
abbrev abort_record : ℕ → Record
abort_record xid = record { number = 7; xid = xid; kind = kind.Abort; changes = [] }

abbrev begin_record : Record
begin_record = record { number = 8; xid = 2; kind = kind.Begin; changes = [] }

abbrev edit_record : ℕ → Edit → Record
edit_record item edit = record
    { number = 9; xid = 2; kind = kind.PlaceHead item 2; changes = record { page = 2; edit = edit } ∷ [] }

abbrev head_record : ℕ → Record
head_record item = edit_record item (Image (page_bytes two_heads))

abbrev row_record : Record
row_record = record { number = 10; xid = 2; kind = kind.AddRow 4097 2; changes = first.image 3 two_rows ∷ [] }

abbrev commit_record : ℕ → Record
commit_record xid = record { number = 11; xid = xid; kind = kind.Commit 2; changes = [] }

abbrev log_ended : Log
log_ended = abort_record 0 ∷ run.first_run

abbrev log_begun : Log
log_begun = begin_record ∷ log_ended

abbrev log_placed : Log
log_placed = head_record 4097 ∷ log_begun

abbrev log_added : Log
log_added = row_record ∷ log_placed

abbrev second_run : Log
second_run = commit_record 2 ∷ log_added

abbrev doc : Doc
doc = record { item = 4097; serial = 2 }

head_is : IsHead second_head
head_is = record {
  serial = omega arith;
  inserted_by = omega arith;
  deleted_by = omega arith;
  overflow = omega arith;
  private = omega arith;
  bytes = omega arith;
  vector = inl (omega arith, refl);
}

two_is : IsPage two_heads
unfolding head_bytes u32_bytes u64_bytes
two_is = record {
  right = omega arith;
  stamp = omega arith;
  body =
      (omega arith, (first.head_is, (head_is, tt)));
  count = omega arith;
  fits = omega arith;
}

shown_begun : Shows log_begun rows.with_link
unfolding replay
shown_begun p = run.shown_run p

only : (q p : ℕ) → p ≢ q → In p (q ∷ []) → ⊥
only q p off (inl e) = off e
only q p off (inr n) = absurd n

shown_placed : Shows log_placed with_two
unfolding replay edited
shown_placed zero = (
  run.meta_is,
  (shown_begun 0).1 ∙ sym (replay_kept log_begun (head_record 4097) 0 (only 2 0 (λ e. omega (arith, e)))),
)
shown_placed (suc zero) = (
  first.root_is,
  (shown_begun 1).1 ∙ sym (replay_kept log_begun (head_record 4097) 1 (only 2 1 (λ e. omega (arith, e)))),
)
shown_placed (suc (suc zero)) = (two_is, refl)
shown_placed (suc (suc (suc zero))) = (
  run.row_page_is,
  (shown_begun 3).1 ∙ sym (replay_kept log_begun (head_record 4097) 3 (only 2 3 (λ e. omega (arith, e)))),
)
shown_placed (suc (suc (suc (suc p)))) = (
  free_is,
  (shown_begun (suc (suc (suc (suc p))))).1
      ∙ sym (replay_kept log_begun (head_record 4097) (suc (suc (suc (suc p))))
      (only 2 (suc (suc (suc (suc p)))) (λ e. omega (arith, e)))),
)

-- the rules of the five records
abort_row : (floor since : ℕ) → RuleHolds run.first_run rows.with_link rows.with_link (abort_record 0) floor since
abort_row floor since = RuleHolds.abort (record { here = record { kind_is = refl; pages = refl; runs = inr refl } })

begin_row : (floor since : ℕ) → RuleHolds log_ended rows.with_link rows.with_link begin_record floor since
begin_row floor since = RuleHolds.begin
    (record { here = record { kind_is = refl; pages = refl; next = refl; bound = omega arith } })

others_stay : (j : ℕ) → j ≢ 1 → slot_at two_slots j ≡ slot_at (Some (first.head 1) ∷ []) j
others_stay zero off = refl
others_stay (suc zero) off = absurd (off refl)
others_stay (suc (suc j)) off = refl

head_row : (edit : Edit) (floor since : ℕ)
    → RuleHolds log_begun rows.with_link with_two (edit_record 4097 edit) floor since
head_row edit floor since = RuleHolds.place_head (record {
  here = record {
    doc = doc;
    head = second_head;
    old = rows.heap_page 5 0;
    slots = Some (first.head 1) ∷ [];
    new_slots = two_slots;
    right = 0;
    kind_is = refl;
    pages = refl;
    runs = refl;
    next = refl;
    before_is = refl;
    page = inl (refl, refl);
    was_free = refl;
    in_row = omega arith;
    new_head = record { serial_is = refl; inserted_by = refl; deleted_by = refl; overflow = refl; private = refl };
    put = record { put = refl; others = others_stay; size = refl };
    after_is = refl;
  };
  rest = run.no_pair 4097 (λ e. omega (arith, e));
})

whole : (P : Pages) → IsWhole P second_head first.vector
whole P = record {
  bytes = first.bytes;
  there = HasBytes.short (omega arith);
  size = refl;
  encodes = record { normal = first.vector_is; small = omega arith; bytes_of = refl };
}

no_row : HasRow with_two 4097 → ⊥
no_row h =
    let only : h.row ≡ rows.row = rows.linked_alone with_two refl refl refl h.row h.linked in
    let item : 4097 ≡ 4096 = sym h.item ∙ ap (λ (w : Row). w.item) only in
    omega (arith, item)

add_row : (floor since : ℕ) → RuleHolds log_placed with_two with_rows row_record floor since
add_row floor since = RuleHolds.add_row (record {
  here = record {
    doc = doc;
    last = 3;
    rows = rows.row ∷ [];
    row = second_row;
    old = rows.row_page rows.row;
    kind_is = refl;
    pages = refl;
    runs = refl;
    item = refl;
    before_is = refl;
    was = refl;
    after_is = refl;
  };
  rest = record {
    head = second_head;
    has = record { at = refl; serial = refl };
    by = refl;
    vector = first.vector;
    whole = whole with_two;
    no_row = no_row;
    keys = refl;
    front = [];
    is_last = (refl, (λ e. omega (arith, e)), refl);
  };
})

pending_there : (k : Key) → In k (keys_of first.vector) → Pending with_rows k 4097
pending_there k i = record {
  row = second_row;
  linked = record {
    line = 3 ∷ [];
    is_line = (refl, (λ e. omega (arith, e)), refl);
    page = 3;
    on = inl refl;
    there = inr (inl refl);
  };
  item = refl;
  key = i;
}

ready : (d : Doc) → In d (doc ∷ []) → IsIndexed with_rows d
ready d (inl e) = subst (IsIndexed with_rows) (sym e)
    (record {
      vector = first.vector;
      whole = (second_head, record { at = refl; serial = refl }, whole with_rows);
      there = inl pending_there;
    })
ready d (inr i) = absurd i

commit_row : (floor since : ℕ) → RuleHolds log_added with_rows with_rows (commit_record 2) floor since
commit_row floor since = RuleHolds.commit
    (record { here = record { kind_is = refl; pages = refl; runs = refl }; rest = ready })

-- an abort of the transaction that has committed is not valid
abort_of_one : (P Q : Pages) (floor since : ℕ) → RuleHolds run.first_run P Q (abort_record 1) floor since → ⊥
abort_of_one P Q floor since (RuleHolds.create x) = let f = x.here.kind_is in cc
abort_of_one P Q floor since (RuleHolds.begin x) = let f = x.here.kind_is in cc
abort_of_one P Q floor since (RuleHolds.commit x) = let f = x.here.kind_is in cc
abort_of_one P Q floor since (RuleHolds.abort x) = elim x.here.runs [ inl e ↦ cc | inr z ↦ omega (arith, z) ]
abort_of_one P Q floor since (RuleHolds.place_head x) = let f = x.here.kind_is in cc
abort_of_one P Q floor since (RuleHolds.checkpoint x) = let f = x.here.kind_is in cc
abort_of_one P Q floor since (RuleHolds.put_overflow x) = let f = x.here.kind_is in cc
abort_of_one P Q floor since (RuleHolds.mark_deleted x) = let f = x.here.kind_is in cc
abort_of_one P Q floor since (RuleHolds.put_pending x) = let f = x.here.kind_is in cc
abort_of_one P Q floor since (RuleHolds.add_row x) = let f = x.here.kind_is in cc
abort_of_one P Q floor since (RuleHolds.link_pending x) = let f = x.here.kind_is in cc
abort_of_one P Q floor since (RuleHolds.shift x) = let f = x.here.kind_is in cc
abort_of_one P Q floor since (RuleHolds.add_items x) = let f = x.here.kind_is in cc
abort_of_one P Q floor since (RuleHolds.make_tree x) = let f = x.here.kind_is in cc
abort_of_one P Q floor since (RuleHolds.add_postings x) = let f = x.here.kind_is in cc
abort_of_one P Q floor since (RuleHolds.grow_root x) = let f = x.here.kind_is in cc
abort_of_one P Q floor since (RuleHolds.split x) = let f = x.here.kind_is in cc
abort_of_one P Q floor since (RuleHolds.remove_items x) = let f = x.here.kind_is in cc
abort_of_one P Q floor since (RuleHolds.delete_post x) = let f = x.here.kind_is in cc
abort_of_one P Q floor since (RuleHolds.drop_page x) = let f = x.here.kind_is in cc
abort_of_one P Q floor since (RuleHolds.free_slots x) = let f = x.here.kind_is in cc

in_use : (since p : ℕ) → 2 ≡ p → IsNew (use_in rows.with_link) since p → ⊥
in_use since p e (IsNew.unused u low) = let f : use_in rows.with_link 2 ≡ usage.Unused = ap
    (use_in rows.with_link) e ∙ u in cc
in_use since p e (IsNew.deleted stamp u small) = let f : use_in rows.with_link 2 ≡ usage.Deleted stamp = ap
    (use_in rows.with_link) e ∙ u in cc

-- a head in a used slot is not valid
head_in_use : (Q : Pages) (floor since : ℕ) → RuleHolds log_begun rows.with_link Q (head_record 4096) floor since
    → ⊥
head_in_use Q floor since (RuleHolds.create x) = let f = x.here.kind_is in cc
head_in_use Q floor since (RuleHolds.begin x) = let f = x.here.kind_is in cc
head_in_use Q floor since (RuleHolds.commit x) = let f = x.here.kind_is in cc
head_in_use Q floor since (RuleHolds.abort x) = let f = x.here.kind_is in cc
head_in_use Q floor since (RuleHolds.checkpoint x) = let f = x.here.kind_is in cc
head_in_use Q floor since (RuleHolds.put_overflow x) = let f = x.here.kind_is in cc
head_in_use Q floor since (RuleHolds.mark_deleted x) = let f = x.here.kind_is in cc
head_in_use Q floor since (RuleHolds.put_pending x) = let f = x.here.kind_is in cc
head_in_use Q floor since (RuleHolds.add_row x) = let f = x.here.kind_is in cc
head_in_use Q floor since (RuleHolds.link_pending x) = let f = x.here.kind_is in cc
head_in_use Q floor since (RuleHolds.shift x) = let f = x.here.kind_is in cc
head_in_use Q floor since (RuleHolds.add_items x) = let f = x.here.kind_is in cc
head_in_use Q floor since (RuleHolds.make_tree x) = let f = x.here.kind_is in cc
head_in_use Q floor since (RuleHolds.add_postings x) = let f = x.here.kind_is in cc
head_in_use Q floor since (RuleHolds.grow_root x) = let f = x.here.kind_is in cc
head_in_use Q floor since (RuleHolds.split x) = let f = x.here.kind_is in cc
head_in_use Q floor since (RuleHolds.remove_items x) = let f = x.here.kind_is in cc
head_in_use Q floor since (RuleHolds.delete_post x) = let f = x.here.kind_is in cc
head_in_use Q floor since (RuleHolds.drop_page x) = let f = x.here.kind_is in cc
head_in_use Q floor since (RuleHolds.free_slots x) = let f = x.here.kind_is in cc
head_in_use Q floor since (RuleHolds.place_head x) =
    let item : 4096 ≡ x.here.doc.item = ap first.item_in x.here.kind_is in
    let old : Some (first.head 1) ∷ [] ≡ slots_of x.here.old = ap first.first_slots x.here.before_is in
    elim x.here.page [
      | inl b ↦
          let slots : Some (first.head 1) ∷ [] ≡ x.here.slots = old ∙ ap slots_in b.0 in
          let there : Some (first.head 1) ≡ None = ap (λ s. slot_at s 0) slots
          ∙ ap (λ i. slot_at x.here.slots (slot_of i)) item ∙ x.here.was_free in
          cc
      | inr b ↦ in_use since (page_of x.here.doc.item) (ap page_of item) b.2
    ]

-- The second head as a delta that starts after the used length: its bytes would be those of the page, and its rule
-- holds, but
-- the change can't be made, and the record is not valid.
abbrev behind_used : Edit
behind_used = Delta (2 ∷ 0 ∷ 2 ∷ 0 ∷ 0 ∷ 0 ∷ 0 ∷ 0 ∷ []) 52 0 (1 ∷ head_bytes second_head)

would_be_shown : page_bytes two_heads ≡ edited 9 behind_used (page_bytes (rows.heap_page 5 0))
unfolding edited used_in body_in page_bytes front_bytes framed u16_bytes u32_bytes u64_bytes zeros head_bytes
would_be_shown = refl

used_before : used_in (page_bytes (rows.heap_page 5 0)) ≡ 51
unfolding used_in page_bytes front_bytes framed u16_bytes u32_bytes u64_bytes zeros head_bytes
used_before = refl

delta_refused : (floor since : ℕ) → Valid log_begun (edit_record 4097 behind_used) floor since → ⊥
delta_refused floor since v =
    let within : 52 + 0 ≤ used_in (replay log_begun 2) =
    (v.can_edit (record { page = 2; edit = behind_used }) (inl refl)).1 in
    omega (arith, within, used_before, ap used_in (shown_begun 2).1)

-- a second commit of transaction 1 is not valid
commit_of_one : (P Q : Pages) (floor since : ℕ) → RuleHolds log_placed P Q (commit_record 1) floor since → ⊥
commit_of_one P Q floor since (RuleHolds.create x) = let f = x.here.kind_is in cc
commit_of_one P Q floor since (RuleHolds.begin x) = let f = x.here.kind_is in cc
commit_of_one P Q floor since (RuleHolds.commit x) = let f = x.here.runs in cc
commit_of_one P Q floor since (RuleHolds.abort x) = let f = x.here.kind_is in cc
commit_of_one P Q floor since (RuleHolds.place_head x) = let f = x.here.kind_is in cc
commit_of_one P Q floor since (RuleHolds.checkpoint x) = let f = x.here.kind_is in cc
commit_of_one P Q floor since (RuleHolds.put_overflow x) = let f = x.here.kind_is in cc
commit_of_one P Q floor since (RuleHolds.mark_deleted x) = let f = x.here.kind_is in cc
commit_of_one P Q floor since (RuleHolds.put_pending x) = let f = x.here.kind_is in cc
commit_of_one P Q floor since (RuleHolds.add_row x) = let f = x.here.kind_is in cc
commit_of_one P Q floor since (RuleHolds.link_pending x) = let f = x.here.kind_is in cc
commit_of_one P Q floor since (RuleHolds.shift x) = let f = x.here.kind_is in cc
commit_of_one P Q floor since (RuleHolds.add_items x) = let f = x.here.kind_is in cc
commit_of_one P Q floor since (RuleHolds.make_tree x) = let f = x.here.kind_is in cc
commit_of_one P Q floor since (RuleHolds.add_postings x) = let f = x.here.kind_is in cc
commit_of_one P Q floor since (RuleHolds.grow_root x) = let f = x.here.kind_is in cc
commit_of_one P Q floor since (RuleHolds.split x) = let f = x.here.kind_is in cc
commit_of_one P Q floor since (RuleHolds.remove_items x) = let f = x.here.kind_is in cc
commit_of_one P Q floor since (RuleHolds.delete_post x) = let f = x.here.kind_is in cc
commit_of_one P Q floor since (RuleHolds.drop_page x) = let f = x.here.kind_is in cc
commit_of_one P Q floor since (RuleHolds.free_slots x) = let f = x.here.kind_is in cc

-- a transaction 3 marks the first document: the rule of MarkDeleted holds
abbrev pub log_third : Log
log_third = record { number = 12; xid = 3; kind = kind.Begin; changes = [] } ∷ second_run

abbrev pub marked_slots : List (Option Head)
marked_slots = Some (record (first.head 1) { deleted_by = 3 }) ∷ Some second_head ∷ []

abbrev pub marked_page : Page
marked_page = record { right = 0; stamp = 13; body = body.Heap marked_slots }

abbrev pub with_mark : Pages
with_mark = with_both marked_page two_rows

abbrev pub mark_record : Record
mark_record = record {
  number = 13;
  xid = 3;
  kind = kind.MarkDeleted 4096 1;
  changes = first.image 2 marked_page ∷ [];
}

pub other_slots : (j : ℕ) → j ≢ 0 → slot_at marked_slots j ≡ slot_at two_slots j
other_slots zero off = absurd (off refl)
other_slots (suc j) off = refl

mark_row : IsMarkDeleted log_third with_rows with_mark mark_record
mark_row = record {
  here = record {
    doc = record { item = 4096; serial = 1 };
    head = first.head 1;
    number = 1;
    old = two_heads;
    heap_then = marked_page;
    kind_is = refl;
    pages = refl;
    runs = refl;
    inserted = refl;
    unmarked = inl refl;
    before_is = refl;
    head_after = record {
      slots = two_slots;
      new_slots = marked_slots;
      before = refl;
      head = refl;
      serial = refl;
      put = record { put = refl; others = other_slots; size = refl };
      after = refl;
    };
    after_is = refl;
  };
}
