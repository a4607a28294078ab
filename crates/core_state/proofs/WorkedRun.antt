-- The worked log goes on: the document's row is put and linked, and its transaction commits.
use Rattle.std.proofs.Common.{◌≡◌, ◌≢◌, ℕ, zero, suc, ◌≤◌, ◌⊎◌, [], ◌∷◌, refl, sym, ap, subst, ◌∙◌, inl, inr}
use Rattle.std.proofs.Common.{arith}
use Rattle.page_types.specs.Numbers.{u16_bytes, u32_bytes, u64_bytes}
use Rattle.page_types.specs.Encoding.{head_bytes, row_bytes, key_field}
use Rattle.page_types.specs.Pages.{IsPage, IsHead, IsRow}
use Rattle.page_types.specs.Records.{IsRecord}
use Rattle.page_types.specs.Edits.{edited, CanEdit}
use Rattle.page_types.specs.Views.{entries_of}
use Rattle.page_types.specs.declared.page.Name.{Name}
use Rattle.page_types.specs.declared.page.Row.{Row}
use Rattle.page_types.specs.declared.page.Entry as on_page
use Rattle.page_types.specs.declared.record.Change.{Change}
use Rattle.page_types.specs.declared.record.Record.{Record}
use Rattle.page_types.specs.declared.record.Kind.TheVariants as kind
use Rattle.core_state.specs.Log.{Log, In, Shows, replay}
use Rattle.core_state.specs.Documents.{Doc, HasVector}
use Rattle.core_state.specs.History.{IsHistory}
use Rattle.core_state.specs.Index.{IsLinked, IsIndexed, NoPair}
use Rattle.core_state.specs.Legal.{RuleHolds, ChangesFrom, IsImageOf, ImagesFrom, RecordsAreValid, IsLegal}
use Rattle.core_state.proofs.Showing.{replay_kept, free_is}
use Rattle.core_state.proofs.Worked as first
use Rattle.core_state.proofs.WorkedPending as rows

abbrev pub commit_record : Record
commit_record = record { number = 6; xid = 1; kind = kind.Commit 1; changes = [] }

abbrev pub first_run : Log
first_run = commit_record ∷ rows.log_linked

-- they are pages
put_head_is : IsHead (rows.head 3)
put_head_is = record {
  serial = omega arith;
  inserted_by = omega arith;
  deleted_by = omega arith;
  overflow = omega arith;
  private = omega arith;
  bytes = omega arith;
  vector = inl (omega arith, refl);
}

put_heap_is : IsPage (rows.heap_page 4 3)
unfolding head_bytes u32_bytes u64_bytes
put_heap_is = record {
  right = omega arith;
  stamp = omega arith;
  body = (omega arith, (put_head_is, tt));
  count = omega arith;
  fits = omega arith;
}

pub heap_is : IsPage (rows.heap_page 5 0)
unfolding head_bytes u32_bytes u64_bytes
heap_is = record {
  right = omega arith;
  stamp = omega arith;
  body = (omega arith, (first.head_is, tt));
  count = omega arith;
  fits = omega arith;
}

pub meta_is : IsPage (rows.meta_page 5 3 3 1)
unfolding u32_bytes
meta_is = record {
  right = omega arith;
  stamp = omega arith;
  body = record { first_page = omega arith; last_page = omega arith; number = omega arith };
  count = omega arith;
  fits = omega arith;
}

pub row_is : IsRow rows.row
row_is = record {
  item = omega arith;
  some = λ e. cc;
  count = omega arith;
  keys = (
    record { some = first.cat_is.some; most = first.cat_is.most; utf8 = first.cat_is.utf8 },
    (record { some = first.fat_is.some; most = first.fat_is.most; utf8 = first.fat_is.utf8 }, tt),
  );
  rising = ((refl, tt), (tt, tt));
}

pub row_page_is : IsPage (rows.row_page rows.row)
unfolding u16_bytes u32_bytes row_bytes key_field
row_page_is = record {
  right = omega arith;
  stamp = omega arith;
  body = (row_is, tt);
  count = omega arith;
  fits = omega arith;
}

-- the pages are what the records leave
no_page_of_two : (a b p : ℕ) → p ≢ a → p ≢ b → In p (a ∷ b ∷ []) → ⊥
no_page_of_two a b p off off' (inl e) = off e
no_page_of_two a b p off off' (inr (inl e)) = off' e
no_page_of_two a b p off off' (inr (inr e)) = absurd e

shown_put : Shows rows.log_put (rows.with_row rows.row)
unfolding replay edited
shown_put zero = (
  first.meta_is,
  (first.shown_placed 0).1 ∙ sym (replay_kept first.log_placed (rows.put_record rows.row) 0
      (no_page_of_two 2 3 0 (λ e. omega (arith, e)) (λ e. omega (arith, e)))),
)
shown_put (suc zero) = (
  first.root_is,
  (first.shown_placed 1).1 ∙ sym (replay_kept first.log_placed (rows.put_record rows.row) 1
      (no_page_of_two 2 3 1 (λ e. omega (arith, e)) (λ e. omega (arith, e)))),
)
shown_put (suc (suc zero)) = (put_heap_is, refl)
shown_put (suc (suc (suc zero))) = (row_page_is, refl)
shown_put (suc (suc (suc (suc p)))) = (
  free_is,
  (first.shown_placed (suc (suc (suc (suc p))))).1
      ∙ sym (replay_kept first.log_placed (rows.put_record rows.row) (suc (suc (suc (suc p))))
      (no_page_of_two 2 3 (suc (suc (suc (suc p)))) (λ e. omega (arith, e)) (λ e. omega (arith, e)))),
)

pub shown_linked : Shows rows.log_linked rows.with_link
unfolding replay edited
shown_linked zero = (meta_is, refl)
shown_linked (suc zero) = (
  first.root_is,
  (shown_put 1).1 ∙ sym (replay_kept rows.log_put rows.link_record 1
      (no_page_of_two 2 0 1 (λ e. omega (arith, e)) (λ e. omega (arith, e)))),
)
shown_linked (suc (suc zero)) = (heap_is, refl)
shown_linked (suc (suc (suc zero))) = (
  row_page_is,
  (shown_put 3).1 ∙ sym (replay_kept rows.log_put rows.link_record 3
      (no_page_of_two 2 0 3 (λ e. omega (arith, e)) (λ e. omega (arith, e)))),
)
shown_linked (suc (suc (suc (suc p)))) = (
  free_is,
  (shown_put (suc (suc (suc (suc p))))).1
      ∙ sym (replay_kept rows.log_put rows.link_record (suc (suc (suc (suc p))))
      (no_page_of_two 2 0 (suc (suc (suc (suc p)))) (λ e. omega (arith, e)) (λ e. omega (arith, e)))),
)

pub shown_run : Shows first_run rows.with_link
unfolding replay
shown_run p = shown_linked p

-- the commit finds its document indexed
vector_there : HasVector rows.with_link first.doc first.vector
vector_there = (rows.head 0, record { at = refl; serial = refl }, rows.whole rows.with_link 0)

pub ready : (d : Doc) → In d (first.doc ∷ []) → IsIndexed rows.with_link d
ready d (inl e) = subst (IsIndexed rows.with_link) (sym e)
    (record { vector = first.vector; whole = vector_there; there = inl (rows.pending_there first.root_page) })
ready d (inr i) = absurd i

commit_row : (floor since : ℕ) → RuleHolds rows.log_linked rows.with_link rows.with_link commit_record floor since
commit_row floor since = RuleHolds.commit
    (record { here = record { kind_is = refl; pages = refl; runs = refl }; rest = ready })

-- each is a record, whose changes can be made
put_is : IsRecord (rows.put_record rows.row)
put_is = record {
  number = omega arith;
  xid = omega arith;
  kind = (omega arith, omega arith);
  count = omega arith;
  changes = (
    first.image_is 2 (rows.heap_page 4 3) (omega arith) put_heap_is,
    (first.image_is 3 (rows.row_page rows.row) (omega arith) row_page_is, tt),
  );
  once = (((λ e. omega (arith, e)), tt), (tt, tt));
}

link_is : IsRecord rows.link_record
link_is = record {
  number = omega arith;
  xid = omega arith;
  kind = (omega arith, omega arith);
  count = omega arith;
  changes = (
    first.image_is 2 (rows.heap_page 5 0) (omega arith) heap_is,
    (first.image_is 0 (rows.meta_page 5 3 3 1) (omega arith) meta_is, tt),
  );
  once = (((λ e. omega (arith, e)), tt), (tt, tt));
}

commit_is : IsRecord commit_record
commit_is = record {
  number = omega arith;
  xid = omega arith;
  kind = omega arith;
  count = omega arith;
  changes = tt;
  once = tt;
}

put_can : (c : Change) → In c (rows.put_record rows.row).changes → CanEdit c.edit (replay first.log_placed c.page)
put_can c (inl e) = first.can_image 2 (rows.heap_page 4 3) (replay first.log_placed c.page) c e
put_can c (inr (inl e)) = first.can_image 3 (rows.row_page rows.row) (replay first.log_placed c.page) c e
put_can c (inr (inr e)) = absurd e

link_can : (c : Change) → In c rows.link_record.changes → CanEdit c.edit (replay rows.log_put c.page)
link_can c (inl e) = first.can_image 2 (rows.heap_page 5 0) (replay rows.log_put c.page) c e
link_can c (inr (inl e)) = first.can_image 0 (rows.meta_page 5 3 3 1) (replay rows.log_put c.page) c e
link_can c (inr (inr e)) = absurd e

-- so the log is legal
rows_valid : RecordsAreValid first_run
rows_valid = (
  (
    (
      first.rows_valid,
      record {
        before = first.placed_by 1;
        after = rows.with_row rows.row;
        shown = first.shown_placed;
        shown_after = shown_put;
        is_record = put_is;
        can_edit = put_can;
        number = refl;
        started = inr (λ e. cc);
        rule = RuleHolds.put_pending (rows.put_row 4);
      },
    ),
    record {
      before = rows.with_row rows.row;
      after = rows.with_link;
      shown = shown_put;
      shown_after = shown_linked;
      is_record = link_is;
      can_edit = link_can;
      number = refl;
      started = inr (λ e. cc);
      rule = RuleHolds.link_pending rows.link_row;
    },
  ),
  record {
    before = rows.with_link;
    after = rows.with_link;
    shown = shown_linked;
    shown_after = shown_run;
    is_record = commit_is;
    can_edit = λ c i. absurd i;
    number = refl;
    started = inr (λ e. cc);
    rule = commit_row 0 6;
  },
)

are_images : ImagesFrom 1 first_run
are_images = (((first.are_images, put_images), link_images), λ c i l. absurd i)
  where
    put_images : (c : Change) → In c (rows.put_record rows.row).changes → 1 ≤ 4
        → ChangesFrom 1 first.log_placed c.page ⊎ IsImageOf c
    put_images c (inl e) l = inr (first.image_of 2 (rows.heap_page 4 3) c e)
    put_images c (inr (inl e)) l = inr (first.image_of 3 (rows.row_page rows.row) c e)
    put_images c (inr (inr e)) l = absurd e

    link_images : (c : Change) → In c rows.link_record.changes → 1 ≤ 5 → ChangesFrom 1 rows.log_put c.page ⊎ IsImageOf c
    link_images c (inl e) l = inr (first.image_of 2 (rows.heap_page 5 0) c e)
    link_images c (inr (inl e)) l = inr (first.image_of 0 (rows.meta_page 5 3 3 1) c e)
    link_images c (inr (inr e)) l = absurd e

no_checkpoint : (r : Record) (redo : ℕ) → In r first_run → r.kind ≡ kind.Checkpoint redo → ⊥
no_checkpoint r redo (inl e) k = let f = sym (ap (λ (x : Record). x.kind) e) ∙ k in cc
no_checkpoint r redo (inr (inl e)) k = let f = sym (ap (λ (x : Record). x.kind) e) ∙ k in cc
no_checkpoint r redo (inr (inr (inl e))) k = let f = sym (ap (λ (x : Record). x.kind) e) ∙ k in cc
no_checkpoint r redo (inr (inr (inr i))) k = first.no_checkpoint r redo i k

pub legal : IsLegal first_run
legal = record {
  valid = rows_valid;
  images = are_images;
  redo_images = λ r redo i k. absurd (no_checkpoint r redo i k);
}

-- its history is one insert
abbrev first_name : Name
first_name = record { page = 2; slot = 0; serial = 1 }

history : IsHistory first_run
    (record { deleted = []; inserted = record { name = first_name; vector = first.vector } ∷ [] } ∷ [])
history = (
  [],
  record { deleted = []; inserted = record { name = first_name; vector = first.vector } ∷ [] },
  refl,
  record { pages = rows.with_link; shown = shown_linked; deleted = refl; inserted = (refl, vector_there, tt) },
  refl,
)

no_entry : (p : ℕ) (e : on_page.Entry) → In e (entries_of (rows.with_link p)) → ⊥
no_entry zero e i = absurd i
no_entry (suc zero) e i = absurd i
no_entry (suc (suc zero)) e i = absurd i
no_entry (suc (suc (suc zero))) e i = absurd i
no_entry (suc (suc (suc (suc p)))) e i = absurd i

only : (w : Row) → IsLinked rows.with_link w → w ≡ rows.row
only w linked = rows.linked_alone rows.with_link refl refl refl w linked

-- no other document has a pair in the index
pub no_pair : (i : ℕ) → i ≢ 4096 → NoPair rows.with_link i
no_pair i off = record {
  no_row = λ r. off (sym r.item ∙ ap (λ (w : Row). w.item) (only r.row r.linked));
  no_posting = λ k m. no_entry m.page m.entry m.on;
}
